-- The token: its stored keys, and what each step of a call does: the scope's section "The token and the attacker".
-- The run endings 32 and 33 are here too, since a step meets them; how much room there is, if it is limited at all, is a parameter.
use Rattle.std.specs.Prelude.{ℕ, suc, Bool, true, false, cond, ◌&&◌, ◌||◌, List, [], ◌∷◌, ◌++◌, ltb, eqb, get_or, length}
use Rattle.model.specs.Basics.{index_by}
use Rattle.model.specs.Types.{sensitive, always_sensitive}
use Rattle.model.specs.Step.{op_of, Command}
use Rattle.model.specs.declared.Op.{Op}
use Rattle.model.specs.declared.Op.TheVariants.{Return, Get, Generate, Store, Compute, Unknown}
use Rattle.model.specs.Policy.{meets}
use Rattle.model.specs.Value.{Value, const, fresh, same, value_at, compute, operands, present}
use Rattle.model.specs.declared.Step.{Step}

-- a value that is kept under a template, and the handle that gets it
pub record Key : Type 0 where
  pub handle : Value
  pub key : Value
  pub template : ℕ

-- what one token has
pub record Token : Type 0 where
  pub stored : List Key

-- what all have in common: how many fresh atoms were made, the rows, and the guarded values
pub record World : Type 0 where
  pub atoms : ℕ
  pub rows : List Value
  pub guarded : List Value

pub record State : Type 0 where
  pub world : World
  pub token : Token

abbrev pub empty : State
empty = record { world = record { atoms = 0; rows = []; guarded = [] }; token = record { stored = [] } }

-- how many things there may be
pub data Limit : Type 0 where
  at_most : ℕ → Limit
  unlimited : Limit

-- there is room for one more beside n
abbrev pub fits : Limit → ℕ → Bool
fits (at_most most) n = ltb n most
fits unlimited n = true

pub record Room : Type 0 where
  pub rows : Limit
  pub keys : Limit

-- what a step or a call comes to: a value, with which the call goes on or ends; a stop; a run ending; and the state then
pub data Out : Type 0 where
  gave ended : Value → State → Out
  stopped : State → Out
  full : ℕ → State → Out

abbrev pub and_then : Out → (Value → State → Out) → Out
and_then (gave v σ) next = next v σ
and_then (ended v σ) next = ended v σ
and_then (stopped σ) next = stopped σ
and_then (full n σ) next = full n σ

-- Appearing: a value that has no row gets the next one, or there is no room for it.

abbrev pub with_row : Value → World → World
with_row v w = record { atoms = w.atoms; rows = w.rows ++ v ∷ []; guarded = w.guarded }

unfoldable pub appear : Room → Value → State → Out
appear ρ v σ =
    cond (present v σ.world.rows) (gave v σ)
    (cond (fits ρ.rows (length σ.world.rows))
    (gave v (record { world = with_row v σ.world; token = σ.token }))
    (full 32 σ))

-- one atom more
abbrev pub with_atom : World → World
with_atom w = record { atoms = suc w.atoms; rows = w.rows; guarded = w.guarded }

abbrev pub new_atom : Room → State → Out
new_atom ρ σ = appear ρ (fresh σ.world.atoms) (record { world = with_atom σ.world; token = σ.token })

-- Keeping a value under a template: first there must be a place for it.

abbrev pub guard_if : Bool → Value → World → World
guard_if true v w = record { atoms = w.atoms; rows = w.rows; guarded = w.guarded ++ v ∷ [] }
guard_if false v w = w

abbrev pub with_key : Value → Value → ℕ → Token → Token
with_key h v t τ = record { stored = τ.stored ++ record { handle = h; key = v; template = t } ∷ [] }

abbrev pub keep : Bool → Value → Value → ℕ → State → Out
keep guards h v t σ = gave h (record { world = guard_if guards v σ.world; token = with_key h v t σ.token })

abbrev pub with_place : Room → State → Out → Out
with_place ρ σ stores = cond (fits ρ.keys (length σ.token.stored)) stores (full 33 σ)

-- a key is guarded when it is generated under S, and any value when it is kept under A
abbrev pub guards_generated : ℕ → Bool
guards_generated t = sensitive t || always_sensitive t

abbrev pub guards_stored : ℕ → Bool
guards_stored t = always_sensitive t

-- a new handle, then a new key
unfoldable pub generate : Room → ℕ → State → Out
generate ρ t σ =
    with_place ρ σ (and_then (new_atom ρ σ) (λ h σ₁. and_then (new_atom ρ σ₁) (λ k σ₂. keep (guards_generated t) h k t σ₂)))

-- a new handle for the given value
unfoldable pub store : Room → Value → ℕ → State → Out
store ρ v t σ = with_place ρ σ (and_then (new_atom ρ σ) (λ h σ₁. keep (guards_stored t) h v t σ₁))

-- Getting a key: the stored key of the handle, if its template has the attributes asked for.

abbrev pub place_of : Value → List Key → ℕ
place_of h ks = index_by (λ k. same k.handle h) ks

abbrev pub key_at : List Key → ℕ → Key
key_at ks i = get_or ks i (record { handle = const 0; key = const 0; template = 0 })

unfoldable pub get : Room → Step → Value → State → Out
get ρ s h σ =
    let ks = σ.token.stored in
    let k = key_at ks (place_of h ks) in
    cond (ltb (place_of h ks) (length ks) && meets s k.template) (appear ρ k.key σ) (stopped σ)

-- what a step does with the values v and w that its fields a and b name
abbrev pub perform : Room → Op → Step → Value → Value → State → Out
perform ρ Return s v w σ = ended v σ
perform ρ Get s v w σ = get ρ s v σ
perform ρ Generate s v w σ = generate ρ s.t σ
perform ρ Store s v w σ = store ρ v s.t σ
perform ρ (Compute o) s v w σ = appear ρ (compute o (operands o v w)) σ
perform ρ Unknown s v w σ = stopped σ

-- the steps one after the other, on the values so far
unfoldable pub run_steps : Room → List Step → List Value → State → Out
run_steps ρ [] vs σ = stopped σ
run_steps ρ (s ∷ ss) vs σ =
    and_then (perform ρ (op_of s) s (value_at vs s.a) (value_at vs s.b) σ) (λ v σ'. run_steps ρ ss (vs ++ v ∷ []) σ')

-- a call of command c; one that is not there, or has another number of parameters, stops
abbrev pub command_at : List Command → ℕ → Command
command_at cs c = get_or cs c (record { params = 0; steps = [] })

abbrev pub call : Room → List Command → ℕ → List Value → State → Out
call ρ cs c vs σ = cond (eqb (length vs) (command_at cs c).params) (run_steps ρ (command_at cs c).steps vs σ) (stopped σ)
