-- Sessions: lines that call commands or compute, one after the other, and the breach mark: the scope's sections
-- "The token and the attacker" and, for the place of an ending, "Numbers of the answers".
use Rattle.std.specs.Prelude.{ℕ, suc, Bool, false, not, ◌||◌, List, [], ◌∷◌, ◌++◌, map, T, get_or, length}
use Rattle.model.specs.Basics.{some}
use Rattle.model.specs.Step.{Command}
use Rattle.model.specs.declared.Operation.{Operation}
use Rattle.model.specs.Value.{Value, const, same, is_const, compute, row_of}
use Rattle.model.specs.Token.{State, empty, Room, Out, gave, ended, stopped, full, and_then, appear, call}

-- a public constant, or the value of an earlier line
pub data Arg : Type 0 where
  constant of_line : ℕ → Arg

-- a call of a command, or an operation of the attacker's own
pub data Line : Type 0 where
  calls : ℕ → List Arg → Line
  computes : Operation → List Arg → Line

pub data Outcome : Type 0 where
  value : Value → Outcome
  none : Outcome

-- what is known of a finished line: its value and the value's row, how many keys were stored after it, and its breach mark
pub record Finished : Type 0 where
  pub outcome : Outcome
  pub row : ℕ
  pub keys : ℕ
  pub breach : Bool

-- a finished line without a breach mark
abbrev pub Flat : Finished → Type 0
Flat f = T (not f.breach)

abbrev pub outcomes_of : List Finished → List Outcome
outcomes_of fs = map (λ f. f.outcome) fs

-- the state after the lines finished so far
pub record Session : Type 0 where
  pub state : State
  pub finished : List Finished

abbrev pub start : Session
start = record { state = empty; finished = [] }

-- The breach mark: some guarded value is a constant or the value of a finished line.

abbrev pub is_value : Value → Outcome → Bool
is_value g (value v) = same g v
is_value g none = false

abbrev pub in_hand : List Outcome → Value → Bool
in_hand os g = is_const g || some (is_value g) os

abbrev pub breached : List Value → List Outcome → Bool
breached guarded os = some (in_hand os) guarded

-- The arguments of a line, left to right: each appears, and a stopped line's name stops the line.

abbrev pub argument : List Finished → Arg → Outcome
argument fs (constant n) = value (const n)
argument fs (of_line i) = get_or (outcomes_of fs) i none

abbrev pub appearing : Room → Outcome → State → Out
appearing ρ (value v) σ = appear ρ v σ
appearing ρ none σ = stopped σ

unfoldable pub with_arguments : Room → List Finished → List Arg → List Value → State → (List Value → State → Out) → Out
with_arguments ρ fs [] vs σ next = next vs σ
with_arguments ρ fs (a ∷ rest) vs σ next =
    and_then (appearing ρ (argument fs a) σ) (λ v σ'. with_arguments ρ fs rest (vs ++ v ∷ []) σ' next)

abbrev pub run_line : Room → List Command → List Finished → Line → State → Out
run_line ρ cs fs (calls c args) σ = with_arguments ρ fs args [] σ (λ vs σ'. call ρ cs c vs σ')
run_line ρ cs fs (computes o args) σ =
    with_arguments ρ fs args [] σ (λ vs σ'. and_then (appear ρ (compute o vs) σ') (λ v σ''. ended v σ''))

-- The session after one more line, which left the state σ.

abbrev pub row_after : Outcome → State → ℕ
row_after (value v) σ = row_of v σ.world.rows
row_after none σ = 0xffff

abbrev pub finished_as : Outcome → State → List Finished → Finished
finished_as o σ before = record {
  outcome = o;
  row = row_after o σ;
  keys = length σ.token.stored;
  breach = breached σ.world.guarded (outcomes_of before ++ o ∷ []);
}

abbrev pub finish : Outcome → State → Session → Session
finish o σ s = record { state = σ; finished = s.finished ++ finished_as o σ s.finished ∷ [] }

-- how a run ends: the session after the last finished line; 0 and 0, or the ending and the line that it kept from finishing
pub record Run : Type 0 where
  pub session : Session
  pub ending : ℕ
  pub place : ℕ

-- a stopped line gives no value and leaves the state before it
abbrev pub after_line : Out → ℕ → Session → (Session → Run) → Run
after_line (ended v σ) i s next = next (finish (value v) σ s)
after_line (gave v σ) i s next = next (finish none s.state s)
after_line (stopped σ) i s next = next (finish none s.state s)
after_line (full n σ) i s next = record { session = s; ending = n; place = i }

-- the lines from line i on
unfoldable pub run_from : Room → List Command → List Line → ℕ → Session → Run
run_from ρ cs [] i s = record { session = s; ending = 0; place = 0 }
run_from ρ cs (l ∷ ls) i s =
    after_line (run_line ρ cs s.finished l s.state) i s (λ s'. run_from ρ cs ls (suc i) s')

abbrev pub run : Room → List Command → List Line → Run
run ρ cs ls = run_from ρ cs ls 0 start
