-- When the lent tables and the counts carry a state of the model, and what a function that takes the state on answers and leaves there.
use Rattle.std.specs.Prelude.{ℕ, ◌≤◌, ◌<◌, ◌≡◌, true, false, List, Result, ◌++◌, map, length, take, get_or}
use Rattle.model.specs.Step.{fields_of, op_of}
use Rattle.model.specs.declared.Operation.{Operation}
use Rattle.model.specs.declared.Op.TheVariants.{Compute}
use Rattle.model.specs.declared.Use.{Use}
use Rattle.model.specs.declared.Use.TheVariants.{Nothing, Operand, Attributes, Label}
use Rattle.model.specs.Value.{Value, fresh, row_of, present, value_at}
use Rattle.model.specs.Token.{Key, State, Room, at_most, Out, gave, ended, stopped, full, key_at}
use Rattle.model.specs.Tables.{padded, key_code}
use Rattle.values.specs.Holds.{Holds}
use Rattle.model.specs.declared.Step.{Step}
use Rattle.token.specs.declared.Counts.{Counts}
use Rattle.token.specs.declared.Halt.{Halt}
use Rattle.token.specs.declared.Token.{Token}
use Rattle.token.specs.Outcome.{Outcome, outcome_told}
use Rattle.token.specs.Outcome as code

-- the room that tables give
abbrev pub room_of : List ℕ → List ℕ → Room
room_of rows keys = record { rows = at_most (length rows); keys = at_most (length keys) }

abbrev pub counts_of : State → Counts
counts_of σ = record {
  rows = length σ.world.rows;
  keys = length σ.token.stored;
  atoms = σ.world.atoms;
  guards = length σ.world.guarded;
}

-- what every state of a run keeps: atoms are counted, and keys and guarded values have rows
pub record Tidy (σ : State) : Type 0 where
  pub unmade_absent : (n : ℕ) → σ.world.atoms ≤ n → present (fresh n) σ.world.rows ≡ false
  pub handle_present : (i : ℕ) → i < length σ.token.stored → present (key_at σ.token.stored i).handle σ.world.rows ≡ true
  pub key_present : (i : ℕ) → i < length σ.token.stored → present (key_at σ.token.stored i).key σ.world.rows ≡ true
  pub template_byte : (i : ℕ) → i < length σ.token.stored → (key_at σ.token.stored i).template < 256
  pub few_guards : length σ.world.guarded ≤ length σ.token.stored
  pub guarded_present : (i : ℕ) → i < length σ.world.guarded → present (value_at σ.world.guarded i) σ.world.rows ≡ true

-- each atom has a row; not so only where an ending was met between the making of an atom and its row
abbrev pub FewAtoms : State → Type 0
FewAtoms σ = σ.world.atoms ≤ length σ.world.rows

-- the tables carry the state: its rows, its stored keys, and the rows of its guarded values in the order of their guarding
pub record Carries (σ : State) (rows keys guards : List ℕ) : Type 0 where
  pub tidy : Tidy σ
  pub rows_held : Holds rows σ.world.rows
  pub keys_are : keys ≡ padded (length keys) (map (key_code σ.world.rows) σ.token.stored)
  pub keys_fit : length σ.token.stored ≤ length keys
  pub guards_are : map (value_at σ.world.rows) (take (length σ.world.guarded) guards) ≡ σ.world.guarded
  pub guards_have_rows : (i : ℕ) → i < length σ.world.guarded → get_or guards i 0 < length σ.world.rows
  pub guards_fit : length keys ≤ length guards

-- what a caller sees to in numbers alone
pub record Ready (c : Counts) (rows keys guards : List ℕ) : Type 0 where
  pub rows_fit : c.rows ≤ length rows
  pub rows_small : length rows ≤ 4096
  pub keys_fit : c.keys ≤ length keys
  pub keys_small : length keys ≤ 256
  pub few_atoms : c.atoms ≤ c.rows
  pub few_guards : c.guards ≤ c.keys
  pub guards_fit : length keys ≤ length guards

-- the rows x and y that a step's fields name are below n, where its op uses them
abbrev pub UsedBelow : Use → ℕ → ℕ → Type 0
UsedBelow Nothing x n = Unit {0}
UsedBelow Operand x n = x < n
UsedBelow Attributes x n = Unit {0}
UsedBelow Label x n = Unit {0}

-- the rows x and y of an operation's operands
abbrev pub OperandsBelow : Operation → ℕ → ℕ → ℕ → Type 0
OperandsBelow o x y n = UsedBelow (fields_of (Compute o)).a x n × UsedBelow (fields_of (Compute o)).b y n

pub record Named (s : Step) (x y n : ℕ) : Type 0 where
  pub a_named : UsedBelow (fields_of (op_of s)).a x n
  pub b_named : UsedBelow (fields_of (op_of s)).b y n
  pub t_byte : s.t < 256

-- a later state of the same line: nothing that was there is gone
pub record Extends (σ σ' : State) : Type 0 where
  pub new_rows : List Value
  pub new_keys : List Key
  pub new_guarded : List Value
  pub rows_grown : σ'.world.rows ≡ σ.world.rows ++ new_rows
  pub keys_grown : σ'.token.stored ≡ σ.token.stored ++ new_keys
  pub guarded_grown : σ'.world.guarded ≡ σ.world.guarded ++ new_guarded

abbrev pub state_of : Out → State
state_of (gave v σ) = σ
state_of (ended v σ) = σ
state_of (stopped σ) = σ
state_of (full n σ) = σ

-- an outcome as the code has it: counts, and the row of the value
abbrev pub outcome_of : Out → Outcome
outcome_of (gave v σ) = code.Gave (counts_of σ) (row_of v σ.world.rows)
outcome_of (ended v σ) = code.Ended (counts_of σ) (row_of v σ.world.rows)
outcome_of (stopped σ) = code.Stopped (counts_of σ)
outcome_of (full n σ) = code.Full n (counts_of σ)

-- a value that is given has a row
abbrev pub HasRow : Out → Type 0
HasRow (gave v σ) = present v σ.world.rows ≡ true
HasRow (ended v σ) = present v σ.world.rows ≡ true
HasRow (stopped σ) = Unit {0}
HasRow (full n σ) = Unit {0}

abbrev pub AtomsRowed : Out → Type 0
AtomsRowed (gave v σ) = FewAtoms σ
AtomsRowed (ended v σ) = FewAtoms σ
AtomsRowed (stopped σ) = FewAtoms σ
AtomsRowed (full n σ) = Unit {0}

-- from the state σ the model comes to o; the code answers r, and the tables carry what o left
pub record Performs (σ : State) (o : Out) (r : Outcome) (rows keys guards : List ℕ) : Type 0 where
  pub answer : r ≡ outcome_of o
  pub has_row : HasRow o
  pub atoms_rowed : AtomsRowed o
  pub carries : Carries (state_of o) rows keys guards
  pub extends : Extends σ (state_of o)

-- ---- the same of the token as the code has it

abbrev pub room_in : Token → Room
room_in t = room_of t.rows.now t.keys.now

abbrev pub CarriedIn : State → Token → Type 0
CarriedIn σ t = Carries σ t.rows.now t.keys.now t.guards.now

-- between two steps: the token is that of the state
pub record Stands (σ : State) (t : Token) : Type 0 where
  pub carries : CarriedIn σ t
  pub few_atoms : FewAtoms σ
  pub counts_are : t.used ≡ counts_of σ

abbrev pub ReadyIn : Token → Type 0
ReadyIn t = Ready t.used t.rows.now t.keys.now t.guards.now

abbrev pub PerformsIn : State → Out → Result ℕ Halt → Token → Type 0
PerformsIn σ o r t = Performs σ o (outcome_told r t.used) t.rows.now t.keys.now t.guards.now
