-- A line of the session over the token's tables: what is given to the code that runs it, and what it leaves, as the model has it.
use Rattle.std.specs.Prelude.{ℕ, ◌≤◌, ◌<◌, ◌≡◌, true, false, Option, Some, None, List, map, T, length, get_or}
use Rattle.model.specs.Basics.{every}
use Rattle.model.specs.Step.{Command}
use Rattle.model.specs.Value.{Value, row_of, present}
use Rattle.model.specs.Token.{State}
use Rattle.model.specs.Session.{Line, Outcome, value, none, Finished}
use Rattle.model.specs.Tables.{padded, command_code, step_codes, head_code, args_code, args_of_line, outcome_code, command_read, line_read}
use Rattle.token.specs.Carried.{ReadyIn, Stands}
use Rattle.token.specs.declared.Token.{Token}

-- ---- the finished lines

-- the row that a finished line's record has is its value's
abbrev pub Rowed : List Value → Outcome → ℕ → Type 0
Rowed rows (value v) row = (present v rows ≡ true) × (row ≡ row_of v rows)
Rowed rows none row = row ≡ 0xffff

-- the same of the row that the code has; a line that stopped has none
abbrev pub RowIs : List Value → Outcome → Option ℕ → Type 0
RowIs rows (value v) row = (present v rows ≡ true) × (row ≡ Some (row_of v rows))
RowIs rows none row = row ≡ None

abbrev pub finished_at : List Finished → ℕ → Finished
finished_at fs i = get_or fs i (record { outcome = none; row = 0xffff; keys = 0; breach = false })

-- the outcomes' table holds the finished lines, whose values have rows
pub record Finishing (fs : List Finished) (rows : List Value) (outcomes : List ℕ) : Type 0 where
  pub codes_are : outcomes ≡ padded 1024 (map outcome_code fs)
  pub few : length fs ≤ 1024
  pub rowed : (i : ℕ) → i < length fs → Rowed rows (finished_at fs i).outcome (finished_at fs i).row
  pub keys_small : (i : ℕ) → i < length fs → (finished_at fs i).keys ≤ 256

-- ---- a line

-- the state, the commands, the finished lines and the line itself, in the tables and numbers that the code has of them
pub record LineGiven (σ : State) (cs : List Command) (fs : List Finished) (l : Line) (t : Token)
    (outcomes commands steps : List ℕ) (head args : ℕ) : Type 0 where
  pub stands : Stands σ t
  pub finishing : Finishing fs σ.world.rows outcomes
  pub few_commands : length cs ≤ 32
  pub commands_read : T (every command_read cs)
  pub line_is_read : T (line_read cs (length fs) l)
  pub commands_are : commands ≡ padded 32 (map command_code cs)
  pub steps_are : steps ≡ padded 512 (step_codes cs)
  pub head_is : head ≡ head_code l
  pub args_are : args ≡ args_code (args_of_line l)

-- that something of the kind is given; the numbers follow
pub record LineReady (t : Token) (outcomes commands steps : List ℕ) (head args : ℕ) : Type 0 where
  pub σ : State
  pub cs : List Command
  pub fs : List Finished
  pub l : Line
  pub given : LineGiven σ cs fs l t outcomes commands steps head args
  pub ready : ReadyIn t
