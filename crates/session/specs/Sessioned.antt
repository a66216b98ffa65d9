-- A session over the lent tables: what is given to the code that runs it, and what it answers and leaves.
use Rattle.std.specs.Prelude.{ℕ, ◌+◌, ◌*◌, ◌≤◌, ◌<◌, ◌≡◌, Bool, true, false, cond, ◌||◌, List, Option, Some, None, Result, Ok, Err, map}
use Rattle.std.specs.Prelude.{length, get_or, take, set}
use Rattle.std.specs.Option.{IfSome, option_or}
use Rattle.std.specs.Bool.{then_some}
use Rattle.model.specs.Basics.{some}
use Rattle.model.specs.Value.{Value, is_const, value_at}
use Rattle.model.specs.Token.{State, Out, gave, ended, stopped, full}
use Rattle.model.specs.Frame.{File}
use Rattle.model.specs.Session.{Finished, Run}
use Rattle.model.specs.Report.{first_breach}
use Rattle.model.specs.Numbers.{full_number}
use Rattle.model.specs.Tables.{Tables, zeros, padded, Held, WellRead, Rows, row_codes, key_code, outcome_code}
use Rattle.model.specs.Told.{ending_number, ending_place, breach_told}
use Rattle.model.specs.declared.Full.{Full}
use Rattle.values.specs.Holds.{Holds}
use Rattle.token.specs.Outcome as outcome
use Rattle.token.specs.Outcome.{Outcome}
use Rattle.token.specs.Carried.{counts_of, outcome_of, CarriedIn, PerformsIn}
use Rattle.token.specs.declared.Counts.{Counts}
use Rattle.token.specs.declared.Halt.{Halt}
use Rattle.token.specs.declared.Token.{Token}
use Rattle.session.specs.declared.Session.{Session}

-- a file that was read, in the tables that hold it; the others are zero
pub record SessionGiven (φ : File) (t : Tables) (m : ℕ) : Type 0 where
  pub well_read : WellRead φ
  pub held : Held φ t.heads t.arguments t.commands t.steps
  pub rows_zero : t.rows ≡ zeros 4096
  pub keys_zero : t.keys ≡ zeros 256
  pub outcomes_zero : t.outcomes ≡ zeros 1024
  pub lines_counted : m ≡ length φ.lines

-- that there is such a file
pub record SessionReady (t : Tables) (m : ℕ) : Type 0 where
  pub φ : File
  pub given : SessionGiven φ t m

-- ---- the parts

-- the guards are rows below both bounds
pub record GuardsBelow (guards : List ℕ) (a b : ℕ) : Type 0 where
  pub below : (i : ℕ) → i < length guards → (get_or guards i 0 < a) × (get_or guards i 0 < b)

-- the row is that of a constant, or marked as in hand
abbrev pub known : List Value → List Bool → ℕ → Bool
known vs hand row = get_or hand row false || is_const (value_at vs row)

-- some guarded row is
unfoldable pub breached_by : List Value → List Bool → List ℕ → Bool
breached_by vs hand guards = some (known vs hand) guards

-- the row of a finished line in its number, and the bit that says that the line stopped
abbrev pub row_number : Option ℕ → ℕ
row_number (Some row) = row
row_number None = 65535

abbrev pub stop_bit : Option ℕ → ℕ
stop_bit (Some row) = 0
stop_bit None = 1

unfoldable pub outcome_number : Option ℕ → ℕ → Bool → ℕ
outcome_number row keys breached =
    row_number row + 65536 * keys + 4294967296 * stop_bit row + 8589934592 * cond breached 1 0 + 17179869184

-- the first breached line, once line i has its mark
abbrev pub earliest_of : Option ℕ → ℕ → Bool → Option ℕ
earliest_of first i breached = option_or first (then_some breached i)

-- what is left of a line: the row of its value, if it has one, or an ending's number
abbrev pub settled_of : Outcome → Result (Option ℕ) ℕ
settled_of (outcome.Gave c row) = Ok None
settled_of (outcome.Ended c row) = Ok (Some row)
settled_of (outcome.Stopped c) = Ok None
settled_of (outcome.Full n c) = Err n

abbrev pub settled_told : Result (Option ℕ) Full → Result (Option ℕ) ℕ
settled_told (Ok row) = Ok row
settled_told (Err f) = Err (full_number f)

-- a value's state, or the state before the line
abbrev pub state_left : State → Out → State
state_left σ (ended v σ') = σ'
state_left σ (gave v σ') = σ
state_left σ (stopped σ') = σ
state_left σ (full n σ') = σ

pub record SettledIs (σ : State) (out : Out) (r : Result (Option ℕ) Full) (t : Token) : Type 0 where
  pub answer : settled_told r ≡ settled_of (outcome_of out)
  pub counts_are : t.used ≡ counts_of (state_left σ out)
  pub carries : CarriedIn (state_left σ out) t

pub record SettleReady (earlier : Counts) (o : Result ℕ Halt) (t : Token) : Type 0 where
  pub σ : State
  pub out : Out
  pub performs : PerformsIn σ out o t
  pub counts_are : earlier ≡ counts_of σ

-- the values in hand after a line, by their rows; a stopped line has none
abbrev pub hand_after : List Bool → Option ℕ → List Bool
hand_after hand (Some row) = set hand row true
hand_after hand None = hand

abbrev pub RowBelow : ℕ → Option ℕ → Type 0
RowBelow n (Some row) = row < n
RowBelow n None = Unit {0}

-- the rows of the guarded values
abbrev pub guards_in : Token → List ℕ
guards_in t = take t.used.guards t.guards.now

pub record FinishReady (t : Token) (hand : List Bool) (outcomes : List ℕ) (i : ℕ) (row : Option ℕ) : Type 0 where
  pub guards_fit : t.used.guards ≤ length t.guards.now
  pub guards_below : GuardsBelow (guards_in t) (length t.rows.now) (length hand)
  pub in_table : i < length outcomes
  pub hand_long : length hand ≡ 4096
  pub row_below : RowBelow 4096 row
  pub keys_fit : t.used.keys < 65536

pub record FinishedIs (t : Token) (hand : List Bool) (outcomes : List ℕ) (i : ℕ) (row : Option ℕ) (r : Bool)
    (hand' : List Bool) (outcomes' : List ℕ) : Type 0 where
  pub mark_is : (vs : List Value) → Holds t.rows.now vs → GuardsBelow (guards_in t) (length vs) (length hand)
      → r ≡ breached_by vs (hand_after hand row) (guards_in t)
  pub hand_is : hand' ≡ hand_after hand row
  pub outcomes_are : outcomes' ≡ set outcomes i (outcome_number row t.used.keys r)

-- ---- the whole

-- the run of the model: its ending, its place and its first breached line, and its tables
pub record RanIs (run : Run) (r : Session) (t : Tables) : Type 0 where
  pub ending_is : ending_number r.ran.ending ≡ run.ending
  pub place_is : ending_place r.ran.ending ≡ run.place
  pub first_is : breach_told r.ran.first_breach ≡ first_breach run.session.finished
  pub first_below : IfSome r.ran.first_breach (λ i. i < 1024)
  pub finished_is : r.finished ≡ length run.session.finished
  pub rows_are : t.rows ≡ padded 4096 (row_codes run.session.state.world.rows)
  pub keys_are : t.keys ≡ padded 256 (map (key_code run.session.state.world.rows) run.session.state.token.stored)
  pub outcomes_are : t.outcomes ≡ padded 1024 (map outcome_code run.session.finished)
  pub rows_few : length run.session.state.world.rows ≤ 4096
  pub rows_apart : Rows run.session.state.world.rows
  pub few_lines : length run.session.finished ≤ 1024
  pub lines_fit : (i : ℕ) (d : Finished) → i < length run.session.finished
      → ((get_or run.session.finished i d).row < 65536) × ((get_or run.session.finished i d).keys < 65536)

-- the tables that hold the file stay as they were
pub record FileKept (before after : Tables) : Type 0 where
  pub heads : after.heads ≡ before.heads
  pub arguments : after.arguments ≡ before.arguments
  pub commands : after.commands ≡ before.commands
  pub steps : after.steps ≡ before.steps
