-- What taking one frame answers and leaves in the lent tables, by the model's refusals and the file read so far.
use Rattle.std.specs.Prelude.{ℕ, zero, suc, ◌≤◌, ◌<◌, ◌≡◌, List, Result, Ok, Err, length}
use Rattle.model.specs.declared.Policy.{Policy as ReadPolicy}
use Rattle.model.specs.declared.Fault.{Fault}
use Rattle.model.specs.Numbers.{fault_number}
use Rattle.model.specs.Token.{command_at}
use Rattle.model.specs.Frame.{File, Reading, Kind, policy_kind, command_kind, line_kind, other_kind, kind_of, policy_of, frame_refusal}
use Rattle.model.specs.File.{after_frame}
use Rattle.model.specs.Tables.{Held}
use Rattle.frames.specs.declared.Turn.{Turn as TakenTurn}
use Rattle.frames.specs.declared.Turn.TheVariants as taken
use Rattle.frames.specs.declared.Place.{Place}
use Rattle.frames.specs.declared.Place.TheVariants.{Start, Commands, Lines}
use Rattle.frames.specs.declared.Counts.{Counts}
use Rattle.frames.specs.declared.file_tables.FileTables.{FileTables}

-- what a frame comes to: its refusal's number; the policy; a command or a session line, which stands in the tables now
pub data Turn : Type 0 where
  Refused : ℕ → Turn
  Policy : ReadPolicy → Turn
  Command Line : Turn

-- the code's answer in these words
abbrev pub turn_told : Result TakenTurn Fault → Turn
turn_told (Ok (taken.Policy p)) = Policy p
turn_told (Ok taken.Command) = Command
turn_told (Ok taken.Line) = Line
turn_told (Err e) = Refused (fault_number e)

-- the number of a refusal, or 0
abbrev pub refusal_told : Result (Unit {0}) Fault → ℕ
refusal_told (Ok u) = 0
refusal_told (Err e) = fault_number e

-- the model's numbers of the places
abbrev pub place_number : Place → ℕ
place_number Start = 0
place_number Commands = 1
place_number Lines = 2

-- the answer to a frame with a refusal, or with none
unfoldable pub turn_of : ℕ → Kind → List ℕ → Turn
turn_of (suc n) kind f = Refused (suc n)
turn_of zero policy_kind f = Policy (policy_of f)
turn_of zero command_kind f = Command
turn_of zero line_kind f = Line
turn_of zero other_kind f = Refused 3

-- the file after a frame: a refused frame adds nothing
abbrev pub filed : ℕ → Reading → List ℕ → File
filed zero c f = (after_frame c f).file
filed (suc n) c f = c.file

-- the counts that the code has of what was read, and the bounds that reading keeps
pub record Counted (c : Reading) (place n m : ℕ) : Type 0 where
  pub place_is : place ≡ c.place
  pub commands_are : n ≡ length c.file.commands
  pub lines_are : m ≡ length c.file.lines
  pub few_params : (i : ℕ) → (command_at c.file.commands i).params ≤ 4
  pub few_steps : (i : ℕ) → length (command_at c.file.commands i).steps ≤ 16

pub record TurnIs (c : Reading) (f : List ℕ) (r : Turn) (heads arguments commands steps : List ℕ) : Type 0 where
  pub answer : r ≡ turn_of (frame_refusal c f) (kind_of f) f
  pub held : Held (filed (frame_refusal c f) c f) heads arguments commands steps

-- ---- the same of the lent tables

abbrev pub HeldIn : File → FileTables → Type 0
HeldIn φ t = Held φ t.heads.now t.arguments.now t.commands.now t.steps.now

abbrev pub TurnIn : Reading → List ℕ → Turn → FileTables → Type 0
TurnIn c f r t = TurnIs c f r t.heads.now t.arguments.now t.commands.now t.steps.now

-- the references are those that were lent; that each table keeps its length their type says
abbrev pub SameReferences : FileTables → FileTables → Type 0
SameReferences t t' =
    (t'.heads.ghost_name ≡ t.heads.ghost_name)
    × (t'.arguments.ghost_name ≡ t.arguments.ghost_name)
    × (t'.commands.ghost_name ≡ t.commands.ghost_name)
    × (t'.steps.ghost_name ≡ t.steps.ghost_name)

-- what the caller sees to: a frame has a first byte, and there is no more than the tables hold
pub record Ready (f : List ℕ) (c : Counts) : Type 0 where
  pub some_byte : 0 < length f
  pub few_commands : c.commands ≤ 32
  pub few_lines : c.lines ≤ 1024
