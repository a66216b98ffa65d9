-- What the inner functions promise: decoded steps and arguments, and a frame of which the place is known.
use Rattle.std.specs.Prelude.{ℕ, ◌+◌, ◌-◌, ◌*◌, ◌%◌, ◌<◌, ◌≡◌, Bool, true, cond, ◌&&◌, List, [], ◌∷◌, ◌++◌, map, leb, ltb, eqb, length}
use Rattle.std.specs.Prelude.{take, drop, get_or, set, replicate}
use Rattle.model.specs.Basics.{every}
use Rattle.model.specs.Text.{number_from}
use Rattle.model.specs.Frame.{Reading, byte_at, steps_of, args_of, arg_names}
use Rattle.model.specs.Tables.{Held, step_code, args_code}
use Rattle.model.specs.declared.Step.{Step}
use Rattle.frames.specs.Turn.{Turn, Counted, TurnIs}
use Rattle.frames.specs.declared.file_tables.FileTables.{FileTables}
use Rattle.frames.specs.declared.command.Command.{Command}

abbrev pub step_at : List ℕ → ℕ → Step
step_at part i = record { op = byte_at part i; a = byte_at part (i + 1); b = byte_at part (i + 2); t = byte_at part (i + 3) }

abbrev pub no_step : Step
no_step = record { op = 0; a = 0; b = 0; t = 0 }

-- the elements of a list, and z after them up to k
unfoldable pub filled : {A : Type 0} → ℕ → A → List A → List A
filled k z xs = xs ++ replicate (k - length xs) z

-- a decoded command: its steps, and zero in the places behind them
pub record DecodedAs (part : List ℕ) (params count : ℕ) (r : Command) : Type 0 where
  pub params_are : r.params ≡ params
  pub count_is : r.count ≡ count
  pub steps_are : r.steps ≡ filled 16 no_step (steps_of part)

-- a command's first bytes and its length
unfoldable pub head_formed : List ℕ → Bool
head_formed f = leb (byte_at f 1) 4 && leb 1 (byte_at f 2) && leb (byte_at f 2) 16 && eqb (length f) (3 + 4 * byte_at f 2)

-- command n in the two tables of commands; the others are as they were
pub record CommandStored (c : Command) (n : ℕ) (t t' : FileTables) : Type 0 where
  pub entry : t'.commands.now ≡ set t.commands.now n (c.params + 256 * c.count)
  pub places : t'.steps.now ≡ take (16 * n) t.steps.now ++ map step_code c.steps ++ drop (16 * n + 16) t.steps.now
  pub heads_kept : t'.heads.now ≡ t.heads.now
  pub arguments_kept : t'.arguments.now ≡ t.arguments.now

-- argument i of a line, two bytes
pub record ArgumentIs (f : List ℕ) (i x : ℕ) : Type 0 where
  pub value : x ≡ number_from 0 (byte_at f (4 + 2 * i) ∷ byte_at f (4 + 2 * i + 1) ∷ [])
  pub small : x < 65536

-- what a line names is there, by the table of n commands
unfoldable pub line_named : List ℕ → ℕ → ℕ → List ℕ → Bool
line_named f n m commands =
    cond (eqb (byte_at f 1) 0) (ltb (byte_at f 2) n && eqb (byte_at f 3) (get_or commands (byte_at f 2) 0 % 256)) true
    && every (arg_names m) (args_of (drop 4 f))

-- line m in the two tables of lines; the others are as they were
pub record LineStored (f : List ℕ) (m : ℕ) (t t' : FileTables) : Type 0 where
  pub head : t'.heads.now ≡ set t.heads.now m (byte_at f 1 + 256 * byte_at f 2 + 65536 * byte_at f 3)
  pub arguments : t'.arguments.now ≡ set t.arguments.now m (args_code (args_of (drop 4 f)))
  pub commands_kept : t'.commands.now ≡ t.commands.now
  pub steps_kept : t'.steps.now ≡ t.steps.now

-- a frame at this place after n commands and m lines is taken as the model says, whatever those are
abbrev pub Takes : ℕ → ℕ → ℕ → List ℕ → Turn → List ℕ → List ℕ → List ℕ → List ℕ → List ℕ → List ℕ → List ℕ → List ℕ → Type 0
Takes place n m f r h a k s h' a' k' s' =
    (c : Reading) → Counted c place n m → Held c.file h a k s → TurnIs c f r h' a' k' s'

-- ---- two of the tables are as they were, whatever they hold: a frame of the other kind leaves them, and so does a refused one

abbrev pub CommandsKept : FileTables → FileTables → Type 0
CommandsKept t t' = (t'.commands.now ≡ t.commands.now) × (t'.steps.now ≡ t.steps.now)

abbrev pub LinesKept : FileTables → FileTables → Type 0
LinesKept t t' = (t'.heads.now ≡ t.heads.now) × (t'.arguments.now ≡ t.arguments.now)
