-- What the numbers of the lent tables code, and what reading and running leave in them: the scope's section "Numbers of the answers".
use Rattle.std.specs.Prelude.{ℕ, suc, ◌+◌, ◌-◌, ◌*◌, ◌≤◌, ◌<◌, ◌≡◌, Bool, true, cond, ◌&&◌, List, [], ◌∷◌, ◌++◌, map, T, eqb, ltb, leb, length, replicate}
use Rattle.model.specs.Basics.{All, every}
use Rattle.model.specs.Types.{code_of}
use Rattle.model.specs.Typing.{Verdict}
use Rattle.model.specs.Step.{Command}
use Rattle.model.specs.declared.Operation.{Operation}
use Rattle.model.specs.declared.Operation.TheVariants.{Encrypt, Decrypt, Derive}
use Rattle.model.specs.Value.{Value, const, fresh, enc, dec, div, row_of, value_at}
use Rattle.model.specs.Token.{Key, Room}
use Rattle.model.specs.Session.{Arg, constant, of_line, Line, calls, computes, Finished, Flat, run}
use Rattle.model.specs.Frame.{File, step_formed, returns_last, names_made, line_names}
use Rattle.model.specs.File.{Parsed, refused, file, parse, verdict_of}
use Rattle.model.specs.Report.{stopped_byte, first_breach, run_of, answer_to}
use Rattle.model.specs.declared.Step.{Step}

-- numbers, and zeros after them up to n
abbrev pub zeros : ℕ → List ℕ
zeros n = replicate n 0

unfoldable pub padded : ℕ → List ℕ → List ℕ
padded n xs = xs ++ zeros (n - length xs)

-- a step: a byte for each field, op lowest
unfoldable pub step_code : Step → ℕ
step_code s = s.op + 256 * s.a + 65536 * s.b + 16777216 * s.t

-- a command: its parameters and its number of steps; sixteen places of the steps' table are its own
unfoldable pub command_code : Command → ℕ
command_code c = c.params + 256 * length c.steps

unfoldable pub step_codes : List Command → List ℕ
step_codes [] = []
step_codes (c ∷ cs) = padded 16 (map step_code c.steps) ++ step_codes cs

-- a session line's head: its kind, its command and how many arguments it has
unfoldable pub head_code : Line → ℕ
head_code (calls c args) = 256 * c + 65536 * length args
head_code (computes Encrypt args) = 1 + 65536 * length args
head_code (computes Decrypt args) = 2 + 65536 * length args
head_code (computes (Derive l) args) = 3 + 256 * l + 65536 * length args

-- its arguments, sixteen bits each and as in its frame, the first lowest
abbrev pub arg_code : Arg → ℕ
arg_code (constant n) = 0x8000 + n
arg_code (of_line i) = i

unfoldable pub args_code : List Arg → ℕ
args_code [] = 0
args_code (a ∷ rest) = arg_code a + 65536 * args_code rest

abbrev pub args_of_line : Line → List Arg
args_of_line (calls c args) = args
args_of_line (computes o args) = args

-- a value: its kind above two parts of sixteen bits, which are a number or the rows of its parts
abbrev pub packed : ℕ → ℕ → ℕ → ℕ
packed kind a b = kind * 4294967296 + a * 65536 + b

abbrev pub value_code : List Value → Value → ℕ
value_code rows (const n) = packed 1 0 n
value_code rows (fresh n) = packed 2 0 n
value_code rows (enc v k) = packed 3 (row_of v rows) (row_of k rows)
value_code rows (dec v k) = packed 4 (row_of v rows) (row_of k rows)
value_code rows (div l v) = packed 5 l (row_of v rows)

unfoldable pub row_codes : List Value → List ℕ
row_codes rows = map (value_code rows) rows

-- a value whose parts have rows below i, and whose own number, or label, fits sixteen bits
abbrev pub PartsBelow : List Value → ℕ → Value → Type 0
PartsBelow rows i (const n) = n < 65536
PartsBelow rows i (fresh n) = n < 65536
PartsBelow rows i (enc v k) = (row_of v rows < i) × (row_of k rows < i)
PartsBelow rows i (dec v k) = (row_of v rows < i) × (row_of k rows < i)
PartsBelow rows i (div l v) = (l < 65536) × (row_of v rows < i)

-- rows that tell one value each: none twice, and each after its parts
pub record Rows (rows : List Value) : Type 0 where
  pub distinct : (i : ℕ) → i < length rows → row_of (value_at rows i) rows ≡ i
  pub after_parts : (i : ℕ) → i < length rows → PartsBelow rows i (value_at rows i)

-- a stored key: its template, the rows of its value and of its handle, and a mark that its place is in use
unfoldable pub key_code : List Value → Key → ℕ
key_code rows k = 1099511627776 + 16777216 * row_of k.handle rows + 256 * row_of k.key rows + k.template

-- a finished line: its value's row, the stored keys after it, whether it stopped, its breach mark, and a mark that it finished
unfoldable pub outcome_code : Finished → ℕ
outcome_code f =
    f.row + 65536 * f.keys + 4294967296 * stopped_byte f.outcome + 8589934592 * cond f.breach 1 0 + 17179869184

-- the lent tables: rows and stored keys; of each session line its head, its arguments and its outcome; commands and steps
pub record Tables : Type 0 where
  pub rows : List ℕ
  pub keys : List ℕ
  pub heads : List ℕ
  pub arguments : List ℕ
  pub outcomes : List ℕ
  pub commands : List ℕ
  pub steps : List ℕ

-- one entry for each thing that can be
abbrev pub right_lengths : Tables → Bool
right_lengths t =
    eqb (length t.rows) 4096
    && eqb (length t.keys) 256
    && eqb (length t.heads) 1024
    && eqb (length t.arguments) 1024
    && eqb (length t.outcomes) 1024
    && eqb (length t.commands) 32
    && eqb (length t.steps) 512

abbrev pub cleared : Tables → Tables
cleared t = record {
  rows = zeros (length t.rows);
  keys = zeros (length t.keys);
  heads = zeros (length t.heads);
  arguments = zeros (length t.arguments);
  outcomes = zeros (length t.outcomes);
  commands = zeros (length t.commands);
  steps = zeros (length t.steps);
}

-- the four tables that hold a file as it was read
pub record Held (φ : File) (heads arguments commands steps : List ℕ) : Type 0 where
  pub heads_are : heads ≡ padded 1024 (map head_code φ.lines)
  pub arguments_are : arguments ≡ padded 1024 (map (λ l. args_code (args_of_line l)) φ.lines)
  pub commands_are : commands ≡ padded 32 (map command_code φ.commands)
  pub steps_are : steps ≡ padded 512 (step_codes φ.commands)

-- What reading has seen to in a file that it takes, for the code that works from the tables.

abbrev pub command_read : Command → Bool
command_read c =
    leb c.params 4
    && leb (length c.steps) 16
    && every step_formed c.steps
    && returns_last c.steps
    && names_made c.params c.steps

abbrev pub arg_read : Arg → Bool
arg_read (constant k) = ltb k 0x8000
arg_read (of_line i) = true

-- an operation of the attacker's own has its operands, and its label is 0 or 1
abbrev pub operands_read : Operation → List Arg → Bool
operands_read Encrypt args = eqb (length args) 2
operands_read Decrypt args = eqb (length args) 2
operands_read (Derive l) args = ltb l 2 && eqb (length args) 1

abbrev pub has_operands : Line → Bool
has_operands (calls c args) = true
has_operands (computes o args) = operands_read o args

-- a line with n lines before it
abbrev pub line_read : List Command → ℕ → Line → Bool
line_read cs n l = leb (length (args_of_line l)) 4 && every arg_read (args_of_line l) && line_names cs n l && has_operands l

unfoldable pub lines_read : List Command → ℕ → List Line → Bool
lines_read cs n [] = true
lines_read cs n (l ∷ ls) = line_read cs n l && lines_read cs (suc n) ls

pub record WellRead (φ : File) : Type 0 where
  pub few_commands : length φ.commands ≤ 32
  pub few_lines : length φ.lines ≤ 1024
  pub commands_read : T (every command_read φ.commands)
  pub lines_well_read : T (lines_read φ.commands 0 φ.lines)

-- what an input with lent tables comes to: their lengths are checked before all else
unfoldable pub read_into : Tables → List ℕ → Parsed
read_into t input = let whole = parse input in cond (right_lengths t) whole (refused 15 0)

-- what reading an input comes to: the refusal's number and frame; or the transported type's code, the set of allowed
-- templates, and how many commands and session lines there are
pub data ReadAnswer : Type 0 where
  Refused : ℕ → ℕ → ReadAnswer
  Taken : ℕ → ℕ → ℕ → ℕ → ReadAnswer

unfoldable pub read_answer : Parsed → ReadAnswer
read_answer (refused n k) = Refused n k
read_answer (file φ) = Taken (code_of φ.policy.transported) φ.policy.allowing (length φ.commands) (length φ.lines)

unfoldable pub tables_read : Tables → Parsed → Tables
tables_read t (refused n k) = cleared t
tables_read t (file φ) = record {
  rows = zeros 4096;
  keys = zeros 256;
  heads = padded 1024 (map head_code φ.lines);
  arguments = padded 1024 (map (λ l. args_code (args_of_line l)) φ.lines);
  outcomes = zeros 1024;
  commands = padded 32 (map command_code φ.commands);
  steps = padded 512 (step_codes φ.commands);
}

-- the promise of reading: of any input and any lent tables, one answer and one content of each table
pub record ReadIs (input : List ℕ) (lent : Tables) (r : ReadAnswer) (left : Tables) : Type 0 where
  pub answer : r ≡ read_answer (read_into lent input)
  pub tables : left ≡ tables_read lent (read_into lent input)

-- the promise of the verdict: also, where it accepts, that no session over these commands has a breach mark, in any room
pub record VerdictIs (input : List ℕ) (lent : Tables) (r : Verdict) (left : Tables) : Type 0 where
  pub answer : r ≡ verdict_of (read_into lent input)
  pub tables : left ≡ tables_read lent (read_into lent input)
  pub flat : r.number ≡ 0 → (φ : File) → read_into lent input ≡ file φ → (ρ : Room) (ls : List Line)
      → All Flat (run ρ φ.commands ls).session.finished

-- what running a session comes to: the refusal's number and frame; or the ending and its place, and the first breached
-- line, 65535 where there is none
pub data RunAnswer : Type 0 where
  NotRun : ℕ → ℕ → RunAnswer
  Ended : ℕ → ℕ → ℕ → RunAnswer

unfoldable pub run_answer : Parsed → RunAnswer
run_answer (refused n k) = NotRun n k
run_answer (file φ) = Ended (run_of φ).ending (run_of φ).place (first_breach (run_of φ).session.finished)

unfoldable pub tables_run : Tables → Parsed → Tables
tables_run t (refused n k) = cleared t
tables_run t (file φ) =
    let before = tables_read t (file φ) in
    let rows = (run_of φ).session.state.world.rows in
    record {
      rows = padded 4096 (row_codes rows);
      keys = padded 256 (map (key_code rows) (run_of φ).session.state.token.stored);
      heads = before.heads;
      arguments = before.arguments;
      outcomes = padded 1024 (map outcome_code (run_of φ).session.finished);
      commands = before.commands;
      steps = before.steps;
    }

-- the promise of the run: also that there is a place for each row, that equal values have one, and that parts have earlier ones
pub record RunIs (input : List ℕ) (lent : Tables) (r : RunAnswer) (left : Tables) : Type 0 where
  pub answer : r ≡ run_answer (read_into lent input)
  pub tables : left ≡ tables_run lent (read_into lent input)
  pub few : (φ : File) → read_into lent input ≡ file φ → length (run_of φ).session.state.world.rows ≤ 4096
  pub apart : (φ : File) → read_into lent input ≡ file φ → Rows (run_of φ).session.state.world.rows

-- the bytes that the longest report takes: a verdict, 1,024 lines and an end
abbrev pub report_size : ℕ
report_size = 19476

-- the program's whole output for the input, zeros after it, and the tables as the run leaves them
pub record Reported (input : List ℕ) (lent : Tables) (r : ℕ) (left : Tables) (buffer : List ℕ) : Type 0 where
  pub count : r ≡ length (answer_to (read_into lent input))
  pub buffer_is : buffer ≡ padded report_size (answer_to (read_into lent input))
  pub tables : left ≡ tables_run lent (read_into lent input)

pub record Untouched (lent : Tables) (space : List ℕ) (r : ℕ) (left : Tables) (buffer : List ℕ) : Type 0 where
  pub count : r ≡ 0
  pub buffer_is : buffer ≡ space
  pub tables : left ≡ lent

-- the promise of the report: into a buffer of another size nothing is written
pub record ReportIs (input : List ℕ) (lent : Tables) (space : List ℕ) (r : ℕ) (left : Tables) (buffer : List ℕ) : Type 0 where
  pub right_size : length space ≡ report_size → Reported input lent r left buffer
  pub wrong_size : (length space ≡ report_size → ⊥) → Untouched lent space r left buffer
