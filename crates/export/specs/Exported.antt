-- What the entries for C promise that answer with numbers: C has no enum that holds numbers, so an answer is told as a list of them
-- in a lent slice, beside the tables that the library's own promise speaks of.
use Rattle.std.specs.Prelude.{ℕ, ◌≡◌, List, [], ◌∷◌, length}
use Rattle.model.specs.File.{verdict_of}
use Rattle.model.specs.Tables.{Tables, ReadAnswer, Taken, Refused, RunAnswer, NotRun, Ended}
use Rattle.model.specs.Tables.{read_into, read_answer, run_answer, ReadIs, VerdictIs, RunIs, Untouched}
use Rattle.model.specs.Typing.{Verdict}

-- the tables that an entry is lent, or leaves
abbrev pub tables_of : (rows keys heads arguments outcomes commands steps : List ℕ) → Tables
tables_of rows keys heads arguments outcomes commands steps = record {
  rows = rows;
  keys = keys;
  heads = heads;
  arguments = arguments;
  outcomes = outcomes;
  commands = commands;
  steps = steps;
}

-- number, frame, transported type's code, set of allowed templates, commands, session lines
unfoldable pub read_numbers : ReadAnswer → List ℕ
read_numbers (Refused number frame) = number ∷ frame ∷ 0 ∷ 0 ∷ 0 ∷ 0 ∷ []
read_numbers (Taken transported allowing commands lines) = 0 ∷ 0 ∷ transported ∷ allowing ∷ commands ∷ lines ∷ []

-- number, frame, step
unfoldable pub verdict_numbers : Verdict → List ℕ
verdict_numbers v = v.number ∷ v.frame ∷ v.step ∷ []

-- number, frame, ending, its place, first breached line
unfoldable pub run_numbers : RunAnswer → List ℕ
run_numbers (NotRun number frame) = number ∷ frame ∷ 0 ∷ 0 ∷ 0 ∷ []
run_numbers (Ended ending place first) = 0 ∷ 0 ∷ ending ∷ place ∷ first ∷ []

-- the numbers stand in the slice, r says how many, and the tables keep the library's promise
pub record Told (size : ℕ) (told : List ℕ) (Promise : Tables → Type 0) (r : ℕ) (left : Tables) (answer : List ℕ) : Type 0 where
  pub count : r ≡ size
  pub answer_is : answer ≡ told
  pub promised : Promise left

-- the promise of an entry that tells its answer: into a slice of another size nothing is written
pub record NumbersAre (size : ℕ) (told : List ℕ) (Promise : Tables → Type 0) (lent : Tables) (space : List ℕ)
    (r : ℕ) (left : Tables) (answer : List ℕ)
    : Type 0
  where
    pub right_size : length space ≡ size → Told size told Promise r left answer
    pub wrong_size : (length space ≡ size → ⊥) → Untouched lent space r left answer

-- it for each of the three entries, where the answer is the model's

abbrev pub ReadTold : List ℕ → Tables → List ℕ → ℕ → Tables → List ℕ → Type 0
ReadTold input lent = let a = read_answer (read_into lent input) in NumbersAre 6 (read_numbers a) (ReadIs input lent a) lent

abbrev pub VerdictTold : List ℕ → Tables → List ℕ → ℕ → Tables → List ℕ → Type 0
VerdictTold input lent = let v = verdict_of (read_into lent input) in NumbersAre 3 (verdict_numbers v) (VerdictIs input lent v) lent

abbrev pub RunTold : List ℕ → Tables → List ℕ → ℕ → Tables → List ℕ → Type 0
RunTold input lent = let a = run_answer (read_into lent input) in NumbersAre 5 (run_numbers a) (RunIs input lent a) lent
