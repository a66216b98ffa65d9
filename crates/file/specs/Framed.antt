-- What reading the frames of an input into cleared tables answers and leaves: a refusal promises nothing of the tables but their lengths.
use Rattle.std.specs.Prelude.{ℕ, ◌≡◌, List, Option, Some, None, Result, Ok, Err, length}
use Rattle.model.specs.File.{Parsed, refused, file}
use Rattle.model.specs.Tables.{zeros, Held, read_answer, ReadAnswer}
use Rattle.model.specs.declared.Policy.{Policy}
use Rattle.model.specs.declared.Contents.{Contents}
use Rattle.model.specs.declared.Fault.{Fault}
use Rattle.model.specs.declared.Fault.TheVariants.{Misplaced}
use Rattle.model.specs.declared.Refusal.{Refusal}
use Rattle.frames.specs.Turn.{HeldIn}
use Rattle.frames.specs.declared.Counts.{Counts}
use Rattle.frames.specs.declared.file_tables.FileTables.{FileTables}
use Rattle.frames.specs.declared.Turn.{Turn}

-- a frame's fault, as the refusal of the whole input
abbrev pub located : ℕ → Result Turn Fault → Result Turn Refusal
located k (Ok t) = Ok t
located k (Err e) = Err (record { fault = e; frame = k })

-- what the input comes to where all its frames are taken: without a policy there was none
abbrev pub contents_of : Option Policy → Counts → Result Contents Refusal
contents_of (Some p) c = Ok (record { policy = p; commands = c.commands; lines = c.lines })
contents_of None c = Err (record { fault = Misplaced; frame = 0 })

-- the four tables that reading fills have their lengths
pub record Lengths (heads arguments commands steps : List ℕ) : Type 0 where
  pub heads_length : length heads ≡ 1024
  pub arguments_length : length arguments ≡ 1024
  pub commands_length : length commands ≡ 32
  pub steps_length : length steps ≡ 512

-- they are all zero, of these lengths
pub record Zeros (heads arguments commands steps : List ℕ) (a b c d : ℕ) : Type 0 where
  pub heads_zero : heads ≡ zeros a
  pub arguments_zero : arguments ≡ zeros b
  pub commands_zero : commands ≡ zeros c
  pub steps_zero : steps ≡ zeros d

pub record Cleared (heads arguments commands steps : List ℕ) : Type 0 where
  pub lengths : Lengths heads arguments commands steps
  pub all_zero : Zeros heads arguments commands steps 1024 1024 32 512

-- what a refusal leaves, and what a file
abbrev pub Left : Parsed → List ℕ → List ℕ → List ℕ → List ℕ → Type 0
Left (refused n k) heads arguments commands steps = Zeros heads arguments commands steps 1024 1024 32 512
Left (file φ) heads arguments commands steps = Held φ heads arguments commands steps

pub record LeftIs (p : Parsed) (r : ReadAnswer) (heads arguments commands steps : List ℕ) : Type 0 where
  pub answer : r ≡ read_answer p
  pub left : Left p heads arguments commands steps

-- ---- the same of the lent tables

-- all zero, of the lengths that their type says
abbrev pub ZerosIn : FileTables → Type 0
ZerosIn t = Zeros t.heads.now t.arguments.now t.commands.now t.steps.now 1024 1024 32 512

abbrev pub HeldIf : Parsed → FileTables → Type 0
HeldIf (refused n k) t = Unit {0}
HeldIf (file φ) t = HeldIn φ t

pub record FramedIs (p : Parsed) (r : ReadAnswer) (t : FileTables) : Type 0 where
  pub answer : r ≡ read_answer p
  pub held : HeldIf p t
