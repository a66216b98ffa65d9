-- From the frames to the whole: a refusal leaves zeros, a file what it codes, and lengths come before all else.
-- Assumes nothing.
use Prim.Native.Nat.{ℕ, ◌<◌}
use mathlib.Core.Path.{◌≡◌, sym, ◌∙◌}
use mathlib.Core.Bool.{Bool, true, false, ◌&&◌, false≢true}
use mathlib.Core.List.{List}
use native.Mathlib.Omega.{arith}
use lib.Dec.{T, eqb, eqb→eq}
use lib.ListN.{length, length-replicate}
use borrow.Author.Tests.{lt-leb}
use Rattle.std.specs.Prelude.{Result, Ok, Err}
use Rattle.std.specs.Result.{is_err}
use Rattle.model.specs.declared.Contents.{Contents}
use Rattle.model.specs.declared.Refusal.{Refusal}
use Rattle.model.specs.Told.{read_told}
use Rattle.model.specs.File.{Parsed, refused, file, parse}
use Rattle.model.specs.Tables.{Tables, zeros, cleared, right_lengths, read_into, read_answer, tables_read, ReadIs}
use Rattle.model.specs.Tables.{ReadAnswer}
use Rattle.model.specs.Tables as read
use Rattle.model.proofs.Tests.{and_left, and_right}
use Rattle.frames.specs.declared.file_tables.FileTables.{FileTables}
use Rattle.file.specs.Framed.{Zeros, ZerosIn, Cleared, Left, FramedIs, LeftIs}

pub too_long : (input heads arguments commands steps : List ℕ) → Cleared heads arguments commands steps → 32768 < length input
    → LeftIs (parse input) (read.Refused 1 0) heads arguments commands steps
unfolding parse read_answer
too_long input heads arguments commands steps h l =
    let long = lt-leb (length input) 32768 l in
    record { answer = rw long; left = rw long h.all_zero }

-- the four lists are what the tables hold
pub record AreIn (t : FileTables) (heads arguments commands steps : List ℕ) : Type 0 where
  pub heads_are : heads ≡ t.heads.now
  pub arguments_are : arguments ≡ t.arguments.now
  pub commands_are : commands ≡ t.commands.now
  pub steps_are : steps ≡ t.steps.now

-- a refusal leaves what was cleared once more, and a file what was held
pub refusal_left : (p : Parsed) (r : Result Contents Refusal) (t t' : FileTables) {heads arguments commands steps : List ℕ}
    → FramedIs p (read_told r) t
    → is_err r ≡ true → ZerosIn t' → AreIn t' heads arguments commands steps
    → LeftIs p (read_told r) heads arguments commands steps
unfolding read_answer
refusal_left (refused n k) r t t' f e zero are =
    record {
      answer = f.answer;
      left = record {
        heads_zero = are.heads_are ∙ zero.heads_zero;
        arguments_zero = are.arguments_are ∙ zero.arguments_zero;
        commands_zero = are.commands_are ∙ zero.commands_zero;
        steps_zero = are.steps_are ∙ zero.steps_zero;
      };
    }
refusal_left (file φ) (Ok c) t t' f e zero are = absurd (false≢true e)
refusal_left (file φ) (Err d) t t' f e zero are = let told = f.answer in absurd (let z : ◌≡◌ {A = ℕ} 0 1 = cc in omega arith)

pub file_left : (p : Parsed) (r : Result Contents Refusal) (t : FileTables) {heads arguments commands steps : List ℕ}
    → FramedIs p (read_told r) t
    → is_err r ≡ false → AreIn t heads arguments commands steps → LeftIs p (read_told r) heads arguments commands steps
unfolding read_answer
file_left (file φ) r t f e are =
    record { answer = f.answer; left = rw (are.heads_are, are.arguments_are, are.commands_are, are.steps_are) f.held }
file_left (refused n k) (Ok c) t f e are = let told = f.answer in absurd (let z : ◌≡◌ {A = ℕ} 0 1 = cc in omega arith)
file_left (refused n k) (Err d) t f e are = absurd (false≢true (sym e))

-- ---- with all tables

-- each table of the right length
pub record AllLengths (lent : Tables) : Type 0 where
  pub rows_length : length lent.rows ≡ 4096
  pub keys_length : length lent.keys ≡ 256
  pub heads_length : length lent.heads ≡ 1024
  pub arguments_length : length lent.arguments ≡ 1024
  pub outcomes_length : length lent.outcomes ≡ 1024
  pub commands_length : length lent.commands ≡ 32
  pub steps_length : length lent.steps ≡ 512

pub lengths_right : (lent : Tables) → right_lengths lent ≡ true → AllLengths lent
lengths_right lent e =
    let t : T (right_lengths lent) = rw e tt in
    let a : Bool = eqb (length lent.rows) 4096 in
    let b : Bool = eqb (length lent.keys) 256 in
    let c : Bool = eqb (length lent.heads) 1024 in
    let d : Bool = eqb (length lent.arguments) 1024 in
    let f : Bool = eqb (length lent.outcomes) 1024 in
    let g : Bool = eqb (length lent.commands) 32 in
    let h : Bool = eqb (length lent.steps) 512 in
    let upto_g = and_left (a && b && c && d && f && g) h t in
    let upto_f = and_left (a && b && c && d && f) g upto_g in
    let upto_d = and_left (a && b && c && d) f upto_f in
    let upto_c = and_left (a && b && c) d upto_d in
    let upto_b = and_left (a && b) c upto_c in
    record {
      rows_length = eqb→eq (length lent.rows) 4096 (and_left a b upto_b);
      keys_length = eqb→eq (length lent.keys) 256 (and_right a b upto_b);
      heads_length = eqb→eq (length lent.heads) 1024 (and_right (a && b) c upto_c);
      arguments_length = eqb→eq (length lent.arguments) 1024 (and_right (a && b && c) d upto_d);
      outcomes_length = eqb→eq (length lent.outcomes) 1024 (and_right (a && b && c && d) f upto_f);
      commands_length = eqb→eq (length lent.commands) 32 (and_right (a && b && c && d && f) g upto_g);
      steps_length = eqb→eq (length lent.steps) 512 (and_right (a && b && c && d && f && g) h t);
    }

pub cleared_ready : (lent : Tables) {heads arguments commands steps : List ℕ} → right_lengths lent ≡ true
    → Zeros heads arguments commands steps (length lent.heads) (length lent.arguments) (length lent.commands) (length lent.steps)
    → Cleared heads arguments commands steps
cleared_ready lent {heads} {arguments} {commands} {steps} e z =
    let long = lengths_right lent e in
    let h : heads ≡ zeros 1024 = rw long.heads_length at z.heads_zero in
    let a : arguments ≡ zeros 1024 = rw long.arguments_length at z.arguments_zero in
    let c : commands ≡ zeros 32 = rw long.commands_length at z.commands_zero in
    let s : steps ≡ zeros 512 = rw long.steps_length at z.steps_zero in
    record {
      lengths = record {
        heads_length = rw h (length-replicate {A = ℕ} 1024 0);
        arguments_length = rw a (length-replicate {A = ℕ} 1024 0);
        commands_length = rw c (length-replicate {A = ℕ} 32 0);
        steps_length = rw s (length-replicate {A = ℕ} 512 0);
      };
      all_zero = record { heads_zero = h; arguments_zero = a; commands_zero = c; steps_zero = s };
    }

pub all_cleared_refused : (input : List ℕ) (lent left : Tables) → right_lengths lent ≡ false → left ≡ cleared lent
    → ReadIs input lent (read.Refused 15 0) left
unfolding read_into read_answer tables_read
all_cleared_refused input lent left e are = record { answer = rw e; tables = rw (e, are) }

-- the tables that reading fills, beside the others, which are cleared
abbrev pub beside_cleared : Tables → (heads arguments commands steps : List ℕ) → Tables
beside_cleared lent heads arguments commands steps = record {
  rows = zeros (length lent.rows);
  keys = zeros (length lent.keys);
  heads = heads;
  arguments = arguments;
  outcomes = zeros (length lent.outcomes);
  commands = commands;
  steps = steps;
}

left_tables : (lent : Tables) (heads arguments commands steps : List ℕ) (p : Parsed) → AllLengths lent
    → Left p heads arguments commands steps
    → beside_cleared lent heads arguments commands steps ≡ tables_read lent p
unfolding tables_read
left_tables lent heads arguments commands steps (refused n k) long h =
    rw (long.heads_length, long.arguments_length, long.commands_length, long.steps_length)
    (rw (h.heads_zero, h.arguments_zero, h.commands_zero, h.steps_zero))
left_tables lent heads arguments commands steps (file φ) long h =
    rw (long.rows_length, long.keys_length, long.outcomes_length, h.heads_are, h.arguments_are, h.commands_are, h.steps_are)

pub whole_read : (input : List ℕ) (lent left : Tables) (r : ReadAnswer) (heads arguments commands steps : List ℕ)
    → right_lengths lent ≡ true
    → LeftIs (parse input) r heads arguments commands steps → left ≡ beside_cleared lent heads arguments commands steps
    → ReadIs input lent r left
unfolding read_into
whole_read input lent left r heads arguments commands steps e h are =
    let right = left_tables lent heads arguments commands steps (parse input) (lengths_right lent e) h.left in
    record { answer = rw e h.answer; tables = are ∙ rw e right }
