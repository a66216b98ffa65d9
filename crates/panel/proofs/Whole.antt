-- What is written for the bytes that were read is the report of the whole input: of a longer one the first 32,769 bytes say that
-- it is too long.
-- Assumes nothing.
use Rattle.std.proofs.Common.{ℕ, ◌-◌, ◌≤◌, ◌<◌, ◌≡◌, ◌∙◌, sym, ap, subst, refl, true, List, [], ◌++◌, length, take, append-nil, arith}
use Rattle.std.proofs.Common.{None, Some, IfSome, OnOk, Result, Ok, Err}
use Rattle.std.proofs.lemmas.Bool.{lt-leb}
use Rattle.std.proofs.lemmas.List.{length-append, length-replicate, take_at}
use Rattle.std.proofs.Math.Decide.{dec_le}
use Rattle.std.specs.Io.KnownBytes.{Appends, Consumes, IsAtEnd}
use Rattle.std.specs.declared.option.Option.{Option}
use Rattle.model.specs.File.{parse, refused}
use Rattle.model.specs.Report.{answer, answer_to}
use Rattle.model.specs.Tables.{Tables, right_lengths, read_into, zeros, padded, report_size, ReportIs}

-- an input that is longer than is taken
too_long : (input : List ℕ) → 32768 < length input → parse input ≡ refused 1 0
unfolding parse
too_long input long = rw (lt-leb (length input) 32768 long) refl

same_answer : (read rest : List ℕ) → (length read < 32769 → rest ≡ []) → answer (read ++ rest) ≡ answer read
same_answer read rest ends = go (dec_le (length read) 32768)
  where
    go : Dec (length read ≤ 32768) → answer (read ++ rest) ≡ answer read
    go (yes few) = ap answer (ap (λ l. read ++ l) (ends (omega arith)) ∙ append-nil read)
    go (no many) =
        let long = length-append read rest in
        ap answer_to (too_long (read ++ rest) (omega (arith, long)) ∙ sym (too_long read (omega arith)))

-- what a reader had, what was read of it, and what was written for that
pub report_of_all : {A E : Type 0} (r : Result A E) (had left held written : Option (List ℕ)) (read points : List ℕ)
    → Consumes had left read → (length read < 32769 → IsAtEnd left) → points ≡ answer read → OnOk r (Appends held written points)
    → OnOk r (IfSome had (λ input. Appends held written (answer input)))
report_of_all (Err e) had left held written read points given ends made wrote = tt
report_of_all (Ok x) None left held written read points given ends made wrote = tt
report_of_all (Ok x) (Some input) None held written read points given ends made wrote = absurd given
report_of_all (Ok x) (Some input) (Some rest) held written read points given ends made wrote =
    subst (Appends held written) (made ∙ sym (ap answer given ∙ same_answer read rest ends)) wrote

-- what the library leaves in a buffer that was zero, and counts there

module _ {input buffer : List ℕ} {lent left : Tables} {count : ℕ} (h : ReportIs input lent (zeros report_size) count left buffer) where
  size : length (zeros report_size) ≡ report_size
  size = length-replicate {A = ℕ} report_size 0

  pub count_within : length buffer ≡ length (zeros report_size) → count ≤ length buffer
  unfolding padded
  count_within kept =
      let made = h.right_size size in
      let bytes = answer_to (read_into lent input) in
      let long = ap length made.buffer_is ∙ length-append bytes (zeros (report_size - length bytes)) in
      omega (arith, made.count, long)

  pub report_in_front : right_lengths lent ≡ true → take count buffer ≡ answer input
  unfolding padded read_into
  report_in_front right =
      let made = h.right_size size in
      let whole : read_into lent input ≡ parse input = rw right refl in
      let bytes = answer_to (read_into lent input) in
      ap (take count) made.buffer_is ∙ take_at bytes _ count (sym made.count) ∙ ap answer_to whole
