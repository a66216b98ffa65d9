-- Laws on bytes that are put into a buffer one after the other, and on the numbers that code outcomes.
-- Assumes nothing.
use Prim.Native.Nat.{ℕ, suc, ◌+◌, ◌*◌, ◌≤◌, ◌<◌, ◌/◌, ◌%◌}
use mathlib.Core.Path.{◌≡◌, refl, ◌∙◌, sym, ap}
use mathlib.Core.Bool.{Bool, true, false, cond}
use mathlib.Core.List.{List, [], ◌∷◌, ◌++◌, map}
use native.Mathlib.Omega.{arith}
use native.Mathlib.Numerals.{add-one}
use native.Mathlib.Nat.{add-zero, zero-add}
use lib.ListN.{length, get_or, set, drop, length-append, length-set, drop_of_length-le}
use lib.Seq.{sets, length-sets, sets-eq, drop-cons}
use Rattle.std.proofs.lemmas.List.{drop-replicate}
use Rattle.model.specs.Session.{Outcome, value, none, Finished}
use Rattle.model.specs.Text.{digits, written}
use Rattle.model.specs.Report.{refusal_frame, verdict_frame, stopped_byte, line_frame, line_frames}
use Rattle.model.specs.Tables.{padded, zeros, outcome_code}
use Rattle.model.specs.Typing.{Verdict}
use Rattle.printing.specs.Printed.{Printed, Lines, end_bytes, report_bytes}
use Rattle.printing.specs.Placed.{Put, coded_frame, coded_frames}

-- ---- bytes that are put

sets_append : (l : List ℕ) (i : ℕ) (xs ys : List ℕ) → sets l i (xs ++ ys) ≡ sets (sets l i xs) (i + length xs) ys
sets_append l i [] ys = rw add-zero
sets_append l i (x ∷ xs) ys =
    let moved : i + suc (length xs) ≡ suc i + length xs = omega arith in
    rw moved (sets_append (set l i x) (suc i) xs ys)

put_keeps_length : {bytes before after : List ℕ} {at r : ℕ} → Put bytes at before r after → length after ≡ length before
put_keeps_length {bytes} {before} {at = at} p = rw p.buffer_is (length-sets before at bytes)

put_then_put : {xs ys before between after : List ℕ} {at m r : ℕ} → Put xs at before m between → Put ys m between r after
    → Put (xs ++ ys) at before r after
put_then_put {xs} {ys} {before} {at = at} p q = record {
  next = simp length-append (omega arith);
  buffer_is = rw (q.buffer_is, p.buffer_is, p.next) (sym (sets_append before at xs ys));
}

put_on_zeros : {bytes before after : List ℕ} {r : ℕ} → before ≡ zeros (length before) → length bytes ≤ length before
    → Put bytes 0 before r after → Printed bytes (length before) r after
unfolding padded
put_on_zeros {bytes} {before} empty fits p =
    let rest_is = ap (drop (length bytes)) empty ∙ drop-replicate (length bytes) (length before) 0 in
    record {
      count = omega arith;
      buffer_is = p.buffer_is ∙ sets-eq bytes before 0 (omega arith) ∙ rw (zero-add, rest_is);
    }

-- ---- one frame

written_length : (bs : List ℕ) → length (written bs) ≡ 2 * length bs + 1
unfolding written
written_length [] = refl
written_length (b ∷ bs) = let later = written_length bs in omega arith

pub frame_ends : (frame : List ℕ) {before after : List ℕ} {at r : ℕ} → Put (written frame) at before r after
    → r ≡ at + (2 * length frame + 1)
frame_ends frame p = omega (arith, written_length frame)

-- i bytes of the frame are written: to write the others from the place on gives the whole
pub record Writing (frame : List ℕ) (at : ℕ) (before buffer : List ℕ) (place i : ℕ) : Type 0 where
  pub within : i ≤ length frame
  pub place_is : place ≡ at + 2 * i
  pub as_long : length buffer ≡ length before
  pub rest : sets buffer place (written (drop i frame)) ≡ sets before at (written frame)

pub writing_goes_on : {frame before buffer : List ℕ} {at place i h l : ℕ} → Writing frame at before buffer place i → i < length frame
    → h ≡ get_or digits (get_or frame i 0 / 16) 0 → l ≡ get_or digits (get_or frame i 0 % 16) 0
    → Writing frame at before (set (set buffer place h) (place + 1) l) (place + 2) (i + 1)
unfolding written
writing_goes_on {frame} {place = place} {i = i} w more high low =
    let two : place + 2 ≡ suc (suc place) = omega arith in
    record {
      within = omega arith;
      place_is = omega arith;
      as_long = simp length-set w.as_long;
      rest = rw (high, low, two, add-one place, add-one i) (rw (drop-cons frame i 0 more) at w.rest);
    }

pub writing_ends : {frame before buffer : List ℕ} {at place i : ℕ} → Writing frame at before buffer place i → length frame ≤ i
    → Put (written frame) at before (place + 1) (set buffer place 10)
unfolding written
writing_ends {frame} w done = record {
  next = omega (arith, written_length frame);
  buffer_is = rw (drop_of_length-le frame done) at w.rest;
}

-- ---- the lines

frame_length : (i code : ℕ) → length (written (coded_frame i code)) ≡ 19
unfolding written
frame_length i code = refl

frames_length : (i : ℕ) (codes : List ℕ) → length (coded_frames i codes) ≡ 19 * length codes
unfolding coded_frames
frames_length i [] = refl
frames_length i (code ∷ codes) =
    let later = frames_length (suc i) codes in
    simp (length-append, frame_length) (omega arith)

pub lines_end : (codes : List ℕ) {before after : List ℕ} {at r : ℕ} → Put (coded_frames 0 codes) at before r after
    → r ≡ at + 19 * length codes
lines_end codes p = omega (arith, frames_length 0 codes)

-- the first i lines are put: to put the others from the place on gives the whole
pub record Putting (codes : List ℕ) (at : ℕ) (before buffer : List ℕ) (place i : ℕ) : Type 0 where
  pub within : i ≤ length codes
  pub place_is : place ≡ at + 19 * i
  pub as_long : length buffer ≡ length before
  pub rest : sets buffer place (coded_frames i (drop i codes)) ≡ sets before at (coded_frames 0 codes)

pub putting_goes_on : {codes before buffer after bytes : List ℕ} {at place i r : ℕ} → Putting codes at before buffer place i
    → i < length codes → bytes ≡ coded_frame i (get_or codes i 0) → Put (written bytes) place buffer r after
    → Putting codes at before after r (i + 1)
unfolding coded_frames
putting_goes_on {codes} {i = i} w more e p =
    let q = rw e at p in
    record {
      within = omega arith;
      place_is = omega (arith, frame_length i (get_or codes i 0));
      as_long = put_keeps_length q ∙ w.as_long;
      rest = rw (q.buffer_is, q.next, add-one i, ← sets_append) (rw (drop-cons codes i 0 more) at w.rest);
    }

pub putting_ends : {codes before buffer : List ℕ} {at place i : ℕ} → Putting codes at before buffer place i → length codes ≤ i
    → Put (coded_frames 0 codes) at before place buffer
unfolding coded_frames
putting_ends {codes} w done = record {
  next = omega (arith, frames_length 0 codes);
  buffer_is = rw (drop_of_length-le codes done) at w.rest;
}

-- ---- what the numbers mean

-- what division and remainder take from a number that codes an outcome
record Parts (row keys stopped mark code : ℕ) : Type 0 where
  row_is : code % 65536 ≡ row
  keys_are : code / 65536 % 65536 ≡ keys
  stopped_is : code / 4294967296 % 2 ≡ stopped
  mark_is : code / 8589934592 % 2 ≡ mark

parts_found : (row keys stopped mark : ℕ) → row < 65536 → keys < 65536 → stopped < 2 → mark < 2
    → Parts row keys stopped mark (row + 65536 * keys + 4294967296 * stopped + 8589934592 * mark + 17179869184)
parts_found row keys stopped mark r k s m = record {
  row_is = omega arith;
  keys_are = omega arith;
  stopped_is = omega arith;
  mark_is = omega arith;
}

stopped_is_bit : (o : Outcome) → stopped_byte o < 2
stopped_is_bit (value v) = omega arith
stopped_is_bit none = omega arith

mark_is_bit : (b : Bool) → cond {A = ℕ} b 1 0 < 2
mark_is_bit true = omega arith
mark_is_bit false = omega arith

frame_decoded : (i : ℕ) (f : Finished) → f.row < 65536 → f.keys < 65536 → coded_frame i (outcome_code f) ≡ line_frame i f
unfolding outcome_code
frame_decoded i f row_fits keys_fit =
    let parts = parts_found _ _ _ _ row_fits keys_fit (stopped_is_bit f.outcome) (mark_is_bit f.breach) in
    rw (parts.row_is, parts.keys_are, parts.stopped_is, parts.mark_is)

frames_decoded : (other : Finished) (i : ℕ) (fs : List Finished)
    → ((j : ℕ) → j < length fs → (get_or fs j other).row < 65536) → ((j : ℕ) → j < length fs → (get_or fs j other).keys < 65536)
    → coded_frames i (map outcome_code fs) ≡ line_frames i fs
unfolding coded_frames line_frames
frames_decoded other i [] rows keys = refl
frames_decoded other i (f ∷ fs) rows keys =
    let first = frame_decoded i f (rows 0 (omega arith)) (keys 0 (omega arith)) in
    let later = frames_decoded other (suc i) fs (λ j h. rows (suc j) (omega arith)) (λ j h. keys (suc j) (omega arith)) in
    rw (first, later)

lines_decoded : {fs : List Finished} {codes : List ℕ} → Lines fs codes → coded_frames 0 codes ≡ line_frames 0 fs
lines_decoded {fs} l = rw l.codes_are (frames_decoded _ 0 fs l.rows_fit l.keys_fit)

-- ---- the whole

pub refusal_printed : {before after bytes : List ℕ} {r : ℕ} (number frame : ℕ) → before ≡ zeros (length before) → 9 ≤ length before
    → bytes ≡ refusal_frame number frame → Put (written bytes) 0 before r after
    → Printed (written (refusal_frame number frame)) (length before) r after
refusal_printed number frame empty room e p = put_on_zeros empty (simp written_length room) (rw e at p)

pub report_printed : {before with_verdict with_lines after codes first last : List ℕ} {m k r : ℕ} (v : Verdict) (ending breach : ℕ)
    → before ≡ zeros (length before) → 19476 ≤ length before → length codes ≤ 1024
    → first ≡ verdict_frame v → Put (written first) 0 before m with_verdict
    → Put (coded_frames 0 codes) m with_verdict k with_lines
    → last ≡ end_bytes ending breach → Put (written last) k with_lines r after
    → (fs : List Finished) → Lines fs codes → Printed (report_bytes v fs ending breach) (length before) r after
report_printed v ending breach empty room few f p q l s fs lines =
    let whole = put_then_put (put_then_put (rw f at p) q) (rw l at s) in
    rw (lines_decoded lines) at (put_on_zeros empty (simp (length-append, written_length, frames_length) (omega arith)) whole)
