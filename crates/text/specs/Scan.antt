-- What scanning one line of an input answers and leaves in the frame's buffer, by the model's lines and digits.
use Rattle.std.specs.Prelude.{ℕ, suc, ◌+◌, min, ◌≡◌, Bool, false, cond, ◌&&◌, List, [], ◌∷◌, T, eqb, Option, Some, None, length, take, drop}
use Rattle.model.specs.Text.{newline, TextLine, lines_of, is_digit, well_written, bytes_of}
use Rattle.text.specs.declared.Scanned.{Scanned}

-- how many of a line's bytes a buffer of room bytes takes
abbrev pub taken : ℕ → TextLine → ℕ
taken room l = min (length (bytes_of l.body)) room

-- the place after a line that begins at a place
abbrev pub after : ℕ → TextLine → ℕ
after at l = at + length l.body + 1

unfoldable pub scanned : ℕ → ℕ → TextLine → Option Scanned
scanned room at l = cond (well_written l) (Some (record { len = taken room l; next = after at l })) None

-- the answer at the line l, with ls after it; a well written line's bytes stand at the front of the buffer; the next line
-- begins at the place answered
pub record ScanIs (input : List ℕ) (at : ℕ) (l : TextLine) (ls : List TextLine) (r : Option Scanned) (before exit : List ℕ) : Type 0 where
  pub answer : r ≡ scanned (length before) at l
  pub front : T (well_written l) → take (taken (length before) l) exit ≡ take (taken (length before) l) (bytes_of l.body)
  pub next : T (well_written l) → lines_of (drop (after at l) input) ≡ ls
  pub length_kept : length exit ≡ length before

-- how many pairs of digits stand at the front
unfoldable pub pairs_in : List ℕ → ℕ
pairs_in [] = 0
pairs_in (x ∷ []) = 0
pairs_in (x ∷ y ∷ s) = let later = suc (pairs_in s) in cond (is_digit x && is_digit y) later 0

abbrev pub starts_with_newline : List ℕ → Bool
starts_with_newline [] = false
starts_with_newline (x ∷ s) = eqb x newline

-- how many pairs there are, and their bytes at the front of the buffer, as many as it has room for
pub record PairsAre (s : List ℕ) (r : ℕ) (before exit : List ℕ) : Type 0 where
  pub count : r ≡ pairs_in s
  pub front : take (min r (length before)) exit ≡ take (min r (length before)) (bytes_of s)
  pub length_kept : length exit ≡ length before
