-- Lines of hexadecimal, read and written: the scope's section "Files", first paragraph.
use Rattle.std.specs.Prelude.{ℕ, ◌+◌, ◌*◌, ◌/◌, ◌%◌, Bool, true, false, cond, ◌&&◌, List, [], ◌∷◌, eqb, ltb, get_or, length}
use Rattle.model.specs.Basics.{index_by}

abbrev pub newline : ℕ
newline = 10

-- a line without its newline, and whether it had one
pub record TextLine : Type 0 where
  pub body : List ℕ
  pub ended : Bool

-- a byte before the first line's body; where nothing follows it, it is a line that lacks its newline
abbrev pub on_first : ℕ → List TextLine → List TextLine
on_first x [] = record { body = x ∷ []; ended = false } ∷ []
on_first x (l ∷ ls) = record { body = x ∷ l.body; ended = l.ended } ∷ ls

unfoldable pub lines_of : List ℕ → List TextLine
lines_of [] = []
lines_of (x ∷ s) = cond (eqb x newline) (record { body = []; ended = true } ∷ lines_of s) (on_first x (lines_of s))

-- the digits 0 to 9 and a to f, as bytes
abbrev pub digits : List ℕ
digits = 48 ∷ 49 ∷ 50 ∷ 51 ∷ 52 ∷ 53 ∷ 54 ∷ 55 ∷ 56 ∷ 57 ∷ 97 ∷ 98 ∷ 99 ∷ 100 ∷ 101 ∷ 102 ∷ []

-- what a digit is worth, and 16 for every other byte
unfoldable pub digit_value : ℕ → ℕ
unfolding index_by
digit_value x = index_by (eqb x) digits

abbrev pub is_digit : ℕ → Bool
is_digit x = ltb (digit_value x) 16

-- pairs of digits and nothing else
unfoldable pub in_pairs : List ℕ → Bool
in_pairs [] = true
in_pairs (x ∷ []) = false
in_pairs (x ∷ y ∷ s) = is_digit x && is_digit y && in_pairs s

-- a positive even count of digits, then a newline
unfoldable pub well_written : TextLine → Bool
well_written l = l.ended && ltb 0 (length l.body) && in_pairs l.body

-- the bytes that pairs of digits stand for
unfoldable pub bytes_of : List ℕ → List ℕ
bytes_of [] = []
bytes_of (x ∷ []) = []
bytes_of (x ∷ y ∷ s) = (16 * digit_value x + digit_value y) ∷ bytes_of s

-- numbers are big-endian
unfoldable pub number_from : ℕ → List ℕ → ℕ
number_from n [] = n
number_from n (b ∷ bs) = number_from (256 * n + b) bs

-- Writing: a frame's bytes as a line.

abbrev pub two_bytes : ℕ → List ℕ
two_bytes n = (n / 256 % 256) ∷ (n % 256) ∷ []

unfoldable pub written : List ℕ → List ℕ
written [] = newline ∷ []
written (b ∷ bs) = get_or digits (b / 16) 0 ∷ get_or digits (b % 16) 0 ∷ written bs
