-- Big-endian numbers of two and of eight bytes are the model's.
-- Assumes nothing.
use mathlib.Core.Path.{◌≡◌}
use mathlib.Core.List.{List, [], ◌∷◌}
use Prim.Native.Nat.{ℕ}
use native.Mathlib.Omega.{arith}
use lib.ListN.{length, get_or}
use Rattle.std.specs.Int.{w16, w64, from_be_bytes}
use Rattle.model.specs.Text.{number_from}

pub two_bytes : (a b : ℕ) → from_be_bytes w16 (a ∷ b ∷ []) ≡ number_from 0 (a ∷ b ∷ [])
unfolding number_from
two_bytes a b = omega arith

eight_bytes : (a b c d e f g h : ℕ)
    → from_be_bytes w64 (a ∷ b ∷ c ∷ d ∷ e ∷ f ∷ g ∷ h ∷ []) ≡ number_from 0 (a ∷ b ∷ c ∷ d ∷ e ∷ f ∷ g ∷ h ∷ [])
unfolding number_from
eight_bytes a b c d e f g h = omega arith

-- the eight bytes of a list
abbrev pub eight : List ℕ → List ℕ
eight s = get_or s 0 0 ∷ get_or s 1 0 ∷ get_or s 2 0 ∷ get_or s 3 0 ∷ get_or s 4 0 ∷ get_or s 5 0 ∷ get_or s 6 0 ∷ get_or s 7 0 ∷ []

pub number_of : (s : List ℕ) → length s ≡ 8 → from_be_bytes w64 (eight s) ≡ number_from 0 s
number_of [] n = absurd (omega arith)
number_of (a ∷ []) n = absurd (omega arith)
number_of (a ∷ b ∷ []) n = absurd (omega arith)
number_of (a ∷ b ∷ c ∷ []) n = absurd (omega arith)
number_of (a ∷ b ∷ c ∷ d ∷ []) n = absurd (omega arith)
number_of (a ∷ b ∷ c ∷ d ∷ e ∷ []) n = absurd (omega arith)
number_of (a ∷ b ∷ c ∷ d ∷ e ∷ f ∷ []) n = absurd (omega arith)
number_of (a ∷ b ∷ c ∷ d ∷ e ∷ f ∷ g ∷ []) n = absurd (omega arith)
number_of (a ∷ b ∷ c ∷ d ∷ e ∷ f ∷ g ∷ h ∷ []) n = eight_bytes a b c d e f g h
number_of (a ∷ b ∷ c ∷ d ∷ e ∷ f ∷ g ∷ h ∷ i ∷ s) n = absurd (omega arith)
