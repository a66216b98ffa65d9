-- Laws on numbers with zeros after them, and with one more number.
-- Assumes nothing.
use Prim.Native.Nat.{ℕ, zero, suc, ◌-◌, ◌≤◌, ◌<◌}
use mathlib.Core.Path.{◌≡◌, refl, sym, ◌∙◌}
use mathlib.Core.List.{List, [], ◌∷◌, ◌++◌}
use native.Mathlib.Omega.{arith}
use lib.ListN.{length, get_or, take, set, length-append, length-replicate}
use lib.Seq.{set_at, take_at, append_snoc}
use Rattle.model.specs.Tables.{zeros, padded}

zero_at_end : (xs : List ℕ) (n : ℕ) → get_or (xs ++ zeros n) (length xs) 0 ≡ 0
zero_at_end [] zero = refl
zero_at_end [] (suc n) = refl
zero_at_end (x ∷ xs) n = zero_at_end xs n

module _ (len : ℕ) (xs : List ℕ) where
  pub length_padded : length xs ≤ len → length (padded len xs) ≡ len
  unfolding padded
  length_padded fit = simp (length-append, length-replicate) (omega arith)

  pub take_padded : (n : ℕ) → length xs ≡ n → take n (padded len xs) ≡ xs
  unfolding padded
  take_padded n e = take_at xs (zeros (len - length xs)) n e

  pub zero_next : (n : ℕ) → length xs ≡ n → get_or (padded len xs) n 0 ≡ 0
  unfolding padded
  zero_next n e = rw (← e) (zero_at_end xs (len - length xs))

  pub set_next : (x : ℕ) → length xs < len → (n : ℕ) → length xs ≡ n → set (padded len xs) n x ≡ padded len (xs ++ x ∷ [])
  unfolding padded
  set_next x room n e =
      let left : ℕ = len - length (xs ++ x ∷ []) in
      let one_fewer : len - length xs ≡ suc left = omega (arith, length-append xs (x ∷ [])) in
      rw one_fewer (set_at xs 0 (zeros left) x n e ∙ sym (append_snoc xs x (zeros left)))
