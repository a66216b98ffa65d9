-- Laws of lists and tests that several subjects share: one element after the other, and lists that are filled up to a length.
-- Assumes nothing.
use mathlib.Core.Path.{◌≡◌, refl, sym}
use mathlib.Core.Bool.{Bool, true, false, ◌&&◌, false≢true}
use mathlib.Core.List.{List, [], ◌∷◌, ◌++◌, map, map-append, append_assoc, append-nil}
use Prim.Native.Nat.{ℕ, zero, suc, ◌+◌, ◌-◌, ◌≤◌, ◌<◌}
use native.Mathlib.Numerals.{add-one}
use native.Mathlib.Omega.{arith}
use lib.Dec.{T}
use lib.ListN.{length, get_or, take, drop, set, replicate, length-append, length-map, length-replicate, replicate-append-replicate}
use lib.ListN.{length-drop, drop_of_length-le}
use lib.Seq.{drop-cons, take-suc, take_at, drop_at, drop-drop, set_at, take_all, length-take-le}
use Rattle.frames.specs.Parts.{filled}

-- ---- one element, and the rest

pub drop_more : {A : Type 0} (z : A) (s : List A) (i : ℕ) → i < length s → drop i s ≡ get_or s i z ∷ drop (i + 1) s
drop_more z s i h = rw (add-one, drop-cons s i z)

pub take_more : {A : Type 0} (z : A) (s : List A) (i : ℕ) → i < length s → take (i + 1) s ≡ take i s ++ get_or s i z ∷ []
take_more z s i h = rw (add-one, take-suc s i z)

-- a part that goes to the end is all of the rest
pub whole_rest : {A : Type 0} (k : ℕ) (s : List A) → take (length s - k) (drop k s) ≡ drop k s
whole_rest k s = take_all (length s - k) (drop k s) (omega (arith, length-drop k s))

-- ---- tests

pub is_true : (t : Bool) → T t → t ≡ true
is_true true h = refl
is_true false h = absurd h

pub both : (a b : Bool) → a && b ≡ true → (a ≡ true) × (b ≡ true)
both true b e = (refl, e)
both false b e = absurd (false≢true e)

-- ---- filled up to k
module _ {A : Type 0} (k : ℕ) (z : A) where
  pub filled_first : (xs : List A) → take (length xs) (filled k z xs) ≡ xs
  unfolding filled
  filled_first xs = take_at xs (replicate (k - length xs) z) (length xs) refl

  pub filled_length : (xs : List A) → length xs ≤ k → length (filled k z xs) ≡ k
  unfolding filled
  filled_length xs h = rw (length-append, length-replicate) (omega arith)

  -- the place behind the last element is written
  pub filled_more : (xs : List A) (x : A) (n : ℕ) → length xs ≡ n → n < k → set (filled k z xs) n x ≡ filled k z (xs ++ x ∷ [])
  unfolding filled
  filled_more xs x n e h =
      let left : k - length xs ≡ suc (k - length (xs ++ x ∷ [])) = omega (arith, length-append xs (x ∷ [])) in
      rw (left, set_at xs z (replicate (k - length (xs ++ x ∷ [])) z) x n e) (sym (append_assoc xs (x ∷ []) _))

  -- the n places behind the last element are written
  pub filled_part : (xs ys : List A) (at n : ℕ) → length xs ≡ at → length ys ≡ n → at + n ≤ k
      → take at (filled k z xs) ++ ys ++ drop (at + n) (filled k z xs) ≡ filled k z (xs ++ ys)
  unfolding filled
  filled_part xs ys at n e l h =
      let rest = k - length (xs ++ ys) in
      let left : k - length xs ≡ n + rest = omega (arith, length-append xs ys) in
      rw (
        left,
        take_at xs (replicate (n + rest) z) at e,
        ← (drop-drop n at (xs ++ replicate (n + rest) z)),
        drop_at xs (replicate (n + rest) z) at e,
        ← (replicate-append-replicate n rest z),
        drop_at (replicate n z) (replicate rest z) n (length-replicate n z),
      )

map_replicate : {A B : Type 0} (f : A → B) (n : ℕ) (z : A) → map f (replicate n z) ≡ replicate n (f z)
map_replicate f zero z = refl
map_replicate f (suc n) z = rw (map_replicate f n z)

pub filled_map : {A B : Type 0} (f : A → B) (k : ℕ) (z : A) (xs : List A) → map f (filled k z xs) ≡ filled k (f z) (map f xs)
unfolding filled
filled_map f k z xs = rw (map-append f xs (replicate (k - length xs) z), length-map xs f, map_replicate f (k - length xs) z)

-- ---- a list written over another, the first i elements so far
pub over_more : {A : Type 0} (z : A) (xs d : List A) (i : ℕ) → i < length xs → i < length d
    → set (take i xs ++ drop i d) i (get_or xs i z) ≡ take (i + 1) xs ++ drop (i + 1) d
over_more z xs d i h l =
    rw (
      drop_more z d i l,
      take_more z xs i h,
      set_at (take i xs) (get_or d i z) (drop (i + 1) d) (get_or xs i z) i
          (length-take-le i xs (omega arith)),
    )
    (sym (append_assoc (take i xs) (get_or xs i z ∷ []) (drop (i + 1) d)))

pub over_done : {A : Type 0} (xs d : List A) (i : ℕ) → length xs ≤ i → length d ≤ i → take i xs ++ drop i d ≡ xs
over_done xs d i h l = rw (take_all i xs h, drop_of_length-le d {i = i} l) (append-nil xs)
