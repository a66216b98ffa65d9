-- The breach mark over rows: some guarded row passes, or each of them fails, and so does the model's test.
-- Assumes nothing.
use Prim.Native.Nat.{ℕ, zero, suc, ◌<◌}
use mathlib.Core.Path.{◌≡◌, refl, sym, ◌∙◌}
use mathlib.Core.Bool.{Bool, true, false, cond, ◌||◌, or-true}
use mathlib.Core.List.{List, [], ◌∷◌}
use native.Mathlib.Omega.{arith}
use Rattle.std.specs.Bool.{MatchBool}
use Rattle.std.specs.List.{HoldsAt, AllWithin}
use lib.Dec.{ltb, leb-zero, leb-suc-suc}
use lib.ListN.{length, get_or}
use Rattle.model.specs.Basics.{index_by, some}

pub some_cons : {A : Type 0} (q : A → Bool) (x : A) (xs : List A) → some q (x ∷ xs) ≡ (q x || some q xs)
unfolding index_by
some_cons q x xs = go (q x)
  where
    go : (b : Bool) → ltb (cond b zero (suc (index_by q xs))) (suc (length xs)) ≡ (b || some q xs)
    go true = leb-suc-suc zero (length xs) ∙ leb-zero (length xs)
    go false = leb-suc-suc (suc (index_by q xs)) (length xs)

some_passes : (q : ℕ → Bool) (xs : List ℕ) (k : ℕ) → k < length xs → q (get_or xs k 0) ≡ true → some q xs ≡ true
some_passes q [] k h e = absurd (omega arith)
some_passes q (x ∷ xs) zero h e = some_cons q x xs ∙ rw e
some_passes q (x ∷ xs) (suc k) h e = some_cons q x xs ∙ rw (some_passes q xs k (omega arith) e) (or-true (q x))

each_fails : (q : ℕ → Bool) (xs : List ℕ) → ((k : ℕ) → k < length xs → q (get_or xs k 0) ≡ false) → some q xs ≡ false
unfolding index_by
each_fails q [] f = refl
each_fails q (x ∷ xs) f = some_cons q x xs ∙ rw (f 0 (omega arith), each_fails q xs (λ k h. f (suc k) (omega arith)))

-- what `any` tells of a test that is known of numbers below n
abbrev pub AnyTold : Bool → (ℕ → Bool) → ℕ → List ℕ → Type 0
AnyTold r q n xs =
    MatchBool r ((k : ℕ) × (k < length xs) × HoldsAt (λ x. x < n → q x ≡ true) xs k) (AllWithin (λ x. x < n → q x ≡ false) xs 0 (length xs))

pub any_is_some : (r : Bool) (q : ℕ → Bool) (n : ℕ) (xs : List ℕ) → ((k : ℕ) → k < length xs → get_or xs k 0 < n) → AnyTold r q n xs
    → r ≡ some q xs
any_is_some true q n xs below (k, h, p) = sym (some_passes q xs k h (p 0 (below k h)))
any_is_some false q n xs below f = sym (each_fails q xs (λ k h. f k 0 (omega arith) h (below k h)))
