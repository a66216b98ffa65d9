-- What a function gives at the numbers below a bound, as a table that antt computes. An array of the code that is this table holds
-- the function's values; and two functions whose tables are equal are the same below the bound, so that one equation between
-- computed tables proves a fact of every number, or of every pair of numbers, in reach.
-- Assumes nothing.
use mathlib.Core.Path.{◌≡◌, sym, ap, ◌∙◌}
use mathlib.Core.List.{List, [], ◌∷◌}
use Prim.Native.Nat.{ℕ, zero, suc, ◌+◌, ◌<◌}
use native.Mathlib.Omega.{arith}
use lib.ListN.{get_or}

-- the values of f at n numbers, from i on
abbrev pub table : {A : Type 0} → (ℕ → A) → ℕ → ℕ → List A
table f i zero = []
table f i (suc n) = f i ∷ table f (suc i) n

entry_from : {A : Type 0} (f : ℕ → A) (i n k : ℕ) (d : A) → k < n → get_or (table f i n) k d ≡ f (i + k)
entry_from f i zero k d h = absurd (omega arith)
entry_from f i (suc n) zero d h = ap f (omega arith)
entry_from f i (suc n) (suc k) d h = entry_from f (suc i) n k d (omega arith) ∙ ap f (omega arith)

pub entry_of_table : {A : Type 0} (f : ℕ → A) (n k : ℕ) (d : A) → k < n → get_or (table f 0 n) k d ≡ f k
entry_of_table f n k d h = entry_from f 0 n k d h ∙ ap f (omega arith)

pub same_below : {A : Type 0} (f g : ℕ → A) (n : ℕ) → table f 0 n ≡ table g 0 n → (k : ℕ) → k < n → f k ≡ g k
same_below f g n e k h = sym (entry_of_table f n k (f 0) h) ∙ ap (λ t. get_or t k (f 0)) e ∙ entry_of_table g n k (f 0) h

pub same_at_pairs : {A : Type 0} (f g : ℕ → ℕ → A) (n m : ℕ) → table (λ a. table (f a) 0 m) 0 n ≡ table (λ a. table (g a) 0 m) 0 n
    → (a b : ℕ) → a < n → b < m → f a b ≡ g a b
same_at_pairs f g n m e a b p q = same_below (f a) (g a) m (same_below (λ x. table (f x) 0 m) (λ x. table (g x) 0 m) n e a p) b q
