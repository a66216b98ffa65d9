-- Laws on tests that compute to true or false, and how a test over all types, or over a range of numbers, is used at one of them.
-- Assumes nothing.
use Prim.Native.Nat.{ℕ, zero, suc, ◌+◌, ◌≤◌, ◌<◌}
use mathlib.Core.Path.{◌≡◌, sym, subst}
use mathlib.Core.Bool.{Bool, true, false, ◌&&◌, ◌||◌}
use mathlib.Core.List.{◌∷◌}
use native.Mathlib.Omega.{arith}
use native.Mathlib.Decide.{ℕ_discrete}
use lib.Dec.{T}
use Rattle.model.specs.Basics.{◌else◌then◌, implies, every, up_from}
use Rattle.model.specs.Types.{types}
use Rattle.model.specs.declared.Ty.{Ty}
use Rattle.model.specs.declared.Ty.TheVariants.{Un, TData, Data, Wrap, Seed, Any, None}

pub and_left : (a b : Bool) → T (a && b) → T a
and_left true b t = tt
and_left false b t = t

pub and_right : (a b : Bool) → T (a && b) → T b
and_right true b t = t
and_right false b t = absurd t

pub and_both : (a b : Bool) → T a → T b → T (a && b)
and_both true b t u = u
and_both false b t u = t

pub either : {P : Type 0} (a b : Bool) → T (a || b) → (T a → P) → (T b → P) → P
either true b t f g = f tt
either false b t f g = g t

pub apply : (a b : Bool) → T (implies a b) → T a → T b
apply true b t u = t
apply false b t u = absurd u

pub apply₂ : (a b c : Bool) → T (implies a (implies b c)) → T a → T b → T c
apply₂ true b c t u = apply b c t
apply₂ false b c t u = absurd u

pub apply₃ : (a b c d : Bool) → T (implies a (implies b (implies c d))) → T a → T b → T c → T d
apply₃ true b c d t u = apply₂ b c d t
apply₃ false b c d t u = absurd u

-- a rule that is refused by number n + 1 and is not refused is met, and so are the rest
pub met : (b : Bool) (n rest : ℕ) → (b else suc n then rest) ≡ 0 → T b × (rest ≡ 0)
met true n rest e = (tt, e)
met false n rest e = absurd (omega arith)

-- ---- a test at each type, no type among them

abbrev pub at_all : (Ty → Bool) → Bool
at_all f = every f (None ∷ types)

pub each : (f : Ty → Bool) → T (at_all f) → (a : Ty) → T (f a)
each f h Un = search (and_left, and_right) depth 9
each f h TData = search (and_left, and_right) depth 9
each f h Data = search (and_left, and_right) depth 9
each f h Wrap = search (and_left, and_right) depth 9
each f h Seed = search (and_left, and_right) depth 9
each f h Any = search (and_left, and_right) depth 9
each f h None = search and_left

pub each₂ : (f : Ty → Ty → Bool) → T (at_all (λ a. at_all (f a))) → (a b : Ty) → T (f a b)
each₂ f h a b = each (f a) (each (λ x. at_all (f x)) h a) b

pub each₃ : (f : Ty → Ty → Ty → Bool) → T (at_all (λ a. at_all (λ b. at_all (f a b)))) → (a b c : Ty) → T (f a b c)
each₃ f h a b c = each (f a b) (each₂ (λ x y. at_all (f x y)) h a b) c

pub each₅ : (f : Ty → Ty → Ty → Ty → Ty → Bool) → T (at_all (λ a. at_all (λ b. at_all (λ c. at_all (λ d. at_all (f a b c d))))))
    → (a b c d e : Ty) → T (f a b c d e)
each₅ f h a b c d e = each₂ (f a b c) (each₃ (λ x y z. at_all (λ d. at_all (f x y z d))) h a b c) d e

-- ---- a test at each number of a range

-- m is the first number of a range, or one of the others
pub first_or_later : {P : Type 0} (n k m : ℕ) → n ≤ m → m < n + suc k → (m ≡ n → P) → (suc n ≤ m → m < suc n + k → P) → P
first_or_later {P} n k m low high here later = go (ℕ_discrete m n)
  where
    go : Dec (m ≡ n) → P
    go (yes e) = here e
    go (no d) = later (omega arith) (omega arith)

pub every_in_range : (q : ℕ → Bool) (n k : ℕ) → T (every q (up_from n k)) → (m : ℕ) → n ≤ m → m < n + k → T (q m)
unfolding up_from
every_in_range q n zero t m low high = absurd (omega arith)
every_in_range q n (suc k) t m low high =
    first_or_later n k m low high
    (λ e. subst (λ (i : ℕ). T (q i)) (sym e) (and_left (q n) (every q (up_from (suc n) k)) t))
    (λ l h. every_in_range q (suc n) k (and_right (q n) (every q (up_from (suc n) k)) t) m l h)

-- ---- a number that is none of the first ones

-- what a match on the numbers 0 to k - 1 knows in its last case, as Rattle states it
abbrev pub Apart : ℕ → ℕ → Type 0
Apart zero n = Unit {0}
Apart (suc k) n = Apart k n × (n ≡ k → ⊥)

pub past : (k n : ℕ) → Apart k n → k ≤ n
past zero n h = omega arith
past (suc k) n h = let below = past k n h.0 in omega (arith, h.1)
