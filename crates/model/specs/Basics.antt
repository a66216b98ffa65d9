-- The few words that all the other definitions use: how refusals are written, and tests on lists.
use Rattle.std.specs.Prelude.{ℕ, zero, suc, Bool, true, false, cond, ◌&&◌, List, [], ◌∷◌, ltb, length}

infixr 5 ◌else◌then◌
-- `met else n then rest`: the refusal n where the rule is not met, and otherwise what the rest says; 0 is no refusal
abbrev pub ◌else◌then◌ : Bool → ℕ → ℕ → ℕ
◌else◌then◌ true n rest = rest
◌else◌then◌ false n rest = n

abbrev pub implies : Bool → Bool → Bool
implies true b = b
implies false b = true

-- the first index whose element passes the test, or the list's length where none does
unfoldable pub index_by : {A : Type 0} → (A → Bool) → List A → ℕ
index_by q [] = zero
index_by q (x ∷ xs) = let later = suc (index_by q xs) in cond (q x) zero later

-- some element passes the test
abbrev pub some : {A : Type 0} → (A → Bool) → List A → Bool
some q xs = ltb (index_by q xs) (length xs)

-- every element passes the test
abbrev pub every : {A : Type 0} → (A → Bool) → List A → Bool
every q [] = true
every q (x ∷ xs) = q x && every q xs

-- the same of a statement
abbrev pub All : {A : Type 0} → (A → Type 0) → List A → Type 0
All P [] = Unit {0}
All P (x ∷ xs) = P x × All P xs

-- the elements that pass the test, in their order
unfoldable pub those : {A : Type 0} → (A → Bool) → List A → List A
those q [] = []
those q (x ∷ xs) = let rest = those q xs in cond (q x) (x ∷ rest) rest

-- k numbers, from n on
unfoldable pub up_from : ℕ → ℕ → List ℕ
up_from n zero = []
up_from n (suc k) = n ∷ up_from (suc n) k
