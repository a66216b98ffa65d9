-- Laws on lists whose elements all are as a statement says, or of which some passes a test.
-- Assumes nothing.
use Prim.Native.Nat.{ℕ, zero, suc}
use mathlib.Core.Bool.{Bool, true, false, cond}
use mathlib.Core.List.{List, [], ◌∷◌, ◌++◌}
use native.Mathlib.Omega.{arith}
use lib.Dec.{T, ltb, ltb→lt, lt→ltb}
use lib.ListN.{get_or, length}
use Rattle.model.specs.Basics.{All, index_by, some}

pub all_map : {A : Type 0} (P Q : A → Type 0) → ((a : A) → P a → Q a) → (l : List A) → All P l → All Q l
all_map P Q f [] h = tt
all_map P Q f (x ∷ xs) h = (f x h.0, all_map P Q f xs h.1)

pub all_snoc : {A : Type 0} (P : A → Type 0) (l : List A) (x : A) → All P l → P x → All P (l ++ x ∷ [])
all_snoc P [] x h p = (p, tt)
all_snoc P (y ∷ ys) x h p = (h.0, all_snoc P ys x h.1 p)

pub all_get_d : {A : Type 0} (P : A → Type 0) (l : List A) (i : ℕ) (d : A) → All P l → P d → P (get_or l i d)
all_get_d P [] i d h p = p
all_get_d P (x ∷ xs) zero d h p = h.0
all_get_d P (x ∷ xs) (suc i) d h p = all_get_d P xs i d h.1 p

pub all_append : {A : Type 0} (P : A → Type 0) (l m : List A) → All P (l ++ m) → All P l × All P m
all_append P [] m h = (tt, h)
all_append P (x ∷ xs) m h = let r = all_append P xs m h.1 in ((h.0, r.0), r.1)

-- where what holds of every element keeps it from passing a test, none passes
pub none_passes : {A : Type 0} (P : A → Type 0) (q : A → Bool) → ((a : A) → P a → T (q a) → ⊥) → (l : List A) → All P l → T (some q l) → ⊥
unfolding index_by
none_passes P q f [] h t = t
none_passes P q f (x ∷ xs) h t = go (q x) (f x h.0) (none_passes P q f xs h.1) t
  where
    go : (b : Bool) → (T b → ⊥) → (T (some q xs) → ⊥) → T (ltb (cond b zero (suc (index_by q xs))) (suc (length xs))) → ⊥
    go true here later t = here tt
    go false here later t = later (lt→ltb (index_by q xs) (length xs) (let l = ltb→lt (suc (index_by q xs)) (suc (length xs)) t in omega arith))
