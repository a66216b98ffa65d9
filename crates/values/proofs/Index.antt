-- Laws on the first index that passes a test, and on tests and maps that agree at every place of a list.
-- Assumes nothing.
use Prim.Native.Nat.{ℕ, zero, suc, ◌+◌, ◌≤◌, ◌<◌}
use mathlib.Core.Path.{◌≡◌, refl, sym, ap, ◌∙◌}
use mathlib.Core.Bool.{Bool, true, cond, not}
use mathlib.Core.List.{List, [], ◌∷◌, ◌++◌, map}
use native.Mathlib.Omega.{arith}
use native.Mathlib.Decide.{dec_lt}
use lib.Dec.{ltb, eqb}
use lib.ListN.{length, get_or}
use borrow.Author.Tests.{eq-eqb, ne_eqb}
use Rattle.std.specs.Prelude.{Some, None, position}
use Rattle.std.specs.List.{position_or_len}
use Rattle.std.proofs.lemmas.List.Folds.{prefix_len-append}
use Rattle.std.proofs.lemmas.List.Recursion.{is_position_or_len}
use Rattle.std.proofs.lemmas.List.Sums.{prefix_len-le-length, passes_at_first}
use Rattle.model.specs.Basics.{index_by}

module _ {A : Type 0} (q : A → Bool) where
  -- the library's word for the same place
  as_place : (l : List A) → index_by q l ≡ position_or_len q l
  unfolding index_by
  as_place l = is_position_or_len (index_by q) q refl (λ x xs. ap (cond (q x) 0) (omega arith)) l

  pub position_by_index : (l : List A) → position q l ≡ cond (ltb (index_by q l) (length l)) (Some (index_by q l)) None
  position_by_index l = rw (as_place l)

  pub index_at_most_length : (l : List A) → index_by q l ≤ length l
  index_at_most_length l = rw (as_place l) (prefix_len-le-length (λ x. not (q x)) l)

  pub passes_at_index : (l : List A) (d : A) → index_by q l < length l → q (get_or l (index_by q l) d) ≡ true
  passes_at_index l d h = rw (as_place l) (passes_at_first q l d (rw (as_place l) at h))

  index_of_append : (l m : List A) → index_by q (l ++ m) ≡ cond (eqb (index_by q l) (length l)) (length l + index_by q m) (index_by q l)
  index_of_append l m = rw (as_place (l ++ m), as_place l, as_place m) (prefix_len-append (λ x. not (q x)) l m)

  pub index_kept_by_append : (l m : List A) → index_by q l < length l → index_by q (l ++ m) ≡ index_by q l
  index_kept_by_append l m h = index_of_append l m ∙ rw (ne_eqb (index_by q l) (length l) (λ e. omega arith))

  pub index_goes_on_after : (l m : List A) → index_by q l ≡ length l → index_by q (l ++ m) ≡ length l + index_by q m
  index_goes_on_after l m e = index_of_append l m ∙ rw (eq-eqb (index_by q l) (length l) e)

  pub index_within_first : (l m : List A) → index_by q (l ++ m) < length l → index_by q l ≡ index_by q (l ++ m)
  index_within_first l m h = go (dec_lt (index_by q l) (length l))
    where
      go : Dec (index_by q l < length l) → index_by q l ≡ index_by q (l ++ m)
      go (yes p) = sym (index_kept_by_append l m p)
      go (no p) = absurd (omega (arith, index_goes_on_after l m (omega (arith, index_at_most_length l))))

module _ {A : Type 0} (d : A) where
  pub index_of_map : (f : A → ℕ) (q : ℕ → Bool) (q' : A → Bool) (l : List A)
      → ((k : ℕ) → k < length l → q (f (get_or l k d)) ≡ q' (get_or l k d)) → index_by q (map f l) ≡ index_by q' l
  unfolding index_by
  index_of_map f q q' [] same = refl
  index_of_map f q q' (x ∷ xs) same =
      rw (same zero (omega arith), index_of_map f q q' xs (λ k l. same (suc k) (omega arith)))

  pub map_of_same : (f g : A → ℕ) (l : List A) → ((k : ℕ) → k < length l → f (get_or l k d) ≡ g (get_or l k d)) → map f l ≡ map g l
  map_of_same f g [] same = refl
  map_of_same f g (x ∷ xs) same =
      rw (same zero (omega arith), map_of_same f g xs (λ k l. same (suc k) (omega arith)))
