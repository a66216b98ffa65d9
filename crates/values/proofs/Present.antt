-- Laws on the row of a value and on whether it has one, over any list of values.
-- Assumes nothing.
use Prim.Native.Nat.{ℕ, ◌<◌}
use mathlib.Core.Path.{◌≡◌, refl, sym, ◌∙◌, subst}
use mathlib.Core.Bool.{true, false, decide_iff}
use mathlib.Core.List.{List, [], ◌∷◌, ◌++◌}
use native.Mathlib.Omega.{arith}
use native.Mathlib.Decide.{ℕ_discrete}
use lib.Dec.{T}
use lib.ListN.{length, length-append}
use borrow.Author.Tests.{lt-ltb, ltb-true, ltb-false}
use Rattle.model.specs.Basics.{index_by}
use Rattle.model.specs.Value.{Value, const, same, value-discrete, row_of, present, value_at}
use Rattle.model.proofs.TypedValues.{same_equal}
use Rattle.values.proofs.Index.{index_at_most_length, passes_at_index, index_kept_by_append, index_goes_on_after}

pub same_itself : (v : Value) → same v v ≡ true
unfolding same
same_itself v = (decide_iff (value-discrete ℕ_discrete v v)).1 refl

pub same_is_equal : (v w : Value) → same v w ≡ true → v ≡ w
same_is_equal v w e = same_equal v w (subst T (sym e) tt)

-- v has row i of the rows vs
pub record HasRow (v : Value) (vs : List Value) (i : ℕ) : Type 0 where
  pub there : present v vs ≡ true
  pub row : row_of v vs ≡ i
  pub within : i < length vs

module _ (v : Value) (vs : List Value) where
  pub below_means_present : row_of v vs < length vs → present v vs ≡ true
  below_means_present h = lt-ltb _ _ h

  pub present_means_below : present v vs ≡ true → row_of v vs < length vs
  present_means_below e = ltb-true _ _ e

  -- a value without a row has the number of rows in its place
  absent_row : present v vs ≡ false → row_of v vs ≡ length vs
  absent_row e = omega (arith, ltb-false (row_of v vs) (length vs) e, index_at_most_length (same v) vs)

  pub value_at_its_row : present v vs ≡ true → value_at vs (row_of v vs) ≡ v
  value_at_its_row e = sym (same_is_equal v _ (passes_at_index (same v) vs (const 0) (present_means_below e)))

  pub row_kept : (ws : List Value) → present v vs ≡ true → row_of v (vs ++ ws) ≡ row_of v vs
  row_kept ws e = index_kept_by_append (same v) vs ws (present_means_below e)

  pub present_kept : (ws : List Value) → present v vs ≡ true → present v (vs ++ ws) ≡ true
  present_kept ws e =
      lt-ltb (row_of v (vs ++ ws)) (length (vs ++ ws)) (omega (arith, row_kept ws e, present_means_below e, length-append vs ws))

  pub row_added : present v vs ≡ false → row_of v (vs ++ v ∷ []) ≡ length vs
  unfolding index_by
  row_added e = index_goes_on_after (same v) vs (v ∷ []) (absent_row e) ∙ rw (same_itself v) (omega arith)
