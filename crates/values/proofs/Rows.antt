-- Laws on the rows that a run can make: of those before them, with one more, and of their parts.
-- Assumes nothing.
use Prim.Native.Nat.{ℕ, ◌≤◌, ◌<◌}
use mathlib.Core.Path.{◌≡◌, refl, sym, ap, ◌∙◌, subst}
use mathlib.Core.Bool.{Bool, true, false, true≢false}
use mathlib.Core.List.{List, [], ◌∷◌, ◌++◌}
use native.Mathlib.Omega.{arith}
use native.Mathlib.Decide.{dec_lt}
use lib.ListN.{length, length-append, get_or-append}
use lib.Seq.{get_or_at}
use Rattle.model.specs.Value.{Value, const, fresh, enc, dec, div, same, row_of, present, value_at}
use Rattle.model.specs.Tables.{PartsBelow, Rows}
use Rattle.values.proofs.Index.{index_within_first}
use Rattle.values.proofs.Present.{same_itself, same_is_equal, below_means_present, value_at_its_row, row_kept, row_added}

-- parts that are below i are below what is above it
parts_below_more : (vs : List Value) (i j : ℕ) (v : Value) → i ≤ j → PartsBelow vs i v → PartsBelow vs j v
parts_below_more vs i j (const n) h p = p
parts_below_more vs i j (fresh n) h p = p
parts_below_more vs i j (enc v k) h p = omega arith
parts_below_more vs i j (dec v k) h p = omega arith
parts_below_more vs i j (div l v) h p = omega arith

-- rows that come after do not change where the parts are
module _ (vs ws : List Value) (i : ℕ) (le : i ≤ length vs) where
  part_kept : (v : Value) → row_of v vs < i → row_of v (vs ++ ws) < i
  part_kept v p = omega (arith, row_kept v vs ws (below_means_present v vs (omega arith)))

  parts_kept : (v : Value) → PartsBelow vs i v → PartsBelow (vs ++ ws) i v
  parts_kept (const n) p = p
  parts_kept (fresh n) p = p
  parts_kept (enc v k) p = (part_kept v p.0, part_kept k p.1)
  parts_kept (dec v k) p = (part_kept v p.0, part_kept k p.1)
  parts_kept (div l v) p = (p.0, part_kept v p.1)

  part_of_first : (v : Value) → row_of v (vs ++ ws) < i → row_of v vs < i
  part_of_first v p = omega (arith, index_within_first (same v) vs ws (omega arith))

  parts_of_first : (v : Value) → PartsBelow (vs ++ ws) i v → PartsBelow vs i v
  parts_of_first (const n) p = p
  parts_of_first (fresh n) p = p
  parts_of_first (enc v k) p = (part_of_first v p.0, part_of_first k p.1)
  parts_of_first (dec v k) p = (part_of_first v p.0, part_of_first k p.1)
  parts_of_first (div l v) p = (p.0, part_of_first v p.1)

pub no_rows : Rows []
no_rows = record { distinct = λ i h. absurd (omega arith); after_parts = λ i h. absurd (omega arith) }

module _ {vs : List Value} (R : Rows vs) (i : ℕ) (h : i < length vs) where
  -- the value at a row has that row
  pub row_at : row_of (value_at vs i) vs ≡ i
  row_at = R.distinct i h

  pub present_at : present (value_at vs i) vs ≡ true
  present_at = below_means_present (value_at vs i) vs (omega (arith, row_at))

  -- a value is the one in row i exactly when its row is i, whichever way round a test asks for that
  pub row_decides : (w : Value) → present w vs ≡ true → (q : Bool) → (row_of w vs ≡ i → q ≡ true) → ((row_of w vs ≡ i → ⊥) → q ≡ false)
      → q ≡ same w (value_at vs i)
  row_decides w there q here other = go (same w (value_at vs i)) refl
    where
      go : (b : Bool) → same w (value_at vs i) ≡ b → q ≡ b
      go true e = here (ap (λ v. row_of v vs) (same_is_equal w (value_at vs i) e) ∙ row_at)
      go false e =
          other
          (λ f.
          let is : w ≡ value_at vs i = sym (value_at_its_row w vs there) ∙ ap (value_at vs) f in
          true≢false (sym (same_itself w) ∙ ap (same w) is ∙ e))

  pub parts_at : PartsBelow vs (length vs) (value_at vs i)
  parts_at = parts_below_more vs i (length vs) (value_at vs i) (omega arith) (R.after_parts i h)

pub rows_of_first : (us ws : List Value) → Rows (us ++ ws) → Rows us
rows_of_first us ws R = record {
  distinct = λ i h. distinct_of_first i h;
  after_parts = λ i h.
      parts_of_first us ws i (omega arith) (value_at us i)
      (subst (PartsBelow (us ++ ws) i) (get_or-append us ws (const 0) i h) (R.after_parts i (omega (arith, length-append us ws))));
}
  where
    distinct_of_first : (i : ℕ) → i < length us → row_of (value_at us i) us ≡ i
    distinct_of_first i h =
        let here = get_or-append us ws (const 0) i h in
        let e : row_of (value_at us i) (us ++ ws) ≡ i = rw here at (R.distinct i (omega (arith, length-append us ws))) in
        index_within_first (same (value_at us i)) us ws (omega arith) ∙ e

module _ {vs : List Value} (R : Rows vs) (v : Value) (p : PartsBelow vs (length vs) v) (new : present v vs ≡ false) where
  last_value : (i : ℕ) → i < length (vs ++ v ∷ []) → (i < length vs → ⊥) → (i ≡ length vs) × (value_at (vs ++ v ∷ []) i ≡ v)
  last_value i h not =
      let e : i ≡ length vs = omega (arith, length-append vs (v ∷ [])) in
      (e, get_or_at vs v [] (const 0) i (sym e))

  distinct_more : (i : ℕ) → i < length (vs ++ v ∷ []) → Dec (i < length vs) → row_of (value_at (vs ++ v ∷ []) i) (vs ++ v ∷ []) ≡ i
  distinct_more i h (yes l) =
      rw (get_or-append vs (v ∷ []) (const 0) i l) (row_kept (value_at vs i) vs (v ∷ []) (present_at R i l) ∙ row_at R i l)
  distinct_more i h (no l) =
      let last = last_value i h l in
      rw last.1 (row_added v vs new ∙ sym last.0)

  after_parts_more : (i : ℕ) → i < length (vs ++ v ∷ []) → Dec (i < length vs) → PartsBelow (vs ++ v ∷ []) i (value_at (vs ++ v ∷ []) i)
  after_parts_more i h (yes l) =
      rw (get_or-append vs (v ∷ []) (const 0) i l) (parts_kept vs (v ∷ []) i (omega arith) (value_at vs i) (R.after_parts i l))
  after_parts_more i h (no l) =
      let last = last_value i h l in
      rw last.1 (parts_below_more (vs ++ v ∷ []) (length vs) i v (omega arith) (parts_kept vs (v ∷ []) (length vs) (omega arith) v p))

  pub rows_with_one_more : Rows (vs ++ v ∷ [])
  rows_with_one_more = record {
    distinct = λ i h. distinct_more i h (dec_lt i (length vs));
    after_parts = λ i h. after_parts_more i h (dec_lt i (length vs));
  }
