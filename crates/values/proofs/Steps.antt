-- What the functions do to the numbers of a table that holds rows is that a value appears among those rows.
-- Assumes nothing.
use Prim.Native.Nat.{ℕ, ◌<◌}
use mathlib.Core.Path.{◌≡◌, refl, sym, ap, ap₂, ◌∙◌}
use mathlib.Core.Bool.{Bool, true, false, cond}
use mathlib.Core.List.{List, [], ◌∷◌, ◌++◌, append-nil}
use native.Mathlib.Omega.{arith}
use native.Mathlib.Decide.{dec_lt}
use lib.Dec.{eqb, ltb}
use lib.ListN.{length, get_or, take, length-set, length-append}
use borrow.Author.Tests.{eq-eqb, ne_eqb, lt-ltb, le-ltb}
use Rattle.std.specs.Prelude.{Option, Some, None}
use Rattle.model.specs.Basics.{index_by}
use Rattle.model.specs.Value.{Value, const, fresh, enc, dec, div, same, is_const, decrypt, row_of, present, value_at}
use Rattle.model.specs.Tables.{packed, value_code, PartsBelow}
use Rattle.values.specs.Coding.{code_row, decode_row, constant_row, constant_read, undone_row, undone_read}
use Rattle.values.specs.Interning.{add_answer, add_table, intern_answer, intern_table, Stored, Interns, InternsIn}
use Rattle.values.specs.Holds.{Holds, answer_in, rows_in, Appeared, AppearedIn}
use Rattle.values.specs.declared.appearing.Row.TheVariants as row
use Rattle.values.specs.declared.Filled.{Filled}
use Rattle.values.specs.Interned.{Interned, Found, Added, NoRoom, interned_told, count_after}
use Rattle.values.proofs.Present.{below_means_present}
use Rattle.values.proofs.Rows.{row_at, row_decides, parts_at}
use Rattle.values.proofs.Codes.{as_row, number_found}
use Rattle.values.proofs.Held.{first_numbers, row_read, holds_one_more}
use Rattle.values.proofs.Interning.{told_found, StoredIn}

-- ---- a row is a constant's exactly when its value is a constant

constant_as_row : (vs : List Value) (v : Value) → constant_row (as_row vs v) ≡ is_const v
constant_as_row vs (const n) = refl
constant_as_row vs (fresh n) = refl
constant_as_row vs (enc v k) = refl
constant_as_row vs (dec v k) = refl
constant_as_row vs (div l v) = refl

pub constant_by_number : {t : List ℕ} {i : ℕ} {vs : List Value} → Holds t vs → i < length vs
    → constant_read (decode_row (get_or t i 0)) ≡ is_const (value_at vs i)
constant_by_number {i = i} {vs = vs} H h = ap constant_read (row_read H i h) ∙ constant_as_row vs (value_at vs i)

module _ {t : List ℕ} {vs : List Value} {n : ℕ} (H : Holds t vs) (count : n ≡ length vs) where
  -- ---- a value that has a row, and one that has none

  found_appears : (v : Value) → present v vs ≡ true → Appeared v vs (Found (row_of v vs)) t t
  unfolding answer_in rows_in
  found_appears v there = record { answer = rw there; holds = rw there H; length_kept = refl }

  add_appears : (v : Value) → PartsBelow vs (length vs) v → present v vs ≡ false → {r : Interned} {u : List ℕ}
      → Stored t n (value_code vs v) r u → Appeared v vs r t u
  unfolding answer_in rows_in add_answer add_table
  add_appears v p new s = rw (s.answer, s.table, count) (go (dec_lt (length vs) (length t)))
    where
      go : Dec (length vs < length t) → Appeared v vs (add_answer t (length vs)) t (add_table t (length vs) (value_code vs v))
      go (yes room) = record {
        answer = rw (new, lt-ltb _ _ room);
        holds = rw (new, lt-ltb _ _ room) (holds_one_more H v p new room);
        length_kept = rw (lt-ltb _ _ room) (length-set t (length vs) (value_code vs v));
      }
      go (no full) = record {
        answer = rw (new, le-ltb (length vs) (length t) (omega arith));
        holds = rw (new, le-ltb (length vs) (length t) (omega arith)) H;
        length_kept = rw (le-ltb (length vs) (length t) (omega arith));
      }

  -- ---- the number is looked for first

  intern_appears : (v : Value) → PartsBelow vs (length vs) v → {x : ℕ} → x ≡ value_code vs v → {r : Interned} {u : List ℕ}
      → Interns t n x r u → Appeared v vs r t u
  unfolding intern_answer intern_table
  intern_appears v p made s = rw (s.answer, s.table, made) (go (present v vs) refl)
    where
      at : index_by (eqb (value_code vs v)) (take n t) ≡ row_of v vs
      at = ap (index_by (eqb (value_code vs v))) (first_numbers H n count) ∙ number_found H.rows (omega arith) v p

      test : ltb (index_by (eqb (value_code vs v)) (take n t)) n ≡ present v vs
      test = ap₂ ltb at count

      go : (b : Bool) → present v vs ≡ b → Appeared v vs (intern_answer t n (value_code vs v)) t (intern_table t n (value_code vs v))
      go true e = rw (test, e, at) (found_appears v e)
      go false e = rw (test, e) (add_appears v p e (record { answer = refl; table = refl }))

  -- ---- two rows

  module _ {a b : ℕ} (ha : a < n) (hb : b < n) where
    row_of_first : row_of (value_at vs a) vs ≡ a
    row_of_first = row_at H.rows a (omega arith)

    row_of_second : row_of (value_at vs b) vs ≡ b
    row_of_second = row_at H.rows b (omega arith)

    both_below : (row_of (value_at vs a) vs < length vs) × (row_of (value_at vs b) vs < length vs)
    both_below = omega (arith, row_of_first, row_of_second)

    -- a value is the key in row b exactly when its row is b
    same_by_row : (l : Value) → row_of l vs < length vs → eqb (row_of l vs) b ≡ same l (value_at vs b)
    same_by_row l h =
        row_decides H.rows b (omega arith) l (below_means_present l vs h) (eqb (row_of l vs) b) (λ e. eq-eqb _ _ e) (λ d. ne_eqb _ _ d)

    -- what undoing the number of w says of decrypting w under row b
    abbrev Tells : Value → Option ℕ → Type 0
    Tells w (Some i) = (present (decrypt w (value_at vs b)) vs ≡ true) × (row_of (decrypt w (value_at vs b)) vs ≡ i)
    Tells w None = decrypt w (value_at vs b) ≡ dec w (value_at vs b)

    undone_as_row : (w : Value) → PartsBelow vs (length vs) w → Tells w (undone_row (as_row vs w) b)
    undone_as_row (const n) p = refl
    undone_as_row (fresh n) p = refl
    undone_as_row (dec v l) p = refl
    undone_as_row (div l v) p = refl
    undone_as_row (enc v l) p = rw (same_by_row l p.1) (go (same l (value_at vs b)) refl)
      where
        go : (c : Bool) → same l (value_at vs b) ≡ c → Tells (enc v l) (cond c (Some (row_of v vs)) None)
        go true e = (rw e (below_means_present v vs p.0), rw e)
        go false e = rw e

    undone_by_number : Tells (value_at vs a) (undone_read (decode_row (get_or t a 0)) b)
    undone_by_number =
        rw (row_read H a (omega arith)) (undone_as_row (value_at vs a) (parts_at H.rows a (omega arith)))

-- ---- the rows once a value has appeared are those before and perhaps one more

pub rows_extended : (len : ℕ) (v : Value) (vs : List Value) → (ws : List Value) × (rows_in len v vs ≡ vs ++ ws)
unfolding rows_in
rows_extended len v vs = go (present v vs) (ltb (length vs) len)
  where
    go : (b c : Bool) → (ws : List Value) × (cond b vs (cond c (vs ++ v ∷ []) vs) ≡ vs ++ ws)
    go true c = ([], sym (append-nil vs))
    go false true = (v ∷ [], refl)
    go false false = ([], sym (append-nil vs))

-- ---- a table with its length

-- how many rows there are then
rows_counted : (len : ℕ) (v : Value) (vs : List Value) → count_after (answer_in len v vs) (length vs) ≡ length (rows_in len v vs)
unfolding answer_in rows_in
rows_counted len v vs = go (present v vs) (ltb (length vs) len)
  where
    go : (b c : Bool) → count_after (cond b (Found (row_of v vs)) (cond c (Added (length vs)) NoRoom)) (length vs)
        ≡ length (cond b vs (cond c (vs ++ v ∷ []) vs))
    go true c = refl
    go false true = omega (arith, length-append vs (v ∷ []))
    go false false = refl

module _ (t : Filled) {vs : List Value} (H : Holds t.table.now vs) (count : t.len ≡ length vs) where
  appears_in : {v : Value} {r : Option ℕ} {u : Filled} → Appeared v vs (interned_told r t.len u.len) t.table.now u.table.now
      → u.len ≡ count_after (interned_told r t.len u.len) t.len → AppearedIn v vs r t u
  appears_in {v} A counted = record {
    appeared = A;
    counted = counted ∙ ap₂ count_after A.answer count ∙ rows_counted (length t.table.now) v vs;
  }

  pub stored_appears : (v : Value) → PartsBelow vs (length vs) v → present v vs ≡ false → {r : Option ℕ} {u : Filled}
      → StoredIn t (value_code vs v) r u → AppearedIn v vs r t u
  stored_appears v p new s = appears_in (add_appears H count v p new s.stored) s.counted

  pub interned_appears : (v : Value) → PartsBelow vs (length vs) v → {x : ℕ} → x ≡ value_code vs v → {r : Option ℕ} {u : Filled}
      → InternsIn t x r u → AppearedIn v vs r t u
  interned_appears v p made s = appears_in (intern_appears H count v p made s.interns) s.counted

  pub derive_appears : {l b : ℕ} → l < 65536 → b < t.len → {r : Option ℕ} {u : Filled} → InternsIn t (code_row (row.Div l b)) r u
      → AppearedIn (div l (value_at vs b)) vs r t u
  derive_appears {l} {b} hl hb s =
      let row_here : row_of (value_at vs b) vs ≡ b = row_at H.rows b (omega arith) in
      interned_appears (div l (value_at vs b)) (hl, omega (arith, row_here)) (ap (packed 5 l) (sym row_here)) s

  module _ {a b : ℕ} (ha : a < t.len) (hb : b < t.len) where
    pub encrypt_appears : {r : Option ℕ} {u : Filled} → InternsIn t (code_row (row.Enc a b)) r u
        → AppearedIn (enc (value_at vs a) (value_at vs b)) vs r t u
    encrypt_appears s =
        interned_appears (enc (value_at vs a) (value_at vs b)) (both_below H count ha hb)
        (ap₂ (packed 3) (sym (row_of_first H count ha hb)) (sym (row_of_second H count ha hb))) s

    own_decryption_appears : {r : Option ℕ} {u : Filled} → InternsIn t (code_row (row.Dec a b)) r u
        → AppearedIn (dec (value_at vs a) (value_at vs b)) vs r t u
    own_decryption_appears s =
        interned_appears (dec (value_at vs a) (value_at vs b)) (both_below H count ha hb)
        (ap₂ (packed 4) (sym (row_of_first H count ha hb)) (sym (row_of_second H count ha hb))) s

    module _ {o : Option ℕ} (made : o ≡ undone_read (decode_row (get_or t.table.now a 0)) b) where
      tells : {p : Option ℕ} → o ≡ p → Tells H count ha hb (value_at vs a) p
      tells e = rw (← made, e) at (undone_by_number H count ha hb)

      pub undone_appears : {i : ℕ} → o ≡ Some i → AppearedIn (decrypt (value_at vs a) (value_at vs b)) vs (Some i) t t
      undone_appears {i} e =
          let there = tells e in
          let told = told_found i t.len in
          appears_in (rw told (rw there.1 at (found_appears H count (decrypt (value_at vs a) (value_at vs b)) there.0))) (rw told)

      pub not_undone_appears : o ≡ None → {r : Option ℕ} {u : Filled} → InternsIn t (code_row (row.Dec a b)) r u
          → AppearedIn (decrypt (value_at vs a) (value_at vs b)) vs r t u
      not_undone_appears e s = rw (tells e) (own_decryption_appears s)
