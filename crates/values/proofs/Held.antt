-- Laws on a lent table that holds the rows of a run: what its numbers are, when it holds rows, and that it holds one list of them only.
-- Assumes nothing.
use Prim.Native.Nat.{ℕ, zero, suc, ◌-◌, ◌≤◌, ◌<◌}
use mathlib.Core.Path.{◌≡◌, sym, ap, ◌∙◌}
use mathlib.Core.Bool.{false}
use mathlib.Core.List.{List, [], ◌∷◌, ◌++◌, map, append_assoc}
use native.Mathlib.Omega.{arith}
use borrow.Author.Count.{below_more}
use lib.ListN.{length, get_or, take, set, length-append}
use lib.Seq.{get_or-take, take_at, ext_get_or}
use Rattle.std.specs.Prelude.{Some}
use Rattle.std.proofs.lemmas.List.{get_or-map}
use Rattle.model.specs.Value.{Value, const, present, value_at}
use Rattle.model.specs.Tables.{zeros, padded, value_code, row_codes, PartsBelow, Rows}
use Rattle.values.specs.Coding.{decode_row}
use Rattle.values.specs.Holds.{Holds}
use Rattle.values.proofs.Rows.{no_rows, parts_at, rows_of_first, rows_with_one_more}
use Rattle.values.proofs.Codes.{as_row, AgreeBelow, number_tells_row, number_is_not_zero, number_tells_value}
use Rattle.values.proofs.Codes.{length_codes, codes_of_first, codes_with_one_more}
use Rattle.values.proofs.Padded.{length_padded, take_padded, zero_next, set_next}

-- ---- the numbers of a table that holds rows

module _ {t : List ℕ} {vs : List Value} (H : Holds t vs) where
  pub first_numbers : (n : ℕ) → n ≡ length vs → take n t ≡ row_codes vs
  first_numbers n e = ap (take n) H.is ∙ take_padded (length t) (row_codes vs) n (length_codes vs ∙ sym e)

  pub zeros_after : (n : ℕ) → n ≡ length vs → t ≡ padded (length t) (take n t)
  zeros_after n e = H.is ∙ ap (padded (length t)) (sym (first_numbers n e))

  zero_after : get_or t (length vs) 0 ≡ 0
  zero_after = ap (λ l. get_or l (length vs) 0) H.is ∙ zero_next (length t) (row_codes vs) (length vs) (length_codes vs)

  number_at : (i : ℕ) → i < length vs → get_or t i 0 ≡ value_code vs (value_at vs i)
  unfolding row_codes
  number_at i h =
      sym (get_or-take (length vs) t i 0 h)
      ∙ ap (λ l. get_or l i 0) (first_numbers (length vs) (omega arith))
      ∙ get_or-map (value_code vs) vs i (const 0) 0 h

  pub row_read : (i : ℕ) → i < length vs → decode_row (get_or t i 0) ≡ Some (as_row vs (value_at vs i))
  row_read i h =
      ap decode_row (number_at i h) ∙ number_tells_row vs (length vs) (omega arith) (value_at vs i) (parts_at H.rows i h)

-- ---- one list only

not_shorter : {t : List ℕ} {vs ws : List Value} → Holds t vs → Holds t ws → length vs < length ws → ⊥
not_shorter {t} {vs} {ws} H K h =
    let z = number_is_not_zero ws (value_at ws (length vs)) in
    omega (arith, zero_after H, number_at K (length vs) h)

module _ {t : List ℕ} {vs ws : List Value} (H : Holds t vs) (K : Holds t ws) where
  next_agrees : (k : ℕ) → k < length vs → k < length ws → AgreeBelow k vs ws → value_at vs k ≡ value_at ws k
  next_agrees k h l below =
      number_tells_value vs ws k (omega arith) (omega arith) (omega arith) below (value_at vs k) (value_at ws k)
      (H.rows.after_parts k h) (K.rows.after_parts k l) (sym (number_at H k h) ∙ number_at K k l)

  agree_below : (k : ℕ) → k ≤ length vs → k ≤ length ws → AgreeBelow k vs ws
  agree_below zero h l i q = absurd (omega arith)
  agree_below (suc k) h l i q =
      let below = agree_below k (omega arith) (omega arith) in
      below_more (λ j. value_at vs j ≡ value_at ws j) k below (next_agrees k (omega arith) (omega arith) below) i (omega arith)

  pub holds_one_list : vs ≡ ws
  holds_one_list =
      let long : length vs ≡ length ws = omega (arith, not_shorter H K, not_shorter K H) in
      ext_get_or (const 0) vs ws long (agree_below (length vs) (omega arith) (omega arith))

-- ---- which tables hold rows

-- a table that is the numbers of rows with zeros after them
module _ {len : ℕ} {u : List ℕ} {us : List Value} (R : Rows us) (fit : length us ≤ len) (small : len ≤ 65536)
    (is : u ≡ padded len (row_codes us)) where
  length_held : length u ≡ len
  length_held = ap length is ∙ length_padded len (row_codes us) (omega (arith, length_codes us))

  pub holds_padded : Holds u us
  holds_padded = record {
    is = is ∙ ap (λ k. padded k (row_codes us)) (sym length_held);
    rows = R;
    fit = omega (arith, length_held);
    small = omega (arith, length_held);
  }

pub zeros_hold_nothing : {t : List ℕ} → t ≡ zeros (length t) → length t ≤ 65536 → Holds t []
unfolding padded row_codes
zeros_hold_nothing {t} e small =
    let all : length t ≡ length t - 0 = omega arith in
    holds_padded no_rows (omega arith) small (e ∙ ap zeros all)

-- one row more
pub holds_one_more : {t : List ℕ} {vs : List Value} → Holds t vs → (v : Value) → PartsBelow vs (length vs) v → present v vs ≡ false
    → length vs < length t → Holds (set t (length vs) (value_code vs v)) (vs ++ v ∷ [])
holds_one_more {t} {vs} H v p new room =
    holds_padded
    (rows_with_one_more H.rows v p new)
    (omega (arith, length-append vs (v ∷ [])))
    H.small
    (ap (λ l. set l (length vs) (value_code vs v)) H.is
    ∙ set_next (length t) (row_codes vs) (value_code vs v) (omega (arith, length_codes vs)) (length vs) (length_codes vs)
    ∙ ap (padded (length t)) (sym (codes_with_one_more H.rows v p)))

-- the last rows unused again
module _ {t u : List ℕ} (us ws : List Value) (H : Holds t (us ++ ws)) {n : ℕ} (count : n ≡ length us)
    (cut : u ≡ padded (length t) (take n t)) where
  numbers_of_first : take n t ≡ row_codes us
  unfolding padded
  numbers_of_first =
      let last : List ℕ = map (value_code (us ++ ws)) ws in
      let rest : List ℕ = zeros (length t - length (row_codes us ++ last)) in
      ap (take n) (H.is ∙ ap (padded (length t)) (codes_of_first (rows_of_first us ws H.rows) ws) ∙ append_assoc (row_codes us) last rest)
      ∙ take_at (row_codes us) (last ++ rest) n (length_codes us ∙ sym count)

  pub first_held : Holds u us × (length u ≡ length t)
  first_held =
      let R = rows_of_first us ws H.rows in
      let fit : length us ≤ length t = omega (arith, H.fit, length-append us ws) in
      let is : u ≡ padded (length t) (row_codes us) = cut ∙ ap (padded (length t)) numbers_of_first in
      (holds_padded R fit H.small is, length_held R fit H.small is)
