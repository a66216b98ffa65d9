-- The numbers of the rows that a run can make: a number tells its row, and over such rows its value.
-- Assumes nothing.
use Prim.Native.Nat.{ℕ, ◌/◌, ◌%◌, ◌≤◌, ◌<◌}
use mathlib.Core.Path.{◌≡◌, refl, sym, ap, ap₂, ◌∙◌}
use mathlib.Core.Bool.{Bool, true, false, true≢false}
use mathlib.Core.List.{List, [], ◌∷◌, ◌++◌, map, map-append}
use native.Mathlib.Omega.{arith}
use lib.Dec.{eqb}
use lib.ListN.{length, length-map}
use borrow.Author.Tests.{eq-eqb, ne_eqb}
use Rattle.std.specs.Prelude.{Some}
use Rattle.model.specs.Basics.{index_by}
use Rattle.model.specs.Value.{Value, const, fresh, enc, dec, div, same, row_of, value_at}
use Rattle.model.specs.Tables.{packed, value_code, row_codes, PartsBelow, Rows}
use Rattle.values.specs.Coding.{row_of_kind, decode_row}
use Rattle.values.specs.declared.appearing.Row.{Row}
use Rattle.values.specs.declared.appearing.Row.TheVariants.{Const, Fresh, Enc, Dec, Div}
use Rattle.values.proofs.Index.{index_of_map, map_of_same}
use Rattle.values.proofs.Present.{same_itself, same_is_equal, below_means_present, value_at_its_row, row_kept}
use Rattle.values.proofs.Rows.{parts_at}

-- ---- one number

-- a value as a row, and the value that a row stands for
abbrev pub as_row : List Value → Value → Row
as_row vs (const n) = Const n
as_row vs (fresh n) = Fresh n
as_row vs (enc v k) = Enc (row_of v vs) (row_of k vs)
as_row vs (dec v k) = Dec (row_of v vs) (row_of k vs)
as_row vs (div l v) = Div l (row_of v vs)

abbrev of_row : List Value → Row → Value
of_row vs (Const n) = const n
of_row vs (Fresh n) = fresh n
of_row vs (Enc a b) = enc (value_at vs a) (value_at vs b)
of_row vs (Dec a b) = dec (value_at vs a) (value_at vs b)
of_row vs (Div l b) = div l (value_at vs b)

module _ (kind a b : ℕ) (ha : a < 65536) (hb : b < 65536) where
  kind_back : packed kind a b / 4294967296 ≡ kind
  kind_back = omega arith

  first_back : packed kind a b / 65536 % 65536 ≡ a
  first_back = omega arith

  second_back : packed kind a b % 65536 ≡ b
  second_back = omega arith

  unpacked : decode_row (packed kind a b) ≡ row_of_kind kind a b
  unfolding decode_row
  unpacked = λ i. row_of_kind (kind_back i) (first_back i) (second_back i)

pub number_tells_row : (vs : List Value) (i : ℕ) → i ≤ 65536 → (v : Value) → PartsBelow vs i v
    → decode_row (value_code vs v) ≡ Some (as_row vs v)
number_tells_row vs i h (const n) p = unpacked 1 0 n (omega arith) p
number_tells_row vs i h (fresh n) p = unpacked 2 0 n (omega arith) p
number_tells_row vs i h (enc v k) p = unpacked 3 (row_of v vs) (row_of k vs) (omega arith) (omega arith)
number_tells_row vs i h (dec v k) p = unpacked 4 (row_of v vs) (row_of k vs) (omega arith) (omega arith)
number_tells_row vs i h (div l v) p = unpacked 5 l (row_of v vs) (omega arith) (omega arith)

-- unused places of the table are 0, so no row is taken for one
pub number_is_not_zero : (vs : List Value) (v : Value) → 0 < value_code vs v
number_is_not_zero vs (const n) = omega arith
number_is_not_zero vs (fresh n) = omega arith
number_is_not_zero vs (enc v k) = omega arith
number_is_not_zero vs (dec v k) = omega arith
number_is_not_zero vs (div l v) = omega arith

-- two lists of rows that are the same below k
abbrev pub AgreeBelow : ℕ → List Value → List Value → Type 0
AgreeBelow k us vs = (i : ℕ) → i < k → value_at us i ≡ value_at vs i

module _ (us vs : List Value) (k : ℕ) (agree : AgreeBelow k us vs) (within : k ≤ length vs) where
  part_back : (v : Value) → row_of v vs < k → value_at us (row_of v vs) ≡ v
  part_back v p = agree (row_of v vs) p ∙ value_at_its_row v vs (below_means_present v vs (omega arith))

  value_back : (v : Value) → PartsBelow vs k v → of_row us (as_row vs v) ≡ v
  value_back (const n) p = refl
  value_back (fresh n) p = refl
  value_back (enc v l) p = ap₂ enc (part_back v p.0) (part_back l p.1)
  value_back (dec v l) p = ap₂ dec (part_back v p.0) (part_back l p.1)
  value_back (div l v) p = ap (div l) (part_back v p.1)

-- a number tells its value, from the rows below it
pub number_tells_value : (us vs : List Value) (k : ℕ) → k ≤ 65536 → k ≤ length us → k ≤ length vs → AgreeBelow k us vs
    → (v w : Value) → PartsBelow us k v → PartsBelow vs k w → value_code us v ≡ value_code vs w → v ≡ w
number_tells_value us vs k small hu hv agree v w p q e =
    let first = number_tells_row us k small v p in
    let second = number_tells_row vs k small w q in
    let row : as_row us v ≡ as_row vs w = cc in
    sym (value_back us us k (λ i h. refl) hu v p) ∙ ap (of_row us) row ∙ value_back us vs k agree hv w q

same_by_number : (vs : List Value) (v w : Value) → length vs ≤ 65536 → PartsBelow vs (length vs) v → PartsBelow vs (length vs) w
    → eqb (value_code vs v) (value_code vs w) ≡ same v w
same_by_number vs v w small p q = go (same v w) refl
  where
    go : (b : Bool) → same v w ≡ b → eqb (value_code vs v) (value_code vs w) ≡ b
    go true e = eq-eqb _ _ (ap (value_code vs) (same_is_equal v w e))
    go false e =
        ne_eqb _ _
        (λ c.
        let t : v ≡ w = number_tells_value vs vs (length vs) small (omega arith) (omega arith) (λ i h. refl) v w p q c in
        true≢false (sym (same_itself v) ∙ ap (same v) t ∙ e))

-- ---- the numbers of all rows

pub length_codes : (vs : List Value) → length (row_codes vs) ≡ length vs
unfolding row_codes
length_codes vs = length-map vs (value_code vs)

number_kept : (vs ws : List Value) (v : Value) → PartsBelow vs (length vs) v → value_code (vs ++ ws) v ≡ value_code vs v
number_kept vs ws (const n) p = refl
number_kept vs ws (fresh n) p = refl
number_kept vs ws (enc v k) p =
    ap₂ (packed 3) (row_kept v vs ws (below_means_present v vs p.0)) (row_kept k vs ws (below_means_present k vs p.1))
number_kept vs ws (dec v k) p =
    ap₂ (packed 4) (row_kept v vs ws (below_means_present v vs p.0)) (row_kept k vs ws (below_means_present k vs p.1))
number_kept vs ws (div l v) p = ap (packed 5 l) (row_kept v vs ws (below_means_present v vs p.1))

module _ {vs : List Value} (R : Rows vs) where
  -- the first numbers are those of the first rows
  pub codes_of_first : (ws : List Value) → row_codes (vs ++ ws) ≡ row_codes vs ++ map (value_code (vs ++ ws)) ws
  unfolding row_codes
  codes_of_first ws =
      map-append (value_code (vs ++ ws)) vs ws
      ∙ ap (λ l. l ++ map (value_code (vs ++ ws)) ws)
      (map_of_same (const 0) (value_code (vs ++ ws)) (value_code vs) vs (λ k h. number_kept vs ws (value_at vs k) (parts_at R k h)))

  pub codes_with_one_more : (v : Value) → PartsBelow vs (length vs) v → row_codes (vs ++ v ∷ []) ≡ row_codes vs ++ value_code vs v ∷ []
  codes_with_one_more v p = codes_of_first (v ∷ []) ∙ ap (λ x. row_codes vs ++ x ∷ []) (number_kept vs (v ∷ []) v p)

  -- a value's number is found where the value is
  pub number_found : length vs ≤ 65536 → (v : Value) → PartsBelow vs (length vs) v
      → index_by (eqb (value_code vs v)) (row_codes vs) ≡ row_of v vs
  unfolding row_codes
  number_found small v p =
      index_of_map (const 0) (value_code vs) (eqb (value_code vs v)) (same v) vs
      (λ k h. same_by_number vs v (value_at vs k) small p (parts_at R k h))
