-- The records of the first n numbers: how one more is put among them, and which stands at a place.
-- Assumes nothing.
use Prim.Native.Nat.{ℕ, ◌+◌, ◌≤◌, ◌<◌}
use mathlib.Core.Path.{◌≡◌, sym, ap, ◌∙◌}
use mathlib.Core.List.{List, map}
use native.Mathlib.Nat.{zero-add}
use native.Mathlib.Numerals.{add-one}
use native.Mathlib.Omega.{arith}
use lib.ListN.{length, get_or, set, replicate, take, drop, length-map, length-replicate, get_or-map, get_or-append}
use lib.Seq.{paste, paste-zero, paste-suc, get_or-take, length-take-le}
use Rattle.keys.specs.declared.KeyRecord.{KeyRecord}
use Rattle.keys.specs.Stored.{no_record, record_of, records_of}

-- ---- a list d whose first elements are replaced by those of s

module _ {A : Type 0} (d s : List A) (z : A) where
  one_more : (i : ℕ) → i < length d → i < length s → set (paste d 0 s i) i (get_or s i z) ≡ paste d 0 s (i + 1)
  one_more i h k =
      rw (add-one i)
      (ap (λ j. set (paste d 0 s i) j (get_or s i z)) (sym (zero-add i)) ∙ paste-suc d 0 s i z (omega arith) k)

  replaced_at : (n i : ℕ) → n ≤ length s → i < n → get_or (paste d 0 s n) i z ≡ get_or s i z
  replaced_at n i fits h =
      get_or-append (take n s) (drop (0 + n) d) z i (omega (arith, length-take-le n s fits)) ∙ get_or-take n s i z h

-- ---- the records

pub no_records : (keys : List ℕ) (none : KeyRecord) → (none.handle ≡ 0) × ((none.key ≡ 0) × (none.template ≡ 0))
    → replicate 256 none ≡ records_of keys 0
unfolding records_of
no_records keys none zero =
    let empty : none ≡ no_record = λ i. record { handle = zero.0 i; key = zero.1.0 i; template = zero.1.1 i } in
    ap (replicate 256) empty ∙ paste-zero (replicate 256 no_record) 0 (map record_of keys)

-- one number more
pub records_more : (keys : List ℕ) (i : ℕ) → i < length keys → i < 256
    → set (records_of keys i) i (record_of (get_or keys i 0)) ≡ records_of keys (i + 1)
unfolding records_of
records_more keys i h few =
    ap (set (records_of keys i) i) (sym (get_or-map record_of keys i 0))
    ∙ one_more (replicate 256 no_record) (map record_of keys) (record_of 0) i
    (omega (arith, length-replicate 256 no_record)) (omega (arith, length-map keys record_of))

-- the record at a place below n is that of the number there
pub record_at : (keys : List ℕ) (n : ℕ) → n ≤ length keys → n ≤ 256 → (i : ℕ) → i < n
    → get_or (records_of keys n) i no_record ≡ record_of (get_or keys i 0)
unfolding records_of
record_at keys n fits few i h =
    replaced_at (replicate 256 no_record) (map record_of keys) (record_of 0) n i (omega (arith, length-map keys record_of)) h
    ∙ get_or-map record_of keys i 0
