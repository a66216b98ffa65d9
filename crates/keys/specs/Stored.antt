-- Stored keys as the code has them: a number that packs each, the record that it unpacks to, and what a search for a handle comes to.
-- A number is 2^40, 2^24 times the row of the handle, 2^8 times the row of the key, and the template.
use Rattle.std.specs.Prelude.{ℕ, ◌/◌, ◌%◌, cond, List, map, eqb, ltb, take, get_or, replicate, Option, Some, None}
use Rattle.std.proofs.Math.Seq.{paste}
use Rattle.model.specs.Basics.{index_by}
use Rattle.keys.specs.declared.KeyRecord.{KeyRecord}

-- ---- one number

-- the row of its handle
abbrev pub handle_of : ℕ → ℕ
handle_of code = code / 16777216 % 65536

-- the row of its key
abbrev pub key_row_of : ℕ → ℕ
key_row_of code = code / 256 % 65536

-- the attributes of its template
abbrev pub template_of : ℕ → ℕ
template_of code = code % 64

abbrev pub record_of : ℕ → KeyRecord
record_of code = record { handle = handle_of code; key = key_row_of code; template = template_of code }

-- ---- the table

-- what stands where there is no key
abbrev pub no_record : KeyRecord
no_record = record { handle = 0; key = 0; template = 0 }

-- 256 empty records, with the first n replaced by those of the first n numbers
unfoldable pub records_of : List ℕ → ℕ → List KeyRecord
records_of keys n = paste (replicate 256 no_record) 0 (map record_of keys) n

-- the first of n numbers whose handle is in row x, as a record
unfoldable pub stored_of : List ℕ → ℕ → ℕ → Option KeyRecord
stored_of keys n x =
    let i = index_by (eqb x) (take n (map handle_of keys)) in
    cond (ltb i n) (Some (record_of (get_or keys i 0))) None
