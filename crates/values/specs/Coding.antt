-- Rows as the code makes their numbers and takes them apart, and what it asks of a row.
use Rattle.std.specs.Prelude.{ℕ, ◌<◌, ◌/◌, ◌%◌, Bool, true, false, cond, eqb, Option, Some, None}
use Rattle.model.specs.Tables.{packed}
use Rattle.values.specs.declared.appearing.Row.{Row}
use Rattle.values.specs.declared.appearing.Row.TheVariants.{Const, Fresh, Enc, Dec, Div}

-- a row whose number can be taken apart again: no part needs more than its sixteen bits
abbrev pub RowFits : Row → Type 0
RowFits (Const n) = n < 65536
RowFits (Fresh n) = n < 65536
RowFits (Enc a b) = (a < 65536) × (b < 65536)
RowFits (Dec a b) = (a < 65536) × (b < 65536)
RowFits (Div a b) = (a < 65536) × (b < 65536)

abbrev pub code_row : Row → ℕ
code_row (Const n) = packed 1 0 n
code_row (Fresh n) = packed 2 0 n
code_row (Enc a b) = packed 3 a b
code_row (Dec a b) = packed 4 a b
code_row (Div a b) = packed 5 a b

abbrev pub row_of_kind : ℕ → ℕ → ℕ → Option Row
row_of_kind kind a b =
    cond (eqb kind 1) (Some (Const b))
    (cond (eqb kind 2) (Some (Fresh b))
    (cond (eqb kind 3) (Some (Enc a b))
    (cond (eqb kind 4) (Some (Dec a b))
    (cond (eqb kind 5) (Some (Div a b)) None))))

unfoldable pub decode_row : ℕ → Option Row
decode_row x = row_of_kind (x / 4294967296) (x / 65536 % 65536) (x % 65536)

abbrev pub constant_row : Row → Bool
constant_row (Const n) = true
constant_row (Fresh n) = false
constant_row (Enc a b) = false
constant_row (Dec a b) = false
constant_row (Div a b) = false

abbrev pub constant_read : Option Row → Bool
constant_read (Some r) = constant_row r
constant_read None = false

-- what a row comes to when it is decrypted under row b
abbrev pub undone_row : Row → ℕ → Option ℕ
undone_row (Const n) b = None
undone_row (Fresh n) b = None
undone_row (Enc v k) b = cond (eqb k b) (Some v) None
undone_row (Dec v k) b = None
undone_row (Div l v) b = None

abbrev pub undone_read : Option Row → ℕ → Option ℕ
undone_read (Some r) b = undone_row r b
undone_read None b = None
