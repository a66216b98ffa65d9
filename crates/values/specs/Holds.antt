-- When a lent table holds the rows of a run, and what a function answers and leaves there when a value appears.
use Rattle.std.specs.Prelude.{ℕ, ◌≤◌, ◌≡◌, cond, List, [], ◌∷◌, ◌++◌, ltb, length, Option}
use Rattle.model.specs.Value.{Value, row_of, present}
use Rattle.model.specs.Tables.{padded, row_codes, Rows}
use Rattle.values.specs.Interned.{Interned, Found, Added, NoRoom, interned_told}
use Rattle.values.specs.declared.Filled.{Filled}

-- the table t holds the rows vs and nothing else
pub record Holds (t : List ℕ) (vs : List Value) : Type 0 where
  pub is : t ≡ padded (length t) (row_codes vs)
  pub rows : Rows vs
  pub fit : length vs ≤ length t
  pub small : length t ≤ 65536

-- the answer when v appears among the rows vs, where there is room for len of them, and the rows then
unfoldable pub answer_in : ℕ → Value → List Value → Interned
answer_in len v vs = cond (present v vs) (Found (row_of v vs)) (cond (ltb (length vs) len) (Added (length vs)) NoRoom)

unfoldable pub rows_in : ℕ → Value → List Value → List Value
rows_in len v vs = cond (present v vs) vs (cond (ltb (length vs) len) (vs ++ v ∷ []) vs)

pub record Appeared (v : Value) (vs : List Value) (r : Interned) (before exit : List ℕ) : Type 0 where
  pub answer : r ≡ answer_in (length before) v vs
  pub holds : Holds exit (rows_in (length before) v vs)
  pub length_kept : length exit ≡ length before

-- the same of a table with its length, from the code's answer
pub record AppearedIn (v : Value) (vs : List Value) (r : Option ℕ) (before exit : Filled) : Type 0 where
  pub appeared : Appeared v vs (interned_told r before.len exit.len) before.table.now exit.table.now
  pub counted : exit.len ≡ length (rows_in (length before.table.now) v vs)
