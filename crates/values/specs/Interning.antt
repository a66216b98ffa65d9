-- What becomes of a number that gets a row, as the code does it: over the table's numbers alone, whatever they stand for.
use Rattle.std.specs.Prelude.{ℕ, ◌≡◌, cond, List, ltb, eqb, length, take, set, Option}
use Rattle.model.specs.Basics.{index_by}
use Rattle.values.specs.Interned.{Interned, Found, Added, NoRoom, interned_told, count_after}
use Rattle.values.specs.declared.Filled.{Filled}

-- row n of the table is the next one, where there is room for it
unfoldable pub add_answer : List ℕ → ℕ → Interned
add_answer t n = cond (ltb n (length t)) (Added n) NoRoom

unfoldable pub add_table : List ℕ → ℕ → ℕ → List ℕ
add_table t n x = cond (ltb n (length t)) (set t n x) t

-- before that, the number is looked for among the first n
unfoldable pub intern_answer : List ℕ → ℕ → ℕ → Interned
intern_answer t n x =
    let i = index_by (eqb x) (take n t) in
    cond (ltb i n) (Found i) (add_answer t n)

unfoldable pub intern_table : List ℕ → ℕ → ℕ → List ℕ
intern_table t n x = cond (ltb (index_by (eqb x) (take n t)) n) t (add_table t n x)

-- what becomes of a number that is put into the next place, and of one that is looked for first
pub record Stored (t : List ℕ) (n x : ℕ) (r : Interned) (exit : List ℕ) : Type 0 where
  pub answer : r ≡ add_answer t n
  pub table : exit ≡ add_table t n x

pub record Interns (t : List ℕ) (n x : ℕ) (r : Interned) (exit : List ℕ) : Type 0 where
  pub answer : r ≡ intern_answer t n x
  pub table : exit ≡ intern_table t n x

-- the same of a table with its length, from the code's answer
pub record InternsIn (before : Filled) (x : ℕ) (r : Option ℕ) (exit : Filled) : Type 0 where
  pub interns : Interns before.table.now before.len x (interned_told r before.len exit.len) exit.table.now
  pub counted : exit.len ≡ count_after (interned_told r before.len exit.len) before.len
