-- A lent table with its length, before a call and after it.
use Rattle.std.specs.Prelude.{ℕ, ◌+◌, ◌≡◌, Option, Some, None, length, set}
use Rattle.values.specs.declared.Filled.{Filled}

-- the reference is the one that was lent, and the table behind it is as long as it was
abbrev pub SameTable : Filled → Filled → Type 0
SameTable before exit = (exit.table.ghost_name ≡ before.table.ghost_name) × (length exit.table.now ≡ length before.table.now)

-- x stands in the next place, and the answer is that place
pub record Pushed (before : Filled) (x : ℕ) (r : Option ℕ) (exit : Filled) : Type 0 where
  pub answer : r ≡ Some before.len
  pub table : exit.table.now ≡ set before.table.now before.len x
  pub used : exit.len ≡ before.len + 1

-- there is no next place, and nothing changed
pub record NotPushed (before : Filled) (r : Option ℕ) (exit : Filled) : Type 0 where
  pub answer : r ≡ None
  pub table : exit.table.now ≡ before.table.now
  pub used : exit.len ≡ before.len
