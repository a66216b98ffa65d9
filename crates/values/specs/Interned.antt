-- What becomes of a value that appears, and how the code's answer tells it.
use Rattle.std.specs.Prelude.{ℕ, ◌+◌, cond, ltb, Option, Some, None}

-- it has a row already, it gets the next one, or there is no room for it
pub data Interned : Type 0 where
  Found Added : ℕ → Interned
  NoRoom : Interned

-- the code answers with a row, which is a new one where there are more of them than before, or with nothing
abbrev pub interned_told : Option ℕ → ℕ → ℕ → Interned
interned_told (Some i) before exit = cond (ltb before exit) (Added i) (Found i)
interned_told None before exit = NoRoom

-- how many rows there are then
abbrev pub count_after : Interned → ℕ → ℕ
count_after (Found i) n = n
count_after (Added i) n = n + 1
count_after NoRoom n = n
