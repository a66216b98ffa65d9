-- Making the last entries of a table unused again: where there are zeros after the first `to` of them, there are zeros then
-- after the first `from`.
use Rattle.std.specs.Prelude.{ℕ, ◌≡◌, List, length, take}
use Rattle.model.specs.Tables.{padded}

pub record Forgets (from to : ℕ) (before exit : List ℕ) : Type 0 where
  pub length_kept : length exit ≡ length before
  pub cut : before ≡ padded (length before) (take to before) → exit ≡ padded (length before) (take from before)
