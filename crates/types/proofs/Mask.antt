-- One mask tells whether a template contains all attributes of a step's set.
-- Assumes nothing.
use mathlib.Core.Path.{◌≡◌, refl}
use Prim.Native.Nat.{ℕ, ◌<◌, ◌%◌}
use lib.Bits.{bit_and}
use lib.Dec.{eqb}
use Rattle.model.specs.Types.{contains}
use Rattle.types.proofs.Table.{same_at_pairs}

pub contains_by_mask : (m t : ℕ) → m < 64 → t < 256 → eqb (bit_and m (t % 64)) (t % 64) ≡ contains m t
contains_by_mask = same_at_pairs (λ m t. eqb (bit_and m (t % 64)) (t % 64)) contains 64 256 refl
