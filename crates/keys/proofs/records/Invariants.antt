-- `keys::records` meets its contract. The loop's invariant: the records of the first k numbers stand, and the others are empty.
-- Assumes nothing.
use mathlib.Core.Path.{◌≡◌}
use Rattle.keys.specs.Stored.{records_of}
use Rattle.keys.proofs.records.Given as goal

abbrev pub invariant-loop-k : goal.invariant-loop-k
invariant-loop-k l = l.recs ≡ records_of l.keys l.k
