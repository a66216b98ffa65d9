-- `keys::records` meets its contract. The loop's invariant: the records of the first k numbers stand, and the others are empty.
-- Assumes nothing.
use native.Mathlib.Omega.{arith}
use Rattle.keys.proofs.Unpacking.{no_records, records_more}
use Rattle.keys.proofs.records.Goals as goal

pub loop-k-init : goal.loop-k-init
loop-k-init c = no_records c.args.keys.now c.default-recs.result c.default-recs.ensures

pub loop-k-preserved : goal.loop-k-preserved
loop-k-preserved c =
    rw (c.from.ensures, c.loop-k.invariant) (records_more c.args.keys.now c.loop-k.k (omega arith) (omega arith))
