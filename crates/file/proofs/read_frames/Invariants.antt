-- `file::read_frames` meets its contract: the loop keeps Progress, and each way out is the answer of the whole.
-- Assumes nothing.
use mathlib.Core.Path.{◌≡◌}
use Prim.Native.Nat.{◌-◌}
use lib.ListN.{length}
use Rattle.frames.specs.Turn.{SameReferences}
use Rattle.file.proofs.Progress.{Progress}
use Rattle.file.proofs.read_frames.Given as goal

abbrev pub invariant-loop-at : goal.invariant-loop-at
invariant-loop-at l = record {
  progress : Progress l.input l.tables l.at l.frame l.counts l.policy;
  sized : length l.buffer ≡ 68;
  same : SameReferences l.initial.tables l.tables;
}

abbrev pub decreases-loop-at : goal.decreases-loop-at
decreases-loop-at l = length l.input - l.at
