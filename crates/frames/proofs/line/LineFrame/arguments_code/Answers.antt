-- `frames::line::LineFrame::arguments_code` meets its contract. The loop's invariant: the code so far is that of the arguments from i on.
-- Assumes nothing.
use native.Mathlib.Omega.{arith}
use Rattle.frames.proofs.Arguments.{coding_turn}
use Rattle.frames.proofs.line.LineFrame.arguments_code.Goals as goal

pub loop-i-preserved : goal.loop-i-preserved
loop-i-preserved c = rw c.from.ensures (coding_turn c.loop-i.invariant (omega arith) c.argument.ensures)
