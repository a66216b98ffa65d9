-- `frames::line::LineFrame::every_argument_names` meets its contract. The loop's invariant: the arguments from i on decide.
-- Assumes nothing.
use lib.ListN.{get_or}
use Rattle.frames.proofs.Arguments.{Naming}
use Rattle.frames.proofs.line.LineFrame.every_argument_names.Given as goal

abbrev pub invariant-loop-i : goal.invariant-loop-i
invariant-loop-i l = Naming l.self.bytes.now l.m (get_or l.self.bytes.now 3 0) l.i
