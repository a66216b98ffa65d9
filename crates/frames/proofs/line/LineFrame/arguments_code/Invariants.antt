-- `frames::line::LineFrame::arguments_code` meets its contract. The loop's invariant: the code so far is that of the arguments from i on.
-- Assumes nothing.
use lib.ListN.{get_or}
use Rattle.frames.proofs.Arguments.{Coding}
use Rattle.frames.proofs.line.LineFrame.arguments_code.Given as goal

abbrev pub invariant-loop-i : goal.invariant-loop-i
invariant-loop-i l = Coding l.self.bytes.now l.code (get_or l.self.bytes.now 3 0) l.i
