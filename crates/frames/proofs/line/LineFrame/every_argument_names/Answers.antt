-- `frames::line::LineFrame::every_argument_names` meets its contract. The loop's invariant: the arguments from i on decide.
-- Assumes nothing.
use native.Mathlib.Omega.{arith}
use Rattle.frames.proofs.Arguments.{naming_turn, naming_fails, naming_done}
use Rattle.frames.proofs.line.LineFrame.every_argument_names.Goals as goal

pub returns-then-not-argument_names : goal.returns-then-not-argument_names
returns-then-not-argument_names c =
    naming_fails c.loop-i.invariant (omega arith) c.argument.ensures _ c.argument_names.ensures c.if-not-argument_names.true

pub loop-i-preserved : goal.loop-i-preserved
loop-i-preserved c =
    naming_turn c.loop-i.invariant (omega arith) c.argument.ensures _ c.argument_names.ensures c.if-not-argument_names.false

pub returns : goal.returns
returns c = naming_done c.loop-i.invariant (omega arith)
