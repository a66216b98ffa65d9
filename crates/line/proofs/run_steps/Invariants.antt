-- `line::run_steps` meets its contract: the loop keeps Running, and each way out is the answer of the whole.
-- Assumes nothing.
use Rattle.line.proofs.Steps.{Running}
use Rattle.line.proofs.run_steps.Given as goal

abbrev pub invariant-loop-i : goal.invariant-loop-i
invariant-loop-i l = Running l.initial.token l.steps l.params l.initial.values l.token l.values l.i
