-- `line::take_arguments` meets its contract: the loop keeps Taking, and each way out is the answer of the whole.
-- Assumes nothing.
use Rattle.line.proofs.AllArguments.{Taking}
use Rattle.line.proofs.take_arguments.Given as goal

abbrev pub invariant-loop-i : goal.invariant-loop-i
invariant-loop-i l = Taking l.initial.token l.outcomes l.args l.count l.token l.values l.left l.i
