-- `frames::command::names_made` meets its contract. The loop's invariant: the steps from the i-th on decide, with i values more.
-- Assumes nothing.
use Rattle.frames.proofs.Steps.{Naming}
use Rattle.frames.proofs.command.names_made.Given as goal

abbrev pub invariant-loop-i : goal.invariant-loop-i
invariant-loop-i l = Naming l.params l.steps l.i
