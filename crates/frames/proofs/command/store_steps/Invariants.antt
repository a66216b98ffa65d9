-- `frames::command::store_steps` meets its contract. The loop's invariant: the codes so far, over what was there.
-- Assumes nothing.
use Rattle.frames.proofs.Steps.{Storing}
use Rattle.frames.proofs.command.store_steps.Given as goal

abbrev pub invariant-loop-i : goal.invariant-loop-i
invariant-loop-i l = Storing l.steps l.initial.part l.part l.i
