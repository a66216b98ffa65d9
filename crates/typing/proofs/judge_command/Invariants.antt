-- `typing::judge_command` meets its contract. The loop's invariant: the array holds the types of the values made before the step,
-- and the steps from it on say what the whole command says.
-- Assumes nothing.
use Rattle.decoding.specs.Decoded.{command_from}
use Rattle.typing.proofs.Judging.{Reached}
use Rattle.typing.proofs.judge_command.Given as goal

abbrev pub invariant-loop-step : goal.invariant-loop-step
invariant-loop-step l = Reached l.policy l.frame (command_from l.code l.steps) l.made l.step-counter
