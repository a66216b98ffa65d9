-- `typing::judge` meets its contract. The loop's invariant: the commands from c on say what all of them say.
-- What the tables hold comes in only at the end, where the caller's `Given` makes their commands those of the file.
-- Assumes nothing.
use mathlib.Core.Path.{◌≡◌}
use Rattle.typing.proofs.Judging.{judged_from}
use Rattle.typing.proofs.judge.Given as goal

abbrev pub invariant-loop-c : goal.invariant-loop-c
invariant-loop-c l = judged_from l.policy l.n l.commands l.steps 0 ≡ judged_from l.policy l.n l.commands l.steps l.c
