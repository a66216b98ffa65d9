-- `frames::command::decode` meets its contract. The loop's invariant: the steps so far, and zero behind them.
-- Assumes nothing.
use Rattle.frames.proofs.Steps.{Decoding}
use Rattle.frames.proofs.command.decode.Given as goal

abbrev pub invariant-loop-i : goal.invariant-loop-i
invariant-loop-i l = Decoding l.part l.steps l.count l.i
