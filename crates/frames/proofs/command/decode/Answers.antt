-- `frames::command::decode` meets its contract. The loop's invariant: the steps so far, and zero behind them.
-- Assumes nothing.
use mathlib.Core.Path.{refl}
use native.Mathlib.Omega.{arith}
use Rattle.frames.specs.Parts.{filled}
use Rattle.frames.proofs.Steps.{decode_turn}
use Rattle.frames.proofs.command.decode.Goals as goal

pub loop-i-init : goal.loop-i-init
unfolding filled
loop-i-init c = record { few = omega arith; whole = omega arith; laid = refl }

pub loop-i-preserved : goal.loop-i-preserved
loop-i-preserved c = decode_turn c.loop-i.invariant (omega arith) _ c.step_at.ensures
