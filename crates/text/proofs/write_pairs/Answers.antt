-- `text::write_pairs` meets its contract. The loop keeps `Writing`, and each exit is a law on it.
-- Assumes nothing.
use native.Mathlib.Omega.{arith}
use Rattle.text.proofs.Laws.{start, no_high, no_low, stored, full, all_written}
use Rattle.text.proofs.write_pairs.Goals as goal
use Rattle.text.proofs.write_pairs.Goals.{then-i-frame, else-i-frame}

pub loop-i-init : goal.loop-i-init
loop-i-init c = start _ _

pub returns-in_default : goal.returns-in_default
returns-in_default c = no_high c.loop-i.invariant c.loop-i-test.true c.in_default.ensures

pub returns-in_default-digit_value : goal.returns-in_default-digit_value
returns-in_default-digit_value c = no_low c.loop-i.invariant c.loop-i-test.true c.in_default-digit_value.ensures

pub loop-i-preserved : goal.loop-i-preserved
loop-i-preserved c =
    let v = c.loop-i.invariant in
    elim c.if-i-frame.branch [
      | then-i-frame w ↦ stored v c.loop-i-test.true (omega arith) (omega arith) w.if-i-frame.true w.frame-is (omega arith)
      | else-i-frame w ↦ full v c.loop-i-test.true (omega arith) (omega arith) w.if-i-frame.false w.frame-is
    ]

pub returns : goal.returns
returns c = all_written c.loop-i.invariant (omega arith)
