-- `text::write_pairs` meets its contract. The loop keeps `Writing`: those before the i-th are pairs of digits.
-- Assumes nothing.
use Rattle.text.proofs.Laws.{Writing}
use Rattle.text.proofs.write_pairs.Given as goal

abbrev pub invariant-loop-i : goal.invariant-loop-i
invariant-loop-i l = Writing l.rest l.initial.frame l.frame l.i
