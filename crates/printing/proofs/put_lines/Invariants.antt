-- `printing::put_lines` meets its contract. The loop's invariant: to put the other lines from the place on gives the whole.
-- Assumes nothing.
use Rattle.printing.proofs.Laws.{Putting}
use Rattle.printing.proofs.put_lines.Given as goal

abbrev pub invariant-loop-i : goal.invariant-loop-i
invariant-loop-i l = Putting l.codes l.at l.initial.buffer l.buffer l.place l.i
