-- `printing::put_frame` meets its contract. The loop's invariant: to write the frame's other bytes from the place on gives the whole.
-- Assumes nothing.
use Rattle.printing.proofs.Laws.{Writing}
use Rattle.printing.proofs.put_frame.Given as goal

abbrev pub invariant-loop-byte : goal.invariant-loop-byte
invariant-loop-byte l = Writing l.frame l.at l.initial.buffer l.buffer l.place l.byte-index
