-- `session::run_session` meets its contract: its loop keeps `Running`, whatever file the tables hold.
-- Assumes nothing.
use Rattle.session.specs.Lent.{lent}
use Rattle.session.proofs.Running.{Running}
use Rattle.session.proofs.run_session.Given as goal

abbrev pub invariant-loop-i : goal.invariant-loop-i
invariant-loop-i l = Running (lent l.fn.tables) l.m l.initial.token l.token l.outcomes l.hand l.first_breach l.i
