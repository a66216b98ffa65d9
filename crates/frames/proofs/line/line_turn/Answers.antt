-- `frames::line::line_turn` meets its contract: each way out is a law of a session line's frame, at what was tested before it.
-- Assumes nothing.
use mathlib.Core.Path.{refl}
use native.Mathlib.Omega.{arith}
use Rattle.std.proofs.lemmas.Result.{err_from_is_err_and}
use Rattle.frames.proofs.Turns.{some_number}
use Rattle.frames.proofs.Lines.{line_unformed, line_refused, line_taken}
use Rattle.frames.proofs.line.line_turn.Goals as goal

pub returns-in_default-clause-answer : goal.returns-in_default-clause-answer
returns-in_default-clause-answer c =
    λ place s here. line_unformed _ (omega arith) (c.in_default.ensures).formed _ _ _ _ _ s place here

pub returns-in_err-lowest-clause-answer : goal.returns-in_err-lowest-clause-answer
returns-in_err-lowest-clause-answer c =
    let p = err_from_is_err_and c.from_residual.result c.from_residual.ensures.1 in
    let read = c.in-Some.ensures in
    rw (p.1, p.2)
    (λ place s here. line_refused _ (omega arith) read.formed _ _ _ _ (rw read.bytes at c.names.ensures) _ (c.in_err-lowest.ensures)
    (some_number _) _ _ s place here)

pub returns-clause-answer : goal.returns-clause-answer
returns-clause-answer c =
    let read = c.in-Some.ensures in
    line_taken _ (omega arith) read.formed _ _ _ _ (rw read.bytes at c.names.ensures) _ (c.in_ok-lowest.ensures) refl
    (rw read.bytes at c.store.ensures.stored)
