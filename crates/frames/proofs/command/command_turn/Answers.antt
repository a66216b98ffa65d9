-- `frames::command::command_turn` meets its contract: each way out is a law of a command's frame, at what was tested before it.
-- Assumes nothing.
use mathlib.Core.Path.{refl}
use native.Mathlib.Omega.{arith}
use Rattle.std.proofs.lemmas.Result.{err_from_is_err_and}
use Rattle.frames.proofs.Turns.{some_number}
use Rattle.frames.proofs.Commands.{head_unformed, command_refused, command_taken}
use Rattle.frames.proofs.command.command_turn.Goals as goal

pub returns-then-not-head_formed-clause-answer : goal.returns-then-not-head_formed-clause-answer
returns-then-not-head_formed-clause-answer c =
    λ m h a. head_unformed _ (omega arith) _ c.head_formed.ensures c.if-not-head_formed.true _ _ _ m h a

pub returns-in_err-lowest-clause-answer : goal.returns-in_err-lowest-clause-answer
returns-in_err-lowest-clause-answer c =
    let p = err_from_is_err_and c.from_residual.result c.from_residual.ensures.1 in
    rw (p.1, p.2)
    (λ m h a. command_refused _ (omega arith) _ c.head_formed.ensures c.if-not-head_formed.false _ c.decode-c.ensures
    _ _ (rw c.from.ensures at c.steps_formed.ensures) (rw c.from.ensures at c.names_made.ensures) _ _ (c.in_err-lowest.ensures)
    (some_number _) _ _ m h a)

pub returns-clause-answer : goal.returns-clause-answer
returns-clause-answer c =
    command_taken _ (omega arith) _ c.head_formed.ensures c.if-not-head_formed.false _ c.decode-c.ensures
    _ _ (rw c.from.ensures at c.steps_formed.ensures) (rw c.from.ensures at c.names_made.ensures) _ _ (c.in_ok-lowest.ensures) refl
    c.store_command.ensures.stored
