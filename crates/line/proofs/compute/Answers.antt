-- `line::compute` meets its contract: the operation is done, and its value ends the line.
-- Assumes nothing.
use Rattle.std.proofs.lemmas.Result.{err_from_is_err_and}
use Rattle.line.proofs.States.{ends_with_halt}
use Rattle.line.proofs.Computes.{operands_below, ends_with_row}
use Rattle.line.proofs.compute.Goals as goal

pub compute-requires : goal.compute-requires
compute-requires c =
    let ready = c.requires in
    (ready.ready, operands_below c.args.operation ready.first_there (rw c.second_operand-second.ensures.is ready.second_there))

pub returns-in_err-row-clause-performs : goal.returns-in_err-row-clause-performs
returns-in_err-row-clause-performs c = λ σ S.
    let p = err_from_is_err_and c.from_residual.result c.from_residual.ensures.1 in
    rw (p.1, p.2, ← c.second_operand-second.ensures.is)
    (ends_with_halt _ c.compute.new.self _ (c.in_err-row.ensures.performed σ S))

pub returns-clause-performs : goal.returns-clause-performs
returns-clause-performs c = λ σ S.
    rw (← c.second_operand-second.ensures.is)
    (ends_with_row c.compute.new.self (c.in_ok-row.ensures.performed σ S))
