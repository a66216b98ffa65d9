-- `line::run_steps` meets its contract: the loop keeps Running, and each way out is the answer of the whole.
-- Assumes nothing.
use native.Mathlib.Omega.{arith}
use Rattle.std.proofs.lemmas.Result.{err_from_is_err_and}
use Rattle.line.proofs.Steps.{running_begins, next_is_ready, running_ends, running_goes_on, steps_run_out}
use Rattle.line.proofs.run_steps.Goals as goal

pub loop-i-init : goal.loop-i-init
loop-i-init c = running_begins c.requires.values_long

pub perform_step-requires : goal.perform_step-requires
perform_step-requires c =
    next_is_ready c.loop-i.invariant c.loop-i-test.true _ _ _ c.step_of-s.ensures c.row_of-x.ensures c.row_of-y.ensures
    c.requires

pub returns-in_err-values-clause-performs : goal.returns-in_err-values-clause-performs
returns-in_err-values-clause-performs c =
    let p = err_from_is_err_and c.from_residual.result c.from_residual.ensures.1 in
    rw (p.1, p.2)
    (running_ends c.loop-i.invariant c.loop-i-test.true _ _ _ c.step_of-s.ensures c.row_of-x.ensures c.row_of-y.ensures
    c.perform_step.new.self _ c.in_err-values.ensures.performed)

pub loop-i-preserved : goal.loop-i-preserved
loop-i-preserved c =
    running_goes_on c.loop-i.invariant c.loop-i-test.true _ _ _ c.step_of-s.ensures c.row_of-x.ensures c.row_of-y.ensures _
    (omega (arith, c.loop-i-test.true, c.requires.few_steps, c.requires.few_params)) c.perform_step.ensures.same_tables _
    c.in_ok-values.ensures.performed

pub returns-clause-performs : goal.returns-clause-performs
returns-clause-performs c = steps_run_out c.loop-i.invariant c.loop-i-test.false
