-- `line::take_arguments` meets its contract: the loop keeps Taking, and each way out is the answer of the whole.
-- Assumes nothing.
use mathlib.Core.Path.{refl}
use Rattle.std.proofs.lemmas.Result.{err_from_is_err_and}
use Rattle.line.proofs.AllArguments.{taking_begins, next_is_ready, taking_ends, taking_goes_on, all_are_taken}
use Rattle.line.proofs.take_arguments.Goals as goal

pub loop-i-init : goal.loop-i-init
loop-i-init c = taking_begins refl

pub argument-requires : goal.argument-requires
argument-requires c =
    next_is_ready c.loop-i.invariant c.requires c.loop-i-test.true

pub returns-in_err-values-clause-taken : goal.returns-in_err-values-clause-taken
returns-in_err-values-clause-taken c =
    let p = err_from_is_err_and c.from_residual.result c.from_residual.ensures.1 in
    rw (p.1, p.2) (taking_ends c.loop-i.invariant c.loop-i-test.true _ c.argument.new.token c.in_err-values.ensures.performs)

pub loop-i-preserved : goal.loop-i-preserved
loop-i-preserved c =
    taking_goes_on c.loop-i.invariant c.loop-i-test.true c.requires.few _ _ c.argument.ensures.same_tables c.in_ok-values.ensures.performs

pub returns-clause-taken : goal.returns-clause-taken
returns-clause-taken c = all_are_taken c.loop-i.invariant c.loop-i-test.false
