-- `typing::judge` meets its contract. The loop's invariant: the commands from c on say what all of them say.
-- What the tables hold comes in only at the end, where the caller's `Given` makes their commands those of the file.
-- Assumes nothing.
use mathlib.Core.Path.{sym, ◌∙◌}
use Prim.Native.Nat.{◌+◌}
use native.Mathlib.Omega.{arith}
use Rattle.std.proofs.lemmas.Result.{err_from_is_err_and}
use Rattle.typing.proofs.Judging.{refused_in, met_in, met_in_all, judged_is_verdict}
use Rattle.typing.proofs.judge.Goals as goal

pub returns-in_err-judge_command : goal.returns-in_err-judge_command
returns-in_err-judge_command c =
    let a = c.args in
    let out = err_from_is_err_and c.from_residual.result c.from_residual.ensures.1 in
    λ φ given.
    rw (out.1, out.2)
    (refused_in _ a.n a.commands.now a.steps.now c.loop-c.c _ _ c.judge_command.ensures
    (omega arith) (omega arith) _ c.in_err-judge_command.was
    ∙ sym c.loop-c.invariant
    ∙ judged_is_verdict φ _ _ _ _ given)

pub loop-c-preserved : goal.loop-c-preserved
loop-c-preserved c =
    let a = c.args in
    c.loop-c.invariant
    ∙ met_in _ a.n a.commands.now a.steps.now c.loop-c.c _ _ c.judge_command.ensures (omega arith) (omega arith)
    _ (c.loop-c.c + 1) c.in_ok-judge_command.was (omega arith)

pub returns : goal.returns
returns c =
    λ φ given.
    met_in_all _ _ _ _ c.loop-c.c (omega arith)
    ∙ sym c.loop-c.invariant
    ∙ judged_is_verdict φ _ _ _ _ given
