-- `line::argument` meets its contract: a constant appears, and an earlier line's number in the table tells its value's row or that it
-- stopped.
-- Assumes nothing.
use borrow.Author.Rules.{rules}
use mathlib.Core.Path.{refl}
use Rattle.line.proofs.OneArgument.{constant_is_taken, line_is_taken}
use Rattle.line.proofs.argument.Goals as goal

pub returns-then-code-ge32768-clause-performs : goal.returns-then-code-ge32768-clause-performs
returns-then-code-ge32768-clause-performs c = λ σ fs a G.
    rw c.ok_or.ensures.value
    (constant_is_taken c.if-code-ge32768.true c.appear_const-row.result refl refl c.appear_const-row.ensures.appears a G (search rules))

pub returns-clause-performs : goal.returns-clause-performs
returns-clause-performs c = λ σ fs a G.
    rw (c.ok_or-2.ensures.value, c.earlier_row.ensures) (line_is_taken c.if-code-ge32768.false a G)
