-- `file::read_tables` meets its contract: all tables are cleared, and their lengths decide before the input is looked at.
-- Assumes nothing.
use mathlib.Core.Path.{sym, ◌∙◌}
use Rattle.model.specs.Told.{lent}
use Rattle.file.proofs.Whole.{cleared_ready, all_cleared_refused, whole_read}
use Rattle.file.proofs.read_tables.Goals as goal

pub read_cleared-requires : goal.read_cleared-requires
read_cleared-requires c =
    cleared_ready (lent c.args.tables) (sym c.right_lengths-right.ensures ∙ c.if-not-right.false)
    (record {
      heads_zero = c.fill-3.ensures.after (λ y e. e);
      arguments_zero = c.fill-4.ensures.after (λ y e. e);
      commands_zero = c.fill-6.ensures.after (λ y e. e);
      steps_zero = c.fill-7.ensures.after (λ y e. e);
    })

pub returns-then-not-right : goal.returns-then-not-right
returns-then-not-right c =
    all_cleared_refused _ _ _ (sym c.right_lengths-right.ensures ∙ c.if-not-right.true)
    (rw (
      c.fill.ensures.after (λ y e. e),
      c.fill-2.ensures.after (λ y e. e),
      c.fill-3.ensures.after (λ y e. e),
      c.fill-4.ensures.after (λ y e. e),
      c.fill-5.ensures.after (λ y e. e),
      c.fill-6.ensures.after (λ y e. e),
      c.fill-7.ensures.after (λ y e. e),
    ))

pub returns : goal.returns
returns c =
    whole_read _ _ _ _ _ _ _ _ (sym c.right_lengths-right.ensures ∙ c.if-not-right.false) c.read_cleared.ensures
    (rw (c.fill.ensures.after (λ y e. e), c.fill-2.ensures.after (λ y e. e), c.fill-5.ensures.after (λ y e. e)))
