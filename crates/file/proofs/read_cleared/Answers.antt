-- `file::read_cleared` meets its contract: too long, a refusal whose tables are cleared again, or a file.
-- Assumes nothing.
use mathlib.Core.Path.{sym, ◌∙◌}
use native.Mathlib.Omega.{arith}
use Rattle.file.proofs.Whole.{too_long, refusal_left, file_left}
use Rattle.file.proofs.read_cleared.Goals as goal

pub returns-then-input-gt-LONGEST_INPUT : goal.returns-then-input-gt-LONGEST_INPUT
returns-then-input-gt-LONGEST_INPUT c = too_long _ _ _ _ _ c.requires c.if-input-gt-LONGEST_INPUT.true

pub returns-then-is_err : goal.returns-then-is_err
returns-then-is_err c =
    let told = c.read_frames-answer.ensures in
    let again = c.clear_read.ensures.same_references in
    refusal_left _ _ _ c.clear_read.new.tables told.framed (sym c.is_err.ensures.value ∙ c.if-is_err.true) c.clear_read.ensures.zeros
    (record { heads_are = grind arith; arguments_are = grind arith; commands_are = grind arith; steps_are = grind arith })

pub returns-else-is_err : goal.returns-else-is_err
returns-else-is_err c =
    let told = c.read_frames-answer.ensures in
    file_left _ _ c.read_frames-answer.new.tables told.framed (sym c.is_err.ensures.value ∙ c.if-is_err.false)
    (record { heads_are = grind arith; arguments_are = grind arith; commands_are = grind arith; steps_are = grind arith })
