-- `frames::take_frame` meets its contract: a frame in its place is taken by its kind's function, and any other is refused by 3.
-- Assumes nothing.
use mathlib.Core.Path.{sym, ◌∙◌}
use Rattle.std.proofs.Common.{rules}
use Rattle.frames.proofs.Turns.{misplaced, command_place, line_place, placed}
use Rattle.frames.proofs.take_frame.Goals as goal

pub returns-then-not-allows-clause-answer : goal.returns-then-not-allows-clause-answer
returns-then-not-allows-clause-answer c = misplaced _ _ _ _ _ _ _ _ (sym c.allows.ensures ∙ c.if-not-allows.true)

pub returns-in-2-clause-answer : goal.returns-in-2-clause-answer
returns-in-2-clause-answer c r counted held =
    let here = command_place c.args.f.now _ c.in-2.is (sym c.allows.ensures ∙ c.if-not-allows.false) in
    let kept = c.command_turn.ensures.lines_kept in
    rw (kept.0, kept.1) (c.command_turn.ensures.answer _ _ _ r (placed counted here) held)

pub returns-in_default-clause-answer : goal.returns-in_default-clause-answer
returns-in_default-clause-answer c =
    let kept = c.line_turn.ensures.commands_kept in
    rw (kept.0, kept.1)
    (c.line_turn.ensures.answer _ _ (line_place c.args.f.now _ (search rules) (sym c.allows.ensures ∙ c.if-not-allows.false)))
