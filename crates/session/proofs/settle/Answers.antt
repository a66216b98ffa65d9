-- `session::settle` meets its contract: a value keeps the state after the line; a stop or an ending undoes the line.
-- Assumes nothing.
use mathlib.Core.Path.{refl, sym, ◌∙◌}
use Rattle.token.specs.Carried.{state_of}
use Rattle.token.specs.declared.Halt.TheVariants as halt
use Rattle.session.proofs.Settling.{ended_settled, later_counts, undone_settled}
use Rattle.session.proofs.settle.Goals as goal

pub returns-in-Ended-clause-settled : goal.returns-in-Ended-clause-settled
returns-in-Ended-clause-settled c = λ σ out P tidy counts.
    ended_settled σ out c.args.outcome _ c.args.token.now P (rw (← c.err.ensures.value) (sym c.in-Ended.ensures))

pub returns-in-Stopped-clause-settled : goal.returns-in-Stopped-clause-settled
returns-in-Stopped-clause-settled c = λ σ out P tidy counts.
    let undone = c.undo_line in
    let before = c.args.token.now in
    undone_settled σ out c.args.outcome before undone.new.self P halt.Stopped
    (rw (← c.err.ensures.value) (sym c.in-Stopped.ensures))
    (λ k. tt)
    (undone.ensures.counted ∙ counts)
    (rw undone.ensures.guards_kept
    (undone.ensures.undone σ (state_of out) _ tidy P.carries P.extends counts (later_counts out c.args.outcome before P)))
    _ refl

pub returns-in-Full-clause-settled : goal.returns-in-Full-clause-settled
returns-in-Full-clause-settled c = λ σ out P tidy counts.
    let undone = c.undo_line-in-Full in
    let before = c.args.token.now in
    undone_settled σ out c.args.outcome before undone.new.self P (halt.Full c.in-Full.full)
    (rw (← c.err.ensures.value) (sym c.in-Full.ensures))
    (λ k. tt)
    (undone.ensures.counted ∙ counts)
    (rw undone.ensures.guards_kept
    (undone.ensures.undone σ (state_of out) _ tidy P.carries P.extends counts (later_counts out c.args.outcome before P)))
    _ refl
