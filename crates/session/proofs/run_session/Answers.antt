-- `session::run_session` meets its contract: its loop keeps `Running`, whatever file the tables hold.
-- Assumes nothing.
use borrow.Author.Rules.{rules}
use mathlib.Core.Path.{refl}
use native.Mathlib.Omega.{arith}
use Rattle.line.proofs.States.{same_tables_trans}
use Rattle.session.proofs.Running.{running_start, lengths_of, running_end, running_line, running_settle, running_over, running_finish}
use Rattle.session.proofs.Running.{running_next}
use Rattle.session.proofs.run_session.Goals as goal

pub loop-i-init : goal.loop-i-init
loop-i-init c = running_start c.requires _ refl refl refl refl

pub bounds-heads-i : goal.bounds-heads-i
bounds-heads-i c =
    let long = lengths_of c.requires in
    omega (arith, long.heads, long.few_lines)

pub bounds-arguments-i : goal.bounds-arguments-i
bounds-arguments-i c =
    let long = lengths_of c.requires in
    omega (arith, long.arguments, long.few_lines)

pub run_line-outcome-requires : goal.run_line-outcome-requires
run_line-outcome-requires c = running_line c.requires c.loop-i.invariant c.loop-i-test.true

pub settle-requires : goal.settle-requires
settle-requires c =
    running_settle c.requires c.loop-i.invariant c.loop-i-test.true refl _ c.run_line-outcome.new.token c.run_line-outcome.ensures.performs

pub finish_line-mark-requires : goal.finish_line-mark-requires
finish_line-mark-requires c =
    let line = c.run_line-outcome in
    let settled = c.settle in
    running_finish c.requires c.loop-i.invariant c.loop-i-test.true refl _ line.new.token line.ensures.performs settled.new.token
    (same_tables_trans c.loop-i.token line.new.token settled.new.token line.ensures.same_tables settled.ensures.same_tables)
    c.in-Ok.ensures.settled

pub returns-in-Err-clause-ran : goal.returns-in-Err-clause-ran
returns-in-Err-clause-ran c =
    let line = c.run_line-outcome in
    let settled = c.settle in
    rw c.new.ensures
    (running_over c.requires c.loop-i.invariant c.loop-i-test.true refl _ line.new.token line.ensures.performs settled.new.token
    (same_tables_trans c.loop-i.token line.new.token settled.new.token line.ensures.same_tables settled.ensures.same_tables)
    c.in-Err.ensures.settled
    (record { rows = search rules; keys = search rules; outcomes_are = refl }))

pub loop-i-preserved : goal.loop-i-preserved
loop-i-preserved c =
    let line = c.run_line-outcome in
    let settled = c.settle in
    let loop = c.loop-i.invariant in
    rw (c.or-first_breach.ensures, c.then_some.ensures)
    (running_next c.requires loop c.loop-i-test.true refl _ line.new.token line.ensures.performs settled.new.token
    (same_tables_trans c.loop-i.token line.new.token settled.new.token line.ensures.same_tables settled.ensures.same_tables)
    c.in-Ok.ensures.settled c.finish_line-mark.ensures)

pub returns-clause-ran : goal.returns-clause-ran
returns-clause-ran c =
    rw c.new-2.ensures
    (running_end c.requires c.loop-i.invariant c.loop-i-test.false c.loop-i.auto.i-end
    (record { rows = search rules; keys = search rules; outcomes_are = refl }))
