-- `migladze::run` meets its contract: a refusal of reading is the answer, and a file is run by the session over its tables.
-- Assumes nothing.
use borrow.Author.Rules.{rules}
use Rattle.std.proofs.lemmas.Result.{err_from_is_err_and}
use Rattle.migladze.proofs.Taken.{file_taken}
use Rattle.migladze.proofs.Running.{refusal_run, given_to_run, ready_to_run, file_run}
use Rattle.migladze.proofs.run.Goals as goal

pub returns-in_err-lines-clause-answer : goal.returns-in_err-lines-clause-answer
returns-in_err-lines-clause-answer c =
    let p = err_from_is_err_and c.from_residual.result c.from_residual.ensures.1 in
    rw (p.1, p.2) (refusal_run _ c.in_err-lines.ensures)

pub run_session-requires : goal.run_session-requires
run_session-requires c = ready_to_run (file_taken _ c.in_ok-lines.ensures)

pub returns-clause-answer : goal.returns-clause-answer
returns-clause-answer c =
    let f = file_taken _ c.in_ok-lines.ensures in
    file_run f _ (c.run_session.ensures.ran f.φ (given_to_run f)) c.run_session.ensures.file_kept (search rules)

pub returns-clause-breach : goal.returns-clause-breach
returns-clause-breach c =
    let f = file_taken _ c.in_ok-lines.ensures in
    let h = c.run_session.ensures.ran f.φ (given_to_run f) in
    h.first_below
