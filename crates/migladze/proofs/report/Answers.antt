-- `migladze::report` meets its contract: reading, judging and running fill what printing prints.
-- Assumes nothing.
use borrow.Author.Rules.{rules}
use Rattle.std.proofs.Common.{sym, ap, ◌∙◌, arith, length-take-le}
use Rattle.model.specs.Tables.{zeros}
use Rattle.migladze.proofs.Taken.{file_taken, given_to_judge, few_commands}
use Rattle.migladze.proofs.Running.{given_to_run, ready_to_run}
use Rattle.migladze.proofs.Reporting.{report_made, refusal_in_bytes, refusal_reported}
use Rattle.migladze.proofs.Reporting.{verdict_in_bytes, finished_in_table, few_printed, lines_to_print, breach_in_bytes, file_reported}
use Rattle.migladze.proofs.report.Goals as goal

pub print_refusal-requires : goal.print_refusal-requires
print_refusal-requires c =
    let size = c.if-buffer-ne-REPORT_SIZE.false in
    let long = c.fill.ensures.len in
    record {
      empty = c.fill.ensures.after (λ y e. e) ∙ ap zeros (sym long);
      room = omega arith;
      frame = refusal_in_bytes _ c.in-Err.ensures;
    }

pub returns-in-Err : goal.returns-in-Err
returns-in-Err c =
    let size = c.if-buffer-ne-REPORT_SIZE.false in
    report_made size (refusal_reported _ c.in-Err.ensures (c.fill.ensures.len ∙ size) c.print_refusal.ensures)

pub judge-judged-requires : goal.judge-judged-requires
judge-judged-requires c =
    let f = file_taken _ c.in-Ok.ensures in
    (few_commands f, omega (arith, f.lengths.commands_length), omega (arith, f.lengths.steps_length))

pub run_session-session-requires : goal.run_session-session-requires
run_session-session-requires c = ready_to_run (file_taken _ c.in-Ok.ensures)

pub slice_bounds-print_report-end : goal.slice_bounds-print_report-end
slice_bounds-print_report-end c =
    let f = file_taken _ c.in-Ok.ensures in
    finished_in_table f _ (c.run_session-session.ensures.ran f.φ (given_to_run f))

pub slice_bounds-print_report-end-2 : goal.slice_bounds-print_report-end-2
slice_bounds-print_report-end-2 c =
    let f = file_taken _ c.in-Ok.ensures in
    sym (length-take-le _ _ (finished_in_table f _ (c.run_session-session.ensures.ran f.φ (given_to_run f))))

pub print_report-requires : goal.print_report-requires
print_report-requires c =
    let size = c.if-buffer-ne-REPORT_SIZE.false in
    let long = c.fill.ensures.len in
    let f = file_taken _ c.in-Ok.ensures in
    let ran = c.run_session-session.ensures.ran f.φ (given_to_run f) in
    record {
      empty = c.fill.ensures.after (λ y e. e) ∙ ap zeros (sym long);
      room = omega arith;
      verdict = verdict_in_bytes f (c.judge-judged.ensures f.φ (given_to_judge f));
      lines = few_printed f _ ran;
      breach = breach_in_bytes f _ ran (search rules);
    }

pub returns : goal.returns
returns c =
    let size = c.if-buffer-ne-REPORT_SIZE.false in
    let f = file_taken _ c.in-Ok.ensures in
    let ran = c.run_session-session.ensures.ran f.φ (given_to_run f) in
    let judged = c.judge-judged.ensures f.φ (given_to_judge f) in
    let kept = c.run_session-session.ensures.file_kept in
    let printed = c.print_report.ensures _ (lines_to_print f _ ran) in
    report_made size (file_reported f _ ran kept judged (search rules) (search rules) (c.fill.ensures.len ∙ size) printed)
