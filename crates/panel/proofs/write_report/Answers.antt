-- `panel::write_report` meets its contract: what was read says the whole input's report, and that stands at the front of its buffer.
-- Assumes nothing.
use Rattle.std.proofs.Common.{ℕ, arith, refl, sym, length-take-le}
use Rattle.std.proofs.lemmas.List.{length-replicate}
use Rattle.panel.proofs.Whole.{report_of_all, count_within, report_in_front}
use Rattle.panel.proofs.write_report.Goals as goal

pub slice_bounds-points-end : goal.slice_bounds-points-end
slice_bounds-points-end g c = count_within c.report-count.ensures c.report-count.auto.buffer

pub slice_bounds-write_all-end : goal.slice_bounds-write_all-end
slice_bounds-write_all-end g c = sym (length-take-le _ _ (count_within c.report-count.ensures c.report-count.auto.buffer))

pub returns : goal.returns
returns g c =
    let read = c.in_ok-n.ensures in
    let room = c.read_full.auto.buffer in
    report_of_all c.write_all.result _ _ _ _ _ _ read.bytes
    (λ few. read.end (omega (arith, few, room, length-replicate {A = ℕ} 32769 0, read.count.1)))
    (report_in_front c.report-count.ensures refl) c.write_all.ensures.bytes
