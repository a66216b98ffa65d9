-- `file::read_frames` meets its contract: the loop keeps Progress, and each way out is the answer of the whole.
-- Assumes nothing.
use mathlib.Core.Path.{refl, sym, ap, ◌∙◌}
use lib.Seq.{length-take-le}
use native.Mathlib.Omega.{arith}
use Rattle.std.proofs.lemmas.Result.{err_from_is_err_and}
use Rattle.frames.specs.Turn.{turn_told}
use Rattle.file.proofs.Progress.{start, front_some, scan_well, scan_broken, turn_refused, policy_taken}
use Rattle.file.proofs.Progress.{command_taken, line_taken}
use Rattle.file.proofs.Progress.{refusal_framed, all_framed, none_told, some_told, fault_told, turn_kept}
use Rattle.file.proofs.read_frames.Goals as goal
use Rattle.file.proofs.read_frames.Goals.{in-Policy, in-Command, in-Line}

pub loop-at-init : goal.loop-at-init
loop-at-init c = record { progress = start _ c.args.tables.now c.requires.0; sized = refl; same = (refl, refl, refl, refl) }

pub returns-in_err-line-clause-framed : goal.returns-in_err-line-clause-framed
returns-in_err-line-clause-framed c =
    let p = err_from_is_err_and c.from_residual.result c.from_residual.ensures.1 in
    let none = none_told c.scan_line.result (c.in_err-line.ensures).value in
    rw (p.1, p.2, none.1)
    (refusal_framed _ _ _ _ c.requires.1 (scan_broken c.loop-at.invariant.progress c.loop-at-test.true c.scan_line.ensures none.0))

pub slice_bounds-buffer-end : goal.slice_bounds-buffer-end
slice_bounds-buffer-end c =
    let some = some_told c.scan_line.result _ (c.in_ok-line.ensures).value in
    (scan_well _ _ c.loop-at-test.true c.loop-at.invariant.sized c.scan_line.ensures some).fits

pub slice_bounds-take_frame-end : goal.slice_bounds-take_frame-end
slice_bounds-take_frame-end c =
    let some = some_told c.scan_line.result _ (c.in_ok-line.ensures).value in
    sym (length-take-le _ _ (scan_well _ _ c.loop-at-test.true c.loop-at.invariant.sized c.scan_line.ensures some).fits)

pub take_frame-turn-requires : goal.take_frame-turn-requires
take_frame-turn-requires c =
    let v = c.loop-at.invariant in
    let some = some_told c.scan_line.result _ (c.in_ok-line.ensures).value in
    let well = scan_well _ _ c.loop-at-test.true v.sized c.scan_line.ensures some in
    record {
      some_byte = front_some _ _ well.some_byte well.fits;
      few_commands = v.progress.few_commands;
      few_lines = v.progress.few_lines;
    }

pub returns-in_err-turn-clause-framed : goal.returns-in_err-turn-clause-framed
returns-in_err-turn-clause-framed c =
    let v = c.loop-at.invariant in
    let p = err_from_is_err_and c.from_residual-in_err-turn.result c.from_residual-in_err-turn.ensures.1 in
    let some = some_told c.scan_line.result _ (c.in_ok-line.ensures).value in
    let fault = fault_told c.take_frame-turn.result _ (c.in_err-turn.ensures) in
    rw (p.1, p.2, fault.1)
    (refusal_framed _ _ _ _ c.requires.1
    (turn_refused v.progress c.loop-at-test.true v.sized c.scan_line.ensures some refl
    c.take_frame-turn.new.tables c.take_frame-turn.ensures.answer _ fault.0))

pub loop-at-smaller : goal.loop-at-smaller
loop-at-smaller c =
    let some = some_told c.scan_line.result _ (c.in_ok-line.ensures).value in
    let later = (scan_well _ _ c.loop-at-test.true c.loop-at.invariant.sized c.scan_line.ensures some).later in
    omega arith

pub loop-at-preserved : goal.loop-at-preserved
loop-at-preserved c =
    let v = c.loop-at.invariant in
    let some = some_told c.scan_line.result _ (c.in_ok-line.ensures).value in
    let turn = ap turn_told (turn_kept c.take_frame-turn.result _ (c.in_ok-turn.ensures)) in
    let left = c.take_frame-turn.new.tables in
    let answer = c.take_frame-turn.ensures.answer in
    let same = c.take_frame-turn.ensures.same_references in
    record {
      progress =
          elim c.match-turn.branch [
            | in-Policy w ↦
                rw (w.policy-is, w.counts-is)
                (policy_taken v.progress c.loop-at-test.true v.sized c.scan_line.ensures some refl left answer (turn ∙ rw w.in-Policy.is))
            | in-Command w ↦
                rw (w.policy-is, w.counts-is)
                (command_taken v.progress c.loop-at-test.true v.sized c.scan_line.ensures some refl left answer (turn ∙ rw w.in-Command.is))
            | in-Line w ↦
                rw (w.policy-is, w.counts-is)
                (line_taken v.progress c.loop-at-test.true v.sized c.scan_line.ensures some refl left answer (turn ∙ rw w.in-Line.is))
          ];
      sized = omega arith;
      same = (same.0 ∙ v.same.0, same.1 ∙ v.same.1, same.2 ∙ v.same.2, same.3 ∙ v.same.3);
    }

pub returns-clause-framed : goal.returns-clause-framed
returns-clause-framed c = rw c.contents.ensures (all_framed c.loop-at.invariant.progress c.loop-at-test.false c.requires.1)
