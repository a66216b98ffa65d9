-- What is printed for an input is the model's answer: its numbers fit their bytes, and the printed parts are the answer's parts.
-- Assumes nothing.
use Rattle.std.proofs.Common.{ℕ, ◌≤◌, ◌<◌, ◌≡◌, refl, sym, ap, ◌∙◌, Bool, true, false, cond, List, map, length, take, arith}
use Rattle.std.proofs.Common.{Err, Option, Some, None, IfSome}
use Rattle.std.proofs.lemmas.List.{length-map}
use Rattle.model.specs.Typing.{Verdict, verdict}
use Rattle.model.specs.Text.{written}
use Rattle.model.specs.File.{refused, parse}
use Rattle.model.specs.Report.{refusal_frame, run_of, answer_to}
use Rattle.model.specs.Tables.{outcome_code, Tables, right_lengths, read_into, ReadIs, ReportIs, Reported, report_size}
use Rattle.model.specs.Numbers.{fault_number}
use Rattle.model.specs.Told.{read_told, ending_number, breach_told}
use Rattle.model.specs.declared.Refusal.{Refusal}
use Rattle.model.specs.declared.Contents.{Contents}
use Rattle.model.proofs.Fits.{verdict_fits, refusal_fits}
use Rattle.printing.specs.Printed.{Printed, VerdictFits, Lines, report_bytes}
use Rattle.values.proofs.Padded.{length_padded, take_padded}
use Rattle.session.specs.Sessioned.{RanIs, FileKept}
use Rattle.session.specs.declared.Session.{Session}
use Rattle.migladze.proofs.Taken.{refusal_read, TakenFile}
use Rattle.migladze.proofs.Running.{refusal_run, file_run}

pub report_made : {input space buffer : List ℕ} {lent left : Tables} {count : ℕ} → length space ≡ report_size
    → Reported input lent count left buffer → ReportIs input lent space count left buffer
report_made size made = record { right_size = λ _. made; wrong_size = λ other. absurd (other size) }

-- ---- a refusal

module _ {input : List ℕ} {lent left : Tables} (r : Refusal) (h : ReadIs input lent (read_told (Err r)) left) where
  pub refusal_in_bytes : r.frame < 65536
  unfolding read_into
  refusal_in_bytes = go (right_lengths lent) (refusal_read r h)
    where
      go : (b : Bool) → cond b (parse input) (refused 15 0) ≡ refused (fault_number r.fault) r.frame → r.frame < 65536
      go true q = (refusal_fits input (fault_number r.fault) r.frame q).1
      go false q = let place_is : 0 ≡ r.frame = cc in omega arith

  pub refusal_reported : {size count : ℕ} {buffer : List ℕ} → size ≡ report_size
      → Printed (written (refusal_frame (fault_number r.fault) r.frame)) size count buffer → Reported input lent count left buffer
  unfolding answer_to
  refusal_reported whole p =
      let q = refusal_read r h in
      record { count = rw q p.count; buffer_is = rw (q, ← whole) p.buffer_is; tables = (refusal_run r h).tables }

-- ---- a file

module _ {input : List ℕ} {lent left : Tables} {c : Contents} (f : TakenFile input lent left c) where
  pub verdict_in_bytes : {v : Verdict} → v ≡ verdict f.φ.policy f.φ.commands → VerdictFits v
  verdict_in_bytes e =
      let small = verdict_fits f.φ.policy f.φ.commands f.well_read.few_commands f.well_read.commands_read in
      rw e (record { frame_fits = small.frame_fits; step_fits = small.step_fits })

  module _ (s : Session) {after : Tables} (h : RanIs (run_of f.φ) s after) where
    abbrev codes : List ℕ
    codes = map outcome_code (run_of f.φ).session.finished

    codes_long : length codes ≡ s.finished
    codes_long = simp length-map (sym h.finished_is)

    pub finished_in_table : s.finished ≤ length after.outcomes
    finished_in_table =
        let few = h.few_lines in
        let long = ap length h.outcomes_are ∙ length_padded 1024 codes (omega (arith, codes_long, h.finished_is)) in
        omega (arith, h.finished_is)

    codes_printed : take s.finished after.outcomes ≡ codes
    codes_printed = ap (take s.finished) h.outcomes_are ∙ take_padded 1024 codes s.finished codes_long

    pub few_printed : length (take s.finished after.outcomes) ≤ 1024
    few_printed = let few = h.few_lines in omega (arith, ap length codes_printed, codes_long, h.finished_is)

    pub lines_to_print : Lines (run_of f.φ).session.finished (take s.finished after.outcomes)
    lines_to_print = record {
      codes_are = codes_printed;
      rows_fit = λ i l. (h.lines_fit i _ l).0;
      keys_fit = λ i l. (h.lines_fit i _ l).1;
    }

    pub breach_in_bytes : {n : ℕ} → n ≡ breach_told s.ran.first_breach → n < 65536
    breach_in_bytes e = rw e (go s.ran.first_breach h.first_below)
      where
        go : (a : Option ℕ) → IfSome a (λ i. i < 1024) → breach_told a < 65536
        go (Some i) below = omega arith
        go None below = omega arith

    abbrev printed_for : Verdict → ℕ → ℕ → List ℕ
    printed_for v ending breach = report_bytes v (run_of f.φ).session.finished ending breach

    pub file_reported : FileKept left after → {v : Verdict} {ending breach size count : ℕ} {buffer : List ℕ}
        → v ≡ verdict f.φ.policy f.φ.commands → ending ≡ ending_number s.ran.ending → breach ≡ breach_told s.ran.first_breach
        → size ≡ report_size → Printed (printed_for v ending breach) size count buffer → Reported input lent count after buffer
    unfolding answer_to
    file_reported kept e ends breaches whole p =
        let q = rw (e, ends, breaches, h.ending_is, h.first_is) at p in
        record {
          count = rw f.read_is q.count;
          buffer_is = rw (f.read_is, ← whole) q.buffer_is;
          tables = (file_run f s h kept refl).tables;
        }
