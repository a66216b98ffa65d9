-- What the run of a read file leaves: the session that the model runs, in the tables that reading filled.
-- Assumes nothing.
use Rattle.std.proofs.Common.{ℕ, ◌≤◌, ◌≡◌, sym, ap, ◌∙◌, subst, List, length, Ok, Err}
use Rattle.model.specs.Frame.{File}
use Rattle.model.specs.File.{file}
use Rattle.model.specs.Report.{run_of}
use Rattle.model.specs.Tables.{Tables, Rows, RunAnswer, tables_read, tables_run, run_answer, ReadIs, RunIs}
use Rattle.model.specs.Told.{read_told, run_told}
use Rattle.model.specs.declared.Contents.{Contents}
use Rattle.model.specs.declared.Refusal.{Refusal}
use Rattle.session.specs.Sessioned.{SessionGiven, SessionReady, RanIs, FileKept}
use Rattle.session.specs.declared.Session.{Session}
use Rattle.migladze.proofs.Taken.{refusal_read, no_file, TakenFile, one_file}

module _ {input : List ℕ} {lent left : Tables} (r : Refusal) (h : ReadIs input lent (read_told (Err r)) left) where
  pub refusal_run : RunIs input lent (run_told (Err r)) left
  unfolding run_answer tables_read tables_run
  refusal_run =
      let p = refusal_read r h in
      record { answer = rw p; tables = rw p (rw p at h.tables); few = λ φ q. no_file r h φ q; apart = λ φ q. no_file r h φ q }

module _ {input : List ℕ} {lent left : Tables} {c : Contents} (f : TakenFile input lent left c) where
  pub given_to_run : SessionGiven f.φ left c.lines
  unfolding tables_read
  given_to_run = record {
    well_read = f.well_read;
    held = record {
      heads_are = ap (λ x. x.heads) f.tables_are;
      arguments_are = ap (λ x. x.arguments) f.tables_are;
      commands_are = ap (λ x. x.commands) f.tables_are;
      steps_are = ap (λ x. x.steps) f.tables_are;
    };
    rows_zero = ap (λ x. x.rows) f.tables_are;
    keys_zero = ap (λ x. x.keys) f.tables_are;
    outcomes_zero = ap (λ x. x.outcomes) f.tables_are;
    lines_counted = f.lines_counted;
  }

  pub ready_to_run : SessionReady left c.lines
  ready_to_run = record { φ = f.φ; given = given_to_run }

  module _ (s : Session) {after : Tables} (h : RanIs (run_of f.φ) s after) (k : FileKept left after) where
    left_by_run : after ≡ tables_run lent (file f.φ)
    unfolding tables_run tables_read
    left_by_run = λ i. record {
      rows = h.rows_are i;
      keys = h.keys_are i;
      heads = (k.heads ∙ ap (λ (t : Tables). t.heads) f.tables_are) i;
      arguments = (k.arguments ∙ ap (λ (t : Tables). t.arguments) f.tables_are) i;
      outcomes = h.outcomes_are i;
      commands = (k.commands ∙ ap (λ (t : Tables). t.commands) f.tables_are) i;
      steps = (k.steps ∙ ap (λ (t : Tables). t.steps) f.tables_are) i;
    }

    pub file_run : {r : RunAnswer} → r ≡ run_told (Ok s.ran) → RunIs input lent r after
    unfolding run_answer
    file_run e = record {
      answer = rw (e, f.read_is, h.ending_is, h.place_is, h.first_is);
      tables = left_by_run ∙ ap (tables_run lent) (sym f.read_is);
      few = λ φ q. subst (λ (ψ : File). length (run_of ψ).session.state.world.rows ≤ 4096) (one_file f φ q) h.rows_few;
      apart = λ φ q. subst (λ (ψ : File). Rows (run_of ψ).session.state.world.rows) (one_file f φ q) h.rows_apart;
    }
