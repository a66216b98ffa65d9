-- Demand 3 carried to the program's output: what it prints for an accepted input has no breach mark. And reading lets only lawful policies through.
-- Assumes nothing.
use Prim.Native.Nat.{ℕ, zero, suc, ◌≤◌}
use mathlib.Core.Path.{◌≡◌, refl, subst}
use mathlib.Core.Bool.{Bool, true, false, not, cond}
use mathlib.Core.List.{List, [], ◌∷◌, ◌++◌}
use native.Mathlib.Omega.{arith}
use lib.Dec.{T, eqb, leb, eqb→eq, leb→le, T_not, not_T}
use lib.ListN.{length}
use Rattle.model.specs.Basics.{All, ◌else◌then◌, index_by, some, up_from}
use Rattle.model.specs.Types.{typed, type_of_code}
use Rattle.model.specs.Policy.{lawful}
use Rattle.model.specs.Typing.{verdict, accepted, findings}
use Rattle.model.specs.Session.{Finished, Flat}
use Rattle.model.specs.Text.{TextLine, lines_of, well_written, bytes_of, written}
use Rattle.model.specs.Frame.{File, Reading, nothing_read, Kind, policy_kind, command_kind, line_kind, other_kind, kind_of, byte_at, policy_of, policy_formed, in_place, body_refusal, frame_refusal, with_frame}
use Rattle.model.specs.File.{Parsed, refused, file, line_refusal, after_frame, unless_refused, parse_from, parse}
use Rattle.model.specs.Report.{run_of, verdict_frame, line_frames, first_breach, answer_to, answer, program_room}
use Rattle.model.proofs.Tests.{and_right, met, every_in_range}
use Rattle.model.proofs.Lists.{none_passes}
use Rattle.model.proofs.Acceptance.{no_refusal, all_met}
use Rattle.model.proofs.Secure.{Lawful, accepted_is_flat}

-- ---- the policy of a file that is read is lawful

code_typed : (n : ℕ) → n ≤ 5 → T (typed (type_of_code n))
unfolding up_from
code_typed n l = every_in_range (λ c. typed (type_of_code c)) 0 6 tt n (omega arith) (omega arith)

policy_lawful : (f : List ℕ) → (policy_formed f else 4 then lawful (policy_of f) else 7 then 0) ≡ 0 → Lawful (policy_of f)
policy_lawful f e =
    let formed = met (policy_formed f) 3 (lawful (policy_of f) else 7 then 0) e in
    record {
      typed_templates = (met (lawful (policy_of f)) 6 0 formed.1).0;
      typed_transport = code_typed (byte_at f 1) (leb→le (byte_at f 1) 5 (and_right (eqb (length f) 10) (leb (byte_at f 1) 5) formed.0));
    }

-- past the policy's place there is a lawful policy
abbrev PolicyRead : Reading → Type 0
PolicyRead c = T (not (eqb c.place 0)) → Lawful c.file.policy

past_start : (n : ℕ) → 1 ≤ n → T (not (eqb n 0))
past_start n l = not_T (eqb n 0) (λ t. let e = eqb→eq n 0 t in omega arith)

policy_stays_read : (c : Reading) (k : Kind) (f : List ℕ) → PolicyRead c
    → (in_place c.place k else 3 then body_refusal c.file k f) ≡ 0 → PolicyRead (with_frame c.file k f)
policy_stays_read c policy_kind f h e =
    λ past. policy_lawful f (met (eqb c.place 0) 2 (body_refusal c.file policy_kind f) e).1
policy_stays_read c command_kind f h e =
    let placed = eqb→eq c.place 1 (met (eqb c.place 1) 2 (body_refusal c.file command_kind f) e).0 in
    λ past. h (past_start c.place (omega arith))
policy_stays_read c line_kind f h e =
    let placed = leb→le 1 c.place (met (leb 1 c.place) 2 (body_refusal c.file line_kind f) e).0 in
    λ past. h (past_start c.place placed)
policy_stays_read c other_kind f h e = λ past. absurd past

abbrev PolicyLawful : Parsed → Type 0
PolicyLawful (refused n k) = Unit {0}
PolicyLawful (file φ) = Lawful φ.policy

parsed_lawful : (ls : List TextLine) (k : ℕ) (c : Reading) → PolicyRead c → PolicyLawful (parse_from ls k c)
unfolding parse_from
parsed_lawful [] k c h = go (eqb c.place 0) h
  where
    go : (b : Bool) → (T (not b) → Lawful c.file.policy) → PolicyLawful (cond b (refused 3 0) (file c.file))
    go true g = tt
    go false g = g tt
parsed_lawful (l ∷ ls) k c h =
    let f = bytes_of l.body in
    go (line_refusal c l) refl (λ e. parsed_lawful ls (suc k) (after_frame c f)
    (policy_stays_read c (kind_of f) f h (met (well_written l) 1 (frame_refusal c f) e).1))
  where
    go : (n : ℕ) → line_refusal c l ≡ n
        → (line_refusal c l ≡ 0 → PolicyLawful (parse_from ls (suc k) (after_frame c (bytes_of l.body))))
        → PolicyLawful (unless_refused n k (parse_from ls (suc k) (after_frame c (bytes_of l.body))))
    go zero e later = later e
    go (suc n) e later = tt

parse_lawful : (input : List ℕ) → PolicyLawful (parse input)
unfolding parse
parse_lawful input = go (leb (length input) 32768)
  where
    go : (b : Bool) → PolicyLawful (cond b (parse_from (lines_of input) 0 nothing_read) (refused 1 0))
    go true = parsed_lawful (lines_of input) 0 nothing_read (λ past. absurd past)
    go false = tt

pub read_policy_lawful : (input : List ℕ) (φ : File) → parse input ≡ file φ → Lawful φ.policy
read_policy_lawful input φ e = subst PolicyLawful e (parse_lawful input)

-- ---- what the program prints

-- the lines' marks are all 0, the last frame names no line, and the verdict's frame says acceptance
pub record FlatOutput (input : List ℕ) (φ : File) : Type 0 where
  pub marks_flat : All Flat (run_of φ).session.finished
  pub output : answer input
      ≡ written (verdict_frame accepted) ++ line_frames 0 (run_of φ).session.finished ++ written (0x83 ∷ (run_of φ).ending ∷ 0xff ∷ 0xff ∷ [])

no_first_breach : (fs : List Finished) → All Flat fs → first_breach fs ≡ 0xffff
no_first_breach fs flat = go (some (λ f. f.breach) fs) (none_passes Flat (λ f. f.breach) (λ f. T_not f.breach) fs flat)
  where
    go : (b : Bool) → (T b → ⊥) → cond b (index_by (λ f. f.breach) fs) 0xffff ≡ 0xffff
    go true no-mark = absurd (no-mark tt)
    go false no-mark = refl

pub accepted_output_is_flat : (input : List ℕ) (φ : File) → parse input ≡ file φ → (verdict φ.policy φ.commands).number ≡ 0
    → FlatOutput input φ
unfolding answer_to
accepted_output_is_flat input φ e v =
    let flat = accepted_is_flat φ.policy φ.commands (read_policy_lawful input φ e) v program_room φ.lines in
    record {
      marks_flat = flat;
      output = rw (e, all_met (findings φ.policy 1 φ.commands) (no_refusal (findings φ.policy 1 φ.commands) v), no_first_breach (run_of φ).session.finished flat);
    }
