-- What an answer of reading tells: a refusal, or the file that the tables hold, within the bounds that the rest of the code relies on.
-- Assumes nothing.
use Rattle.std.proofs.Common.{ℕ, ◌≤◌, ◌≡◌, refl, sym, ap, subst, ◌∙◌, Bool, true, false, cond, List, length, Result, Ok, Err, IsErrAnd, arith}
use Rattle.model.specs.Typing.{Verdict, verdict}
use Rattle.model.specs.Frame.{File}
use Rattle.model.specs.File.{Parsed, refused, file, parse, verdict_of}
use Rattle.model.specs.Tables.{Tables, right_lengths, WellRead, read_into, read_answer, tables_read, ReadIs, VerdictIs}
use Rattle.model.specs.Numbers.{fault_number}
use Rattle.model.specs.Told.{read_told, verdict_told}
use Rattle.model.specs.declared.Refusal.{Refusal}
use Rattle.model.specs.declared.Rejection.TheVariants as rejection
use Rattle.model.specs.declared.Contents.{Contents}
use Rattle.model.proofs.WellRead.{parsed_well_read}
use Rattle.model.proofs.Secure.{Lawful, accepted_is_flat}
use Rattle.model.proofs.Printed.{read_policy_lawful}
use Rattle.model.proofs.Unique.{type_once}
use Rattle.file.proofs.Whole.{AllLengths, lengths_right}
use Rattle.typing.specs.Given.{Given}

-- ---- a refusal

refused_answer : (p : Parsed) (r : Refusal) → read_told (Err r) ≡ read_answer p → p ≡ refused (fault_number r.fault) r.frame
unfolding read_answer
refused_answer (refused i j) r e = cc
refused_answer (file φ) r e = cc

refusal_is_no_file : {n k : ℕ} (φ : File) → refused n k ≡ file φ → ⊥
refusal_is_no_file φ e = cc

module _ {input : List ℕ} {lent left : Tables} (r : Refusal) (h : ReadIs input lent (read_told (Err r)) left) where
  pub refusal_read : read_into lent input ≡ refused (fault_number r.fault) r.frame
  refusal_read = refused_answer (read_into lent input) r h.answer

  -- whatever is asked of the file that was read
  pub no_file : {A : Type 0} → (φ : File) → read_into lent input ≡ file φ → A
  no_file φ q = absurd (refusal_is_no_file φ (sym refusal_read ∙ q))

  pub refusal_judged : VerdictIs input lent (verdict_told (Err (rejection.Refused r))) left
  refusal_judged = record { answer = rw refusal_read; tables = h.tables; flat = λ zero φ q. no_file φ q }

-- the verdict of what reading refused, whichever way the code tells it
pub refusal_told : {input : List ℕ} {lent left : Tables} (read : Result Contents Refusal) → ReadIs input lent (read_told read) left
    → {v : Verdict} → v.step ≡ 0 → IsErrAnd read (λ r. (v.number ≡ fault_number r.fault) × (v.frame ≡ r.frame)) → VerdictIs input lent v left
refusal_told (Err r) h {v} no_step e =
    let same : v ≡ verdict_told (Err (rejection.Refused r)) = λ i. record { number = e.0 i; frame = e.1 i; step = no_step i } in
    rw same (refusal_judged r h)
refusal_told (Ok c) h no_step e = absurd e

-- ---- a file

file_answer : (p : Parsed) (c : Contents) → read_told (Ok c) ≡ read_answer p → (φ : File) × (p ≡ file φ)
unfolding read_answer
file_answer (file φ) c e = (φ, refl)
file_answer (refused i j) c e = cc

-- what is read into lent tables is what the input parses to, where it is a file, and the tables have the right lengths
file_read : (input : List ℕ) (lent : Tables) (φ : File) → read_into lent input ≡ file φ
    → (parse input ≡ file φ) × (right_lengths lent ≡ true)
unfolding read_into
file_read input lent φ e = go (right_lengths lent) e
  where
    go : (b : Bool) → cond b (parse input) (refused 15 0) ≡ file φ → (parse input ≡ file φ) × (b ≡ true)
    go true q = (q, refl)
    go false q = cc

pub record TakenFile (input : List ℕ) (lent left : Tables) (c : Contents) : Type 0 where
  pub φ : File
  pub read_is : read_into lent input ≡ file φ
  pub well_read : WellRead φ
  pub lawful : Lawful φ.policy
  pub policy_is : c.policy ≡ φ.policy
  pub commands_counted : c.commands ≡ length φ.commands
  pub lines_counted : c.lines ≡ length φ.lines
  pub tables_are : left ≡ tables_read lent (file φ)
  pub lengths : AllLengths lent

pub file_taken : {input : List ℕ} {lent left : Tables} (c : Contents) → ReadIs input lent (read_told (Ok c)) left
    → TakenFile input lent left c
unfolding read_answer
file_taken {input} {lent} {left} c h =
    let found = file_answer (read_into lent input) c h.answer in
    let φ = found.0 in
    let read = file_read input lent φ found.1 in
    let same : read_told (Ok c) ≡ read_answer (file φ) = h.answer ∙ ap read_answer found.1 in
    let type_is = type_once c.policy.transported φ.policy.transported (cc) in
    let set_is : c.policy.allowing ≡ φ.policy.allowing = cc in
    record {
      φ = φ;
      read_is = found.1;
      well_read = parsed_well_read input φ read.0;
      lawful = read_policy_lawful input φ read.0;
      policy_is = λ i. record { transported = type_is i; allowing = set_is i };
      commands_counted = cc;
      lines_counted = cc;
      tables_are = h.tables ∙ ap (tables_read lent) found.1;
      lengths = lengths_right lent read.1;
    }

-- the same of what reading answered, whichever way the code comes to it
pub answer_taken : {input : List ℕ} {lent left : Tables} {read : Result Contents Refusal} → ReadIs input lent (read_told read) left
    → (c : Contents) → read ≡ Ok c → TakenFile input lent left c
answer_taken {input} {lent} {left} h c e = file_taken c (subst (λ r. ReadIs input lent (read_told r) left) e h)

module _ {input : List ℕ} {lent left : Tables} {c : Contents} (f : TakenFile input lent left c) where
  -- no other file was read
  pub one_file : (φ : File) → read_into lent input ≡ file φ → f.φ ≡ φ
  one_file φ q = let same : file f.φ ≡ file φ = sym f.read_is ∙ q in cc

  pub given_to_judge : Given f.φ c.policy c.commands left.commands left.steps
  unfolding tables_read
  given_to_judge = record {
    well_read = f.well_read;
    typed_transport = f.lawful.typed_transport;
    policy_is = f.policy_is;
    count_is = f.commands_counted;
    commands_are = ap (λ x. x.commands) f.tables_are;
    steps_are = ap (λ x. x.steps) f.tables_are;
  }

  pub few_commands : c.commands ≤ 32
  few_commands = let few = f.well_read.few_commands in let e = f.commands_counted in omega arith

  pub file_judged : {v : Verdict} → v ≡ verdict f.φ.policy f.φ.commands → VerdictIs input lent v left
  file_judged e = record {
    answer = e ∙ ap verdict_of (sym f.read_is);
    tables = f.tables_are ∙ ap (tables_read lent) (sym f.read_is);
    flat = λ zero φ q ρ ls.
        let φ-is = one_file φ q in
        let number_zero : (verdict φ.policy φ.commands).number ≡ 0 =
        subst (λ (ψ : File). (verdict ψ.policy ψ.commands).number ≡ 0) φ-is (ap (λ (v : Verdict). v.number) (sym e) ∙ zero) in
        accepted_is_flat φ.policy φ.commands (subst (λ (ψ : File). Lawful ψ.policy) φ-is f.lawful) number_zero ρ ls;
  }
