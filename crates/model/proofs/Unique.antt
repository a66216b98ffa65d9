-- What each public promise allows is one possibility only, in numbers and in the code's results, and nothing counts but the input's
-- bytes and the tables' lengths.
-- Assumes nothing.
use Rattle.std.proofs.Common.{ℕ, ◌-◌, ◌≤◌, ◌<◌, ◌≡◌, ◌≢◌, ◌↔◌, refl, sym, ap, ◌∙◌, List, [], ◌∷◌, length, get_or, arith}
use Rattle.std.proofs.Common.{Option, Some, None, Result, Ok, Err, IfSome, IfOk}
use native.Mathlib.Decide.{dec_le}
use Rattle.model.specs.Types.{code_of, type_of_code}
use Rattle.model.specs.declared.Ty.{Ty}
use Rattle.model.specs.declared.Fault.{Fault}
use Rattle.model.specs.declared.Fault.TheVariants.{TooLong, BadLine, Misplaced, Malformed, TooMany, NotThere, Unlawful, WrongTables}
use Rattle.model.specs.declared.Rule.{Rule}
use Rattle.model.specs.declared.Rule.TheVariants.{KnownOp, TemplateAllowed, GetOffered, Encrypt, Decrypt, Store, Return, Handle, Derive}
use Rattle.model.specs.declared.Full.{Full}
use Rattle.model.specs.declared.Full.TheVariants.{Rows, Keys}
use Rattle.model.specs.declared.Refusal.{Refusal}
use Rattle.model.specs.declared.Broken.{Broken}
use Rattle.model.specs.declared.Rejection.{Rejection}
use Rattle.model.specs.declared.Rejection.TheVariants as rejection
use Rattle.model.specs.declared.Contents.{Contents}
use Rattle.model.specs.declared.Ending.{Ending}
use Rattle.model.specs.declared.Ran.{Ran}
use Rattle.model.specs.Numbers.{fault_number, rule_number, full_number}
use Rattle.model.specs.Told.{read_told, broken_told, judged_told, verdict_told, ending_number, ending_place, breach_told, run_told}
use Rattle.model.specs.File.{Parsed, refused, file}
use Rattle.model.specs.Tables.{Tables, read_into, read_answer, tables_read, tables_run, ReadIs, VerdictIs, RunIs, report_size, ReportIs}
use Rattle.model.specs.Typing.{Verdict, accepted}
use Rattle.model.specs.Tables.{ReadAnswer}
use Rattle.model.specs.Tables.{RunAnswer}
use Rattle.model.proofs.TypeOrder.{code_back}

pub read_unique : {input : List ℕ} {lent left left' : Tables} {r r' : ReadAnswer} → ReadIs input lent r left → ReadIs input lent r' left'
    → (r ≡ r') × (left ≡ left')
read_unique h k = (h.answer ∙ sym k.answer, h.tables ∙ sym k.tables)

pub verdict_unique : {input : List ℕ} {lent left left' : Tables} {r r' : Verdict} → VerdictIs input lent r left
    → VerdictIs input lent r' left' → (r ≡ r') × (left ≡ left')
verdict_unique h k = (h.answer ∙ sym k.answer, h.tables ∙ sym k.tables)

pub run_unique : {input : List ℕ} {lent left left' : Tables} {r r' : RunAnswer} → RunIs input lent r left → RunIs input lent r' left'
    → (r ≡ r') × (left ≡ left')
run_unique h k = (h.answer ∙ sym k.answer, h.tables ∙ sym k.tables)

pub report_unique : {input space buffer buffer' : List ℕ} {lent left left' : Tables} {r r' : ℕ} → ReportIs input lent space r left buffer
    → ReportIs input lent space r' left' buffer' → (r ≡ r') × (left ≡ left') × (buffer ≡ buffer')
report_unique {input} {space} {buffer} {buffer'} {lent} {left} {left'} {r} {r'} h k =
    go (dec_le (length space) report_size) (dec_le report_size (length space))
  where
    untouched : (length space ≡ report_size → ⊥) → (r ≡ r') × (left ≡ left') × (buffer ≡ buffer')
    untouched other =
        let a = h.wrong_size other in
        let b = k.wrong_size other in
        (a.count ∙ sym b.count, a.tables ∙ sym b.tables, a.buffer_is ∙ sym b.buffer_is)

    go : Dec (length space ≤ report_size) → Dec (report_size ≤ length space) → (r ≡ r') × (left ≡ left') × (buffer ≡ buffer')
    go (yes x) (yes y) =
        let size : length space ≡ report_size = omega arith in
        let a = h.right_size size in
        let b = k.right_size size in
        (a.count ∙ sym b.count, a.tables ∙ sym b.tables, a.buffer_is ∙ sym b.buffer_is)
    go (no x) y = untouched (λ e. omega arith)
    go (yes x) (no y) = untouched (λ e. omega arith)

-- two sets of tables of the same lengths, whatever they hold
pub record SameLengths (t u : Tables) : Type 0 where
  pub rows_same : length t.rows ≡ length u.rows
  pub keys_same : length t.keys ≡ length u.keys
  pub heads_same : length t.heads ≡ length u.heads
  pub arguments_same : length t.arguments ≡ length u.arguments
  pub outcomes_same : length t.outcomes ≡ length u.outcomes
  pub commands_same : length t.commands ≡ length u.commands
  pub steps_same : length t.steps ≡ length u.steps

pub lengths_decide_reading : (t u : Tables) (input : List ℕ) → SameLengths t u → read_into t input ≡ read_into u input
unfolding read_into
lengths_decide_reading t u input h =
    rw (h.rows_same, h.keys_same, h.heads_same, h.arguments_same, h.outcomes_same, h.commands_same, h.steps_same)

pub lengths_decide_tables : (t u : Tables) (p : Parsed) → SameLengths t u → tables_read t p ≡ tables_read u p
unfolding tables_read
lengths_decide_tables t u (refused n k) h =
    rw (h.rows_same, h.keys_same, h.heads_same, h.arguments_same, h.outcomes_same, h.commands_same, h.steps_same)
lengths_decide_tables t u (file φ) h = refl

pub lengths_decide_run : (t u : Tables) (p : Parsed) → SameLengths t u → tables_run t p ≡ tables_run u p
unfolding tables_run tables_read
lengths_decide_run t u (refused n k) h =
    rw (h.rows_same, h.keys_same, h.heads_same, h.arguments_same, h.outcomes_same, h.commands_same, h.steps_same)
lengths_decide_run t u (file φ) h = refl

-- ---- the numbers tell the result

-- a number that can be taken back tells what it was made of
once : {A : Type 0} (number : A → ℕ) (back : ℕ → A) → ((x : A) → back (number x) ≡ x) → (x y : A) → number x ≡ number y → x ≡ y
once number back taken x y e = sym (taken x) ∙ ap back e ∙ taken y

pub type_once : (a b : Ty) → code_of a ≡ code_of b → a ≡ b
type_once = once code_of type_of_code code_back

fault_of : ℕ → Fault
fault_of n = get_or (TooLong ∷ BadLine ∷ Misplaced ∷ Malformed ∷ TooMany ∷ NotThere ∷ Unlawful ∷ []) (n - 1) WrongTables

fault_back : (f : Fault) → fault_of (fault_number f) ≡ f
unfolding fault_of
fault_back TooLong = refl
fault_back BadLine = refl
fault_back Misplaced = refl
fault_back Malformed = refl
fault_back TooMany = refl
fault_back NotThere = refl
fault_back Unlawful = refl
fault_back WrongTables = refl

-- from the last rule on
rule_of : ℕ → Rule
rule_of n = get_or (Derive ∷ Handle ∷ Return ∷ Store ∷ Decrypt ∷ Encrypt ∷ GetOffered ∷ TemplateAllowed ∷ []) (23 - n) KnownOp

rule_back : (r : Rule) → rule_of (rule_number r) ≡ r
unfolding rule_of
rule_back KnownOp = refl
rule_back TemplateAllowed = refl
rule_back GetOffered = refl
rule_back Encrypt = refl
rule_back Decrypt = refl
rule_back Store = refl
rule_back Return = refl
rule_back Handle = refl
rule_back Derive = refl

full_of : ℕ → Full
full_of n = get_or (Rows ∷ []) (n - 32) Keys

full_back : (f : Full) → full_of (full_number f) ≡ f
unfolding full_of
full_back Rows = refl
full_back Keys = refl

refusal_once : (r s : Refusal) → fault_number r.fault ≡ fault_number s.fault → r.frame ≡ s.frame → r ≡ s
refusal_once r s e d = let f = once fault_number fault_of fault_back r.fault s.fault e in λ i. record { fault = f i; frame = d i }

contents_once : (c d : Contents) → read_told (Ok c) ≡ read_told (Ok d) → c ≡ d
contents_once c d e =
    let type_is = type_once c.policy.transported d.policy.transported (cc) in
    let set_is : c.policy.allowing ≡ d.policy.allowing = cc in
    let commands_are : c.commands ≡ d.commands = cc in
    let lines_are : c.lines ≡ d.lines = cc in
    λ i. record { policy = record { transported = type_is i; allowing = set_is i }; commands = commands_are i; lines = lines_are i }

pub read_told_once : (r s : Result Contents Refusal) → read_told r ≡ read_told s → r ≡ s
read_told_once (Ok c) (Ok d) e = ap Ok (contents_once c d e)
read_told_once (Ok c) (Err r) e = cc
read_told_once (Err r) (Ok c) e = cc
read_told_once (Err r) (Err s) e = ap Err (refusal_once r s (cc) (cc))

broken_once : (b c : Broken) → broken_told b ≡ broken_told c → b ≡ c
broken_once b c e =
    let rule_is = once rule_number rule_of rule_back b.rule c.rule (ap (λ (v : Verdict). v.number) e) in
    let frame_is = ap (λ (v : Verdict). v.frame) e in
    let step_is = ap (λ (v : Verdict). v.step) e in
    λ i. record { rule = rule_is i; frame = frame_is i; step = step_is i }

-- no rule has number 0
broken_not_accepted : (b : Broken) → broken_told b ≡ accepted → ⊥
unfolding rule_of
broken_not_accepted b e =
    let zero_is = ap (λ (v : Verdict). v.number) e in
    let rule_is = sym (rule_back b.rule) ∙ ap rule_of zero_is in
    let same : rule_number (rule_of 0) ≡ 0 = sym (ap rule_number rule_is) ∙ zero_is in
    omega arith

pub judged_told_once : (r s : Result (Unit {0}) Broken) → judged_told r ≡ judged_told s → r ≡ s
judged_told_once (Ok u) (Ok v) e = refl
judged_told_once (Ok u) (Err b) e = absurd (broken_not_accepted b (sym e))
judged_told_once (Err b) (Ok u) e = absurd (broken_not_accepted b e)
judged_told_once (Err b) (Err c) e = ap Err (broken_once b c e)

-- A refusal with number 4 and a broken rule with number 4 at step 0 have the same numbers, and no other two results do.
pub verdict_told_once : (r s : Result (Unit {0}) Rejection)
    → ((x : Refusal) → (r ≡ Err (rejection.Refused x)) ↔ (s ≡ Err (rejection.Refused x)))
    → verdict_told r ≡ verdict_told s → r ≡ s
verdict_told_once (Err (rejection.Refused x)) s same e = sym ((same x).0 refl)
verdict_told_once r (Err (rejection.Refused y)) same e = (same y).1 refl
verdict_told_once (Ok u) (Ok v) same e = refl
verdict_told_once (Ok u) (Err (rejection.Broken b)) same e = absurd (broken_not_accepted b (sym e))
verdict_told_once (Err (rejection.Broken b)) (Ok u) same e = absurd (broken_not_accepted b e)
verdict_told_once (Err (rejection.Broken b)) (Err (rejection.Broken c)) same e = ap (λ x. Err (rejection.Broken x)) (broken_once b c e)

full_not_zero : (f : Full) → full_number f ≡ 0 → ⊥
full_not_zero Rows e = omega arith
full_not_zero Keys e = omega arith

ending_once : (a b : Option Ending) → ending_number a ≡ ending_number b → ending_place a ≡ ending_place b → a ≡ b
ending_once None None e d = refl
ending_once None (Some f) e d = absurd (full_not_zero f.full (sym e))
ending_once (Some f) None e d = absurd (full_not_zero f.full e)
ending_once (Some f) (Some g) e d =
    let full_is = once full_number full_of full_back f.full g.full e in
    ap Some (λ i. record { full = full_is i; line = d i })

breach_once : (a b : Option ℕ) → IfSome a (λ i. i ≢ 65535) → IfSome b (λ i. i ≢ 65535) → breach_told a ≡ breach_told b → a ≡ b
breach_once None None h k e = refl
breach_once None (Some j) h k e = absurd (k (sym e))
breach_once (Some i) None h k e = absurd (h e)
breach_once (Some i) (Some j) h k e = ap Some e

-- 65535 stands for no breached line, so that a line with that number would be told as none
pub run_told_once : (r s : Result Ran Refusal) → IfOk r (λ x. IfSome x.first_breach (λ i. i ≢ 65535))
    → IfOk s (λ x. IfSome x.first_breach (λ i. i ≢ 65535)) → run_told r ≡ run_told s → r ≡ s
run_told_once (Ok x) (Ok y) h k e =
    let ending_is = ending_once x.ending y.ending (cc) (cc) in
    let breach_is = breach_once x.first_breach y.first_breach h k (cc) in
    ap Ok (λ i. record { ending = ending_is i; first_breach = breach_is i })
run_told_once (Ok x) (Err b) h k e = cc
run_told_once (Err a) (Ok y) h k e = cc
run_told_once (Err a) (Err b) h k e = ap Err (refusal_once a b (cc) (cc))

told_apart : (r : Result Ran Refusal) → IfOk r (λ x. IfSome x.first_breach (λ i. i < 1024))
    → IfOk r (λ x. IfSome x.first_breach (λ i. i ≢ 65535))
told_apart (Ok x) h = go x.first_breach h
  where
    go : (a : Option ℕ) → IfSome a (λ i. i < 1024) → IfSome a (λ i. i ≢ 65535)
    go (Some i) h = λ e. omega arith
    go None h = tt
told_apart (Err x) h = tt

-- ---- so each promise allows one result only

module _ {input : List ℕ} {lent left left' : Tables} where
  pub read_one_result : {r s : Result Contents Refusal} → ReadIs input lent (read_told r) left → ReadIs input lent (read_told s) left'
      → (r ≡ s) × (left ≡ left')
  read_one_result h k = let same = read_unique h k in (read_told_once _ _ same.0, same.1)

  -- where a result is a refusal exactly if reading answers that refusal
  pub verdict_one_result : {r s : Result (Unit {0}) Rejection}
      → ((x : Refusal) → (r ≡ Err (rejection.Refused x)) ↔ (read_told (Err x) ≡ read_answer (read_into lent input)))
      → ((x : Refusal) → (s ≡ Err (rejection.Refused x)) ↔ (read_told (Err x) ≡ read_answer (read_into lent input)))
      → VerdictIs input lent (verdict_told r) left → VerdictIs input lent (verdict_told s) left'
      → (r ≡ s) × (left ≡ left')
  verdict_one_result a b h k =
      let same = verdict_unique h k in
      (verdict_told_once _ _ (λ x. (λ e. (b x).1 ((a x).0 e), λ e. (a x).1 ((b x).0 e))) same.0, same.1)

  -- where a first breached line is one of the 1,024 that there can be
  pub run_one_result : {r s : Result Ran Refusal} → IfOk r (λ x. IfSome x.first_breach (λ i. i < 1024))
      → IfOk s (λ x. IfSome x.first_breach (λ i. i < 1024)) → RunIs input lent (run_told r) left → RunIs input lent (run_told s) left'
      → (r ≡ s) × (left ≡ left')
  run_one_result {r} {s} a b h k =
      let same = run_unique h k in (run_told_once r s (told_apart r a) (told_apart s b) same.0, same.1)
