-- What is left of a line: the state of its value, or, of a line that stopped or met an ending, the state before it.
-- Assumes nothing.
use Prim.Native.Nat.{ℕ}
use mathlib.Core.Path.{◌≡◌, refl, sym, ap, subst, ◌∙◌}
use native.Mathlib.Omega.{arith}
use Rattle.std.proofs.Common.{Err, Ok, Option, Result, Some}
use Rattle.std.specs.Option.{unwrap_or}
use Rattle.std.specs.Result.{result_err}
use Rattle.model.specs.Token.{State, Out, gave, ended, stopped, full}
use Rattle.model.specs.declared.Full.{Full}
use Rattle.token.specs.Outcome as outcome
use Rattle.token.specs.Outcome.{Outcome, outcome_told}
use Rattle.token.specs.Carried.{counts_of, state_of, outcome_of, CarriedIn, PerformsIn}
use Rattle.token.specs.declared.Counts.{Counts}
use Rattle.token.specs.declared.Halt.{Halt}
use Rattle.token.specs.declared.Halt.TheVariants as halt
use Rattle.token.specs.declared.Token.{Token}
use Rattle.session.specs.Sessioned.{settled_of, settled_told, state_left, SettledIs}

-- ---- why the line ended

abbrev pub halt_of : Result ℕ Halt → Halt
halt_of o = unwrap_or (result_err o) halt.Stopped

-- what is left of it depends on that alone
settled_by_halt : (o : Result ℕ Halt) (h : Halt) (c : Counts) → halt_of o ≡ h
    → settled_of (outcome_told (Err h) c) ≡ settled_of (outcome_told o c)
settled_by_halt (Ok row) h c e = ap (λ k. settled_of (outcome_told (Err k) c)) (sym e)
settled_by_halt (Err k) h c e = ap (λ k. settled_of (outcome_told (Err k) c)) (sym e)

-- ---- a line with a value

ended_told : (o : Result ℕ Halt) (row : ℕ) (c : Counts) → halt_of o ≡ halt.Ended row → outcome_told o c ≡ outcome.Ended c row
ended_told (Ok x) row c e = absurd (let z : ◌≡◌ {A = ℕ} 0 1 = cc in omega arith)
ended_told (Err h) row c e = ap (λ k. outcome_told (Err k) c) e

pub ended_settled : (σ : State) (out : Out) (o : Result ℕ Halt) (row : ℕ) (t : Token) → PerformsIn σ out o t → halt_of o ≡ halt.Ended row
    → SettledIs σ out (Ok (Some row)) t
ended_settled σ out o row t P e = go out P (sym (ended_told o row t.used e) ∙ P.answer)
  where
    go : (out : Out) → PerformsIn σ out o t → outcome.Ended t.used row ≡ outcome_of out → SettledIs σ out (Ok (Some row)) t
    go (gave v σ') P e = absurd (let z : ◌≡◌ {A = ℕ} 0 1 = cc in omega arith)
    go (ended v σ') P e = record { answer = ap settled_of e; counts_are = cc; carries = P.carries }
    go (stopped σ') P e = absurd (let z : ◌≡◌ {A = ℕ} 0 1 = cc in omega arith)
    go (full n σ') P e = absurd (let z : ◌≡◌ {A = ℕ} 0 1 = cc in omega arith)

-- ---- a line that is undone

abbrev NoValue : Outcome → Type 0
NoValue (outcome.Gave c row) = Unit {0}
NoValue (outcome.Ended c row) = ⊥
NoValue (outcome.Stopped c) = Unit {0}
NoValue (outcome.Full n c) = Unit {0}

left_as_before : (σ : State) (out : Out) → NoValue (outcome_of out) → state_left σ out ≡ σ
left_as_before σ (gave v σ') h = refl
left_as_before σ (ended v σ') h = absurd h
left_as_before σ (stopped σ') h = refl
left_as_before σ (full n σ') h = refl

abbrev counts_told : Outcome → Counts
counts_told (outcome.Gave c row) = c
counts_told (outcome.Ended c row) = c
counts_told (outcome.Stopped c) = c
counts_told (outcome.Full n c) = c

counts_then : (out : Out) → counts_told (outcome_of out) ≡ counts_of (state_of out)
counts_then (gave v σ') = refl
counts_then (ended v σ') = refl
counts_then (stopped σ') = refl
counts_then (full n σ') = refl

told_counts : (o : Result ℕ Halt) (c : Counts) → counts_told (outcome_told o c) ≡ c
told_counts (Ok row) c = refl
told_counts (Err (halt.Ended row)) c = refl
told_counts (Err halt.Stopped) c = refl
told_counts (Err (halt.Full f)) c = refl

pub later_counts : {σ : State} (out : Out) (o : Result ℕ Halt) (t : Token) → PerformsIn σ out o t → t.used ≡ counts_of (state_of out)
later_counts out o t P = sym (told_counts o t.used) ∙ ap counts_told P.answer ∙ counts_then out

-- h is why the line ended, and it ended without a value
pub undone_settled : (σ : State) (out : Out) (o : Result ℕ Halt) (t t' : Token) → PerformsIn σ out o t → (h : Halt) → halt_of o ≡ h
    → ((c : Counts) → NoValue (outcome_told (Err h) c)) → t'.used ≡ counts_of σ → CarriedIn σ t' → (r : Result (Option ℕ) Full)
    → settled_told r ≡ settled_of (outcome_told (Err h) t.used) → SettledIs σ out r t'
undone_settled σ out o t t' P h e lost counted carried r settled =
    let same = left_as_before σ out (subst NoValue P.answer (no_value o e)) in
    record {
      answer = settled ∙ settled_by_halt o h t.used e ∙ ap settled_of P.answer;
      counts_are = rw same counted;
      carries = rw same carried;
    }
  where
    no_value : (o : Result ℕ Halt) → halt_of o ≡ h → NoValue (outcome_told o t.used)
    no_value (Ok row) e = tt
    no_value (Err k) e = subst (λ (k : Halt). NoValue (outcome_told (Err k) t.used)) (sym e) (lost t.used)
