-- The verdict of a file that is not accepted is its first broken rule, in the order of commands and of their steps.
-- Assumes nothing.
use Prim.Native.Nat.{ℕ, zero, suc}
use mathlib.Core.Path.{◌≡◌, refl, ap, ◌∙◌}
use mathlib.Core.List.{List, [], ◌∷◌, ◌++◌, append_assoc}
use Rattle.model.specs.Basics.{All}
use Rattle.model.specs.Step.{Command}
use Rattle.model.specs.declared.Policy.{Policy}
use Rattle.model.specs.Typing.{Verdict, findings, or_later, first_refusal, verdict}
use Rattle.model.proofs.Acceptance.{Met, no_refusal}

-- v is one of the findings, and all before it are met
pub record FirstIn (vs : List Verdict) (v : Verdict) : Type 0 where
  pub before : List Verdict
  pub after : List Verdict
  pub in_order : vs ≡ before ++ (v ∷ after)
  pub met_before : All Met before

pub refusal_is_first : (vs : List Verdict) → ((first_refusal vs).number ≡ 0 → ⊥) → FirstIn vs (first_refusal vs)
unfolding first_refusal
refusal_is_first [] broken = absurd (broken refl)
refusal_is_first (v ∷ vs) broken = let later = refusal_is_first vs in go v.number refl broken later
  where
    go : (n : ℕ) → v.number ≡ n → ((or_later n v (first_refusal vs)).number ≡ 0 → ⊥)
        → (((first_refusal vs).number ≡ 0 → ⊥) → FirstIn vs (first_refusal vs)) → FirstIn (v ∷ vs) (or_later n v (first_refusal vs))
    go zero e broken later =
        let f = later broken in
        record { before = v ∷ f.before; after = f.after; in_order = ap (λ l. v ∷ l) f.in_order; met_before = (e, f.met_before) }
    go (suc n) e broken later = record { before = []; after = vs; in_order = refl; met_before = tt }

pub verdict_is_first_broken : (p : Policy) (cs : List Command) → ((verdict p cs).number ≡ 0 → ⊥) → FirstIn (findings p 1 cs) (verdict p cs)
verdict_is_first_broken p cs broken = refusal_is_first (findings p 1 cs) broken

-- ---- the first refusal of findings that go on

pub refusal_at_head : (v : Verdict) (vs : List Verdict) → (v.number ≡ 0 → ⊥) → first_refusal (v ∷ vs) ≡ v
unfolding first_refusal
refusal_at_head v vs broken = go v.number broken
  where
    go : (n : ℕ) → (n ≡ 0 → ⊥) → or_later n v (first_refusal vs) ≡ v
    go zero broken = absurd (broken refl)
    go (suc n) broken = refl

past_met : (vs ws : List Verdict) → All Met vs → first_refusal (vs ++ ws) ≡ first_refusal ws
unfolding first_refusal
past_met [] ws met = refl
past_met (v ∷ vs) ws met = rw met.0 (past_met vs ws met.1)

pub refusal_past : (vs ws : List Verdict) → (first_refusal vs).number ≡ 0 → first_refusal (vs ++ ws) ≡ first_refusal ws
refusal_past vs ws none = past_met vs ws (no_refusal vs none)

pub refusal_within : (vs ws : List Verdict) → ((first_refusal vs).number ≡ 0 → ⊥) → first_refusal (vs ++ ws) ≡ first_refusal vs
refusal_within vs ws broken =
    let f = refusal_is_first vs broken in
    let v = first_refusal vs in
    ap (λ l. first_refusal (l ++ ws)) f.in_order
    ∙ ap first_refusal (append_assoc f.before (v ∷ f.after) ws)
    ∙ past_met f.before (v ∷ f.after ++ ws) f.met_before
    ∙ refusal_at_head v (f.after ++ ws) broken
