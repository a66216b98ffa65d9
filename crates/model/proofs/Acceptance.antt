-- A configuration is accepted exactly when every step of every command meets its rules.
-- Assumes nothing.
use Prim.Native.Nat.{ℕ, zero, suc}
use mathlib.Core.Path.{◌≡◌, refl}
use mathlib.Core.List.{List, [], ◌∷◌}
use mathlib.Core.Logic.{◌↔◌}
use native.Mathlib.Omega.{arith}
use lib.ListN.{replicate}
use Rattle.model.specs.declared.Ty.TheVariants.{Un}
use Rattle.model.specs.Step.{Command}
use Rattle.model.specs.declared.Policy.{Policy}
use Rattle.model.specs.Typing.{step_findings, findings, accepted, or_later, first_refusal, verdict}
use Rattle.model.specs.Typing.{Verdict}
use Rattle.model.specs.Basics.{All}
use Rattle.model.proofs.Lists.{all_append}

-- a step that meets its rules
abbrev pub Met : Verdict → Type 0
Met v = v.number ≡ 0

pub no_refusal : (vs : List Verdict) → (first_refusal vs).number ≡ 0 → All Met vs
unfolding first_refusal
no_refusal [] h = tt
no_refusal (v ∷ vs) h = let rest = no_refusal vs in go v.number refl h rest
  where
    go : (n : ℕ) → v.number ≡ n → (or_later n v (first_refusal vs)).number ≡ 0 → ((first_refusal vs).number ≡ 0 → All Met vs)
        → Met v × All Met vs
    go zero e h rest = (e, rest h)
    go (suc n) e h rest = absurd (omega arith)

pub all_met : (vs : List Verdict) → All Met vs → first_refusal vs ≡ accepted
unfolding first_refusal
all_met [] h = refl
all_met (v ∷ vs) h = rw h.0 (all_met vs h.1)

pub accepted_iff_all_met : (p : Policy) (cs : List Command) → ((verdict p cs).number ≡ 0) ↔ All Met (findings p 1 cs)
accepted_iff_all_met p cs = (no_refusal (findings p 1 cs), λ h. rw (all_met (findings p 1 cs) h))

-- a command whose steps meet their rules, wherever it stands
abbrev pub SoundCommand : Policy → Command → Type 0
SoundCommand p c = (f : ℕ) × All Met (step_findings p f 0 (replicate c.params Un) c.steps)

pub all_sound : (p : Policy) (f : ℕ) (cs : List Command) → All Met (findings p f cs) → All (SoundCommand p) cs
unfolding findings
all_sound p f [] h = tt
all_sound p f (c ∷ cs) h =
    let parts = all_append Met (step_findings p f 0 (replicate c.params Un) c.steps) (findings p (suc f) cs) h in
    ((f, parts.0), all_sound p (suc f) cs parts.1)

-- a command with no steps has no rule to break
pub no_steps_sound : (p : Policy) → SoundCommand p (record { params = 0; steps = [] })
unfolding step_findings
no_steps_sound p = (0, tt)
