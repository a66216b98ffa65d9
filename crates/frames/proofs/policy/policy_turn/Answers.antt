-- `frames::policy::policy_turn` meets its contract: each way out is a law of the policy's frame, at what was tested before it.
-- Assumes nothing.
use native.Mathlib.Omega.{arith}
use Rattle.frames.proofs.Policies.{policy_length, policy_type, policy_unlawful, policy_taken}
use Rattle.frames.proofs.policy.policy_turn.Goals as goal
use Rattle.frames.proofs.policy.policy_turn.Goals.{then-f-ne10-via-then-f-ne10, then-f-ne10-via-else-f-ne10+then-f-gt5}

pub returns-then-f-ne10 : goal.returns-then-f-ne10
returns-then-f-ne10 c =
    elim c.then-f-ne10.branch [
      | then-f-ne10-via-then-f-ne10 w ↦ policy_length _ (omega arith) w.if-f-ne10.true
      | then-f-ne10-via-else-f-ne10+then-f-gt5 w ↦ policy_type _ (omega arith) (omega arith) (omega arith)
    ]

pub returns-then-not-is_lawful : goal.returns-then-not-is_lawful
returns-then-not-is_lawful c =
    policy_unlawful _ (omega arith) (omega arith) (omega arith) _ c.from_code.ensures c.number.ensures _ c.is_lawful.ensures
    c.if-not-is_lawful.true

pub returns : goal.returns
returns c =
    policy_taken _ (omega arith) (omega arith) (omega arith) _ c.from_code.ensures c.number.ensures _ c.is_lawful.ensures
    c.if-not-is_lawful.false
