-- The numbers of the rules, and the types of the attributes that a step asks for.
-- Assumes nothing.
use mathlib.Core.Path.{◌≡◌, refl}
use Prim.Native.Nat.{ℕ, ◌<◌, ◌%◌}
use native.Mathlib.Omega.{arith}
use Rattle.model.specs.Numbers.{rule_number}
use Rattle.model.specs.Types.{type_of}
use Rattle.model.specs.declared.Rule.{Rule}
use Rattle.model.specs.declared.Rule.TheVariants.{KnownOp, TemplateAllowed, GetOffered, Encrypt, Decrypt, Store, Return, Handle, Derive}
use Rattle.types.proofs.Table.{same_below}

-- 0 stands for acceptance
pub no_rule_is_zero : (r : Rule) → rule_number r ≡ 0 → ⊥
no_rule_is_zero KnownOp e = absurd (omega arith)
no_rule_is_zero TemplateAllowed e = absurd (omega arith)
no_rule_is_zero GetOffered e = absurd (omega arith)
no_rule_is_zero Encrypt e = absurd (omega arith)
no_rule_is_zero Decrypt e = absurd (omega arith)
no_rule_is_zero Store e = absurd (omega arith)
no_rule_is_zero Return e = absurd (omega arith)
no_rule_is_zero Handle e = absurd (omega arith)
no_rule_is_zero Derive e = absurd (omega arith)

-- a field of a step may hold more than the six attributes, and the type goes by these alone
pub type_by_attributes : (t : ℕ) → t < 256 → type_of (t % 64) ≡ type_of t
type_by_attributes = same_below (λ t. type_of (t % 64)) type_of 256 refl
