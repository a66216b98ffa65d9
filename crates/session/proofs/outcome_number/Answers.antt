-- `session::outcome_number` meets its contract: the parts of the number are those of the definition.
-- Assumes nothing.
use Prim.Native.Nat.{ℕ, ◌+◌, ◌*◌}
use mathlib.Core.Path.{◌≡◌, refl}
use mathlib.Core.Bool.{Bool, true, false, not}
use mir.Val.{bool_byte}
use native.Mathlib.Omega.{arith}
use Rattle.std.proofs.Common.{None, Option, Some}
use Rattle.std.specs.Option.{is_some, unwrap_or}
use Rattle.session.specs.Sessioned.{outcome_number}
use Rattle.session.proofs.outcome_number.Goals as goal

in_parts : (row : Option ℕ) (keys : ℕ) (breached stopped : Bool) → is_some row ≡ not stopped
    → unwrap_or row 65535 + 65536 * keys + 4294967296 * bool_byte stopped + 8589934592 * bool_byte breached + 17179869184
    ≡ outcome_number row keys breached
unfolding outcome_number
in_parts (Some row) keys true false e = refl
in_parts (Some row) keys false false e = refl
in_parts None keys true true e = refl
in_parts None keys false true e = refl
in_parts (Some row) keys b true e = absurd (let z : ◌≡◌ {A = ℕ} 0 1 = cc in omega arith)
in_parts None keys b false e = absurd (let z : ◌≡◌ {A = ℕ} 0 1 = cc in omega arith)

pub returns : goal.returns
returns c =
    rw (c.unwrap_or-place.ensures, c.from-stopped.ensures, c.from-mark.ensures)
    (in_parts c.args.row c.args.keys c.args.breached _ c.is_none.ensures)
