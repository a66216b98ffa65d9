-- `types::get_type` meets its contract. The loop's invariant: `joined` is the join over what the get may find from template m on.
-- Assumes nothing.
use mathlib.Core.Path.{◌≡◌, sym}
use native.Mathlib.Omega.{arith}
use Prim.Native.Nat.{◌-◌}
use Rattle.types.proofs.Walk.{joined_past_last, joined_with, joined_without, joined_from_first}
use Rattle.types.proofs.get_type.Goals as goal

pub loop-m-init : goal.loop-m-init
loop-m-init c = sym (joined_past_last _ _)

pub loop-m-preserved-then-is_offered : goal.loop-m-preserved-then-is_offered
loop-m-preserved-then-is_offered c =
    let e = joined_with c.args.policy.allowing c.args.s (c.loop-m.m - 1) c.loop-m.m (omega arith) (omega arith) (cc) in cc

pub loop-m-preserved : goal.loop-m-preserved
loop-m-preserved c =
    let e = joined_without c.args.policy.allowing c.args.s (c.loop-m.m - 1) c.loop-m.m (omega arith) (omega arith) (cc) in cc

pub returns : goal.returns
returns c =
    let over : c.loop-m.m ≡ 0 = omega arith in
    let e = joined_from_first c.args.policy.allowing c.args.s in cc
