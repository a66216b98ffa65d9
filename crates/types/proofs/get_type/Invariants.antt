-- `types::get_type` meets its contract. The loop's invariant: `joined` is the join over what the get may find from template m on.
-- Assumes nothing.
use mathlib.Core.Path.{◌≡◌}
use Rattle.types.proofs.Walk.{joined_from}
use Rattle.types.proofs.get_type.Given as goal

abbrev pub invariant-loop-m : goal.invariant-loop-m
invariant-loop-m l = l.joined ≡ joined_from l.policy.allowing l.s l.m
