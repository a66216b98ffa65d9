-- `values::appearing::derive_row` meets its contract: the number made of a label and a row is that of what is derived from its value.
-- Assumes nothing.
use native.Mathlib.Omega.{arith}
use Rattle.values.proofs.Steps.{derive_appears}
use Rattle.values.proofs.appearing.derive_row.Goals as goal

pub returns-clause-appears : goal.returns-clause-appears
returns-clause-appears c =
    λ vs H count. derive_appears c.args.rows.now H count (omega arith) (omega arith) c.intern.ensures.interns
