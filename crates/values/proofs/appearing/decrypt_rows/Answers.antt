-- `values::appearing::decrypt_rows` meets its contract: what was encrypted under the same key has its row, and anything else appears.
-- Assumes nothing.
use native.Mathlib.Omega.{arith}
use Rattle.values.proofs.Steps.{undone_appears, not_undone_appears}
use Rattle.values.proofs.appearing.decrypt_rows.Goals as goal

pub returns-in-Some-clause-appears : goal.returns-in-Some-clause-appears
returns-in-Some-clause-appears c =
    λ vs H count. undone_appears c.args.rows.now H count (omega arith) (omega arith) c.undo.ensures c.in-Some.is

pub returns-clause-appears : goal.returns-clause-appears
returns-clause-appears c =
    λ vs H count.
    not_undone_appears c.args.rows.now H count (omega arith) (omega arith) c.undo.ensures c.in_default.is c.intern.ensures.interns
