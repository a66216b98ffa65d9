-- `values::appearing::encrypt_rows` meets its contract: the number made of two rows is that of the encryption of their values.
-- Assumes nothing.
use native.Mathlib.Omega.{arith}
use Rattle.values.proofs.Steps.{encrypt_appears}
use Rattle.values.proofs.appearing.encrypt_rows.Goals as goal

pub returns-clause-appears : goal.returns-clause-appears
returns-clause-appears c =
    λ vs H count. encrypt_appears c.args.rows.now H count (omega arith) (omega arith) c.intern.ensures.interns
