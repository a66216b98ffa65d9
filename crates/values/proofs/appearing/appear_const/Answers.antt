-- `values::appearing::appear_const` meets its contract: a constant's number is looked for and added as the constant itself.
-- Assumes nothing.
use mathlib.Core.Path.{refl}
use Rattle.model.specs.Value.{const}
use Rattle.values.proofs.Steps.{interned_appears}
use Rattle.values.proofs.appearing.appear_const.Goals as goal

pub returns-clause-appears : goal.returns-clause-appears
returns-clause-appears c =
    λ vs H count. interned_appears c.args.rows.now H count (const _) c.requires refl c.intern.ensures.interns
