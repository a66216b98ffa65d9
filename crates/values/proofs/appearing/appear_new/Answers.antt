-- `values::appearing::appear_new` meets its contract: an atom that has no row is added, or there is no room for it.
-- Assumes nothing.
use Rattle.model.specs.Value.{fresh}
use Rattle.values.proofs.Interning.{stored_by_push}
use Rattle.values.proofs.Steps.{stored_appears}
use Rattle.values.proofs.appearing.appear_new.Goals as goal

pub returns-clause-appears : goal.returns-clause-appears
returns-clause-appears c =
    λ vs H count new.
    stored_appears c.args.rows.now H count (fresh _) c.requires new
    (rw c.code.ensures at (stored_by_push c.push.ensures.with_room c.push.ensures.full))
