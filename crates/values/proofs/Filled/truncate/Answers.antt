-- `values::Filled::truncate` meets its contract: the part that is made unused again is filled with zeros.
-- Assumes nothing.
use native.Mathlib.Omega.{arith}
use borrow.Author.Rules.{rules}
use Rattle.values.proofs.Forgetting.{forgets_by_fill}
use Rattle.values.proofs.Filled.truncate.Goals as goal

pub returns-clause-forgets : goal.returns-clause-forgets
returns-clause-forgets c =
    let zeros = c.fill.ensures.after (search rules) in
    forgets_by_fill c.args.self.now.table.now _ _ c.requires c.args.self.now.fits _ _ (omega arith) (omega arith) _ zeros
