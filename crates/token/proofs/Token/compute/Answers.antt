-- `token::Token::compute` meets its contract: the value has a row already, it gets the next one, or there is no room for it.
-- Assumes nothing.
use borrow.Author.Rules.{rules}
use mathlib.Core.Path.{refl}
use Rattle.token.proofs.Growing.{same_rows}
use Rattle.token.proofs.Appearing.{appeared_there, row_told, computes}
use Rattle.token.proofs.Token.compute.Goals as goal

pub returns-clause-performed : goal.returns-clause-performed
returns-clause-performed c =
    let a = c.args in
    λ σ S.
    let A = c.computed-row.ensures.appears σ.world.rows S.carries.rows_held (same_rows S.counts_are) in
    let told = row_told a.self.now.used refl (same_rows S.counts_are) A in
    computes S.carries S.few_atoms S.counts_are a.operation a.x a.y c.requires.1 (rw c.ok_or.ensures.value told)
    (appeared_there A.appeared (search rules))
