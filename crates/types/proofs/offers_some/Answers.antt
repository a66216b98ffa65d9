-- `types::offers_some` meets its contract: what `any` answers over the numbers of the templates.
-- Assumes nothing.
use mathlib.Core.Path.{refl, ◌∙◌}
use borrow.Author.Rules.{rules}
use borrow.Author.Tests.{tests}
use Rattle.std.proofs.lemmas.Iterator.{YieldsList-from_range}
use Rattle.std.proofs.lemmas.Iterator.Search.{any_from_yields_List}
use Rattle.types.proofs.Walk.{offers, any_offered}
use Rattle.types.proofs.offers_some.Goals as goal

pub returns : goal.returns
returns c =
    let a = c.args in
    any_from_yields_List (offers a.policy.allowing a.s) _ _ _ c.any.ensures.ran (YieldsList-from_range 0 64 64 (cc) refl)
    (λ x b q k. search (rules, tests))
    ∙ any_offered a.policy.allowing a.s
