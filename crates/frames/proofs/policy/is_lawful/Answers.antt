-- `frames::policy::is_lawful` meets its contract: what `any` answers over the numbers of the templates.
-- Assumes nothing.
use mathlib.Core.Bool.{not}
use mathlib.Core.Path.{refl, ap, ◌∙◌}
use borrow.Author.Rules.{rules}
use borrow.Author.Tests.{tests}
use Rattle.std.proofs.lemmas.Iterator.{YieldsList-from_range}
use Rattle.std.proofs.lemmas.Iterator.Search.{any_from_yields_List}
use Rattle.frames.proofs.Policies.{barred, lawful_is_none}
use Rattle.frames.proofs.policy.is_lawful.Goals as goal

pub returns : goal.returns
returns c =
    let p = c.args.policy in
    ap not
    (any_from_yields_List (barred p.allowing) _ _ _ c.any.ensures.ran (YieldsList-from_range 0 64 64 (cc) refl)
    (λ x b q k. search (rules, tests)))
    ∙ lawful_is_none p.allowing p.transported
