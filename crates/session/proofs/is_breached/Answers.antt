-- `session::is_breached` meets its contract: what is known of a guarded row's value is what the model tests, for all values that the rows
-- may hold.
-- Assumes nothing.
use Rattle.std.proofs.Common.{◌<◌, ◌≡◌, true, false, length, rules, tests}
use Rattle.std.proofs.lemmas.Iterator.{cases_from_any, YieldsList-from_slice}
use Rattle.std.proofs.lemmas.Iterator.Adapters.{serves_from_places}
use Rattle.std.proofs.lemmas.List.{get_or_default}
use Rattle.session.specs.Sessioned.{known, breached_by}
use Rattle.session.proofs.Marks.{AnyTold, any_is_some}
use Rattle.session.proofs.is_breached.Goals as goal

pub any-requires-clause-callable : goal.any-requires-clause-callable
any-requires-clause-callable c =
    let guards = c.args.guards.now in
    serves_from_places (YieldsList-from_slice guards (cc)) (λ x q k. search (rules, tests))
    (λ x k l e.
    let same = get_or_default guards k x.now 0 l in
    let below = c.requires.below k l in
    search (rules, tests))

pub returns : goal.returns
unfolding breached_by
returns c = λ vs H below.
    let guards = c.args.guards.now in
    let test = known vs c.args.hand.now in
    let told : AnyTold c.any.result test (length vs) guards =
    cases_from_any _ _ _ (λ x. x < length vs → test x ≡ true) (λ x. x < length vs
    → test x ≡ false) c.any.ensures.ran (YieldsList-from_slice guards (cc))
    (λ x q k l. search (rules, tests))
    (λ x q k. (search (rules, tests), λ l. search (rules, tests))) in
    any_is_some c.any.result test (length vs) guards (λ k l. (below.below k l).0) told
