-- `token::Token::perform_step` meets its contract: each op does what the model says of it.
-- Assumes nothing.
use Rattle.token.proofs.Appearing.{ends_with_row, stops_as_it_is}
use Rattle.token.proofs.Getting.{gets}
use Rattle.token.proofs.Token.perform_step.Goals as goal

pub returns-in-Return-clause-performed : goal.returns-in-Return-clause-performed
returns-in-Return-clause-performed c =
    let named = rw (← c.in-Return.ensures) at c.requires.1.a_named in
    λ σ S. rw (← c.in-Return.ensures) (ends_with_row S.carries S.few_atoms S.counts_are _ named)

pub returns-in-Get-clause-performed : goal.returns-in-Get-clause-performed
returns-in-Get-clause-performed c =
    let named = rw (← c.in-Get.ensures) at c.requires.1.a_named in
    λ σ S. rw (← c.in-Get.ensures, c.get.ensures) (gets S.carries S.few_atoms S.counts_are _ c.args.s c.args.x named)

pub returns-in-Unknown-clause-performed : goal.returns-in-Unknown-clause-performed
returns-in-Unknown-clause-performed c = λ σ S. rw (← c.in-Unknown.ensures) (stops_as_it_is S.carries S.few_atoms S.counts_are)
