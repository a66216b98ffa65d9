-- `token::Token::get` meets its contract: a template that is read out of a stored key's number is below 64.
-- Assumes nothing.
use mathlib.Core.Path.{sym}
use native.Mathlib.Omega.{arith}
use lib.ListN.{length, take}
use Rattle.keys.proofs.Searching.{template_below_64}
use Rattle.token.proofs.Token.get.Goals as goal

pub meets_template-requires : goal.meets_template-requires
meets_template-requires c =
    let keys = take c.args.self.now.used.keys c.args.self.now.keys.now in
    omega (arith, template_below_64 keys (length keys) c.args.x c.in-Some.found (sym c.in-Some.ensures))
