-- `token::Token::undo_line` meets its contract: the rows and the keys of the earlier state are left, and its guarded values stand where
-- they stood.
-- Assumes nothing.
use borrow.Author.Rules.{rules}
use mathlib.Core.Path.{ap, ◌∙◌}
use lib.ListN.{length}
use Rattle.values.proofs.Held.{zeros_after, first_held}
use Rattle.token.proofs.Growing.{same_rows, same_keys}
use Rattle.token.proofs.Undoing.{zeros_after_keys, carries_earlier, carried_there}
use Rattle.token.proofs.Token.undo_line.Goals as goal

pub returns-clause-undone : goal.returns-clause-undone
returns-clause-undone c =
    let later = c.args.self.now in
    λ σ σ' gs T C E first last.
    let held = rw E.rows_grown at C.rows_held in
    let H =
    first_held σ.world.rows E.new_rows held (same_rows first)
    (c.truncate.ensures.forgets.cut (zeros_after held later.used.rows (same_rows last ∙ ap length E.rows_grown)))
    in
    let K = c.truncate-2.ensures.forgets in
    carried_there
    (carries_earlier T C E H.0 (same_keys first) (K.cut (zeros_after_keys C later.used.keys (same_keys last))) K.length_kept)
    (search rules)
    (search rules)
