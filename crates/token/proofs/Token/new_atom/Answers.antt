-- `token::Token::new_atom` meets its contract, with room for the atom's row and without.
-- Assumes nothing.
use borrow.Author.Rules.{rules}
use mathlib.Core.Path.{refl}
use Rattle.token.proofs.Appearing.{atom_told, made_there}
use Rattle.token.proofs.Token.new_atom.Goals as goal

pub returns-clause-made : goal.returns-clause-made
returns-clause-made c =
    let after = c.appear_new-row.ensures in
    made_there {u = c.appear_new-row.new.rows.table.now}
    (record {
      answer = rw c.ok_or.ensures.value (atom_told c.args.self.now.used refl after.with_room after.full);
      holds = λ vs H count new. (after.appears vs H count new).appeared.holds;
      length_kept = after.same_table.1;
    })
    (search rules)
