-- `printing::put_lines` meets its contract: each line is put where the one before it ends.
-- Assumes nothing.
use borrow.Author.Rules.{rules}
use Rattle.printing.proofs.Laws.{putting_goes_on, putting_ends}
use Rattle.printing.proofs.put_lines.Goals as goal

pub loop-i-preserved : goal.loop-i-preserved
loop-i-preserved c = search (rules, putting_goes_on)

pub returns : goal.returns
returns c = search (rules, putting_ends)
