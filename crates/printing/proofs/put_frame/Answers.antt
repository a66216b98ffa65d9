-- `printing::put_frame` meets its contract: each byte takes two digits, and after the last there is the newline.
-- Assumes nothing.
use borrow.Author.Rules.{rules}
use Rattle.printing.proofs.Laws.{writing_goes_on, writing_ends}
use Rattle.printing.proofs.put_frame.Goals as goal

pub loop-byte-preserved : goal.loop-byte-preserved
loop-byte-preserved c = search (rules, writing_goes_on)

pub returns : goal.returns
returns c = search (rules, writing_ends)
