-- `printing::print_refusal` meets its contract.
-- Assumes nothing.
use borrow.Author.Rules.{rules}
use Rattle.printing.proofs.Laws.{refusal_printed}
use Rattle.printing.proofs.print_refusal.Goals as goal

pub returns : goal.returns
returns c = search (rules, refusal_printed)
