-- `printing::print_report` meets its contract: three runs of bytes, each put where the one before it ends.
-- Assumes nothing.
use native.Mathlib.Omega.{arith}
use borrow.Author.Rules.{rules}
use Rattle.printing.proofs.Laws.{frame_ends, lines_end, report_printed}
use Rattle.printing.proofs.print_report.Goals as goal

pub put_lines-end_at-requires : goal.put_lines-end_at-requires
put_lines-end_at-requires c = (omega (arith, frame_ends), omega arith)

pub put_frame-requires : goal.put_frame-requires
put_frame-requires c = omega (arith, frame_ends, lines_end)

pub returns : goal.returns
returns c = search (rules, report_printed)
