-- `text::scan_line` meets its contract: how many pairs stand at the front, and what comes after them.
-- Assumes nothing.
use native.Mathlib.Omega.{arith}
use mathlib.Core.Path.{sym}
use Rattle.text.proofs.Laws.{rest_of, pairs_within, broken, scanned_well}
use Rattle.text.proofs.scan_line.Goals as goal

pub ends_after-requires : goal.ends_after-requires
ends_after-requires c = pairs_within c.write_pairs-pairs.ensures

pub returns-then-not-ends_after : goal.returns-then-not-ends_after
returns-then-not-ends_after c =
    let here = c.args in
    broken _ _ _ (rest_of here.at here.input.now) c.write_pairs-pairs.ensures (sym c.if-not-ends_after.ensures)

pub returns : goal.returns
returns c =
    let here = c.args in
    scanned_well _ _ _ (rest_of here.at here.input.now) c.write_pairs-pairs.ensures (sym c.if-not-ends_after.ensures) c.min.ensures (omega arith)
