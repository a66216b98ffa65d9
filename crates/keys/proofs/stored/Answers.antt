-- `keys::stored` meets its contract, where the handle is found and where it is not.
-- Assumes nothing.
use mathlib.Core.Path.{ap, sym, ◌∙◌}
use Rattle.std.specs.Prelude.{Some}
use Rattle.keys.proofs.Searching.{stored_by_place}
use Rattle.keys.proofs.stored.Goals as goal

pub returns-in_err-i : goal.returns-in_err-i
returns-in_err-i c = c.from_residual.ensures ∙ stored_by_place c.args.keys.now c.args.x (sym c.in_err-i.was ∙ c.find_handle.ensures)

pub returns : goal.returns
returns c = ap Some c.found_at.ensures ∙ stored_by_place c.args.keys.now c.args.x (sym c.in_ok-i.was ∙ c.find_handle.ensures)
