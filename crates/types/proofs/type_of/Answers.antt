-- `types::type_of` meets its contract: `TYPES` is the table of the templates' types, which antt computes and compares entry by entry.
-- Assumes nothing.
use mathlib.Core.Path.{ap, ◌∙◌}
use native.Mathlib.Omega.{arith}
use Rattle.model.specs.Types.{type_of}
use Rattle.types.proofs.Table.{entry_of_table}
use Rattle.types.proofs.type_of.Goals as goal

pub returns : goal.returns
returns c = entry_of_table type_of 64 c.from.result _ (omega arith) ∙ ap type_of c.from.ensures
