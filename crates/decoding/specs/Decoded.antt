-- What the numbers of the tables of commands and steps stand for: any numbers, also those that reading never leaves.
use Rattle.std.specs.Prelude.{ℕ, ◌/◌, ◌%◌, min, List, map, take}
use Rattle.model.specs.Step.{Command}
use Rattle.model.specs.declared.Step.{Step}

-- a byte for each field, op lowest
unfoldable pub step_from : ℕ → Step
step_from code = record { op = code % 256; a = code / 256 % 256; b = code / 65536 % 256; t = code / 16777216 % 256 }

-- a command from its number and its own part of the steps' table; it never has more than four parameters and sixteen steps
unfoldable pub command_from : ℕ → List ℕ → Command
command_from code part = record { params = min (code % 256) 4; steps = take (min (code / 256) 16) (map step_from part) }
