-- What the verdict is given: the policy of a file, and the two tables that hold its commands.
use Rattle.std.specs.Prelude.{ℕ, ◌≡◌, List, map, T, length}
use Rattle.model.specs.Types.{typed}
use Rattle.model.specs.Frame.{File}
use Rattle.model.specs.Tables.{WellRead, padded, command_code, step_codes}
use Rattle.model.specs.declared.Policy.{Policy}

pub record Given (φ : File) (policy : Policy) (n : ℕ) (commands steps : List ℕ) : Type 0 where
  pub well_read : WellRead φ
  pub typed_transport : T (typed φ.policy.transported)
  pub policy_is : policy ≡ φ.policy
  pub count_is : n ≡ length φ.commands
  pub commands_are : commands ≡ padded 32 (map command_code φ.commands)
  pub steps_are : steps ≡ padded 512 (step_codes φ.commands)
