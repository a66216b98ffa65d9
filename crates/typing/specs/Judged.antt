-- What the verdict says of one step, and what it is to find in one command.
use Rattle.std.specs.Prelude.{ℕ, List, replicate, Result, Ok, Err}
use Rattle.model.specs.Numbers.{rule_number}
use Rattle.model.specs.Step.{Command}
use Rattle.model.specs.Typing.{Verdict, step_findings}
use Rattle.model.specs.declared.Policy.{Policy}
use Rattle.model.specs.declared.Rule.{Rule}
use Rattle.model.specs.declared.Ty.TheVariants.{Un}

-- the number of the rule that a step breaks, and 0 where it breaks none
abbrev pub rule_told : Result (Unit {0}) Rule → ℕ
rule_told (Ok u) = 0
rule_told (Err r) = rule_number r

-- what each step of the command of frame f comes to
abbrev pub command_findings : Policy → ℕ → Command → List Verdict
command_findings p f c = step_findings p f 0 (replicate c.params Un) c.steps
