-- Steps and commands: the scope's section "Files", from "Within a command" on.
use Rattle.std.specs.Prelude.{ℕ, List, [], ◌∷◌, get_or}
use Rattle.model.specs.declared.Step.{Step}
use Rattle.model.specs.declared.Operation.TheVariants.{Encrypt, Decrypt, Derive}
use Rattle.model.specs.declared.Op.{Op}
use Rattle.model.specs.declared.Op.TheVariants.{Return, Get, Generate, Store, Compute, Unknown}
use Rattle.model.specs.declared.Use.TheVariants.{Nothing, Operand, Attributes, Label}
use Rattle.model.specs.declared.Fields.{Fields}

-- the ops by their numbers, from 0, where field t is the given one
abbrev pub ops : ℕ → List Op
ops t = Return ∷ Get ∷ Generate ∷ Store ∷ Compute Encrypt ∷ Compute Decrypt ∷ Compute (Derive t) ∷ []

abbrev pub op_of : Step → Op
op_of s = get_or (ops s.t) s.op Unknown

-- what an op has in its fields
abbrev pub fields_of : Op → Fields
fields_of Return = record { a = Operand; b = Nothing; t = Nothing }
fields_of Get = record { a = Operand; b = Nothing; t = Attributes }
fields_of Generate = record { a = Nothing; b = Nothing; t = Attributes }
fields_of Store = record { a = Operand; b = Nothing; t = Attributes }
fields_of (Compute Encrypt) = record { a = Operand; b = Operand; t = Nothing }
fields_of (Compute Decrypt) = record { a = Operand; b = Operand; t = Nothing }
fields_of (Compute (Derive l)) = record { a = Nothing; b = Operand; t = Label }
fields_of Unknown = record { a = Nothing; b = Nothing; t = Nothing }

-- a command: how many parameters it has, and its steps; value i is parameter i, or made by step i - params
pub record Command : Type 0 where
  pub params : ℕ
  pub steps : List Step
