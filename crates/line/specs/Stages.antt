-- The stages of a line as the code goes through them: what its head tells, an earlier line's outcome, one argument, all arguments,
-- a command's steps, an operation of the attacker's own. Each is said of every state of the model that the token carries, so that
-- nothing but its numbers tells the code where it stands; what is ready holds one such state, which makes the numbers safe.
use Rattle.std.specs.Prelude.{ℕ, ◌+◌, ◌/◌, ◌%◌, ◌≤◌, ◌<◌, ◌≡◌, cond, List, [], T, Option, Some, None, Result, Ok, Err, eqb, length, get_or}
use Rattle.model.specs.Basics.{every}
use Rattle.model.specs.declared.Operation.{Operation}
use Rattle.model.specs.declared.Operation.TheVariants.{Encrypt, Decrypt, Derive}
use Rattle.model.specs.Value.{Value, compute, operands, value_at}
use Rattle.model.specs.Token.{State, Room, Out, ended, and_then, appear}
use Rattle.model.specs.Session.{Arg, Finished, with_arguments}
use Rattle.model.specs.Frame.{arg_names, names_made}
use Rattle.model.specs.Tables.{arg_code, args_code, arg_read}
use Rattle.model.specs.declared.Step.{Step}
use Rattle.decoding.specs.Decoded.{step_from}
use Rattle.token.specs.Carried.{Extends, PerformsIn, ReadyIn, Stands}
use Rattle.token.specs.declared.Halt.{Halt}
use Rattle.token.specs.declared.Token.{Token}
use Rattle.line.specs.Lined.{Finishing}
use Rattle.line.specs.declared.Act.{Act}
use Rattle.line.specs.declared.Act.TheVariants as act
use Rattle.line.specs.declared.Head.{Head}

-- ---- the head

-- by the kind of a line, with the number that stands after it: a command's, or a label
abbrev pub act_from : ℕ → ℕ → Act
act_from kind number =
    cond (eqb kind 0) (act.Call number)
    (cond (eqb kind 1) (act.Compute Encrypt) (cond (eqb kind 3) (act.Compute (Derive number)) (act.Compute Decrypt)))

unfoldable pub head_from : ℕ → Head
head_from head = record { act = act_from (head % 256) (head / 256 % 256); count = head / 65536 }

-- ---- one argument

-- the row of an earlier line's value, from its number; a stopped line has none
unfoldable pub earlier_from : ℕ → Option ℕ
earlier_from code = cond (eqb (code / 4294967296 % 2) 1) None (Some (code % 65536))

pub record ArgumentGiven (σ : State) (fs : List Finished) (a : Arg) (t : Token) (outcomes : List ℕ) (code : ℕ) : Type 0 where
  pub stands : Stands σ t
  pub finishing : Finishing fs σ.world.rows outcomes
  pub read : T (arg_read a)
  pub named : T (arg_names (length fs) a)
  pub code_is : code ≡ arg_code a

pub record ArgumentReady (t : Token) (outcomes : List ℕ) (code : ℕ) : Type 0 where
  pub rows_fit : t.used.rows ≤ length t.rows.now
  pub rows_small : length t.rows.now ≤ 4096
  pub code_small : code < 65536
  pub line_there : code < 0x8000 → code < length outcomes

-- ---- all arguments

-- the array has the rows of the values vs, in their order
pub record Valued (rows vs : List Value) (values : List ℕ) : Type 0 where
  pub has_row : (i : ℕ) → i < length vs → get_or values i 0 < length rows
  pub is : (i : ℕ) → i < length vs → value_at rows (get_or values i 0) ≡ value_at vs i

-- the arguments from place i on, of count in all; `left` codes them
pub record ArgumentsGiven (σ : State) (fs : List Finished) (args : List Arg) (t : Token)
    (outcomes : List ℕ) (left i count : ℕ) : Type 0 where
  pub stands : Stands σ t
  pub finishing : Finishing fs σ.world.rows outcomes
  pub read : T (every arg_read args)
  pub named : T (every (arg_names (length fs)) args)
  pub left_is : left ≡ args_code args
  pub count_is : i + length args ≡ count

pub record ArgumentsReady (t : Token) (outcomes : List ℕ) (left count : ℕ) : Type 0 where
  pub σ : State
  pub fs : List Finished
  pub args : List Arg
  pub given : ArgumentsGiven σ fs args t outcomes left 0 count
  pub few : count ≤ 4
  pub rows_small : length t.rows.now ≤ 4096

-- all arguments are there: from their values and the state then, any line goes on
pub record AllTaken (ρ : Room) (σ : State) (fs : List Finished) (args : List Arg) (t : Token) (values : List ℕ) : Type 0 where
  pub σ' : State
  pub vs : List Value
  pub twenty : length values ≡ 20
  pub stands : Stands σ' t
  pub extends : Extends σ σ'
  pub valued : Valued σ'.world.rows vs values
  pub as_many : length vs ≡ length args
  pub goes_on : (next : List Value → State → Out) → with_arguments ρ fs args [] σ next ≡ next vs σ'

-- otherwise any line ends with them
abbrev pub Taken : Room → State → List Finished → List Arg → Result (List ℕ) Halt → Token → Type 0
Taken ρ σ fs args (Ok values) t = AllTaken ρ σ fs args t values
Taken ρ σ fs args (Err h) t = (next : List Value → State → Out) → PerformsIn σ (with_arguments ρ fs args [] σ next) (Err h) t

-- ---- the steps of a command

abbrev pub step_at : List Step → ℕ → Step
step_at ss i = get_or ss i (record { op = 0; a = 0; b = 0; t = 0 })

-- the steps from place i of the command's part of the table on, after the values vs
pub record StepsGiven (σ : State) (ss : List Step) (vs : List Value) (t : Token)
    (part : List ℕ) (i params : ℕ) (values : List ℕ) : Type 0 where
  pub stands : Stands σ t
  pub valued : Valued σ.world.rows vs values
  pub made : length vs ≡ params + i
  pub count_is : i + length ss ≡ length part
  pub codes_are : (j : ℕ) → j < length ss → step_from (get_or part (i + j) 0) ≡ step_at ss j
  pub named : T (names_made (length vs) ss)

pub record StepsReady (t : Token) (part : List ℕ) (params : ℕ) (values : List ℕ) : Type 0 where
  pub σ : State
  pub ss : List Step
  pub vs : List Value
  pub given : StepsGiven σ ss vs t part 0 params values
  pub few_steps : length part ≤ 16
  pub few_params : params ≤ 4
  pub values_long : length values ≡ 20
  pub rows_small : length t.rows.now ≤ 4096
  pub keys_small : length t.keys.now ≤ 256

-- ---- an operation of the attacker's own

-- the argument that it takes as its second operand; a derivation has one, which is that
abbrev pub second_of : Operation → ℕ
second_of Encrypt = 1
second_of Decrypt = 1
second_of (Derive label) = 0

pub record OperandsReady (t : Token) (o : Operation) (values : List ℕ) : Type 0 where
  pub ready : ReadyIn t
  pub values_long : length values ≡ 20
  pub first_there : get_or values 0 0 < t.used.rows
  pub second_there : get_or values (second_of o) 0 < t.used.rows

-- the line ends with the value
abbrev pub computed : Room → Operation → Value → Value → State → Out
computed ρ o v w σ = and_then (appear ρ (compute o (operands o v w)) σ) (λ u σ'. ended u σ')
