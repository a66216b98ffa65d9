-- What the bytes of one frame say, and the refusals 3 to 7 of a frame by what stands before it:
-- the scope's sections "Files" and "Numbers of the answers".
use Rattle.std.specs.Prelude.{ℕ, zero, suc, ◌+◌, ◌-◌, ◌*◌, Bool, true, false, not, cond, ◌&&◌, List, [], ◌∷◌, ◌++◌, eqb, ltb, leb, get_or, length, drop}
use Rattle.model.specs.Basics.{◌else◌then◌, every}
use Rattle.model.specs.Types.{type_of_code}
use Rattle.model.specs.declared.Ty.TheVariants.{Un}
use Rattle.model.specs.Step.{ops, op_of, fields_of, Command}
use Rattle.model.specs.declared.Operation.TheVariants.{Encrypt, Decrypt, Derive}
use Rattle.model.specs.declared.Use.{Use}
use Rattle.model.specs.declared.Use.TheVariants.{Nothing, Operand, Attributes, Label}
use Rattle.model.specs.Policy.{lawful}
use Rattle.model.specs.declared.Policy.{Policy}
use Rattle.model.specs.Token.{command_at}
use Rattle.model.specs.Session.{Arg, constant, of_line, Line, calls, computes}
use Rattle.model.specs.Text.{number_from}
use Rattle.model.specs.declared.Step.{Step}

abbrev pub byte_at : List ℕ → ℕ → ℕ
byte_at f i = get_or f i 0

-- ---- the policy: 01, the transported type, eight bytes

abbrev pub policy_of : List ℕ → Policy
policy_of f = record { transported = type_of_code (byte_at f 1); allowing = number_from 0 (drop 2 f) }

abbrev pub policy_formed : List ℕ → Bool
policy_formed f = eqb (length f) 10 && leb (byte_at f 1) 5

-- ---- a command: 02, p, n, n steps of four bytes

unfoldable pub steps_of : List ℕ → List Step
steps_of [] = []
steps_of (o ∷ []) = []
steps_of (o ∷ x ∷ []) = []
steps_of (o ∷ x ∷ y ∷ []) = []
steps_of (o ∷ x ∷ y ∷ z ∷ rest) = record { op = o; a = x; b = y; t = z } ∷ steps_of rest

abbrev pub command_of : List ℕ → Command
command_of f = record { params = byte_at f 1; steps = steps_of (drop 3 f) }

-- a field that is not used is 0, a set of attributes is below 64, and a label is 0 or 1
abbrev pub field_formed : Use → ℕ → Bool
field_formed Nothing x = eqb x 0
field_formed Operand x = true
field_formed Attributes x = ltb x 64
field_formed Label x = ltb x 2

abbrev pub step_formed : Step → Bool
step_formed s =
    ltb s.op (length (ops s.t))
    && field_formed (fields_of (op_of s)).a s.a
    && field_formed (fields_of (op_of s)).b s.b
    && field_formed (fields_of (op_of s)).t s.t

-- return, op 0, is the last step and only the last
unfoldable pub returns_last : List Step → Bool
returns_last [] = false
returns_last (s ∷ []) = eqb s.op 0
returns_last (s ∷ s' ∷ ss) = not (eqb s.op 0) && returns_last (s' ∷ ss)

abbrev pub command_formed : List ℕ → Bool
command_formed f =
    leb (byte_at f 1) 4
    && leb 1 (byte_at f 2)
    && leb (byte_at f 2) 16
    && eqb (length f) (3 + 4 * byte_at f 2)
    && every step_formed (steps_of (drop 3 f))
    && returns_last (steps_of (drop 3 f))

-- a field that names a value names one of the n made so far
abbrev pub field_names : ℕ → Use → ℕ → Bool
field_names n Nothing x = true
field_names n Operand x = ltb x n
field_names n Attributes x = true
field_names n Label x = true

abbrev pub step_names : ℕ → Step → Bool
step_names n s = field_names n (fields_of (op_of s)).a s.a && field_names n (fields_of (op_of s)).b s.b

-- each step names values made before it, the first step one of n
unfoldable pub names_made : ℕ → List Step → Bool
names_made n [] = true
names_made n (s ∷ ss) = step_names n s && names_made (suc n) ss

-- ---- a session line: 03, kind, command number, argument count, two bytes an argument

abbrev pub arg_of : ℕ → Arg
arg_of n = cond (leb 0x8000 n) (constant (n - 0x8000)) (of_line n)

unfoldable pub args_of : List ℕ → List Arg
args_of [] = []
args_of (x ∷ []) = []
args_of (x ∷ y ∷ rest) = arg_of (number_from 0 (x ∷ y ∷ [])) ∷ args_of rest

-- kind 0 calls a command, 1 encrypts, 2 decrypts, 3 derives under the label in the command's place; there is no kind above
abbrev pub line_by : ℕ → ℕ → List Arg → Line
line_by zero c args = calls c args
line_by (suc zero) c args = computes Encrypt args
line_by (suc (suc zero)) c args = computes Decrypt args
line_by (suc (suc (suc k))) c args = computes (Derive c) args

abbrev pub line_of : List ℕ → Line
line_of f = line_by (byte_at f 1) (byte_at f 2) (args_of (drop 4 f))

-- the command's place and the argument count, by the kind
abbrev pub head_fits : ℕ → ℕ → ℕ → Bool
head_fits zero c n = true
head_fits (suc zero) c n = eqb c 0 && eqb n 2
head_fits (suc (suc zero)) c n = eqb c 0 && eqb n 2
head_fits (suc (suc (suc k))) c n = ltb c 2 && eqb n 1

abbrev pub line_formed : List ℕ → Bool
line_formed f =
    leb (byte_at f 1) 3
    && leb (byte_at f 3) 4
    && eqb (length f) (4 + 2 * byte_at f 3)
    && head_fits (byte_at f 1) (byte_at f 2) (byte_at f 3)

-- an argument is a constant or one of the n lines before
abbrev pub arg_names : ℕ → Arg → Bool
arg_names n (constant k) = true
arg_names n (of_line i) = ltb i n

-- a line names earlier lines, and a command that is there with as many arguments as it has parameters
abbrev pub line_names : List Command → ℕ → Line → Bool
line_names cs n (calls c args) =
    ltb c (length cs) && eqb (length args) (command_at cs c).params && every (arg_names n) args
line_names cs n (computes o args) = every (arg_names n) args

-- ---- any frame

pub record File : Type 0 where
  pub policy : Policy
  pub commands : List Command
  pub lines : List Line

-- what stands before a frame: its place is 0 before the policy, 1 after it and after commands, 2 after session lines
pub record Reading : Type 0 where
  pub place : ℕ
  pub file : File

abbrev pub nothing_read : Reading
nothing_read = record { place = 0; file = record { policy = record { transported = Un; allowing = 0 }; commands = []; lines = [] } }

pub data Kind : Type 0 where
  policy_kind command_kind line_kind other_kind : Kind

-- by the first byte alone
abbrev pub kind_of : List ℕ → Kind
kind_of f = get_or (other_kind ∷ policy_kind ∷ command_kind ∷ line_kind ∷ []) (byte_at f 0) other_kind

abbrev pub in_place : ℕ → Kind → Bool
in_place place policy_kind = eqb place 0
in_place place command_kind = eqb place 1
in_place place line_kind = leb 1 place
in_place place other_kind = false

-- the lowest number that the frame earns, or 0
abbrev pub body_refusal : File → Kind → List ℕ → ℕ
body_refusal φ policy_kind f = policy_formed f else 4 then lawful (policy_of f) else 7 then 0
body_refusal φ command_kind f =
    command_formed f else 4 then ltb (length φ.commands) 32 else 5
    then names_made (byte_at f 1) (command_of f).steps else 6 then 0
body_refusal φ line_kind f =
    line_formed f else 4 then ltb (length φ.lines) 1024 else 5
    then line_names φ.commands (length φ.lines) (line_of f) else 6 then 0
body_refusal φ other_kind f = 0

abbrev pub frame_refusal : Reading → List ℕ → ℕ
frame_refusal c f = in_place c.place (kind_of f) else 3 then body_refusal c.file (kind_of f) f

-- what stands after a frame that is taken
abbrev pub with_frame : File → Kind → List ℕ → Reading
with_frame φ policy_kind f = record { place = 1; file = record { policy = policy_of f; commands = φ.commands; lines = φ.lines } }
with_frame φ command_kind f =
    record { place = 1; file = record { policy = φ.policy; commands = φ.commands ++ command_of f ∷ []; lines = φ.lines } }
with_frame φ line_kind f =
    record { place = 2; file = record { policy = φ.policy; commands = φ.commands; lines = φ.lines ++ line_of f ∷ [] } }
with_frame φ other_kind f = record { place = 0; file = φ }
