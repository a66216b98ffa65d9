-- The tables decode to one file only: two files that reading takes and that leave the same answer and tables are the same.
-- Assumes nothing.
use Prim.Native.Nat.{ℕ, suc, ◌+◌, ◌-◌, ◌*◌, ◌≤◌, ◌<◌}
use mathlib.Core.Path.{◌≡◌, refl, sym, ap, ◌∙◌}
use mathlib.Core.List.{List, [], ◌∷◌, ◌++◌, map, append_assoc}
use native.Mathlib.Omega.{arith}
use lib.Dec.{T, ltb, leb, eqb→eq, ltb→lt, leb→le}
use lib.ListN.{length, length-append, length-map, length-replicate}
use Rattle.model.specs.Basics.{All, every}
use Rattle.model.specs.Types.{type_of_code, code_of}
use Rattle.model.specs.Step.{fields_of, op_of, Command}
use Rattle.model.specs.declared.Operation.TheVariants.{Encrypt, Decrypt, Derive}
use Rattle.model.specs.declared.Use.{Use}
use Rattle.model.specs.declared.Use.TheVariants.{Nothing, Operand, Attributes, Label}
use Rattle.model.specs.Session.{Arg, constant, of_line, Line, calls, computes}
use Rattle.model.specs.Frame.{File, field_formed, step_formed, field_names, step_names, names_made, arg_names}
use Rattle.model.specs.File.{file}
use Rattle.model.specs.Tables.{zeros, padded, step_code, command_code, step_codes, head_code, arg_code, args_code, args_of_line, Tables, command_read, arg_read, line_read, lines_read, WellRead, read_answer, tables_read}
use Rattle.model.specs.declared.Step.{Step}
use Rattle.model.proofs.Tests.{and_left, and_right}
use Rattle.model.proofs.TypeOrder.{code_back}

-- ---- lists

-- where two joined lists are the same and their first parts are as long, the parts are the same
same_parts : {A : Type 0} (xs ys us vs : List A) → length xs ≡ length ys → xs ++ us ≡ ys ++ vs → (xs ≡ ys) × (us ≡ vs)
same_parts [] [] us vs l e = (refl, e)
same_parts [] (y ∷ ys) us vs l e = absurd (omega arith)
same_parts (x ∷ xs) [] us vs l e = absurd (omega arith)
same_parts (x ∷ xs) (y ∷ ys) us vs l e = let later = same_parts xs ys us vs (omega arith) (cc) in (cc, later.1)

padded_length : (n : ℕ) (xs : List ℕ) → length (padded n xs) ≡ length xs + (n - length xs)
unfolding padded
padded_length n xs = simp (length-append, length-replicate)

-- the codes before the padding, of as many elements on both sides
padded_once : {A : Type 0} (n : ℕ) (f : A → ℕ) (xs ys : List A) → length xs ≡ length ys → padded n (map f xs) ≡ padded n (map f ys)
    → map f xs ≡ map f ys
unfolding padded
padded_once n f xs ys l e =
    (same_parts (map f xs) (map f ys) (zeros (n - length (map f xs))) (zeros (n - length (map f ys))) (simp length-map l) e).0

-- two codes that together tell apart the elements with a property tell apart the lists of such elements
lists_once : {A : Type 0} (P : A → Type 0) (f g : A → ℕ) → ((x y : A) → P x → P y → f x ≡ f y → g x ≡ g y → x ≡ y)
    → (xs ys : List A) → All P xs → All P ys → map f xs ≡ map f ys → map g xs ≡ map g ys → xs ≡ ys
lists_once P f g once [] [] h k e d = refl
lists_once P f g once [] (y ∷ ys) h k e d = cc
lists_once P f g once (x ∷ xs) [] h k e d = cc
lists_once P f g once (x ∷ xs) (y ∷ ys) h k e d =
    let first = once x y h.0 k.0 (cc) (cc) in
    let later = lists_once P f g once xs ys h.1 k.1 (cc) (cc) in
    cc

-- ---- numbers

-- a byte below a number
byte_once : (a b m n : ℕ) → a < 256 → b < 256 → a + 256 * m ≡ b + 256 * n → (a ≡ b) × (m ≡ n)
byte_once a b m n h k e = omega arith

-- ---- steps and commands

-- What the bounds of reading come to: a step's fields before t fit a byte each, and so do a command's parameters.
record SmallStep (s : Step) : Type 0 where
  op_small : s.op < 256
  a_small : s.a < 256
  b_small : s.b < 256

record SmallCommand (c : Command) : Type 0 where
  params_small : c.params < 256
  steps_small : All SmallStep c.steps

field_small : (n : ℕ) (u : Use) (x : ℕ) → n < 256 → T (field_formed u x) → T (field_names n u x) → x < 256
field_small n Nothing x l formed named = omega (arith, eqb→eq)
field_small n Operand x l formed named = omega (arith, ltb→lt)
field_small n Attributes x l formed named = omega (arith, ltb→lt)
field_small n Label x l formed named = omega (arith, ltb→lt)

step_small : (n : ℕ) (s : Step) → n < 256 → T (step_formed s) → T (step_names n s) → SmallStep s
step_small n s l formed named = record {
  op_small = omega (arith, ltb→lt s.op 7 (search (and_left, and_right)));
  a_small = field_small n (fields_of (op_of s)).a s.a l (search (and_left, and_right)) (search and_left);
  b_small = field_small n (fields_of (op_of s)).b s.b l (search (and_left, and_right)) (search (and_left, and_right));
}

all_steps_small : (n : ℕ) (ss : List Step) → n + length ss < 256 → T (every step_formed ss) → T (names_made n ss) → All SmallStep ss
unfolding names_made
all_steps_small n [] l formed named = tt
all_steps_small n (s ∷ ss) l formed named = (
  step_small n s (omega arith) (and_left (step_formed s) (every step_formed ss) formed) (and_left (step_names n s) (names_made (suc n) ss) named),
  all_steps_small (suc n) ss (omega arith) (and_right (step_formed s) (every step_formed ss) formed) (and_right (step_names n s) (names_made (suc n) ss) named),
)

command_small : (c : Command) → T (command_read c) → SmallCommand c
command_small c h =
    let few_params : T (leb c.params 4) = search (and_left, and_right) in
    let few_steps : T (leb (length c.steps) 16) = search (and_left, and_right) in
    record {
      params_small = omega (arith, leb→le);
      steps_small = all_steps_small c.params c.steps (omega (arith, leb→le)) (search (and_left, and_right)) (search (and_left, and_right));
    }

all_commands_small : (cs : List Command) → T (every command_read cs) → All SmallCommand cs
all_commands_small [] h = tt
all_commands_small (c ∷ cs) h = (
  command_small c (and_left (command_read c) (every command_read cs) h),
  all_commands_small cs (and_right (command_read c) (every command_read cs) h),
)

-- Under these bounds a code has one meaning.
step_once : (s r : Step) → SmallStep s → SmallStep r → step_code s ≡ step_code r → s ≡ r
unfolding step_code
step_once s r h k e =
    let op_first = byte_once s.op r.op (s.a + 256 * (s.b + 256 * s.t)) (r.a + 256 * (r.b + 256 * r.t)) h.op_small k.op_small (omega arith) in
    let a_first = byte_once s.a r.a (s.b + 256 * s.t) (r.b + 256 * r.t) h.a_small k.a_small op_first.1 in
    let b_first = byte_once s.b r.b s.t r.t h.b_small k.b_small a_first.1 in
    λ i. record { op = op_first.0 i; a = a_first.0 i; b = b_first.0 i; t = b_first.1 i }

steps_once : (ss rs : List Step) → All SmallStep ss → All SmallStep rs → map step_code ss ≡ map step_code rs → ss ≡ rs
steps_once ss rs h k e = lists_once SmallStep step_code step_code (λ s r hs hr d _. step_once s r hs hr d) ss rs h k e e

-- commands by their codes and by the blocks of their steps' codes, whatever stands after these
commands_once : (cs ds : List Command) (us vs : List ℕ) → All SmallCommand cs → All SmallCommand ds
    → map command_code cs ≡ map command_code ds → step_codes cs ++ us ≡ step_codes ds ++ vs → cs ≡ ds
unfolding step_codes command_code
commands_once [] [] us vs h k e f = refl
commands_once [] (d ∷ ds) us vs h k e f = cc
commands_once (c ∷ cs) [] us vs h k e f = cc
commands_once (c ∷ cs) (d ∷ ds) us vs h k e f =
    let same_head = byte_once c.params d.params (length c.steps) (length d.steps) h.0.params_small k.0.params_small (cc) in
    let xs = map step_code c.steps in
    let ys = map step_code d.steps in
    let as_long : length (padded 16 xs) ≡ length (padded 16 ys) = simp (padded_length, length-map) (omega arith) in
    let blocks = same_parts (padded 16 xs) (padded 16 ys) (step_codes cs ++ us) (step_codes ds ++ vs) as_long (simp append_assoc at f) in
    let same_codes = padded_once 16 step_code c.steps d.steps same_head.1 blocks.0 in
    let same_steps = steps_once c.steps d.steps h.0.steps_small k.0.steps_small same_codes in
    let first : c ≡ d = λ i. record { params = same_head.0 i; steps = same_steps i } in
    let later = commands_once cs ds us vs h.1 k.1 (cc) blocks.1 in
    cc

-- ---- session lines

-- What the bounds of reading come to: an argument's number stays clear of the mark of a constant, a command's number fits a byte.
abbrev SmallArg : Arg → Type 0
SmallArg (constant k) = k < 0x8000
SmallArg (of_line i) = i < 0x8000

abbrev SmallLine : Line → Type 0
SmallLine (calls c args) = (c < 256) × All SmallArg args
SmallLine (computes Encrypt args) = All SmallArg args
SmallLine (computes Decrypt args) = All SmallArg args
SmallLine (computes (Derive l) args) = (l < 256) × All SmallArg args

args_small : (n : ℕ) (args : List Arg) → n ≤ 1024 → T (every arg_read args) → T (every (arg_names n) args) → All SmallArg args
args_small n [] l h k = tt
args_small n (constant i ∷ rest) l h k = (ltb→lt i 0x8000 (search and_left), args_small n rest l (and_right (ltb i 0x8000) (every arg_read rest) h) k)
args_small n (of_line i ∷ rest) l h k =
    let below = ltb→lt i n (and_left (ltb i n) (every (arg_names n) rest) k) in
    (omega arith, args_small n rest l h (and_right (ltb i n) (every (arg_names n) rest) k))

line_small : (cs : List Command) (n : ℕ) (l : Line) → length cs ≤ 32 → n ≤ 1024 → T (line_read cs n l) → SmallLine l
line_small cs n (calls c args) few few_lines h =
    let there : T (ltb c (length cs)) = search (and_left, and_right) in
    (omega (arith, ltb→lt), args_small n args few_lines (search (and_left, and_right)) (search (and_left, and_right)))
line_small cs n (computes Encrypt args) few few_lines h = args_small n args few_lines (search (and_left, and_right)) (search (and_left, and_right))
line_small cs n (computes Decrypt args) few few_lines h = args_small n args few_lines (search (and_left, and_right)) (search (and_left, and_right))
line_small cs n (computes (Derive l) args) few few_lines h =
    let label_small : T (ltb l 2) = search (and_left, and_right) in
    (omega (arith, ltb→lt), args_small n args few_lines (search (and_left, and_right)) (search (and_left, and_right)))

lines_small : (cs : List Command) (n : ℕ) (ls : List Line) → length cs ≤ 32 → n + length ls ≤ 1024 → T (lines_read cs n ls) → All SmallLine ls
unfolding lines_read
lines_small cs n [] few few_lines h = tt
lines_small cs n (l ∷ ls) few few_lines h = (
  line_small cs n l few (omega arith) (and_left (line_read cs n l) (lines_read cs (suc n) ls) h),
  lines_small cs (suc n) ls few (omega arith) (and_right (line_read cs n l) (lines_read cs (suc n) ls) h),
)

-- Under these bounds a code has one meaning; of arguments, where it is known how many there are.
arg_once : (a b : Arg) → SmallArg a → SmallArg b → arg_code a ≡ arg_code b → a ≡ b
arg_once (constant m) (constant n) h k e = ap constant (omega arith)
arg_once (constant m) (of_line j) h k e = absurd (omega arith)
arg_once (of_line i) (constant n) h k e = absurd (omega arith)
arg_once (of_line i) (of_line j) h k e = ap of_line e

arg_code_small : (a : Arg) → SmallArg a → arg_code a < 65536
arg_code_small (constant n) h = omega arith
arg_code_small (of_line i) h = omega arith

args_once : (xs ys : List Arg) → All SmallArg xs → All SmallArg ys → length xs ≡ length ys → args_code xs ≡ args_code ys → xs ≡ ys
unfolding args_code
args_once [] [] h k l e = refl
args_once [] (y ∷ ys) h k l e = absurd (omega arith)
args_once (x ∷ xs) [] h k l e = absurd (omega arith)
args_once (x ∷ xs) (y ∷ ys) h k l e =
    let x_small = arg_code_small x h.0 in
    let y_small = arg_code_small y k.0 in
    let first = arg_once x y h.0 k.0 (omega arith) in
    let later = args_once xs ys h.1 k.1 (omega arith) (omega arith) in
    cc

line_once : (l m : Line) → SmallLine l → SmallLine m → head_code l ≡ head_code m → args_code (args_of_line l) ≡ args_code (args_of_line m) → l ≡ m
unfolding head_code
line_once (calls c xs) (calls d ys) h k e f =
    let same_head = byte_once c d (length xs) (length ys) h.0 k.0 (omega arith) in
    let same_arguments = args_once xs ys h.1 k.1 same_head.1 f in
    cc
line_once (calls c xs) (computes Encrypt ys) h k e f = absurd (omega arith)
line_once (calls c xs) (computes Decrypt ys) h k e f = absurd (omega arith)
line_once (calls c xs) (computes (Derive l) ys) h k e f = absurd (omega arith)
line_once (computes Encrypt xs) (calls d ys) h k e f = absurd (omega arith)
line_once (computes Encrypt xs) (computes Encrypt ys) h k e f = ap (computes Encrypt) (args_once xs ys h k (omega arith) f)
line_once (computes Encrypt xs) (computes Decrypt ys) h k e f = absurd (omega arith)
line_once (computes Encrypt xs) (computes (Derive l) ys) h k e f = absurd (omega arith)
line_once (computes Decrypt xs) (calls d ys) h k e f = absurd (omega arith)
line_once (computes Decrypt xs) (computes Encrypt ys) h k e f = absurd (omega arith)
line_once (computes Decrypt xs) (computes Decrypt ys) h k e f = ap (computes Decrypt) (args_once xs ys h k (omega arith) f)
line_once (computes Decrypt xs) (computes (Derive l) ys) h k e f = absurd (omega arith)
line_once (computes (Derive l) xs) (calls d ys) h k e f = absurd (omega arith)
line_once (computes (Derive l) xs) (computes Encrypt ys) h k e f = absurd (omega arith)
line_once (computes (Derive l) xs) (computes Decrypt ys) h k e f = absurd (omega arith)
line_once (computes (Derive l) xs) (computes (Derive m) ys) h k e f =
    let same_head = byte_once l m (length xs) (length ys) h.0 k.0 (omega arith) in
    let same_arguments = args_once xs ys h.1 k.1 same_head.1 f in
    cc

-- ---- whole files

file_lines_small : (φ : File) → WellRead φ → All SmallLine φ.lines
file_lines_small φ h = lines_small φ.commands 0 φ.lines h.few_commands (omega arith) h.lines_well_read

pub tables_decode_once : (t : Tables) (φ ψ : File) → WellRead φ → WellRead ψ
    → read_answer (file φ) ≡ read_answer (file ψ) → tables_read t (file φ) ≡ tables_read t (file ψ) → φ ≡ ψ
unfolding read_answer tables_read padded
tables_decode_once t φ ψ h k same_answer same_tables =
    let same_code : code_of φ.policy.transported ≡ code_of ψ.policy.transported = cc in
    let same_type = sym (code_back φ.policy.transported) ∙ ap type_of_code same_code ∙ code_back ψ.policy.transported in
    let same_set : φ.policy.allowing ≡ ψ.policy.allowing = cc in
    let as_many_commands : length φ.commands ≡ length ψ.commands = cc in
    let as_many_lines : length φ.lines ≡ length ψ.lines = cc in
    let arguments_code : Line → ℕ = λ l. args_code (args_of_line l) in
    let heads = padded_once 1024 head_code φ.lines ψ.lines as_many_lines (ap (λ (x : Tables). x.heads) same_tables) in
    let arguments = padded_once 1024 arguments_code φ.lines ψ.lines as_many_lines (ap (λ (x : Tables). x.arguments) same_tables) in
    let commands = padded_once 32 command_code φ.commands ψ.commands as_many_commands (ap (λ (x : Tables). x.commands) same_tables) in
    let steps = ap (λ (x : Tables). x.steps) same_tables in
    let small_φ = all_commands_small φ.commands h.commands_read in
    let small_ψ = all_commands_small ψ.commands k.commands_read in
    let same_commands = commands_once φ.commands ψ.commands _ _ small_φ small_ψ commands steps in
    let same_lines = lists_once SmallLine head_code arguments_code line_once φ.lines ψ.lines (file_lines_small φ h) (file_lines_small ψ k) heads arguments in
    λ i. record { policy = record { transported = same_type i; allowing = same_set i }; commands = same_commands i; lines = same_lines i }
