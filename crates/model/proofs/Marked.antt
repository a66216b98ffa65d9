-- The marked cases of the scope as one list with a single statement, and the program's answer to the worked listing, from its bytes to its bytes.
-- Assumes nothing.
use Prim.Native.Nat.{ℕ}
use Prim.Native.Char.{code}
use Prim.Native.String.{String}
use mathlib.Core.Path.{◌≡◌, refl}
use mathlib.Core.List.{List, [], ◌∷◌, ◌++◌}
use Rattle.model.specs.Basics.{index_by, those, up_from}
use Rattle.model.specs.Types.{type_of, join}
use Rattle.model.specs.declared.Ty.{Ty}
use Rattle.model.specs.declared.Ty.TheVariants.{Un, TData, Data, Wrap, Seed, Any, None}
use Rattle.model.specs.Policy.{join_of}
use Rattle.model.specs.Typing.{findings, step_findings, first_refusal}
use Rattle.model.specs.Value.{Value, const, enc, dec, decrypt, same}
use Rattle.model.specs.Token.{Room, appear, generate, store, get, run_steps}
use Rattle.model.specs.Session.{Run, run, with_arguments, run_from, start}
use Rattle.model.specs.Text.{lines_of, digit_value, in_pairs, well_written, bytes_of, number_from, written}
use Rattle.model.specs.Frame.{steps_of, returns_last, names_made, args_of}
use Rattle.model.specs.File.{Parsed, refused, file, parse_from, parse, verdict_of}
use Rattle.model.specs.Report.{answer, answer_to, line_frames}
use Rattle.model.specs.Typing.{Verdict}

-- on an `unfolding` line this opens every definition that a case computes through
unfoldable pub opened : Unit {0}
unfolding index_by those up_from join_of findings step_findings first_refusal same lines_of digit_value in_pairs well_written bytes_of number_from steps_of returns_last names_made args_of parse_from parse appear generate store get run_steps with_arguments run_from written answer_to line_frames
opened = tt

-- the bytes of a text, and of lines of text
abbrev pub bytes : String → List ℕ
bytes String.[] = []
bytes (String.◌∷◌ c s) = code c ∷ bytes s

abbrev pub text : List String → List ℕ
text [] = []
text (l ∷ ls) = bytes l ++ 10 ∷ text ls

abbrev pub verdict_is : ℕ → ℕ → ℕ → Verdict
verdict_is n f i = record { number = n; frame = f; step = i }

abbrev pub run_in : Room → Parsed → Run
run_in ρ (refused n k) = record { session = start; ending = 0; place = 0 }
run_in ρ (file φ) = run ρ φ.commands φ.lines

-- a question and its answer
pub data Case : Type 0 where
  template : ℕ → Ty → Case
  joined : Ty → Ty → Ty → Case
  decrypted : Value → Value → Value → Case
  judged : List String → Verdict → Case
  answered : List ℕ → List String → Case
  ended : Room → List String → ℕ → ℕ → Case

abbrev pub Holds : Case → Type 0
Holds (template t τ) = type_of t ≡ τ
Holds (joined a b c) = join a b ≡ c
Holds (decrypted v k w) = decrypt v k ≡ w
Holds (judged ls v) = verdict_of (parse (text ls)) ≡ v
Holds (answered input out) = answer input ≡ text out
Holds (ended ρ ls n i) = ((run_in ρ (parse (text ls))).ending ≡ n) × ((run_in ρ (parse (text ls))).place ≡ i)

abbrev pub AllHold : List Case → Type 0
AllHold [] = Unit {0}
AllHold (c ∷ cs) = Holds c × AllHold cs

-- the wrap-then-decrypt configuration
abbrev pub listing : List String
listing =
    "01050000000002000002"
    ∷ "0200020200000100000000"
    ∷ "0200020200001900000000"
    ∷ "02020401000001010100100402030000040000"
    ∷ "020203010100080500020000030000"
    ∷ "03000000"
    ∷ "03000100"
    ∷ "0300020200000001"
    ∷ "0300030200020001"
    ∷ []

-- templates 13 and 51 allowed, r Data, and "get parameter 0 with .., get parameter 1 with 16, encrypt, return"
abbrev pub wrapping : String → List String
wrapping command = "01020008000000002000" ∷ command ∷ []

abbrev pub marked : List Case
marked =
    template 0 Un
    ∷ template 2 None
    ∷ template 3 Seed
    ∷ template 13 Data
    ∷ template 15 TData
    ∷ template 25 Any
    ∷ template 51 Wrap
    ∷ joined Un TData Data
    ∷ joined Data Wrap Any
    ∷ decrypted (enc (const 5) (const 7)) (const 7) (const 5)
    ∷ decrypted (enc (const 5) (const 7)) (const 8) (dec (enc (const 5) (const 7)) (const 8))
    ∷ judged listing (verdict_is 18 3 2)
    ∷ judged (wrapping "02020401000004010100100402030000040000") (verdict_is 0 0 0)
    ∷ judged (wrapping "02020401000001010100100402030000040000") (verdict_is 18 1 2)
    ∷ []

pub marked_hold : AllHold marked
unfolding opened
marked_hold = (refl, (refl, (refl, (refl, (refl, (refl, (refl, (refl, (refl, (refl, (refl, (refl, (refl, (refl, tt))))))))))))))

abbrev pub listing_output : List String
listing_output =
    "8112000302"
    ∷ "820000000000000100"
    ∷ "820001000002000200"
    ∷ "820002000004000200"
    ∷ "820003000001000201"
    ∷ "83000003"
    ∷ []

pub listing_answer : answer (text listing) ≡ text listing_output
unfolding opened
listing_answer = refl
