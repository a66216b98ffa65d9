-- The verdict: the scope's section "Typing of steps", and its verdict refusals 16 to 23.
use Rattle.std.specs.Prelude.{ℕ, zero, suc, Bool, cond, ◌&&◌, ◌||◌, List, [], ◌∷◌, ◌++◌, ltb, get_or, length, replicate}
use Rattle.model.specs.Basics.{◌else◌then◌}
use Rattle.model.specs.Types.{is, below, type_of}
use Rattle.model.specs.declared.Ty.{Ty}
use Rattle.model.specs.declared.Ty.TheVariants.{Un, TData, Data, Wrap, Seed}
use Rattle.model.specs.Step.{op_of, Command}
use Rattle.model.specs.declared.Operation.TheVariants.{Encrypt, Decrypt, Derive}
use Rattle.model.specs.declared.Op.{Op}
use Rattle.model.specs.declared.Op.TheVariants.{Return, Get, Generate, Store, Compute, Unknown}
use Rattle.model.specs.Policy.{allows, offered, get_type}
use Rattle.model.specs.declared.Policy.{Policy}
use Rattle.model.specs.declared.Step.{Step}

-- The rules on types. x is the type of the value that field a names, y of the one that field b names, r the transported type.

abbrev pub return_ok : Ty → Bool
return_ok x = is x Un

-- what a get takes for a handle
abbrev pub handle_ok : Ty → Bool
handle_ok x = is x Un

-- what is stored under a template of type c
abbrev pub store_ok : Ty → Ty → Bool
store_ok x c = below x c

-- under a wrapping key what is below r, under a data key what is Un, under no other key anything
abbrev pub encrypt_ok : Ty → Ty → Ty → Bool
encrypt_ok r x y = cond (is y Wrap) (below x r) (below y Data && is x Un)

abbrev pub decrypt_ok : Ty → Ty → Bool
decrypt_ok x y = is x Un && (is y Wrap || below y Data)

abbrev pub decrypt_type : Ty → Ty → Ty
decrypt_type r y = cond (is y Wrap) r Un

-- from a seed, or from what is public, and from nothing else
abbrev pub derive_ok : Ty → Bool
derive_ok y = is y Seed || is y Un

-- what a seed gives, by the label; reading lets no label above 1 through
abbrev pub seed_types : List Ty
seed_types = TData ∷ Wrap ∷ []

abbrev pub seed_gives : ℕ → Ty
seed_gives l = get_or seed_types l Wrap

-- what is public gives what is public
abbrev pub derive_type : ℕ → Ty → Ty
derive_type l y = cond (is y Seed) (seed_gives l) Un

-- the number of the first rule that a step breaks, or 0
abbrev pub refusal : Policy → Op → Step → Ty → Ty → ℕ
refusal p Return s x y = return_ok x else 21 then 0
refusal p Get s x y = handle_ok x else 22 then ltb 0 (length (offered p.allowing s)) else 17 then 0
refusal p Generate s x y = allows p.allowing s.t else 16 then 0
refusal p Store s x y = allows p.allowing s.t else 16 then store_ok x (type_of s.t) else 20 then 0
refusal p (Compute Encrypt) s x y = encrypt_ok p.transported x y else 18 then 0
refusal p (Compute Decrypt) s x y = decrypt_ok x y else 19 then 0
refusal p (Compute (Derive l)) s x y = derive_ok y else 23 then 0
refusal p Unknown s x y = 4

-- the type of the value that a step gives; a handle is Un, and so is a ciphertext
abbrev pub gives : Policy → Op → Step → Ty → Ty → Ty
gives p Return s x y = x
gives p Get s x y = get_type p.allowing s
gives p Generate s x y = Un
gives p Store s x y = Un
gives p (Compute Encrypt) s x y = Un
gives p (Compute Decrypt) s x y = decrypt_type p.transported y
gives p (Compute (Derive l)) s x y = derive_type l y
gives p Unknown s x y = Un

-- the same at the types g of the values so far
abbrev pub type_at : List Ty → ℕ → Ty
type_at g i = get_or g i Un

abbrev pub step_refusal : Policy → List Ty → Step → ℕ
step_refusal p g s = refusal p (op_of s) s (type_at g s.a) (type_at g s.b)

abbrev pub step_gives : Policy → List Ty → Step → Ty
step_gives p g s = gives p (op_of s) s (type_at g s.a) (type_at g s.b)

-- number 0 is acceptance, any other the first broken rule, at the frame of its command and at its step
pub record Verdict : Type 0 where
  pub number : ℕ
  pub frame : ℕ
  pub step : ℕ

-- what each step of the command of frame f comes to, from step i on
unfoldable pub step_findings : Policy → ℕ → ℕ → List Ty → List Step → List Verdict
step_findings p f i g [] = []
step_findings p f i g (s ∷ ss) =
    record { number = step_refusal p g s; frame = f; step = i } ∷ step_findings p f (suc i) (g ++ step_gives p g s ∷ []) ss

-- what each step of the commands from frame f on comes to; parameters are Un
unfoldable pub findings : Policy → ℕ → List Command → List Verdict
findings p f [] = []
findings p f (c ∷ cs) = step_findings p f 0 (replicate c.params Un) c.steps ++ findings p (suc f) cs

abbrev pub accepted : Verdict
accepted = record { number = 0; frame = 0; step = 0 }

abbrev pub or_later : ℕ → Verdict → Verdict → Verdict
or_later zero v later = later
or_later (suc n) v later = v

-- the first refusal among the findings, and acceptance where there is none
unfoldable pub first_refusal : List Verdict → Verdict
first_refusal [] = accepted
first_refusal (v ∷ vs) = or_later v.number v (first_refusal vs)

-- the policy is frame 0, so that commands begin at frame 1
abbrev pub verdict : Policy → List Command → Verdict
verdict p cs = first_refusal (findings p 1 cs)
