-- The walks over the steps of a command and over the commands: what is left to judge says what the whole says.
-- Assumes nothing.
use Prim.Native.Nat.{ℕ, zero, suc, ◌+◌, ◌-◌, ◌*◌, ◌/◌, ◌%◌, ◌≤◌, ◌<◌, min}
use mathlib.Core.Path.{◌≡◌, refl, sym, ap, ap₂, ◌∙◌}
use mathlib.Core.List.{List, [], ◌∷◌, ◌++◌, map}
use native.Mathlib.Nat.{sub-zero}
use native.Mathlib.Omega.{arith}
use native.Mathlib.Decide.{ℕ_discrete}
use lib.ListN.{get_or, length, take, drop, set, replicate}
use lib.ListN.{length-append, length-set, length-take, length-map, length-replicate, drop_of_length-le, get_or-map}
use Rattle.std.proofs.Common.{Result, Ok, Err}
use lib.Seq.{drop-cons, get_or-take, get_or_at, get_or-set_same, get_or-set_other}
use Rattle.model.specs.Basics.{up_from}
use Rattle.model.specs.Numbers.{rule_number}
use Rattle.model.specs.declared.Ty.{Ty}
use Rattle.model.specs.declared.Ty.TheVariants.{Un}
use Rattle.model.specs.Step.{op_of, Command}
use Rattle.model.specs.declared.Policy.{Policy}
use Rattle.model.specs.declared.Rule.{Rule}
use Rattle.model.specs.declared.Broken.{Broken}
use Rattle.model.specs.Told.{broken_told, judged_told}
use Rattle.model.specs.Frame.{File}
use Rattle.model.specs.Typing.{Verdict, refusal, gives, type_at, step_findings, findings, accepted, first_refusal, verdict}
use Rattle.model.specs.declared.Step.{Step}
use Rattle.typing.specs.Given.{Given}
use Rattle.decoding.specs.Decoded.{step_from, command_from}
use Rattle.typing.specs.Judged.{command_findings}
use Rattle.decoding.proofs.Decoding.{command_in, commands_in, commands_decoded}
use Rattle.typing.proofs.Rules.{no_rule_is_zero}
use Rattle.typing.proofs.FirstBroken.{refusal_at_head, refusal_past, refusal_within}

-- ---- the steps of one command

-- before step i: `made` holds the types of the values so far, and the steps from i on say what all of them say
pub record Reached (p : Policy) (f : ℕ) (c : Command) (made : List Ty) (i : ℕ) : Type 0 where
  pub types : List Ty
  pub counted : length types ≡ c.params + i
  pub sized : length made ≡ 20
  pub held : (k : ℕ) → type_at made k ≡ type_at types k
  pub left : first_refusal (command_findings p f c) ≡ first_refusal (step_findings p f i types (drop i c.steps))

default_everywhere : {A : Type 0} (n k : ℕ) (d : A) → get_or (replicate n d) k d ≡ d
default_everywhere zero k d = refl
default_everywhere (suc n) zero d = refl
default_everywhere (suc n) (suc k) d = default_everywhere n k d

pub reached_start : (p : Policy) (f : ℕ) (c : Command) → Reached p f c (replicate 20 Un) 0
reached_start p f c = record {
  types = replicate c.params Un;
  counted = omega (arith, length-replicate c.params Un);
  sized = refl;
  held = λ k. default_everywhere 20 k Un ∙ sym (default_everywhere c.params k Un);
  left = refl;
}

other_than_last : {A : Type 0} (l : List A) (x d : A) (k : ℕ) → (k ≡ length l → ⊥) → get_or l k d ≡ get_or (l ++ x ∷ []) k d
other_than_last [] x d zero other = absurd (other refl)
other_than_last [] x d (suc k) other = refl
other_than_last (y ∷ l) x d zero other = refl
other_than_last (y ∷ l) x d (suc k) other = other_than_last l x d k (λ e. other (ap suc e))

-- one type more, which the array takes at the next place
held_more : (made types : List Ty) (m k : ℕ) (τ : Ty) → length types ≡ m → m < length made
    → type_at made k ≡ type_at types k → type_at (set made m τ) k ≡ type_at (types ++ τ ∷ []) k
held_more made types m k τ counted room held = go (ℕ_discrete k m)
  where
    go : Dec (k ≡ m) → type_at (set made m τ) k ≡ type_at (types ++ τ ∷ []) k
    go (yes e) = rw (e, get_or-set_same made m τ Un room, get_or_at types τ [] Un m counted)
    go (no d) = get_or-set_other made m k τ Un d ∙ held ∙ other_than_last types τ Un k (λ e. d (e ∙ counted))

-- step s is the next: x and y are the types that its fields name
module _ (p : Policy) (f : ℕ) (c : Command) (made : List Ty) (i : ℕ) (s : Step) (x y : Ty) (reached : Reached p f c made i)
    (next : drop i c.steps ≡ s ∷ drop (suc i) c.steps) (at_a : x ≡ type_at made s.a) (at_b : y ≡ type_at made s.b) where
  -- what the step comes to where its operands have the types u and w, and then the steps after it
  from_here : Ty → Ty → List Verdict
  from_here u w =
      record { number = refusal p (op_of s) s u w; frame = f; step = i }
      ∷ step_findings p f (suc i) (reached.types ++ gives p (op_of s) s u w ∷ []) (drop (suc i) c.steps)

  one_step : first_refusal (command_findings p f c) ≡ first_refusal (from_here x y)
  unfolding step_findings from_here
  one_step =
      reached.left
      ∙ ap (λ ss. first_refusal (step_findings p f i reached.types ss)) next
      ∙ ap₂ (λ u w. first_refusal (from_here u w)) (sym (at_a ∙ reached.held s.a)) (sym (at_b ∙ reached.held s.b))

  pub refused_here : (r : Rule) → rule_number r ≡ refusal p (op_of s) s x y
      → broken_told (record { rule = r; frame = f; step = i }) ≡ first_refusal (command_findings p f c)
  unfolding from_here
  refused_here r judged =
      ap (λ n. record { number = n; frame = f; step = i }) judged
      ∙ sym (one_step ∙ refusal_at_head _ _ (λ e. no_rule_is_zero r (judged ∙ e)))

  -- τ is the type that the step gives, and m the next place
  pub reached_next : (τ : Ty) (m j : ℕ) → 0 ≡ refusal p (op_of s) s x y → τ ≡ gives p (op_of s) s x y
      → m ≡ c.params + i → m < 20 → j ≡ suc i → Reached p f c (set made m τ) j
  unfolding first_refusal from_here
  reached_next τ m j met given place room after =
      let counted : length reached.types ≡ m = omega (arith, reached.counted) in
      record {
        types = reached.types ++ τ ∷ [];
        counted = omega (arith, length-append reached.types (τ ∷ []));
        sized = length-set made m τ ∙ reached.sized;
        held = λ k. held_more made reached.types m k τ counted (omega (arith, reached.sized)) (reached.held k);
        left = one_step ∙ rw (← met, ← given, after);
      }

pub reached_end : (p : Policy) (f : ℕ) (c : Command) (made : List Ty) (i : ℕ) → Reached p f c made i → length c.steps ≤ i
    → accepted ≡ first_refusal (command_findings p f c)
unfolding step_findings first_refusal
reached_end p f c made i reached over = sym (reached.left ∙ rw (drop_of_length-le c.steps {i = i} over))

-- The command that the numbers stand for, as the code reads it.

pub param_count : (code : ℕ) (part : List ℕ) → (command_from code part).params ≡ min (code % 256) 4
unfolding command_from
param_count code part = refl

module _ (code : ℕ) (part : List ℕ) (sixteen : length part ≡ 16) where
  pub step_count : length (command_from code part).steps ≡ min (code / 256) 16
  unfolding command_from
  step_count = length-take (min (code / 256) 16) (map step_from part) ∙ rw (length-map part step_from) (omega arith)

  pub next_step : (i : ℕ) (s : Step) → i < min (code / 256) 16 → s ≡ step_from (get_or part i 0)
      → drop i (command_from code part).steps ≡ s ∷ drop (suc i) (command_from code part).steps
  unfolding command_from
  next_step i s within decoded =
      let steps = take (min (code / 256) 16) (map step_from part) in
      drop-cons steps i (step_from 0) (omega (arith, step_count))
      ∙ ap (λ z. z ∷ drop (suc i) steps)
      (get_or-take _ (map step_from part) i (step_from 0) within ∙ get_or-map step_from part i 0 ∙ sym decoded)

-- ---- the commands of the tables

-- what the commands from c on say, of n
unfoldable pub judged_from : Policy → ℕ → List ℕ → List ℕ → ℕ → Verdict
judged_from p n commands steps c = first_refusal (findings p (suc c) (commands_in commands steps c (n - c)))

-- command c is the next: found is what it says alone, from its entry and from the places that the code lends
module _ (p : Policy) (n : ℕ) (commands steps : List ℕ) (c frame : ℕ) (found : Result (Unit {0}) Broken)
    (judged : judged_told found
    ≡ first_refusal (command_findings p frame (command_from (get_or commands c 0) (take (16 * c + 16 - 16 * c) (drop (16 * c) steps)))))
    (within : c < n) (framed : frame ≡ suc c) where
  here : List Verdict
  here = command_findings p (suc c) (command_in commands steps c)

  found_here : judged_told found ≡ first_refusal here
  unfolding here command_in
  found_here = let sixteen : 16 * c + 16 - 16 * c ≡ 16 = omega arith in judged ∙ rw (framed, sixteen)

  one_command : judged_from p n commands steps c
      ≡ first_refusal (here ++ findings p (suc (suc c)) (commands_in commands steps (suc c) (n - suc c)))
  unfolding judged_from here findings commands_in up_from
  one_command = let left : n - c ≡ suc (n - suc c) = omega arith in rw left

  pub refused_in : (b : Broken) → found ≡ Err b → broken_told b ≡ judged_from p n commands steps c
  refused_in b broken =
      let told : broken_told b ≡ first_refusal here = sym (ap judged_told broken) ∙ found_here in
      told ∙ sym (one_command ∙ refusal_within here _ (λ e. no_rule_is_zero b.rule (ap (λ v. v.number) told ∙ e)))

  pub met_in : (u : Unit {0}) (m : ℕ) → found ≡ Ok u → m ≡ suc c → judged_from p n commands steps c ≡ judged_from p n commands steps m
  unfolding judged_from
  met_in u m met after = one_command ∙ refusal_past here _ (ap (λ v. v.number) (sym found_here ∙ ap judged_told met)) ∙ rw after

pub met_in_all : (p : Policy) (n : ℕ) (commands steps : List ℕ) (c : ℕ) → n ≤ c → accepted ≡ judged_from p n commands steps c
unfolding judged_from findings commands_in up_from first_refusal
met_in_all p n commands steps c over = let none : n - c ≡ 0 = omega arith in rw none

-- where the tables hold a file as it was read, their commands are its own
pub judged_is_verdict : (φ : File) (p : Policy) (n : ℕ) (commands steps : List ℕ) → Given φ p n commands steps
    → judged_from p n commands steps 0 ≡ verdict φ.policy φ.commands
unfolding judged_from
judged_is_verdict φ p n commands steps given =
    let same_commands : commands_in commands steps 0 (n - 0) ≡ φ.commands
    = rw (sub-zero, given.count_is, given.commands_are, given.steps_are)
    (commands_decoded φ.commands given.well_read.commands_read) in
    ap₂ verdict given.policy_is same_commands
