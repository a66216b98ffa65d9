-- Laws of a frame's answer: what a refused frame leaves, and the refusals of a frame whose kind and place are known.
-- Assumes nothing.
use mathlib.Core.Path.{◌≡◌, refl, sym, ap, ◌∙◌, subst}
use mathlib.Core.Bool.{Bool, true, false}
use mathlib.Core.List.{List}
use Prim.Native.Nat.{ℕ, zero, suc, ◌≤◌, ◌<◌}
use native.Mathlib.Omega.{arith}
use lib.Dec.{ltb}
use borrow.Author.Tests.{ltb-true, eqb-true, leb-true}
use Rattle.model.specs.declared.Fault.{Fault}
use Rattle.model.specs.declared.Fault.TheVariants.{TooLong, BadLine, Misplaced, Malformed, TooMany, NotThere, Unlawful, WrongTables}
use Rattle.model.specs.Numbers.{fault_number}
use Rattle.model.specs.Basics.{◌else◌then◌}
use Rattle.model.specs.Frame.{Reading, Kind, byte_at, policy_kind, command_kind, line_kind, kind_of, in_place, body_refusal, frame_refusal}
use Rattle.model.specs.Frame.{with_frame}
use Rattle.model.specs.Tables.{Held}
use Rattle.model.proofs.Tests.{met}
use Rattle.frames.specs.Turn.{Turn, turn_of, filed, Counted, TurnIs}
use Rattle.frames.specs.Parts.{Takes}
use Rattle.frames.specs.Turn as turn
use Rattle.frames.proofs.Lists.{is_true}

-- the answer and the tables, by what the refusal is
turn_by : {c : Reading} {f h a k s : List ℕ} {r : Turn} (x : ℕ) → frame_refusal c f ≡ x → r ≡ turn_of x (kind_of f) f
    → Held (filed x c f) h a k s
    → TurnIs c f r h a k s
turn_by {c} {f} {h} {a} {k} {s} x e is held = record {
  answer = is ∙ ap (λ (y : ℕ). turn_of y (kind_of f) f) (sym e);
  held = subst (λ (y : ℕ). Held (filed y c f) h a k s) (sym e) held;
}

-- a refused frame changes no table
pub refused : {c : Reading} {f h a k s : List ℕ} (x : ℕ) → frame_refusal c f ≡ x → (x ≡ 0 → ⊥) → Held c.file h a k s
    → TurnIs c f (turn.Refused x) h a k s
unfolding turn_of
refused zero e some held = absurd (some refl)
refused (suc x) e some held = turn_by (suc x) e refl held

-- a refusal's number is not 0
pub some_number : (e : Fault) → fault_number e ≡ 0 → ⊥
some_number TooLong e = omega arith
some_number BadLine e = omega arith
some_number Misplaced e = omega arith
some_number Malformed e = omega arith
some_number TooMany e = omega arith
some_number NotThere e = omega arith
some_number Unlawful e = omega arith
some_number WrongTables e = omega arith

-- what is not refused has room
pub room_left : (p q : Bool) (n most x : ℕ) → x ≡ (p else 4 then ltb n most else 5 then q else 6 then 0) → x ≡ 0 → n < most
room_left p q n most x is none =
    let rest = (met p 3 (ltb n most else 5 then q else 6 then 0) (sym is ∙ none)).1 in
    ltb-true n most (is_true (ltb n most) (met (ltb n most) 4 (q else 6 then 0) rest).0)

-- ---- a frame whose kind is known

module _ (f : List ℕ) where
  pub is_policy : byte_at f 0 ≡ 1 → kind_of f ≡ policy_kind
  is_policy h = rw h

  pub is_command : byte_at f 0 ≡ 2 → kind_of f ≡ command_kind
  is_command h = rw h

  pub is_line : byte_at f 0 ≡ 3 → kind_of f ≡ line_kind
  is_line h = rw h

module _ (f : List ℕ) {c : Reading} {kind : Kind} (is : kind_of f ≡ kind) where
  pub taken : {h a k s : List ℕ} {r : Turn} → frame_refusal c f ≡ 0 → r ≡ turn_of 0 kind f → Held (with_frame c.file kind f).file h a k s
      → TurnIs c f r h a k s
  taken {h} {a} {k} {s} e answer held =
      turn_by 0 e (answer ∙ ap (λ (x : Kind). turn_of 0 x f) (sym is))
      (subst (λ (x : Kind). Held (with_frame c.file x f).file h a k s) (sym is) held)

  module _ {place n m : ℕ} (counted : Counted c place n m) where
    pub is_in_place : in_place place kind ≡ true → frame_refusal c f ≡ body_refusal c.file kind f
    is_in_place here = rw (is, ← counted.place_is, here)

-- ---- a frame in its place, or out of it

pub misplaced : (f : List ℕ) (place n m : ℕ) (h a k s : List ℕ) → in_place place (kind_of f) ≡ false
    → Takes place n m f (turn.Refused 3) h a k s h a k s
misplaced f place n m h a k s out c counted held = refused 3 (rw (← counted.place_is, out)) (λ q. omega arith) held

pub command_place : (f : List ℕ) (place : ℕ) → byte_at f 0 ≡ 2 → in_place place (kind_of f) ≡ true → place ≡ 1
command_place f place kind here = eqb-true place 1 (rw (is_command f kind) at here)

pub line_place : (f : List ℕ) (place : ℕ) → byte_at f 0 ≡ 3 → in_place place (kind_of f) ≡ true → 1 ≤ place
line_place f place kind here = leb-true 1 place (rw (is_line f kind) at here)

-- the place by another name
pub placed : {c : Reading} {p q n m : ℕ} → Counted c p n m → p ≡ q → Counted c q n m
placed counted e = record {
  place_is = sym e ∙ counted.place_is;
  commands_are = counted.commands_are;
  lines_are = counted.lines_are;
  few_params = counted.few_params;
  few_steps = counted.few_steps;
}
