-- The longest frame that is taken has 67 bytes, so a frame that was cut at 68 or later means the same.
-- Assumes nothing.
use mathlib.Core.Path.{◌≡◌, refl}
use mathlib.Core.Bool.{Bool, true, false, ◌&&◌, and-false}
use mathlib.Core.List.{List}
use Prim.Native.Nat.{ℕ, ◌+◌, ◌*◌, ◌≤◌}
use native.Mathlib.Decide.{dec_lt}
use native.Mathlib.Omega.{arith}
use lib.Dec.{leb}
use lib.ListN.{length, take}
use lib.Seq.{take_all, length-take-le, get_or-take}
use borrow.Author.Tests.{ne_eqb, lt-leb}
use Rattle.model.specs.Basics.{◌else◌then◌}
use Rattle.model.specs.Frame.{File, Reading, Kind, policy_kind, command_kind, line_kind, other_kind, byte_at, command_formed, line_formed}
use Rattle.model.specs.Frame.{kind_of, in_place, body_refusal, frame_refusal}

-- ---- a frame of 68 bytes is not formed, of whatever kind it is

abbrev is_too_long : Kind → ℕ
is_too_long policy_kind = 4
is_too_long command_kind = 4
is_too_long line_kind = 4
is_too_long other_kind = 0

module _ (f : List ℕ) (long : 68 ≤ length f) where
  command_too_long : command_formed f ≡ false
  command_too_long =
      elim (dec_lt 16 (byte_at f 2)) [
        | yes many ↦ rw (lt-leb (byte_at f 2) 16 many, and-false (leb (byte_at f 1) 4 && leb 1 (byte_at f 2)))
        | no few ↦
            rw (
              ne_eqb (length f) (3 + 4 * byte_at f 2) (λ q. omega arith),
              and-false (leb (byte_at f 1) 4 && leb 1 (byte_at f 2) && leb (byte_at f 2) 16),
            )
      ]

  line_too_long : line_formed f ≡ false
  line_too_long =
      elim (dec_lt 4 (byte_at f 3)) [
        | yes many ↦ rw (lt-leb (byte_at f 3) 4 many, and-false (leb (byte_at f 1) 3))
        | no few ↦ rw (ne_eqb (length f) (4 + 2 * byte_at f 3) (λ q. omega arith), and-false (leb (byte_at f 1) 3 && leb (byte_at f 3) 4))
      ]

  body_too_long : (φ : File) (kind : Kind) → body_refusal φ kind f ≡ is_too_long kind
  body_too_long φ policy_kind = rw (ne_eqb (length f) 10 (λ q. omega arith))
  body_too_long φ command_kind = rw command_too_long
  body_too_long φ line_kind = rw line_too_long
  body_too_long φ other_kind = refl

-- ---- what follows for a cut

pub cut_means_same : (c : Reading) (g : List ℕ) (k : ℕ) → 68 ≤ k → frame_refusal c (take k g) ≡ frame_refusal c g
cut_means_same c g k h =
    elim (dec_lt k (length g)) [
      | yes longer ↦ (let first : byte_at (take k g) 0 ≡ byte_at g 0 = get_or-take k g 0 0 (omega arith) in
          let long : 68 ≤ length (take k g) = omega (arith, length-take-le k g (omega arith)) in
          rw (first, body_too_long (take k g) long c.file (kind_of g), body_too_long g (omega arith) c.file (kind_of g)))
      | no whole ↦ rw (take_all k g (omega arith))
    ]

either_refused : (b : Bool) → (b else 3 then 4) ≡ 0 → ⊥
either_refused true e = omega arith
either_refused false e = omega arith

never_taken : (place : ℕ) (kind : Kind) → (in_place place kind else 3 then is_too_long kind) ≡ 0 → ⊥
never_taken place policy_kind = either_refused (in_place place policy_kind)
never_taken place command_kind = either_refused (in_place place command_kind)
never_taken place line_kind = either_refused (in_place place line_kind)
never_taken place other_kind = either_refused false

pub taken_is_short : (c : Reading) (g : List ℕ) → frame_refusal c g ≡ 0 → length g ≤ 67
taken_is_short c g e =
    elim (dec_lt 67 (length g)) [
      | yes long ↦ absurd (never_taken c.place (kind_of g) (rw (body_too_long g (omega arith) c.file (kind_of g)) at e))
      | no short ↦ omega arith
    ]
