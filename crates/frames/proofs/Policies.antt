-- Laws of the policy: which sets of templates are lawful, and what its frame comes to.
-- Assumes nothing.
use mathlib.Core.Path.{◌≡◌, refl, sym, ap, ap₂, ◌∙◌}
use mathlib.Core.Bool.{Bool, true, false, not, cond, ◌&&◌, ◌||◌}
use mathlib.Core.List.{List}
use Prim.Native.Nat.{ℕ, zero, suc, ◌-◌, ◌%◌, ◌≤◌, ◌<◌}
use native.Mathlib.Numerals.{add-one}
use native.Mathlib.Omega.{arith}
use lib.Dec.{T, eqb}
use lib.ListN.{length, take, drop}
use Rattle.std.specs.List.{list_any, range_with_len}
use borrow.Author.Tests.{eq-eqb, ne_eqb, lt-leb, le-leb}
use Rattle.model.specs.Basics.{implies, every, up_from, ◌else◌then◌}
use Rattle.model.specs.Text.{number_from}
use Rattle.model.specs.Frame.{byte_at, policy_of, nothing_read, policy_kind, body_refusal}
use Rattle.model.specs.Types.{typed, type_of, type_of_code}
use Rattle.model.specs.declared.Ty.{Ty}
use Rattle.model.specs.declared.Policy.{Policy}
use Rattle.model.specs.Policy.{allows, lawful}
use Rattle.model.proofs.Tests.{and_left, and_right}
use Rattle.frames.specs.Turn.{turn_of}
use Rattle.frames.specs.Parts.{Takes}
use Rattle.frames.specs.Turn as turn
use Rattle.frames.proofs.Lists.{whole_rest}
use Rattle.frames.proofs.Turns.{refused, is_policy, taken, is_in_place}

-- ---- the templates that have A without S

-- they are those of which the lowest two bits are 2
abbrev two_of_four : ℕ → Bool
two_of_four m = eqb (m % 4) 2

-- these have no type, and each other has one
abbrev untyped_if : Bool → Bool → Bool
untyped_if two has_type = cond two (not has_type) has_type

abbrev untyped_or_other : ℕ → Bool
untyped_or_other m = untyped_if (two_of_four m) (typed (type_of m))

one_template : (two has_type allowed later : Bool) → T (untyped_if two has_type)
    → (implies allowed has_type && not later) ≡ not (two && allowed || later)
one_template true true allowed later h = absurd h
one_template true false true later h = refl
one_template true false false later h = refl
one_template false true true later h = refl
one_template false true false later h = refl
one_template false false allowed later h = absurd h

module _ (set : ℕ) where
  -- an allowed template that has A without S
  abbrev pub barred : ℕ → Bool
  barred m = two_of_four m && allows set m

  -- of the k templates from n on
  none_of : (n k : ℕ) → T (every untyped_or_other (up_from n k))
      → every (λ m. implies (allows set m) (typed (type_of m))) (up_from n k) ≡ not (list_any barred (range_with_len n k))
  unfolding up_from
  none_of n zero h = refl
  none_of n (suc k) h =
      let first = and_left (untyped_or_other n) (every untyped_or_other (up_from (suc n) k)) h in
      let rest = and_right (untyped_or_other n) (every untyped_or_other (up_from (suc n) k)) h in
      rw (none_of (suc n) k rest) (simp add-one (one_template (two_of_four n) (typed (type_of n)) (allows set n) _ first))

  pub lawful_is_none : (t : Ty) → not (list_any barred (range_with_len 0 64)) ≡ lawful (record { transported = t; allowing = set })
  unfolding up_from
  lawful_is_none t = sym (none_of 0 64 tt)

-- ---- the frame

module _ (f : List ℕ) (kind : byte_at f 0 ≡ 1) where
  policy_refused : (x : ℕ) → body_refusal nothing_read.file policy_kind f ≡ suc x → (n m : ℕ) (h a k s : List ℕ)
      → Takes 0 n m f (turn.Refused (suc x)) h a k s h a k s
  policy_refused x e n m h a k s c counted held =
      refused (suc x) (is_in_place f (is_policy f kind) counted refl ∙ e) (λ q. omega arith) held

  pub policy_length : (length f ≡ 10 → ⊥) → (n m : ℕ) (h a k s : List ℕ) → Takes 0 n m f (turn.Refused 4) h a k s h a k s
  policy_length h = policy_refused 3 (rw (ne_eqb (length f) 10 h))

  module _ (whole : length f ≡ 10) where
    pub policy_type : 5 < byte_at f 1 → (n m : ℕ) (h a k s : List ℕ) → Takes 0 n m f (turn.Refused 4) h a k s h a k s
    policy_type h = policy_refused 3 (rw (eq-eqb (length f) 10 whole, lt-leb (byte_at f 1) 5 h))

    module _ (known : byte_at f 1 ≤ 5) (p : Policy) (type_is : p.transported ≡ type_of_code (byte_at f 1))
        (set_is : p.allowing ≡ number_from 0 (take (length f - 2) (drop 2 f))) (r : Bool) (decides : r ≡ lawful p) where
      is : p ≡ policy_of f
      is = ap₂ (λ t set. record { transported = t; allowing = set }) type_is (set_is ∙ ap (number_from 0) (whole_rest 2 f))

      decided : body_refusal nothing_read.file policy_kind f ≡ (r else 7 then 0)
      decided = rw (eq-eqb (length f) 10 whole, le-leb (byte_at f 1) 5 known, decides, is)

      pub policy_unlawful : r ≡ false → (n m : ℕ) (h a k s : List ℕ) → Takes 0 n m f (turn.Refused 7) h a k s h a k s
      policy_unlawful h = policy_refused 6 (decided ∙ rw (h))

      pub policy_taken : r ≡ true → (n m : ℕ) (h a k s : List ℕ) → Takes 0 n m f (turn.Policy p) h a k s h a k s
      unfolding turn_of
      policy_taken good n m h a k s c counted held =
          let e = is_in_place f (is_policy f kind) counted refl in
          taken f (is_policy f kind) (e ∙ decided ∙ rw (good)) (rw is)
          (record {
            heads_are = held.heads_are;
            arguments_are = held.arguments_are;
            commands_are = held.commands_are;
            steps_are = held.steps_are;
          })
