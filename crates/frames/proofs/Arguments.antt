-- Laws of a session line's arguments: each read from its two bytes, tested for what it names, and all coded in one number.
-- Assumes nothing.
use mathlib.Core.Path.{◌≡◌, sym, ap, ◌∙◌}
use mathlib.Core.Bool.{Bool, true, false}
use mathlib.Core.List.{List, [], ◌∷◌}
use Prim.Native.Nat.{ℕ, suc, ◌+◌, ◌-◌, ◌*◌, ◌^◌, ◌≤◌, ◌<◌}
use native.Mathlib.Nat.{pow-suc, pow-le-pow_right}
use native.Mathlib.Decide.{dec_lt}
use native.Mathlib.Omega.{arith}
use lib.Dec.{lit<}
use lib.ListN.{length, drop, length-drop, drop_of_length-le}
use borrow.Author.Tests.{lt-leb, le-leb}
use Rattle.std.specs.Int.{w16, from_be_bytes}
use Rattle.model.specs.Basics.{every}
use Rattle.model.specs.Text.{number_from}
use Rattle.model.specs.Frame.{byte_at, arg_of, args_of, arg_names}
use Rattle.model.specs.Tables.{arg_code, args_code}
use Rattle.frames.specs.Parts.{ArgumentIs}
use Rattle.frames.proofs.Lists.{drop_more}
use Rattle.frames.proofs.Numbers.{two_bytes}

pairs : (s : List ℕ) → (2 * length (args_of s) ≤ length s) × (length s < 2 * length (args_of s) + 2)
unfolding args_of
pairs [] = omega arith
pairs (x ∷ []) = omega arith
pairs (x ∷ y ∷ rest) = let more = pairs rest in omega arith

pub argument_is : (f : List ℕ) (i x : ℕ) → x < 65536 → x ≡ from_be_bytes w16 (byte_at f (4 + 2 * i) ∷ byte_at f (5 + 2 * i) ∷ [])
    → ArgumentIs f i x
unfolding number_from
argument_is f i x small is =
    let next : 5 + 2 * i ≡ 4 + 2 * i + 1 = omega arith in
    record { value = rw (next, two_bytes (byte_at f (4 + 2 * i)) (byte_at f (4 + 2 * i + 1))) at is; small = small }

next_argument : (f : List ℕ) (i x : ℕ) → 6 + 2 * i ≤ length f → ArgumentIs f i x
    → args_of (drop (4 + 2 * i) f) ≡ arg_of x ∷ args_of (drop (4 + 2 * (i + 1)) f)
unfolding args_of
next_argument f i x h is =
    let e : 4 + 2 * i + 1 + 1 ≡ 4 + 2 * (i + 1) = omega arith in
    rw (drop_more 0 f (4 + 2 * i) (omega arith), drop_more 0 f (4 + 2 * i + 1) (omega arith), e, is.value)

no_argument : (f : List ℕ) (i : ℕ) → length f ≤ 4 + 2 * i → args_of (drop (4 + 2 * i) f) ≡ []
unfolding args_of
no_argument f i h = rw (drop_of_length-le f {i = 4 + 2 * i} h)

-- what is coded of an argument is what stands in the frame
code_kept : (x : ℕ) → arg_code (arg_of x) ≡ x
code_kept x = elim (dec_lt x 0x8000) [ yes low ↦ rw (lt-leb 0x8000 x low) | no high ↦ rw (le-leb 0x8000 x (omega arith)) (omega arith) ]

pub arguments_count : (f : List ℕ) (k : ℕ) → length f ≡ 4 + 2 * k → length (args_of (drop 4 f)) ≡ k
arguments_count f k h = omega (arith, length-drop 4 f, pairs (drop 4 f))

-- the invariant of the loop over the arguments: those from i on decide
pub record Naming (f : List ℕ) (m k i : ℕ) : Type 0 where
  pub whole : length f ≡ 4 + 2 * k
  pub same : every (arg_names m) (args_of (drop 4 f)) ≡ every (arg_names m) (args_of (drop (4 + 2 * i) f))

module _ {f : List ℕ} {m k i : ℕ} (v : Naming f m k i) where
  module _ (more : i < k) {x : ℕ} (is : ArgumentIs f i x) (r : Bool) (decides : r ≡ arg_names m (arg_of x)) where
    pub naming_turn : r ≡ true → Naming f m k (i + 1)
    naming_turn h = record {
      whole = v.whole;
      same = v.same ∙ rw (next_argument f i x (omega (arith, v.whole)) is, ← decides, h);
    }

    pub naming_fails : r ≡ false → false ≡ every (arg_names m) (args_of (drop 4 f))
    naming_fails h = sym (v.same ∙ rw (next_argument f i x (omega (arith, v.whole)) is, ← decides, h))

  pub naming_done : k ≤ i → true ≡ every (arg_names m) (args_of (drop 4 f))
  naming_done h = sym (v.same ∙ rw (no_argument f i (omega (arith, v.whole))))

-- the invariant of the loop that codes them, from the last to the first
pub record Coding (f : List ℕ) (code k i : ℕ) : Type 0 where
  pub within : i ≤ k
  pub few : k ≤ 4
  pub whole : length f ≡ 4 + 2 * k
  pub is : code ≡ args_code (args_of (drop (4 + 2 * i) f))
  pub small : code < 65536 ^ (k - i)

pub coding_start : (f : List ℕ) (k : ℕ) → k ≤ 4 → length f ≡ 4 + 2 * k → Coding f 0 k k
unfolding args_code
coding_start f k few whole = record {
  within = omega arith;
  few = few;
  whole = whole;
  is = rw (no_argument f k (omega arith));
  small = let e : k - k ≡ 0 = omega arith in rw e (omega arith);
}

module _ {f : List ℕ} {code k i : ℕ} (v : Coding f code k i) where
  module _ (more : 0 < i) {x : ℕ} (is : ArgumentIs f (i - 1) x) where
    -- one argument more does not reach 2 ^ 64
    pub code_fits : x + 65536 * code < 18446744073709551616
    code_fits =
        let low : 65536 ^ (k - i) ≤ 65536 ^ 3 = pow-le-pow_right (lit< tt) {i = k - i} {j = 3} (omega (arith, v.few)) in
        omega (arith, v.small, is.small)

    pub coding_turn : Coding f (x + 65536 * code) k (i - 1)
    unfolding args_code
    coding_turn =
        let back : i - 1 + 1 ≡ i = omega arith in
        let one : k - (i - 1) ≡ suc (k - i) = omega (arith, v.within) in
        let power : 65536 ^ (k - (i - 1)) ≡ 65536 ^ (k - i) * 65536 = ap (λ (e : ℕ). 65536 ^ e) one ∙ pow-suc 65536 (k - i) in
        record {
          within = omega (arith, v.within);
          few = v.few;
          whole = v.whole;
          is = rw (next_argument f (i - 1) x (omega (arith, v.whole, v.within)) is, back, code_kept x, ← v.is);
          small = omega (arith, v.small, is.small);
        }

  pub coding_done : i ≤ 0 → code ≡ args_code (args_of (drop 4 f))
  coding_done h = let e : i ≡ 0 = omega arith in rw e at v.is

pub ruleset coding = (coding_start, code_fits, coding_turn, coding_done)
