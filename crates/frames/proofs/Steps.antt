-- Laws of a command's steps: decoding, the form of a step, what it names, and the loops over all of them.
-- Assumes nothing.
use mathlib.Core.Path.{◌≡◌, refl, sym, ◌∙◌}
use mathlib.Core.Bool.{Bool, true, false}
use mathlib.Core.List.{List, [], ◌∷◌, ◌++◌, map}
use Prim.Native.Nat.{ℕ, zero, suc, ◌+◌, ◌*◌, ◌≤◌, ◌<◌}
use native.Mathlib.Decide.{dec_lt}
use native.Mathlib.Omega.{arith}
use lib.Dec.{eqb, eqb-suc-suc}
use lib.ListN.{length, get_or, take, drop, set, length-map, get_or-map, drop_of_length-le}
use lib.Seq.{length-take-le, take_all}
use borrow.Author.Tests.{lt-ltb, ne_eqb}
use Rattle.std.specs.Prelude.{Some, None}
use Rattle.std.specs.List.{position, position_or_len, list_all}
use Rattle.std.proofs.lemmas.List.Quantifiers.{position-Some}
use Rattle.std.proofs.lemmas.List.Sums.{fails_before_first}
use Rattle.model.specs.Basics.{every}
use Rattle.model.specs.Frame.{steps_of, step_names, returns_last, names_made}
use Rattle.model.specs.Tables.{step_code}
use Rattle.model.specs.declared.Step.{Step}
use Rattle.frames.specs.Parts.{step_at, no_step, filled}
use Rattle.frames.proofs.Lists.{drop_more, take_more, over_more, over_done, filled_more}

-- ---- decoding

steps_between : (part : List ℕ) → (4 * length (steps_of part) ≤ length part) × (length part < 4 * length (steps_of part) + 4)
unfolding steps_of
steps_between [] = omega arith
steps_between (o ∷ []) = omega arith
steps_between (o ∷ x ∷ []) = omega arith
steps_between (o ∷ x ∷ y ∷ []) = omega arith
steps_between (o ∷ x ∷ y ∷ z ∷ rest) = let more = steps_between rest in omega arith

pub steps_count : (part : List ℕ) (n : ℕ) → length part ≡ 4 * n → length (steps_of part) ≡ n
steps_count part n h = omega (arith, steps_between part)

-- four bytes from a place on are a step
next_step : (part : List ℕ) (at : ℕ) → at + 4 ≤ length part → steps_of (drop at part) ≡ step_at part at ∷ steps_of (drop (at + 4) part)
unfolding steps_of
next_step part at h =
    let e₂ : (at + 1) + 1 ≡ at + 2 = omega arith in
    let e₃ : (at + 2) + 1 ≡ at + 3 = omega arith in
    let e₄ : (at + 3) + 1 ≡ at + 4 = omega arith in
    rw (
      drop_more 0 part at (omega arith),
      drop_more 0 part (at + 1) (omega arith),
      e₂,
      drop_more 0 part (at + 2) (omega arith),
      e₃,
      drop_more 0 part (at + 3) (omega arith),
      e₄,
    )

-- the rest of the bytes are the rest of the steps
past_four : (i at : ℕ) → ((part : List ℕ) → steps_of (drop at part) ≡ drop i (steps_of part)) → (part : List ℕ)
    → steps_of (drop (suc (suc (suc (suc at)))) part) ≡ drop (suc i) (steps_of part)
unfolding steps_of
past_four i at before [] = refl
past_four i at before (o ∷ []) = refl
past_four i at before (o ∷ x ∷ []) = refl
past_four i at before (o ∷ x ∷ y ∷ []) = refl
past_four i at before (o ∷ x ∷ y ∷ z ∷ rest) = before rest

rest_of_steps : (i : ℕ) (part : List ℕ) → steps_of (drop (4 * i) part) ≡ drop i (steps_of part)
rest_of_steps zero part = refl
rest_of_steps (suc i) part =
    let e : 4 * suc i ≡ suc (suc (suc (suc (4 * i)))) = omega arith in
    rw e (past_four i (4 * i) (rest_of_steps i) part)

head_is : {A : Type 0} {x y : A} {xs ys : List A} → x ∷ xs ≡ y ∷ ys → x ≡ y
head_is e = cc

step_there : (part : List ℕ) (i n : ℕ) → length part ≡ 4 * n → i < n → get_or (steps_of part) i no_step ≡ step_at part (4 * i)
step_there part i n whole more =
    let within : i < length (steps_of part) = omega (arith, steps_count part n whole) in
    head_is (sym (drop_more no_step (steps_of part) i within) ∙ sym (rest_of_steps i part) ∙ next_step part (4 * i) (omega arith))

-- decode's loop: the steps so far, and zero behind them
pub record Decoding (part : List ℕ) (st : List Step) (n i : ℕ) : Type 0 where
  pub few : n ≤ 16
  pub whole : length part ≡ 4 * n
  pub laid : st ≡ filled 16 no_step (take i (steps_of part))

module _ {part : List ℕ} {st : List Step} {n i : ℕ} (v : Decoding part st n i) where
  pub decode_turn : i < n → (s : Step) → s ≡ step_at part (4 * i) → Decoding part (set st i s) n (i + 1)
  decode_turn more s is =
      let ss = steps_of part in
      let here : s ≡ get_or ss i no_step = is ∙ sym (step_there part i n v.whole more) in
      let within : i < length ss = omega (arith, steps_count part n v.whole) in
      record {
        few = v.few;
        whole = v.whole;
        laid = rw (v.laid, here, take_more no_step ss i within)
            (filled_more 16 no_step (take i ss) (get_or ss i no_step) i (length-take-le i ss (omega arith)) (omega arith));
      }

  pub decode_done : n ≤ i → st ≡ filled 16 no_step (steps_of part)
  decode_done done = rw (take_all i (steps_of part) (omega (arith, steps_count part n v.whole))) at v.laid

-- ---- the form of all steps

pub every_is_all : {A : Type 0} (p : A → Bool) (xs : List A) → list_all p xs ≡ every p xs
every_is_all p [] = refl
every_is_all p (x ∷ xs) = rw (every_is_all p xs)

abbrev is_return : Step → Bool
is_return s = eqb s.op 0

-- where no step before the i-th returns, and it does, it is to be the last
returns_at : (xs : List Step) (i : ℕ) → i < length xs → is_return (get_or xs i no_step) ≡ true
    → ((k : ℕ) → k < i → is_return (get_or xs k no_step) ≡ false) → eqb (i + 1) (length xs) ≡ returns_last xs
unfolding returns_last
returns_at [] i h here before = absurd (omega arith)
returns_at (s ∷ []) zero h here before = rw here
returns_at (s ∷ []) (suc i) h here before = absurd (omega arith)
returns_at (s ∷ s' ∷ ss) zero h here before =
    let early : returns_last (s ∷ s' ∷ ss) ≡ false = rw here in
    ne_eqb (0 + 1) (length (s ∷ s' ∷ ss)) (λ q. omega arith) ∙ sym early
returns_at (s ∷ s' ∷ ss) (suc i) h here before =
    let e : suc i + 1 ≡ suc (i + 1) = omega arith in
    rw (e, eqb-suc-suc, before 0 (omega arith)) (returns_at (s' ∷ ss) i (omega arith) here (λ k below. before (suc k) (omega arith)))

pub returns_first : (xs : List Step) (i : ℕ) → Some i ≡ position is_return xs → eqb (i + 1) (length xs) ≡ returns_last xs
returns_first xs i found = let told = position-Some is_return xs i no_step (sym found) in returns_at xs i told.0 told.1 told.2

returns_nowhere : (xs : List Step) → ((k : ℕ) → k < length xs → is_return (get_or xs k no_step) ≡ false) → false ≡ returns_last xs
unfolding returns_last
returns_nowhere [] none = refl
returns_nowhere (s ∷ []) none = rw (none 0 (omega arith))
returns_nowhere (s ∷ s' ∷ ss) none = rw (none 0 (omega arith)) (returns_nowhere (s' ∷ ss) (λ k below. none (suc k) (omega arith)))

pub returns_never : (xs : List Step) → None ≡ position is_return xs → false ≡ returns_last xs
returns_never xs none = returns_nowhere xs fails
  where
    fails : (k : ℕ) → k < length xs → is_return (get_or xs k no_step) ≡ false
    fails k below =
        elim (dec_lt (position_or_len is_return xs) (length xs)) [
          | yes some ↦ (let found = rw (lt-ltb (position_or_len is_return xs) (length xs) some) at none in
              absurd (let z : ◌≡◌ {A = ℕ} 0 1 = cc found in omega arith))
          | no past ↦ fails_before_first is_return xs k no_step (omega arith)
        ]

-- ---- the loop over what the steps name: those from the i-th on decide, with i values more

pub record Naming (p : ℕ) (xs : List Step) (i : ℕ) : Type 0 where
  pub decide : names_made p xs ≡ names_made (p + i) (drop i xs)

module _ {p i : ℕ} {xs : List Step} (v : Naming p xs i) where
  module _ (more : i < length xs) {r : Bool} (is : r ≡ step_names (p + i) (get_or xs i no_step)) where
    pub names_turn : r ≡ true → Naming p xs (i + 1)
    unfolding names_made
    names_turn h =
        let e : suc (p + i) ≡ p + (i + 1) = omega arith in
        record { decide = v.decide ∙ rw (drop_more no_step xs i more, ← is, h, e) }

    pub names_fails : r ≡ false → false ≡ names_made p xs
    unfolding names_made
    names_fails h = sym (v.decide ∙ rw (drop_more no_step xs i more, ← is, h))

  pub names_done : length xs ≤ i → true ≡ names_made p xs
  unfolding names_made
  names_done h = sym (v.decide ∙ rw (drop_of_length-le xs {i = i} h))

-- ---- storing: the codes so far, over what was there

pub record Storing (xs : List Step) (d part : List ℕ) (i : ℕ) : Type 0 where
  pub all : length xs ≡ 16
  pub room : length d ≡ 16
  pub laid : part ≡ take i (map step_code xs) ++ drop i d

module _ {xs : List Step} {d part : List ℕ} {i : ℕ} (v : Storing xs d part i) where
  pub store_turn : i < length xs → {r : ℕ} → r ≡ step_code (get_or xs i no_step) → Storing xs d (set part i r) (i + 1)
  unfolding step_code
  store_turn more {r} is =
      let coded : r ≡ get_or (map step_code xs) i 0 = is ∙ sym (get_or-map step_code xs i no_step) in
      record {
        all = v.all;
        room = v.room;
        laid = rw (v.laid, coded)
            (over_more 0 (map step_code xs) d i (omega (arith, length-map xs step_code)) (omega (arith, v.all, v.room)));
      }

  pub store_done : length xs ≤ i → part ≡ map step_code xs
  store_done done =
      v.laid ∙ over_done (map step_code xs) d i (omega (arith, length-map xs step_code)) (omega (arith, v.all, v.room))
