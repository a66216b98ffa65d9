-- Later states of the same line, and the way back from one: what the tables carry when all that was added is made unused again.
-- Assumes nothing.
use Prim.Native.Nat.{ℕ, ◌≤◌, ◌<◌}
use mathlib.Core.Path.{◌≡◌, refl, sym, ap, ap₂, ◌∙◌}
use mathlib.Core.List.{List, [], ◌++◌, map, map-append, append-nil, append_assoc}
use native.Mathlib.Omega.{arith}
use lib.ListN.{length, get_or, take, length-append, length-map, get_or-append}
use lib.Seq.{take_at, take-take}
use Rattle.model.specs.Value.{const, row_of, value_at}
use Rattle.model.specs.Token.{State}
use Rattle.model.specs.Tables.{padded, key_code}
use Rattle.values.specs.Holds.{Holds}
use Rattle.values.proofs.Present.{present_means_below, row_kept}
use Rattle.values.proofs.Rows.{row_at}
use Rattle.values.proofs.Padded.{take_padded}
use Rattle.token.specs.Carried.{Tidy, Carries, Extends}
use Rattle.token.proofs.Growing.{codes_kept, guards_by_each, guard_at}

-- a state with the same rows, keys and guarded values
pub extends_same : (σ σ' : State) → σ'.world.rows ≡ σ.world.rows → σ'.token.stored ≡ σ.token.stored → σ'.world.guarded ≡ σ.world.guarded
    → Extends σ σ'
extends_same σ σ' rows keys guarded = record {
  new_rows = [];
  new_keys = [];
  new_guarded = [];
  rows_grown = rows ∙ sym (append-nil σ.world.rows);
  keys_grown = keys ∙ sym (append-nil σ.token.stored);
  guarded_grown = guarded ∙ sym (append-nil σ.world.guarded);
}

pub extends_refl : (σ : State) → Extends σ σ
extends_refl σ = extends_same σ σ refl refl refl

pub extends_trans : {σ σ' σ'' : State} → Extends σ σ' → Extends σ' σ'' → Extends σ σ''
extends_trans {σ} E F = record {
  new_rows = E.new_rows ++ F.new_rows;
  new_keys = E.new_keys ++ F.new_keys;
  new_guarded = E.new_guarded ++ F.new_guarded;
  rows_grown = F.rows_grown ∙ ap (λ l. l ++ F.new_rows) E.rows_grown ∙ append_assoc σ.world.rows E.new_rows F.new_rows;
  keys_grown = F.keys_grown ∙ ap (λ l. l ++ F.new_keys) E.keys_grown ∙ append_assoc σ.token.stored E.new_keys F.new_keys;
  guarded_grown =
      F.guarded_grown ∙ ap (λ l. l ++ F.new_guarded) E.guarded_grown ∙ append_assoc σ.world.guarded E.new_guarded F.new_guarded;
}

pub counts_grown : {σ σ' : State} → Extends σ σ'
    → (length σ.world.rows ≤ length σ'.world.rows)
    × ((length σ.token.stored ≤ length σ'.token.stored) × (length σ.world.guarded ≤ length σ'.world.guarded))
counts_grown {σ} E =
    let rows = ap length E.rows_grown in
    let keys = ap length E.keys_grown in
    let guarded = ap length E.guarded_grown in
    omega (
      arith,
      length-append σ.world.rows E.new_rows,
      length-append σ.token.stored E.new_keys,
      length-append σ.world.guarded E.new_guarded,
    )

-- the numbers of the stored keys, and zeros after them
module _ {σ : State} {t ks gs : List ℕ} (C : Carries σ t ks gs) where
  pub first_keys : take (length σ.token.stored) ks ≡ map (key_code σ.world.rows) σ.token.stored
  first_keys =
      ap (take (length σ.token.stored)) C.keys_are
      ∙ take_padded (length ks) (map (key_code σ.world.rows) σ.token.stored) (length σ.token.stored)
      (length-map σ.token.stored (key_code σ.world.rows))

  pub zeros_after_keys : (n : ℕ) → n ≡ length σ.token.stored → ks ≡ padded (length ks) (take n ks)
  zeros_after_keys n e = rw (e, first_keys) C.keys_are

module _ {σ σ' : State} {t ks gs : List ℕ} (T : Tidy σ) (C : Carries σ' t ks gs) (E : Extends σ σ') where
  -- the guarded values of the earlier state stand where they stood
  module _ (i : ℕ) (h : i < length σ.world.guarded) where
    later : i < length σ'.world.guarded
    later = omega (arith, counts_grown E)

    guard_later : value_at σ'.world.rows (get_or gs i 0) ≡ value_at σ.world.guarded i
    guard_later =
        guard_at C i later
        ∙ ap (λ l. value_at l i) E.guarded_grown
        ∙ get_or-append σ.world.guarded E.new_guarded (const 0) i h

    row_earlier : get_or gs i 0 ≡ row_of (value_at σ.world.guarded i) σ.world.rows
    row_earlier =
        sym (row_at C.rows_held.rows (get_or gs i 0) (C.guards_have_rows i later))
        ∙ ap (λ w. row_of w σ'.world.rows) guard_later
        ∙ ap (row_of (value_at σ.world.guarded i)) E.rows_grown
        ∙ row_kept (value_at σ.world.guarded i) σ.world.rows E.new_rows (T.guarded_present i h)

    guard_has_row : get_or gs i 0 < length σ.world.rows
    guard_has_row = omega (arith, row_earlier, present_means_below (value_at σ.world.guarded i) σ.world.rows (T.guarded_present i h))

    guard_earlier : value_at σ.world.rows (get_or gs i 0) ≡ value_at σ.world.guarded i
    guard_earlier =
        sym (get_or-append σ.world.rows E.new_rows (const 0) (get_or gs i 0) guard_has_row)
        ∙ ap (λ l. value_at l (get_or gs i 0)) (sym E.rows_grown)
        ∙ guard_later

  -- the keys of the earlier state have the numbers that they had
  first_keys_earlier : take (length σ.token.stored) ks ≡ map (key_code σ.world.rows) σ.token.stored
  first_keys_earlier =
      let n = length σ.token.stored in
      let grown = key_code (σ.world.rows ++ E.new_rows) in
      sym (take-take n (length σ'.token.stored) ks (counts_grown E).1.0)
      ∙ ap (take n) (first_keys C ∙ ap₂ (λ vs. map (key_code vs)) E.rows_grown E.keys_grown ∙ map-append grown σ.token.stored E.new_keys)
      ∙ take_at (map grown σ.token.stored) (map grown E.new_keys) n (length-map σ.token.stored grown)
      ∙ codes_kept T E.new_rows

  pub carries_earlier : {n : ℕ} {u ls : List ℕ} → Holds u σ.world.rows → n ≡ length σ.token.stored
      → ls ≡ padded (length ks) (take n ks) → length ls ≡ length ks → Carries σ u ls gs
  carries_earlier H count cut long = record {
    tidy = T;
    rows_held = H;
    keys_are = rw long (cut ∙ ap (padded (length ks)) (ap (λ n. take n ks) count ∙ first_keys_earlier));
    keys_fit = omega (arith, counts_grown E, C.keys_fit);
    guards_are =
        guards_by_each σ.world.rows σ.world.guarded gs
        (omega (arith, T.few_guards, counts_grown E, C.keys_fit, C.guards_fit)) guard_earlier;
    guards_have_rows = guard_has_row;
    guards_fit = omega (arith, C.guards_fit);
  }

-- a lent table is what the call left that it was lent to
pub carried_there : {σ : State} {t t' ks ks' gs : List ℕ} → Carries σ t ks gs → t' ≡ t → ks' ≡ ks → Carries σ t' ks' gs
carried_there C e f = rw (e, f) C
