-- What a get comes to: the search over the stored keys' numbers finds the model's key, and its number tells its template and its row.
-- Assumes nothing.
use Prim.Native.Nat.{ℕ, ◌%◌, ◌<◌}
use mathlib.Core.Path.{◌≡◌, refl, sym, ap, ◌∙◌}
use mathlib.Core.Bool.{Bool, true, false, cond, ◌&&◌}
use mathlib.Core.List.{List, map, map-map}
use native.Mathlib.Omega.{arith}
use borrow.Author.Tests.{eq-eqb, ne_eqb, ltb-true}
use lib.Dec.{eqb, ltb}
use lib.ListN.{length, get_or, take}
use Rattle.std.proofs.lemmas.List.{get_or-map, take-map}
use lib.Seq.{get_or-take}
use Rattle.std.specs.Prelude.{Some, None}
use Rattle.model.specs.Basics.{index_by}
use Rattle.model.specs.Policy.{meets}
use Rattle.model.specs.Value.{Value, same, row_of, present, value_at}
use Rattle.model.specs.Token.{State, Room, stopped, appear, place_of, key_at, get}
use Rattle.model.specs.Tables.{key_code, Rows}
use Rattle.model.specs.declared.Step.{Step}
use Rattle.types.proofs.Table.{same_below}
use Rattle.values.proofs.Index.{index_of_map}
use Rattle.values.proofs.Present.{present_means_below}
use Rattle.values.proofs.Rows.{row_decides}
use Rattle.keys.specs.Stored.{handle_of, key_row_of, template_of, record_of, stored_of}
use Rattle.token.specs.Carried.{counts_of, FewAtoms, Carries, Performs}
use Rattle.token.specs.Numbers.{key_number, got_of, get_of}
use Rattle.token.specs.declared.Counts.{Counts}
use Rattle.token.specs.Outcome.{Gave, Stopped}
use Rattle.token.proofs.Growing.{no_key, same_rows}
use Rattle.token.proofs.Undoing.{extends_refl, first_keys}
use Rattle.token.proofs.Appearing.{stops_as_it_is, appears_again}

-- ---- one number

module _ (h k m : ℕ) (hs : h < 65536) (ks : k < 65536) (ms : m < 256) where
  handle_back : handle_of (key_number h k m) ≡ h
  handle_back = omega arith

  key_back : key_row_of (key_number h k m) ≡ k
  key_back = omega arith

  template_back : template_of (key_number h k m) ≡ m % 64
  template_back = omega arith

-- attributes are the six lowest bits
meets_by_six_bits : (s : Step) (m : ℕ) → m < 256 → meets s (m % 64) ≡ meets s m
meets_by_six_bits s = same_below (λ m. meets s (m % 64)) (meets s) 256 refl

-- ---- a value is the one in row x exactly when its row is x

same_by_row : {vs : List Value} → Rows vs → (x : ℕ) → x < length vs → (w : Value) → present w vs ≡ true
    → eqb x (row_of w vs) ≡ same w (value_at vs x)
same_by_row {vs} R x h w there =
    row_decides R x h w there (eqb x (row_of w vs)) (λ e. eq-eqb _ _ (sym e)) (λ d. ne_eqb _ _ (λ e. d (sym e)))

module _ {σ : State} {t ks gs : List ℕ} (C : Carries σ t ks gs) where
  -- ---- the number of each stored key

  module _ (i : ℕ) (h : i < length σ.token.stored) where
    row_small : (v : Value) → present v σ.world.rows ≡ true → row_of v σ.world.rows < 65536
    row_small v e = omega (arith, present_means_below v σ.world.rows e, C.rows_held.fit, C.rows_held.small)

    number_at : get_or ks i 0 ≡ key_code σ.world.rows (key_at σ.token.stored i)
    number_at =
        sym (get_or-take (length σ.token.stored) ks i 0 h)
        ∙ ap (λ l. get_or l i 0) (first_keys C)
        ∙ get_or-map (key_code σ.world.rows) σ.token.stored i no_key 0 h

    handle_at : handle_of (key_code σ.world.rows (key_at σ.token.stored i)) ≡ row_of (key_at σ.token.stored i).handle σ.world.rows
    unfolding key_code
    handle_at =
        handle_back _ _ _ (row_small _ (C.tidy.handle_present i h)) (row_small _ (C.tidy.key_present i h)) (C.tidy.template_byte i h)

    key_is_at : key_row_of (get_or ks i 0) ≡ row_of (key_at σ.token.stored i).key σ.world.rows
    unfolding key_code
    key_is_at =
        ap key_row_of number_at
        ∙ key_back _ _ _ (row_small _ (C.tidy.handle_present i h)) (row_small _ (C.tidy.key_present i h)) (C.tidy.template_byte i h)

    meets_at : (s : Step) → meets s (template_of (get_or ks i 0)) ≡ meets s (key_at σ.token.stored i).template
    unfolding key_code
    meets_at s =
        ap (λ n. meets s (template_of n)) number_at
        ∙ ap (meets s)
        (template_back _ _ _ (row_small _ (C.tidy.handle_present i h)) (row_small _ (C.tidy.key_present i h)) (C.tidy.template_byte i h))
        ∙ meets_by_six_bits s (key_at σ.token.stored i).template (C.tidy.template_byte i h)

  -- ---- the search

  place_found : (x : ℕ) → x < length σ.world.rows
      → index_by (eqb x) (take (length σ.token.stored) (map handle_of ks)) ≡ place_of (value_at σ.world.rows x) σ.token.stored
  place_found x b =
      ap (index_by (eqb x))
      (take-map handle_of (length σ.token.stored) ks
      ∙ ap (map handle_of) (first_keys C)
      ∙ map-map handle_of (key_code σ.world.rows) σ.token.stored)
      ∙ index_of_map no_key (λ k. handle_of (key_code σ.world.rows k)) (eqb x) (λ k. same k.handle (value_at σ.world.rows x)) σ.token.stored
      (λ i h. ap (eqb x) (handle_at i h) ∙ same_by_row C.rows_held.rows x b _ (C.tidy.handle_present i h))

  -- ---- the whole

  module _ (few : FewAtoms σ) (ρ : Room) (s : Step) where
    -- what is got from place p, which there is or not
    got_from : (p : ℕ) (f : Bool) → ltb p (length σ.token.stored) ≡ f → Performs σ
        (cond (f && meets s (key_at σ.token.stored p).template) (appear ρ (key_at σ.token.stored p).key σ) (stopped σ))
        (got_of (counts_of σ) s (cond f (Some (record_of (get_or ks p 0))) None))
        t ks gs
    got_from p false e = stops_as_it_is C few refl
    got_from p true e = rw (meets_at p h s, key_is_at p h) (go (meets s (key_at σ.token.stored p).template))
      where
        h : p < length σ.token.stored
        h = ltb-true p (length σ.token.stored) e

        go : (m : Bool) → Performs σ
            (cond m (appear ρ (key_at σ.token.stored p).key σ) (stopped σ))
            (cond m (Gave (counts_of σ) (row_of (key_at σ.token.stored p).key σ.world.rows)) (Stopped (counts_of σ)))
            t ks gs
        go true =
            let there = C.tidy.key_present p h in
            rw (appears_again ρ (key_at σ.token.stored p).key σ there)
            (record { answer = refl; has_row = there; atoms_rowed = few; carries = C; extends = extends_refl σ })
        go false = stops_as_it_is C few refl

    got : (x : ℕ) → x < length σ.world.rows → Performs σ (get ρ s (value_at σ.world.rows x) σ) (get_of ks (counts_of σ) s x) t ks gs
    unfolding get stored_of
    got x b = rw (place_found x b) (got_from (place_of (value_at σ.world.rows x) σ.token.stored) _ refl)

  pub gets : {c : Counts} → FewAtoms σ → c ≡ counts_of σ → (ρ : Room) (s : Step) (x : ℕ) → x < c.rows
      → Performs σ (get ρ s (value_at σ.world.rows x) σ) (get_of ks c s x) t ks gs
  gets few count ρ s x h = rw count (got few ρ s x (omega (arith, same_rows count)))
