-- How the tables carry a state on as it grows: when a row is added, an atom counted, a key kept, a value guarded.
-- Assumes nothing.
use Prim.Native.Nat.{ℕ, suc, ◌+◌, ◌≤◌, ◌<◌}
use mathlib.Core.Path.{◌≡◌, refl, sym, ap, ◌∙◌}
use mathlib.Core.Bool.{Bool, true, false}
use mathlib.Core.List.{List, [], ◌∷◌, ◌++◌, map, map-append}
use native.Mathlib.Omega.{arith}
use native.Mathlib.Decide.{dec_lt}
use borrow.Author.Tests.{le-ltb, ltb-false}
use lib.ListN.{length, get_or, take, set, length-append, length-map, length-set, get_or-append}
use Rattle.std.proofs.lemmas.List.{get_or-map}
use lib.Seq.{get_or-take, get_or_at, get_or-set_same, get_or-set_other, take-suc-set, length-take-le, ext_get_or}
use Rattle.model.specs.Basics.{index_by}
use Rattle.model.specs.Value.{Value, const, fresh, same, row_of, present, value_at}
use Rattle.model.specs.Token.{Key, State, with_row, with_atom, guard_if, key_at}
use Rattle.model.specs.Tables.{padded, key_code}
use Rattle.values.specs.Holds.{Holds}
use Rattle.values.proofs.Index.{index_at_most_length, index_goes_on_after, map_of_same}
use Rattle.values.proofs.Present.{HasRow as InRow, same_is_equal, present_means_below, value_at_its_row, row_kept, present_kept}
use Rattle.values.proofs.Rows.{row_at, present_at}
use Rattle.values.proofs.Padded.{set_next}
use Rattle.token.specs.Carried.{Tidy, Carries}
use Rattle.token.specs.declared.Counts.{Counts}

-- ---- counts

pub same_rows : {c d : Counts} → c ≡ d → c.rows ≡ d.rows
same_rows e = ap (λ (c : Counts). c.rows) e

pub same_keys : {c d : Counts} → c ≡ d → c.keys ≡ d.keys
same_keys e = ap (λ (c : Counts). c.keys) e

-- ---- lists

-- what holds of each element, and of one more, holds of each then
each_with_one_more : {A : Type 0} (P : A → Type 0) (d : A) (xs : List A) (x : A) → ((i : ℕ) → i < length xs → P (get_or xs i d)) → P x
    → (i : ℕ) → i < length (xs ++ x ∷ []) → P (get_or (xs ++ x ∷ []) i d)
each_with_one_more P d xs x all one i h = go (dec_lt i (length xs))
  where
    go : Dec (i < length xs) → P (get_or (xs ++ x ∷ []) i d)
    go (yes l) = rw (get_or-append xs (x ∷ []) d i l) (all i l)
    go (no l) = rw (get_or_at xs x [] d i (omega (arith, length-append xs (x ∷ [])))) one

-- ---- a value that has no row still has none when another one gets a row

absent_kept : (w v : Value) (vs : List Value) → present w vs ≡ false → (w ≡ v → ⊥) → present w (vs ++ v ∷ []) ≡ false
unfolding index_by
absent_kept w v vs e other = go (same w v) refl
  where
    row : row_of w vs ≡ length vs
    row = omega (arith, ltb-false (row_of w vs) (length vs) e, index_at_most_length (same w) vs)

    go : (b : Bool) → same w v ≡ b → present w (vs ++ v ∷ []) ≡ false
    go true f = absurd (other (same_is_equal w v f))
    go false f =
        let past : row_of w (vs ++ v ∷ []) ≡ length vs + 1 = index_goes_on_after (same w) vs (v ∷ []) row ∙ rw f in
        le-ltb (row_of w (vs ++ v ∷ [])) (length (vs ++ v ∷ [])) (omega (arith, past, length-append vs (v ∷ [])))

-- ---- the keys' numbers

-- what stands past the last key
abbrev pub no_key : Key
no_key = record { handle = const 0; key = const 0; template = 0 }

code_kept : (vs ws : List Value) (k : Key) → present k.handle vs ≡ true → present k.key vs ≡ true
    → key_code (vs ++ ws) k ≡ key_code vs k
unfolding key_code
code_kept vs ws k h v = rw (row_kept k.handle vs ws h, row_kept k.key vs ws v)

-- rows that come after do not change them
pub codes_kept : {σ : State} → Tidy σ → (ws : List Value)
    → map (key_code (σ.world.rows ++ ws)) σ.token.stored ≡ map (key_code σ.world.rows) σ.token.stored
codes_kept {σ} T ws =
    map_of_same no_key (key_code (σ.world.rows ++ ws)) (key_code σ.world.rows) σ.token.stored
    (λ i h. code_kept σ.world.rows ws (key_at σ.token.stored i) (T.handle_present i h) (T.key_present i h))

-- ---- the guarded values, one by one

pub guards_by_each : (vs us : List Value) (gs : List ℕ) → length us ≤ length gs
    → ((i : ℕ) → i < length us → value_at vs (get_or gs i 0) ≡ value_at us i) → map (value_at vs) (take (length us) gs) ≡ us
guards_by_each vs us gs fit each = ext_get_or (const 0) (map (value_at vs) (take (length us) gs)) us long at
  where
    count : length (take (length us) gs) ≡ length us
    count = length-take-le (length us) gs fit

    long : length (map (value_at vs) (take (length us) gs)) ≡ length us
    long = length-map (take (length us) gs) (value_at vs) ∙ count

    at : (i : ℕ) → i < length (map (value_at vs) (take (length us) gs))
        → value_at (map (value_at vs) (take (length us) gs)) i ≡ value_at us i
    at i h =
        let l : i < length us = omega (arith, long) in
        get_or-map (value_at vs) (take (length us) gs) i 0 (const 0) (omega (arith, count))
        ∙ ap (value_at vs) (get_or-take (length us) gs i 0 l)
        ∙ each i l

module _ {σ : State} {t ks gs : List ℕ} (C : Carries σ t ks gs) where
  guards_reach : length σ.world.guarded ≤ length gs
  guards_reach = omega (arith, C.tidy.few_guards, C.keys_fit, C.guards_fit)

  pub guard_at : (i : ℕ) → i < length σ.world.guarded → value_at σ.world.rows (get_or gs i 0) ≡ value_at σ.world.guarded i
  guard_at i h =
      let n = length σ.world.guarded in
      ap (value_at σ.world.rows) (sym (get_or-take n gs i 0 h))
      ∙ sym (get_or-map (value_at σ.world.rows) (take n gs) i 0 (const 0) (omega (arith, length-take-le n gs guards_reach)))
      ∙ ap (λ l. value_at l i) C.guards_are

  -- the value in row x has that row
  pub in_row_at : (x : ℕ) → x < length σ.world.rows → InRow (value_at σ.world.rows x) σ.world.rows x
  in_row_at x h = record { there = present_at C.rows_held.rows x h; row = row_at C.rows_held.rows x h; within = h }

  -- ---- the same state in another table of rows, and with one atom more

  pub carries_in : {u : List ℕ} → Holds u σ.world.rows → Carries σ u ks gs
  carries_in H = record {
    tidy = C.tidy;
    rows_held = H;
    keys_are = C.keys_are;
    keys_fit = C.keys_fit;
    guards_are = C.guards_are;
    guards_have_rows = C.guards_have_rows;
    guards_fit = C.guards_fit;
  }

  pub carries_atom : Carries (record { world = with_atom σ.world; token = σ.token }) t ks gs
  carries_atom = record {
    tidy = record {
      unmade_absent = λ n h. C.tidy.unmade_absent n (omega arith);
      handle_present = C.tidy.handle_present;
      key_present = C.tidy.key_present;
      template_byte = C.tidy.template_byte;
      few_guards = C.tidy.few_guards;
      guarded_present = C.tidy.guarded_present;
    };
    rows_held = C.rows_held;
    keys_are = C.keys_are;
    keys_fit = C.keys_fit;
    guards_are = C.guards_are;
    guards_have_rows = C.guards_have_rows;
    guards_fit = C.guards_fit;
  }

  -- ---- one row more, of a value that is no atom yet to be made

  module _ (v : Value) (made : (n : ℕ) → σ.world.atoms ≤ n → fresh n ≡ v → ⊥) where
    tidy_row : Tidy (record { world = with_row v σ.world; token = σ.token })
    tidy_row =
        let T = C.tidy in
        let kept : (w : Value) → present w σ.world.rows ≡ true → present w (σ.world.rows ++ v ∷ []) ≡ true =
        λ w e. present_kept w σ.world.rows (v ∷ []) e
        in
        record {
          unmade_absent = λ n h. absent_kept (fresh n) v σ.world.rows (T.unmade_absent n h) (made n h);
          handle_present = λ i h. kept _ (T.handle_present i h);
          key_present = λ i h. kept _ (T.key_present i h);
          template_byte = T.template_byte;
          few_guards = T.few_guards;
          guarded_present = λ i h. kept _ (T.guarded_present i h);
        }

    pub carries_row : {u : List ℕ} → Holds u (σ.world.rows ++ v ∷ [])
        → Carries (record { world = with_row v σ.world; token = σ.token }) u ks gs
    carries_row H = record {
      tidy = tidy_row;
      rows_held = H;
      keys_are = rw (codes_kept C.tidy (v ∷ [])) C.keys_are;
      keys_fit = C.keys_fit;
      guards_are =
          guards_by_each (σ.world.rows ++ v ∷ []) σ.world.guarded gs guards_reach
          (λ i h. get_or-append σ.world.rows (v ∷ []) (const 0) (get_or gs i 0) (C.guards_have_rows i h) ∙ guard_at i h);
      guards_have_rows = λ i h. omega (arith, C.guards_have_rows i h, length-append σ.world.rows (v ∷ []));
      guards_fit = C.guards_fit;
    }

  -- ---- one key more

  module _ (k : Key) (room : length σ.token.stored < length ks) (handle : present k.handle σ.world.rows ≡ true)
      (key : present k.key σ.world.rows ≡ true) (byte : k.template < 256) where
    each_with_key : (P : Key → Type 0) → ((i : ℕ) → i < length σ.token.stored → P (key_at σ.token.stored i)) → P k
        → (i : ℕ) → i < length (σ.token.stored ++ k ∷ []) → P (key_at (σ.token.stored ++ k ∷ []) i)
    each_with_key P = each_with_one_more P no_key σ.token.stored k

    tidy_key : Tidy (record { world = σ.world; token = record { stored = σ.token.stored ++ k ∷ [] } })
    tidy_key =
        let T = C.tidy in
        record {
          unmade_absent = T.unmade_absent;
          handle_present = each_with_key (λ l. present l.handle σ.world.rows ≡ true) T.handle_present handle;
          key_present = each_with_key (λ l. present l.key σ.world.rows ≡ true) T.key_present key;
          template_byte = each_with_key (λ l. l.template < 256) T.template_byte byte;
          few_guards = omega (arith, T.few_guards, length-append σ.token.stored (k ∷ []));
          guarded_present = T.guarded_present;
        }

    codes_with_key : map (key_code σ.world.rows) (σ.token.stored ++ k ∷ [])
        ≡ map (key_code σ.world.rows) σ.token.stored ++ key_code σ.world.rows k ∷ []
    codes_with_key = map-append (key_code σ.world.rows) σ.token.stored (k ∷ [])

    pub carries_key : {n x : ℕ} → n ≡ length σ.token.stored → x ≡ key_code σ.world.rows k
        → Carries (record { world = σ.world; token = record { stored = σ.token.stored ++ k ∷ [] } }) t (set ks n x) gs
    carries_key {n} {x} place code =
        let codes = map (key_code σ.world.rows) σ.token.stored in
        let count : length codes ≡ n = length-map σ.token.stored (key_code σ.world.rows) ∙ sym place in
        let long : length (set ks n x) ≡ length ks = length-set ks n x in
        record {
          tidy = tidy_key;
          rows_held = C.rows_held;
          keys_are =
              ap (λ l. set l n x) C.keys_are
              ∙ set_next (length ks) codes x (omega arith) n count
              ∙ ap (padded (length ks)) (ap (λ y. codes ++ y ∷ []) code ∙ sym codes_with_key)
              ∙ ap (λ m. padded m (map (key_code σ.world.rows) (σ.token.stored ++ k ∷ []))) (sym long);
          keys_fit = omega (arith, long, length-append σ.token.stored (k ∷ []));
          guards_are = C.guards_are;
          guards_have_rows = C.guards_have_rows;
          guards_fit = omega (arith, long, C.guards_fit);
        }

  -- ---- one guarded value more, which has row x

  module _ (v : Value) (there : present v σ.world.rows ≡ true) (few : length σ.world.guarded < length σ.token.stored) where
    tidy_guarded : Tidy (record { world = guard_if true v σ.world; token = σ.token })
    tidy_guarded =
        let T = C.tidy in
        record {
          unmade_absent = T.unmade_absent;
          handle_present = T.handle_present;
          key_present = T.key_present;
          template_byte = T.template_byte;
          few_guards = omega (arith, length-append σ.world.guarded (v ∷ []));
          guarded_present =
              each_with_one_more (λ w. present w σ.world.rows ≡ true) (const 0) σ.world.guarded v T.guarded_present there;
        }

    pub carries_guarded : {n x : ℕ} → n ≡ length σ.world.guarded → x ≡ row_of v σ.world.rows
        → Carries (record { world = guard_if true v σ.world; token = σ.token }) t ks (set gs n x)
    carries_guarded {n} {x} place row =
        let room : n < length gs = omega (arith, C.keys_fit, C.guards_fit) in
        let next : length (σ.world.guarded ++ v ∷ []) ≡ suc n = omega (arith, length-append σ.world.guarded (v ∷ [])) in
        record {
          tidy = tidy_guarded;
          rows_held = C.rows_held;
          keys_are = C.keys_are;
          keys_fit = C.keys_fit;
          guards_are =
              rw (next, take-suc-set gs n x room, map-append)
              (rw (place, C.guards_are, row, value_at_its_row v σ.world.rows there));
          guards_have_rows = λ i h. below i h (dec_lt i n);
          guards_fit = omega (arith, length-set gs n x, C.guards_fit);
        }
      where
        below : (i : ℕ) → i < length (σ.world.guarded ++ v ∷ []) → Dec (i < n) → get_or (set gs n x) i 0 < length σ.world.rows
        below i h (yes l) = rw (get_or-set_other gs n i x 0 (λ e. omega arith)) (C.guards_have_rows i (omega arith))
        below i h (no l) =
            let e : i ≡ n = omega (arith, length-append σ.world.guarded (v ∷ [])) in
            rw (e, get_or-set_same gs n x 0 (omega (arith, C.tidy.few_guards, C.keys_fit, C.guards_fit)))
            (omega (arith, row, present_means_below v σ.world.rows there))
