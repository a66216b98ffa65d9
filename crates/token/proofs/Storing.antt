-- What the two steps that keep a value come to, generate and store: a place for it, an atom for its handle, and another one for a
-- generated key.
-- Assumes nothing.
use Prim.Native.Nat.{ℕ, ◌+◌, ◌/◌, ◌%◌, ◌<◌}
use mathlib.Core.Path.{◌≡◌, refl, sym, ap, ap₂, ◌∙◌}
use mathlib.Core.Bool.{Bool, true, false, cond, ◌||◌}
use mathlib.Core.List.{List, [], ◌∷◌, ◌++◌, append-nil}
use native.Mathlib.Omega.{arith}
use native.Mathlib.Decide.{dec_lt}
use borrow.Author.Tests.{lt-ltb, le-ltb}
use lib.Dec.{eqb}
use lib.ListN.{length, set, length-append}
use Rattle.model.specs.Value.{Value, row_of, value_at}
use Rattle.model.specs.Token.{State, Room, at_most, fits, Out, full, and_then, new_atom, with_place, guard_if, with_key, keep}
use Rattle.model.specs.Token.{guards_generated, generate, store}
use Rattle.model.specs.Tables.{key_code}
use Rattle.values.proofs.Present.{HasRow as InRow}
use Rattle.token.specs.Carried.{room_of, counts_of, FewAtoms, Carries, Extends, Performs}
use Rattle.token.specs.Numbers.{MakesAtom, MakesHandle, one_key, key_number, guards_with, Keeps}
use Rattle.token.specs.declared.Counts.{Counts}
use Rattle.token.specs.Outcome.{Outcome, Gave, Full}
use Rattle.token.proofs.Growing.{same_rows, same_keys, in_row_at, carries_key, carries_guarded}
use Rattle.token.proofs.Chaining.{row_later, Stops, stops, Went, went, goes_on}
use Rattle.token.proofs.Appearing.{full_as_it_is, makes_atom, AtomGiven, atom_given}

-- ---- a value is kept under a handle

abbrev kept : Bool → Value → Value → ℕ → State → State
kept g h v m σ = record { world = guard_if g v σ.world; token = with_key h v m σ.token }

module _ (h v : Value) (m : ℕ) (σ : State) where
  length_keys : length (kept false h v m σ).token.stored ≡ length σ.token.stored + 1
  length_keys = length-append σ.token.stored (record { handle = h; key = v; template = m } ∷ [])

  counts_kept : (g : Bool) → one_key g (counts_of σ) ≡ counts_of (kept g h v m σ)
  counts_kept false = rw length_keys
  counts_kept true = rw (length_keys, length-append σ.world.guarded (v ∷ []))

  rows_kept : (g : Bool) → (kept g h v m σ).world.rows ≡ σ.world.rows
  rows_kept false = refl
  rows_kept true = refl

  atoms_kept : (g : Bool) → (kept g h v m σ).world.atoms ≡ σ.world.atoms
  atoms_kept false = refl
  atoms_kept true = refl

  extends_kept : (g : Bool) → Extends σ (kept g h v m σ)
  extends_kept g = record {
    new_rows = [];
    new_keys = record { handle = h; key = v; template = m } ∷ [];
    new_guarded = guarded g;
    rows_grown = rows_kept g ∙ sym (append-nil σ.world.rows);
    keys_grown = refl;
    guarded_grown = grown g;
  }
    where
      guarded : Bool → List Value
      guarded false = []
      guarded true = v ∷ []

      grown : (g : Bool) → (kept g h v m σ).world.guarded ≡ σ.world.guarded ++ guarded g
      grown false = sym (append-nil σ.world.guarded)
      grown true = refl

module _ {σ : State} {t ks gs : List ℕ} {handle key : Value} {h k : ℕ} (C : Carries σ t ks gs) (few : FewAtoms σ)
    (H : InRow handle σ.world.rows h) (K : InRow key σ.world.rows k) (m : ℕ) (byte : m < 256)
    (room : length σ.token.stored < length ks) where
  number : key_number h k m ≡ key_code σ.world.rows (record { handle = handle; key = key; template = m })
  unfolding key_code
  number = ap₂ (λ a b. key_number a b m) (sym H.row) (sym K.row)

  carries_keyed : Carries (kept false handle key m σ) t (set ks (length σ.token.stored) (key_number h k m)) gs
  carries_keyed = carries_key C (record { handle = handle; key = key; template = m }) room H.there K.there byte refl number

  carries_kept : (g : Bool) → Carries (kept g handle key m σ) t (set ks (length σ.token.stored) (key_number h k m))
      (guards_with g (length σ.world.guarded) k gs)
  carries_kept false = carries_keyed
  carries_kept true =
      carries_guarded carries_keyed key K.there
      (omega (arith, length_keys handle key m σ, C.tidy.few_guards)) refl (sym K.row)

  counted_key : {g : Bool} {r : Outcome} {ls hs : List ℕ} → Keeps (counts_of σ) h k m g r ks gs ls hs
      → Performs σ (keep g handle key m σ) r t ls hs
  counted_key {g} L =
      let same = rows_kept handle key m σ g in
      record {
        answer = L.answer ∙ ap₂ Gave (counts_kept handle key m σ g) (sym H.row ∙ ap (row_of handle) (sym same));
        has_row = rw same H.there;
        atoms_rowed = rw (same, atoms_kept handle key m σ g) few;
        carries = rw (L.key, L.guard) (carries_kept g);
        extends = extends_kept handle key m σ g;
      }

  keeps : {c : Counts} {g : Bool} {r : Outcome} {ls hs : List ℕ} → c ≡ counts_of σ → Keeps c h k m g r ks gs ls hs
      → Performs σ (keep g handle key m σ) r t ls hs
  keeps count L = counted_key (rw count at L)

-- ---- a new handle

-- where a handle was given, there was a place, and its atom was made and got the next row
pub record HandleGiven (places : ℕ) (c c' : Counts) (row : ℕ) (before exit : List ℕ) : Type 0 where
  pub placed : c.keys < places
  pub made : MakesAtom c (Gave c' row) before exit
  pub given : AtomGiven (length before) c c' row

pub handle_given : {places : ℕ} {c c' : Counts} {row : ℕ} {t u : List ℕ} → MakesHandle places c (Gave c' row) t u
    → HandleGiven places c c' row t u
handle_given {places} {c} {c'} {row} {t} {u} M = go (dec_lt c.keys places)
  where
    go : Dec (c.keys < places) → HandleGiven places c c' row t u
    go (yes h) = record { placed = h; made = M.place_with h; given = atom_given (M.place_with h).answer }
    go (no h) =
        let none : Gave c' row ≡ Full 33 c = (M.without (omega arith)).0 in
        let z : ◌≡◌ {A = ℕ} 0 1 = cc in
        absurd (omega arith)

-- ---- the two steps

-- the lowest attribute is S, and the one above it A
guards_by_attributes : (m : ℕ) → (eqb (m % 2) 1 || eqb (m / 2 % 2) 1) ≡ guards_generated m
guards_by_attributes m = let whole : m ≡ m / 1 = omega arith in ap (λ n. eqb (n % 2) 1 || eqb (m / 2 % 2) 1) whole

-- where there is no place, nothing follows
after_place : {σ : State} (ρ : Room) (o : Out) (next : Value → State → Out) {r : Outcome} {u ls hs : List ℕ}
    → Performs σ (and_then (with_place ρ σ o) next) r u ls hs → Performs σ (with_place ρ σ (and_then o next)) r u ls hs
after_place {σ} ρ o next {r} {u} {ls} {hs} P = go (fits ρ.keys (length σ.token.stored)) P
  where
    go : (b : Bool) → Performs σ (and_then (cond b o (full 33 σ)) next) r u ls hs
        → Performs σ (cond b (and_then o next) (full 33 σ)) r u ls hs
    go true P = P
    go false P = P

module _ {σ : State} {t ks gs u : List ℕ} {c : Counts} (C : Carries σ t ks gs) (few : FewAtoms σ) (count : c ≡ counts_of σ) where
  module _ {first : Outcome} (M : MakesHandle (length ks) c first t u) where
    handle : Performs σ (with_place (room_of t ks) σ (new_atom (room_of t ks) σ)) first u ks gs
    handle = go (dec_lt c.keys (length ks))
      where
        go : Dec (c.keys < length ks) → Performs σ (with_place (room_of t ks) σ (new_atom (room_of t ks) σ)) first u ks gs
        go (yes h) =
            rw (lt-ltb (length σ.token.stored) (length ks) (omega (arith, same_keys count)))
            (makes_atom (room_of t ks) refl C few count (M.place_with h))
        go (no h) =
            let w = M.without (omega arith) in
            rw (le-ltb (length σ.token.stored) (length ks) (omega (arith, same_keys count)), w.0, w.1) (full_as_it_is C few count 33)

    pub generate_stops : (m : ℕ) → Stops first → Performs σ (generate (room_of t ks) m σ) first u ks gs
    unfolding generate
    generate_stops m q = after_place (room_of t ks) _ _ (stops _ q handle)

    pub store_stops : (v : Value) (m : ℕ) → Stops first → Performs σ (store (room_of t ks) v m σ) first u ks gs
    unfolding store
    store_stops v m q = after_place (room_of t ks) _ _ (stops _ q handle)

  module _ {c₁ : Counts} {h : ℕ} (M : MakesHandle (length ks) c (Gave c₁ h) t u) where
    handled : Went σ (with_place (room_of t ks) σ (new_atom (room_of t ks) σ)) c₁ h u ks gs
    handled = went refl (handle M)

    second_atom : {second : Outcome} {w : List ℕ} → MakesAtom c₁ second u w
        → Performs handled.state (new_atom (room_of t ks) handled.state) second w ks gs
    second_atom =
        makes_atom (room_of t ks) (ap at_most (sym (handle_given M).made.length_kept)) handled.carries handled.few_atoms handled.counts

    pub generate_stops_later : {second : Outcome} {w : List ℕ} → MakesAtom c₁ second u w → (m : ℕ) → Stops second
        → Performs σ (generate (room_of t ks) m σ) second w ks gs
    unfolding generate
    generate_stops_later A m q = after_place (room_of t ks) _ _ (goes_on handled _ (stops _ q (second_atom A)))

    pub generates : {c₂ : Counts} {k m : ℕ} {r : Outcome} {w ls hs : List ℕ} → MakesAtom c₁ (Gave c₂ k) u w → m < 256
        → Keeps c₂ h k m (eqb (m % 2) 1 || eqb (m / 2 % 2) 1) r ks gs ls hs → Performs σ (generate (room_of t ks) m σ) r w ls hs
    unfolding generate
    generates {m = m} A byte K =
        let keyed = went refl (second_atom A) in
        let first = handle_given M in
        let second = atom_given A.answer in
        after_place (room_of t ks) _ _
        (goes_on handled _
        (goes_on keyed _
        (keeps keyed.carries keyed.few_atoms (row_later handled.in_row keyed.extends) keyed.in_row m byte
        (omega (arith, same_keys keyed.counts)) keyed.counts (rw (guards_by_attributes m) at K))))

    pub stores : {x m : ℕ} {r : Outcome} {ls hs : List ℕ} → m < 256 → x < c.rows → Keeps c₁ h x m (eqb (m / 2 % 2) 1) r ks gs ls hs
        → Performs σ (store (room_of t ks) (value_at σ.world.rows x) m σ) r u ls hs
    unfolding store
    stores {x} {m} byte b K =
        let first = handle_given M in
        after_place (room_of t ks) _ _
        (goes_on handled _
        (keeps handled.carries handled.few_atoms handled.in_row
        (row_later (in_row_at C x (omega (arith, same_rows count))) handled.extends) m byte
        (omega (arith, same_keys handled.counts)) handled.counts K))
