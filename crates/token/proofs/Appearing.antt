-- What a step comes to that changes nothing or lets one value appear: the code's outcome and rows are those of the model.
-- Assumes nothing.
use Prim.Native.Nat.{ℕ, suc, ◌+◌, ◌≤◌, ◌<◌}
use mathlib.Core.Path.{◌≡◌, refl, sym, ap, ap₂, ◌∙◌}
use mathlib.Core.Bool.{Bool, true, false, cond, true≢false}
use mathlib.Core.List.{List, [], ◌∷◌, ◌++◌, append-nil}
use native.Mathlib.Omega.{arith}
use native.Mathlib.Numerals.{add-one}
use native.Mathlib.Decide.{dec_lt}
use borrow.Author.Tests.{lt-ltb, le-ltb, ltb-true}
use lib.Dec.{ltb}
use lib.ListN.{length, length-append}
use Rattle.model.specs.declared.Full.TheVariants.{Rows}
use Rattle.model.specs.declared.Operation.{Operation}
use Rattle.model.specs.declared.Operation.TheVariants.{Encrypt, Decrypt, Derive}
use Rattle.model.specs.Value.{Value, const, fresh, enc, dec, div, same, decrypt, compute, operands, row_of, present, value_at}
use Rattle.model.specs.Token.{State, Room, at_most, gave, ended, stopped, full, with_row, with_atom, appear, new_atom}
use Rattle.std.specs.Prelude.{Option, Some, None, Result}
use Rattle.std.specs.Option.{ok_or}
use Rattle.model.specs.Tables.{PartsBelow, Rows as RowsOf}
use Rattle.values.specs.Filled.{Pushed, NotPushed}
use Rattle.values.specs.declared.Filled.{Filled}
use Rattle.values.specs.Holds.{answer_in, rows_in, Appeared, AppearedIn}
use Rattle.values.specs.Interned.{Interned, Found, Added, NoRoom, interned_told, count_after}
use Rattle.values.proofs.Present.{below_means_present, row_added}
use Rattle.values.proofs.Rows.{row_at, present_at, parts_at}
use Rattle.token.specs.Carried.{room_of, counts_of, FewAtoms, OperandsBelow, Carries, Extends, Performs}
use Rattle.token.specs.Numbers.{one_row, one_atom, atom_of, MakesAtom}
use Rattle.token.specs.declared.Counts.{Counts}
use Rattle.token.specs.declared.Halt.{Halt}
use Rattle.token.specs.declared.Halt.TheVariants as halt
use Rattle.token.specs.Outcome.{Outcome, Gave, Ended, Stopped, Full, outcome_told}
use Rattle.token.proofs.Growing.{same_rows, carries_in, carries_atom, carries_row}
use Rattle.token.proofs.Undoing.{extends_same, extends_refl, extends_trans}

-- ---- steps that change nothing

module _ {σ : State} {t ks gs : List ℕ} {c : Counts} (C : Carries σ t ks gs) (few : FewAtoms σ) (count : c ≡ counts_of σ) where
  pub ends_with_row : (x : ℕ) → x < c.rows → Performs σ (ended (value_at σ.world.rows x) σ) (Ended c x) t ks gs
  ends_with_row x h =
      let within : x < length σ.world.rows = omega (arith, same_rows count) in
      record {
        answer = ap₂ Ended count (sym (row_at C.rows_held.rows x within));
        has_row = present_at C.rows_held.rows x within;
        atoms_rowed = few;
        carries = C;
        extends = extends_refl σ;
      }

  pub stops_as_it_is : Performs σ (stopped σ) (Stopped c) t ks gs
  stops_as_it_is = record { answer = ap Stopped count; has_row = tt; atoms_rowed = few; carries = C; extends = extends_refl σ }

  pub full_as_it_is : (n : ℕ) → Performs σ (full n σ) (Full n c) t ks gs
  full_as_it_is n = record { answer = ap (Full n) count; has_row = tt; atoms_rowed = tt; carries = C; extends = extends_refl σ }

-- ---- a value appears

-- what becomes of a value that appeared: ending 32 where there was no room for it
abbrev pub took_of : Counts → Interned → Outcome
took_of c (Found i) = Gave c i
took_of c (Added i) = Gave (one_row c) i
took_of c NoRoom = Full 32 c

module _ (ρ : Room) (v : Value) (σ : State) where
  pub appears_again : present v σ.world.rows ≡ true → appear ρ v σ ≡ gave v σ
  unfolding appear
  appears_again e = rw e

  appears_anew : {len : ℕ} → ρ.rows ≡ at_most len → present v σ.world.rows ≡ false → ltb (length σ.world.rows) len ≡ true
      → appear ρ v σ ≡ gave v (record { world = with_row v σ.world; token = σ.token })
  unfolding appear
  appears_anew room new f = rw (new, room, f)

  appears_not : {len : ℕ} → ρ.rows ≡ at_most len → present v σ.world.rows ≡ false → ltb (length σ.world.rows) len ≡ false
      → appear ρ v σ ≡ full 32 σ
  unfolding appear
  appears_not room new f = rw (new, room, f)

extends_row : (v : Value) (σ : State) → Extends σ (record { world = with_row v σ.world; token = σ.token })
extends_row v σ = record {
  new_rows = v ∷ [];
  new_keys = [];
  new_guarded = [];
  rows_grown = refl;
  keys_grown = sym (append-nil σ.token.stored);
  guarded_grown = sym (append-nil σ.world.guarded);
}

-- a value that is new is no atom that is yet to be made; and all atoms have rows, or all but the new value itself
module _ {σ : State} {t ks gs u : List ℕ} {c : Counts} {v : Value} {a : Interned} (ρ : Room) (room : ρ.rows ≡ at_most (length t))
    (C : Carries σ t ks gs) (count : c ≡ counts_of σ) (A : Appeared v σ.world.rows a t u)
    (made : present v σ.world.rows ≡ false → (n : ℕ) → σ.world.atoms ≤ n → fresh n ≡ v → ⊥)
    (few : present v σ.world.rows ≡ true → FewAtoms σ) (fewer : σ.world.atoms ≤ suc (length σ.world.rows)) where
  pub appears : Performs σ (appear ρ v σ) (took_of c a) u ks gs
  unfolding answer_in rows_in
  appears = go (present v σ.world.rows) (ltb (length σ.world.rows) (length t)) refl refl
    where
      go : (b f : Bool) → present v σ.world.rows ≡ b → ltb (length σ.world.rows) (length t) ≡ f
          → Performs σ (appear ρ v σ) (took_of c a) u ks gs
      go true f e g =
          let answer : a ≡ Found (row_of v σ.world.rows) = rw e at A.answer in
          rw (appears_again ρ v σ e)
          (record {
            answer = ap₂ took_of count answer;
            has_row = e;
            atoms_rowed = few e;
            carries = carries_in C (rw e at A.holds);
            extends = extends_refl σ;
          })
      go false true e g =
          let answer : a ≡ Added (length σ.world.rows) = rw (e, g) at A.answer in
          let long = length-append σ.world.rows (v ∷ []) in
          let row = row_added v σ.world.rows e in
          rw (appears_anew ρ v σ room e g)
          (record {
            answer = ap₂ took_of count answer ∙ rw (long, row);
            has_row = below_means_present v (σ.world.rows ++ v ∷ []) (omega (arith, long, row));
            atoms_rowed = omega (arith, long);
            carries = carries_row C v (made e) (rw (e, g) at A.holds);
            extends = extends_row v σ;
          })
      go false false e g =
          let answer : a ≡ NoRoom = rw (e, g) at A.answer in
          rw (appears_not ρ v σ room e g)
          (record {
            answer = ap₂ took_of count answer;
            has_row = tt;
            atoms_rowed = tt;
            carries = carries_in C (rw (e, g) at A.holds);
            extends = extends_refl σ;
          })

-- ---- a step computes a value

-- what was not there yet is a decryption of its own, and no atom
decrypted_anew : (vs : List Value) (w k : Value) → PartsBelow vs (length vs) w → present (decrypt w k) vs ≡ false
    → (n : ℕ) → fresh n ≡ decrypt w k → ⊥
decrypted_anew vs (const m) k p new n e = let z : ◌≡◌ {A = ℕ} 0 1 = cc in omega arith
decrypted_anew vs (fresh m) k p new n e = let z : ◌≡◌ {A = ℕ} 0 1 = cc in omega arith
decrypted_anew vs (dec w l) k p new n e = let z : ◌≡◌ {A = ℕ} 0 1 = cc in omega arith
decrypted_anew vs (div l w) k p new n e = let z : ◌≡◌ {A = ℕ} 0 1 = cc in omega arith
decrypted_anew vs (enc w l) k p new n e = go (same l k) new e
  where
    go : (b : Bool) → present (cond b w (dec (enc w l) k)) vs ≡ false → fresh n ≡ cond b w (dec (enc w l) k) → ⊥
    go true new e = true≢false (sym (below_means_present w vs p.0) ∙ new)
    go false new e = let z : ◌≡◌ {A = ℕ} 0 1 = cc in omega arith

-- no operation gives an atom that is yet to be made
computed_anew : {vs : List Value} → RowsOf vs → (o : Operation) (x y : ℕ) → OperandsBelow o x y (length vs)
    → present (compute o (operands o (value_at vs x) (value_at vs y))) vs ≡ false
    → (n : ℕ) → fresh n ≡ compute o (operands o (value_at vs x) (value_at vs y)) → ⊥
computed_anew R Encrypt x y h new n e = let z : ◌≡◌ {A = ℕ} 0 1 = cc in omega arith
computed_anew {vs} R Decrypt x y h new n e = decrypted_anew vs (value_at vs x) (value_at vs y) (parts_at R x h.0) new n e
computed_anew R (Derive l) x y h new n e = let z : ◌≡◌ {A = ℕ} 0 1 = cc in omega arith

-- ---- what the code tells of a row that a value got, or did not get

abbrev with_rows : ℕ → Counts → Counts
with_rows n c = record { rows = n; keys = c.keys; atoms = c.atoms; guards = c.guards }

abbrev rowed : Option ℕ → Result ℕ Halt
rowed r = ok_or r (halt.Full Rows)

rows_grown : (len : ℕ) (v : Value) (vs : List Value) → length (rows_in len v vs) ≡ count_after (answer_in len v vs) (length vs)
unfolding answer_in rows_in
rows_grown len v vs = go (present v vs) (ltb (length vs) len)
  where
    go : (b c : Bool) → length (cond b vs (cond c (vs ++ v ∷ []) vs))
        ≡ count_after (cond b (Found (row_of v vs)) (cond c (Added (length vs)) NoRoom)) (length vs)
    go true c = refl
    go false true = length-append vs (v ∷ [])
    go false false = refl

row_taken : (c : Counts) (r : Option ℕ) (n : ℕ) → n ≡ count_after (interned_told r c.rows n) c.rows
    → outcome_told (rowed r) (with_rows n c) ≡ took_of c (interned_told r c.rows n)
row_taken c None n e = ap (λ m. Full 32 (with_rows m c)) e
row_taken c (Some i) n e = go (ltb c.rows n) e
  where
    go : (b : Bool) → n ≡ count_after (cond b (Added i) (Found i)) c.rows → Gave (with_rows n c) i ≡ took_of c (cond b (Added i) (Found i))
    go true e = ap (λ m. Gave (with_rows m c) i) e
    go false e = ap (λ m. Gave (with_rows m c) i) e

-- a lent table is what the call left that it was lent to
pub appeared_there : {v : Value} {vs : List Value} {a : Interned} {t u w : List ℕ} → Appeared v vs a t u → w ≡ u → Appeared v vs a t w
appeared_there A e = rw e A

pub row_told : (c : Counts) {v : Value} {vs : List Value} {r : Option ℕ} {f g : Filled} → c.rows ≡ f.len → f.len ≡ length vs
    → AppearedIn v vs r f g
    → outcome_told (rowed r) (with_rows g.len c) ≡ took_of c (interned_told r f.len g.len)
row_told c {v} {vs} {r} {f} {g} rows count A =
    let counted : g.len ≡ count_after (interned_told r f.len g.len) f.len =
    A.counted ∙ rows_grown (length f.table.now) v vs ∙ ap₂ count_after (sym A.appeared.answer) (sym count)
    in
    rw (← rows) (row_taken c r g.len (rw rows counted))

pub computes : {σ : State} {t ks gs u : List ℕ} {c : Counts} {a : Interned} {r : Outcome} → Carries σ t ks gs → FewAtoms σ → c ≡ counts_of σ
    → (o : Operation) (x y : ℕ) → OperandsBelow o x y c.rows → r ≡ took_of c a
    → Appeared (compute o (operands o (value_at σ.world.rows x) (value_at σ.world.rows y))) σ.world.rows a t u
    → Performs σ (appear (room_of t ks) (compute o (operands o (value_at σ.world.rows x) (value_at σ.world.rows y))) σ) r u ks gs
computes {σ} {t} {ks} C few count o x y below taken A =
    rw taken
    (appears (room_of t ks) refl C count A
    (λ new n h. computed_anew C.rows_held.rows o x y (rw (same_rows count) at below) new n)
    (λ there. few)
    (omega arith))

-- ---- a new atom

abbrev counted : State → State
counted σ = record { world = with_atom σ.world; token = σ.token }

counts_atom : (σ : State) → one_atom (counts_of σ) ≡ counts_of (counted σ)
counts_atom σ = λ i. record {
  rows = length σ.world.rows;
  keys = length σ.token.stored;
  atoms = add-one σ.world.atoms i;
  guards = length σ.world.guarded;
}

module _ {σ : State} {t ks gs u : List ℕ} {r : Outcome} (C : Carries σ t ks gs) (few : FewAtoms σ) (M : MakesAtom (counts_of σ) r t u) where
  absent : present (fresh σ.world.atoms) σ.world.rows ≡ false
  absent = C.tidy.unmade_absent σ.world.atoms (omega arith)

  atom_appears : Appeared (fresh σ.world.atoms) σ.world.rows (answer_in (length t) (fresh σ.world.atoms) σ.world.rows) t u
  atom_appears = record {
    answer = refl;
    holds = M.holds σ.world.rows C.rows_held refl absent;
    length_kept = M.length_kept;
  }

  atom_taken : r ≡ took_of (one_atom (counts_of σ)) (answer_in (length t) (fresh σ.world.atoms) σ.world.rows)
  unfolding atom_of answer_in
  atom_taken = M.answer ∙ rw absent (go (ltb (length σ.world.rows) (length t)))
    where
      go : (b : Bool) → cond b (Gave (one_row (one_atom (counts_of σ))) (length σ.world.rows)) (Full 32 (one_atom (counts_of σ)))
          ≡ took_of (one_atom (counts_of σ)) (cond b (Added (length σ.world.rows)) NoRoom)
      go true = refl
      go false = refl

  counted_atom : (ρ : Room) → ρ.rows ≡ at_most (length t) → Performs σ (new_atom ρ σ) r u ks gs
  counted_atom ρ room =
      let P =
      appears ρ room (carries_atom C) (counts_atom σ) atom_appears
      (λ e n h f. let z : n ≡ σ.world.atoms = cc in omega arith)
      (λ e. absurd (true≢false (sym e ∙ absent)))
      (omega arith)
      in
      record {
        answer = atom_taken ∙ P.answer;
        has_row = P.has_row;
        atoms_rowed = P.atoms_rowed;
        carries = P.carries;
        extends = extends_trans (extends_same σ (counted σ) refl refl refl) P.extends;
      }

-- what the code tells of the atom's row
pub atom_told : (c : Counts) {r : Option ℕ} {f g : Filled} {x : ℕ} → c.rows ≡ f.len → (f.len < length f.table.now → Pushed f x r g)
    → (length f.table.now ≤ f.len → NotPushed f r g)
    → outcome_told (rowed r) (with_rows g.len (one_atom c)) ≡ atom_of (length f.table.now) c
unfolding atom_of
atom_told c {r} {f} {g} rows with_room without_room = go (dec_lt f.len (length f.table.now))
  where
    go : Dec (f.len < length f.table.now) → outcome_told (rowed r) (with_rows g.len (one_atom c))
        ≡ cond (ltb c.rows (length f.table.now)) (Gave (one_row (one_atom c)) c.rows) (Full 32 (one_atom c))
    go (yes h) = let P = with_room h in rw (rows, lt-ltb f.len (length f.table.now) h, P.answer, P.used) refl
    go (no h) = let P = without_room (omega arith) in rw (rows, le-ltb f.len (length f.table.now) (omega arith), P.answer, P.used) refl

pub made_there : {c : Counts} {r : Outcome} {t u w : List ℕ} → MakesAtom c r t u → w ≡ u → MakesAtom c r t w
made_there M e = rw e M

pub makes_atom : {σ : State} {t ks gs u : List ℕ} {r : Outcome} {c : Counts} (ρ : Room) → ρ.rows ≡ at_most (length t) → Carries σ t ks gs
    → FewAtoms σ → c ≡ counts_of σ → MakesAtom c r t u → Performs σ (new_atom ρ σ) r u ks gs
makes_atom ρ room C few count M = counted_atom C few (rw count at M) ρ room

-- what the counts are, and the atom's row, where it got one
pub record AtomGiven (len : ℕ) (c c' : Counts) (row : ℕ) : Type 0 where
  pub room : c.rows < len
  pub rows : c'.rows ≡ c.rows + 1
  pub keys : c'.keys ≡ c.keys
  pub atoms : c'.atoms ≡ c.atoms + 1
  pub guards : c'.guards ≡ c.guards
  pub last : row ≡ c.rows

pub atom_given : {len : ℕ} {c c' : Counts} {row : ℕ} → Gave c' row ≡ atom_of len c → AtomGiven len c c' row
unfolding atom_of
atom_given {len} {c} {c'} {row} = go (ltb c.rows len) refl
  where
    go : (b : Bool) → ltb c.rows len ≡ b → Gave c' row ≡ cond b (Gave (one_row (one_atom c)) c.rows) (Full 32 (one_atom c))
        → AtomGiven len c c' row
    go true f answer =
        let counts : c' ≡ one_row (one_atom c) = cc in
        record {
          room = ltb-true c.rows len f;
          rows = ap (λ (n : Counts). n.rows) counts;
          keys = ap (λ (n : Counts). n.keys) counts;
          atoms = ap (λ (n : Counts). n.atoms) counts;
          guards = ap (λ (n : Counts). n.guards) counts;
          last = cc;
        }
    go false f answer = let z : ◌≡◌ {A = ℕ} 0 1 = cc in absurd (omega arith)
