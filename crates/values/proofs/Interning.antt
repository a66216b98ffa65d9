-- What a search for a number comes to, and one that is put into the next place, in the words of the definitions.
-- Assumes nothing.
use Prim.Native.Nat.{ℕ, ◌+◌, ◌≤◌, ◌<◌}
use mathlib.Core.Path.{◌≡◌, refl, ◌∙◌}
use mathlib.Core.Bool.{Bool, true, false, cond}
use native.Mathlib.Omega.{arith}
use native.Mathlib.Decide.{dec_lt}
use lib.Dec.{eqb, ltb}
use lib.ListN.{length, take}
use lib.Seq.{length-take-le}
use borrow.Author.Tests.{lt-ltb, le-ltb}
use Rattle.std.specs.Prelude.{Option, Some, None, position}
use Rattle.model.specs.Basics.{index_by}
use Rattle.values.specs.Filled.{Pushed, NotPushed}
use Rattle.values.specs.Interned.{Found, Added, interned_told, count_after}
use Rattle.values.specs.Interning.{add_answer, add_table, intern_answer, intern_table, Stored, InternsIn}
use Rattle.values.specs.declared.Filled.{Filled}
use Rattle.values.proofs.Index.{position_by_index}

pub told_found : (i n : ℕ) → interned_told (Some i) n n ≡ Found i
told_found i n = rw (le-ltb n n (omega arith))

-- a number in the next place, or none
pub record StoredIn (before : Filled) (x : ℕ) (r : Option ℕ) (exit : Filled) : Type 0 where
  pub stored : Stored before.table.now before.len x (interned_told r before.len exit.len) exit.table.now
  pub counted : exit.len ≡ count_after (interned_told r before.len exit.len) before.len

pub stored_by_push : {t : Filled} {x : ℕ} {r : Option ℕ} {u : Filled} → (t.len < length t.table.now → Pushed t x r u)
    → (length t.table.now ≤ t.len → NotPushed t r u) → StoredIn t x r u
unfolding add_answer add_table
stored_by_push {t} {x} {r} {u} room full = go (dec_lt t.len (length t.table.now))
  where
    go : Dec (t.len < length t.table.now) → StoredIn t x r u
    go (yes h) =
        let p = room h in
        let told : interned_told r t.len u.len ≡ Added t.len = rw (p.answer, p.used, lt-ltb t.len (t.len + 1) (omega arith)) in
        record {
          stored = record { answer = rw (told, lt-ltb _ _ h); table = rw (lt-ltb _ _ h) p.table };
          counted = rw told p.used;
        }
    go (no h) =
        let p = full (omega arith) in
        let none = le-ltb t.len (length t.table.now) (omega arith) in
        rw p.answer (record { stored = record { answer = rw none; table = rw none p.table }; counted = p.used })

-- where the number stands among the first ones
abbrev place : Filled → ℕ → ℕ
place t x = index_by (eqb x) (take t.len t.table.now)

module _ (t : Filled) (x : ℕ) where
  place_is : position (eqb x) (take t.len t.table.now) ≡ cond (ltb (place t x) t.len) (Some (place t x)) None
  place_is = position_by_index (eqb x) (take t.len t.table.now) ∙ rw (length-take-le t.len t.table.now t.fits)

  -- the search finds the number
  pub interns_found : {i : ℕ} → Some i ≡ position (eqb x) (take t.len t.table.now) → InternsIn t x (Some i) t
  unfolding intern_answer intern_table
  interns_found {i} e = go (ltb (place t x) t.len) refl (e ∙ place_is)
    where
      go : (b : Bool) → ltb (place t x) t.len ≡ b → Some i ≡ cond b (Some (place t x)) None → InternsIn t x (Some i) t
      go true h f =
          let at : i ≡ place t x = cc in
          record {
            interns = record { answer = told_found i t.len ∙ rw (h, at); table = rw h };
            counted = rw (told_found i t.len);
          }
      go false h f = let z : ◌≡◌ {A = ℕ} 0 1 = cc in absurd (omega arith)

  -- the search finds nothing, and the number gets the next place
  pub interns_added : None ≡ position (eqb x) (take t.len t.table.now) → {r : Option ℕ} {u : Filled} → StoredIn t x r u → InternsIn t x r u
  unfolding intern_answer intern_table
  interns_added e {r} {u} s = go (ltb (place t x) t.len) refl (e ∙ place_is)
    where
      go : (b : Bool) → ltb (place t x) t.len ≡ b → None ≡ cond b (Some (place t x)) None → InternsIn t x r u
      go true h f = let z : ◌≡◌ {A = ℕ} 0 1 = cc in absurd (omega arith)
      go false h f = record {
        interns = record { answer = rw h s.stored.answer; table = rw h s.stored.table };
        counted = s.counted;
      }
