-- The search for a handle, in the words of the definitions; the same of a table of which the first places alone are lent. And a found
-- key's template.
-- Assumes nothing.
use Prim.Native.Nat.{ℕ, ◌≤◌, ◌<◌}
use mathlib.Core.Path.{◌≡◌, refl, sym, ap, ◌∙◌}
use mathlib.Core.Bool.{Bool, true, false, cond}
use mathlib.Core.List.{List, map}
use native.Mathlib.Omega.{arith}
use borrow.Author.Tests.{ltb-true}
use lib.Dec.{eqb, ltb}
use lib.ListN.{length, get_or, take}
use lib.Seq.{get_or-take, take-take, take-length, length-take-le}
use Rattle.std.specs.Prelude.{Option, Some, None, position}
use Rattle.std.specs.List.{position_or_len}
use Rattle.std.proofs.lemmas.List.{take-map}
use Rattle.std.proofs.lemmas.List.Recursion.{is_position_or_len}
use Rattle.model.specs.Basics.{index_by}
use Rattle.keys.specs.Stored.{handle_of, record_of, stored_of}
use Rattle.keys.specs.declared.KeyRecord.{KeyRecord}

-- the place that is sought among the first n
abbrev place : List ℕ → ℕ → ℕ → ℕ
place keys n x = index_by (eqb x) (take n (map handle_of keys))

-- the library's word for it, where that is among all
place_of_all : (keys : List ℕ) (x : ℕ) → place keys (length keys) x ≡ position_or_len (λ code. eqb x (handle_of code)) keys
unfolding index_by
place_of_all keys x =
    ap (index_by (eqb x)) (take-map handle_of (length keys) keys ∙ ap (map handle_of) (take-length keys))
    ∙ is_position_or_len (λ l. index_by (eqb x) (map handle_of l)) (λ code. eqb x (handle_of code)) refl
    (λ code l. ap (cond (eqb x (handle_of code)) 0) (omega arith)) keys

-- the key at the place where the search ends, or none
abbrev record_told : List ℕ → Option ℕ → Option KeyRecord
record_told keys (Some i) = Some (record_of (get_or keys i 0))
record_told keys None = None

pub stored_by_place : (keys : List ℕ) (x : ℕ) {o : Option ℕ} → o ≡ position (λ code. eqb x (handle_of code)) keys
    → record_told keys o ≡ stored_of keys (length keys) x
unfolding stored_of
stored_by_place keys x e = rw (e, ← place_of_all keys x) (go (ltb (place keys (length keys) x) (length keys)))
  where
    go : (b : Bool) → record_told keys (cond b (Some (place keys (length keys) x)) None)
        ≡ cond b (Some (record_of (get_or keys (place keys (length keys) x) 0))) None
    go true = refl
    go false = refl

-- what is said of the first n keys, lent alone, is what is said of the table with the count n
pub stored_in_first : (keys : List ℕ) (n x : ℕ) → n ≤ length keys → stored_of (take n keys) (length (take n keys)) x ≡ stored_of keys n x
unfolding stored_of
stored_in_first keys n x fits = rw (length-take-le n keys fits, same_place) (go (ltb (place keys n x) n) refl)
  where
    same_place : place (take n keys) n x ≡ place keys n x
    same_place =
        ap (index_by (eqb x))
        (take-map handle_of n (take n keys) ∙ ap (map handle_of) (take-take n n keys (omega arith)) ∙ sym (take-map handle_of n keys))

    go : (b : Bool) → ltb (place keys n x) n ≡ b
        → cond b (Some (record_of (get_or (take n keys) (place keys n x) 0))) None
        ≡ cond b (Some (record_of (get_or keys (place keys n x) 0))) None
    go true e = ap (λ code. Some (record_of code)) (get_or-take n keys (place keys n x) 0 (ltb-true (place keys n x) n e))
    go false e = refl

pub template_below_64 : (keys : List ℕ) (n x : ℕ) (r : KeyRecord) → stored_of keys n x ≡ Some r → r.template < 64
unfolding stored_of
template_below_64 keys n x r = go (ltb (place keys n x) n) (get_or keys (place keys n x) 0)
  where
    go : (b : Bool) (code : ℕ) → cond b (Some (record_of code)) None ≡ Some r → r.template < 64
    go true code e =
        let t : record_of code ≡ r = cc in
        let same = ap (λ (q : KeyRecord). q.template) t in
        omega arith
    go false code e =
        let z : ◌≡◌ {A = ℕ} 0 1 = cc in
        omega arith
