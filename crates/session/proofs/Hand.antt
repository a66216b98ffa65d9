-- The values in hand, marked by their rows: the table of marks answers whether a row's value is that of a finished line.
-- Assumes nothing.
use Prim.Native.Nat.{ℕ, suc, ◌≤◌, ◌<◌}
use mathlib.Core.Path.{◌≡◌, refl, sym, ap, ◌∙◌}
use mathlib.Core.Bool.{Bool, true, false, ◌||◌, or-false, or_comm}
use mathlib.Core.List.{List, [], ◌∷◌, ◌++◌, map}
use native.Mathlib.Omega.{arith}
use native.Mathlib.Decide.{ℕ_discrete, dec_lt}
use lib.Dec.{T}
use lib.ListN.{length, get_or, set, length-append, length-set, get_or-append}
use lib.Seq.{get_or-set_same, get_or-set_other}
use Rattle.std.proofs.Common.{Option}
use Rattle.model.specs.Basics.{All, index_by, some}
use Rattle.model.specs.Value.{Value, const, same, is_const, row_of, present, value_at}
use Rattle.model.specs.Session.{Outcome, value, none, is_value, in_hand, breached}
use Rattle.model.proofs.Lists.{all_map, all_snoc, none_passes}
use Rattle.model.specs.Tables.{Rows}
use Rattle.values.proofs.Present.{same_itself, same_is_equal, present_means_below, value_at_its_row, row_kept, present_kept}
use Rattle.values.proofs.Rows.{row_at}
use Rattle.line.specs.Lined.{RowIs}
use Rattle.session.specs.Sessioned.{breached_by, hand_after}
use Rattle.session.proofs.Marks.{some_cons}

-- ---- tests on lists

pub some_snoc : {A : Type 0} (q : A → Bool) (xs : List A) (x : A) → some q (xs ++ x ∷ []) ≡ (some q xs || q x)
unfolding index_by
some_snoc q [] x = some_cons q x [] ∙ or-false (q x)
some_snoc q (y ∷ ys) x = some_cons q y (ys ++ x ∷ []) ∙ rw (some_snoc q ys x, some_cons q y ys) (grouped (q y) (some q ys) (q x))
  where
    grouped : (a b c : Bool) → (a || (b || c)) ≡ ((a || b) || c)
    grouped true b c = refl
    grouped false b c = refl

pub some_map : {A B : Type 0} (q : B → Bool) (f : A → B) (xs : List A) → some q (map f xs) ≡ some (λ a. q (f a)) xs
unfolding index_by
some_map q f [] = refl
some_map q f (x ∷ xs) = some_cons q (f x) (map f xs) ∙ rw (some_map q f xs) (sym (some_cons (λ a. q (f a)) x xs))

pub some_agrees : {A : Type 0} (q r : A → Bool) (d : A) (xs : List A) → ((i : ℕ) → i < length xs → q (get_or xs i d) ≡ r (get_or xs i d))
    → some q xs ≡ some r xs
unfolding index_by
some_agrees q r d [] f = refl
some_agrees q r d (x ∷ xs) f =
    some_cons q x xs ∙ rw (f 0 (omega arith), some_agrees q r d xs (λ i h. f (suc i) (omega arith))) (sym (some_cons r x xs))

-- ---- the marks

-- the value of an outcome has a row
abbrev pub HasPlace : List Value → Outcome → Type 0
HasPlace rows (value v) = present v rows ≡ true
HasPlace rows none = Unit {0}

pub record Hand (hand : List Bool) (rows : List Value) (os : List Outcome) : Type 0 where
  pub long : length hand ≡ 4096
  pub marked : (r : ℕ) → r < length rows → get_or hand r false ≡ some (is_value (value_at rows r)) os
  pub unmarked : (r : ℕ) → length rows ≤ r → get_or hand r false ≡ false
  pub known : All (HasPlace rows) os

place_kept : (rows ws : List Value) (o : Outcome) → HasPlace rows o → HasPlace (rows ++ ws) o
place_kept rows ws (value v) h = present_kept v rows ws h
place_kept rows ws none h = tt

true_of : (b : Bool) → T b → b ≡ true
true_of true t = refl
true_of false t = absurd t

false_of : (b : Bool) → (T b → ⊥) → b ≡ false
false_of true f = absurd (f tt)
false_of false f = refl

-- a new row's value is no finished line's
new_value_unmet : (rows ws : List Value) → Rows (rows ++ ws) → (r : ℕ) → length rows ≤ r → r < length (rows ++ ws) → (o : Outcome)
    → HasPlace rows o
    → T (is_value (value_at (rows ++ ws) r) o) → ⊥
new_value_unmet rows ws R r old new (value v) h t =
    let e : value_at (rows ++ ws) r ≡ v = same_is_equal _ v (true_of (same (value_at (rows ++ ws) r) v) t) in
    let row : row_of v (rows ++ ws) ≡ r = ap (λ x. row_of x (rows ++ ws)) (sym e) ∙ row_at R r new in
    omega (arith, row_kept v rows ws h, present_means_below v rows h)
new_value_unmet rows ws R r old new none h t = t

-- rows may grow
pub hand_grown : (hand : List Bool) (rows ws : List Value) (os : List Outcome) → Hand hand rows os → Rows (rows ++ ws)
    → Hand hand (rows ++ ws) os
hand_grown hand rows ws os h R = record {
  long = h.long;
  marked = λ r l. go r l (dec_lt r (length rows));
  unmarked = λ r l. h.unmarked r (omega (arith, length-append rows ws));
  known = all_map (HasPlace rows) (HasPlace (rows ++ ws)) (place_kept rows ws) os h.known;
}
  where
    go : (r : ℕ) → r < length (rows ++ ws) → Dec (r < length rows) → get_or hand r false ≡ some (is_value (value_at (rows ++ ws) r)) os
    go r l (yes old) = rw (get_or-append rows ws (const 0) r old) (h.marked r old)
    go r l (no new) =
        rw (h.unmarked r (omega arith))
        (sym (false_of (some (is_value (value_at (rows ++ ws) r)) os)
        (none_passes (HasPlace rows) (is_value (value_at (rows ++ ws) r)) (new_value_unmet rows ws R r (omega arith) l) os h.known)))

-- one more line, with a value
module _ (hand : List Bool) (rows : List Value) (os : List Outcome) (v : Value) (h : Hand hand rows os) (R : Rows rows)
    (few : length rows ≤ 4096) (there : present v rows ≡ true) where
  abbrev row : ℕ
  row = row_of v rows

  below : row < length rows
  below = present_means_below v rows there

  marked_after : (r : ℕ) → r < length rows → Dec (r ≡ row)
      → get_or (set hand row true) r false ≡ some (is_value (value_at rows r)) (os ++ value v ∷ [])
  marked_after r l (yes q) =
      let at : value_at rows r ≡ v = ap (value_at rows) q ∙ value_at_its_row v rows there in
      let marks = get_or-set_same hand row true false (omega (arith, below, h.long)) in
      rw (some_snoc (is_value (value_at rows r)) os (value v), at, q, marks, same_itself v)
      (sym (or_comm (some (is_value v) os) true))
  marked_after r l (no q) =
      let differ : same (value_at rows r) v ≡ false = false_of (same (value_at rows r) v)
      (λ t. q (sym (row_at R r l) ∙ ap (λ x. row_of x rows) (same_is_equal (value_at rows r) v (true_of (same (value_at rows r) v) t)))) in
      let before = some (is_value (value_at rows r)) os in
      rw (some_snoc (is_value (value_at rows r)) os (value v), differ, get_or-set_other hand row r true false q, or-false before)
      (h.marked r l)

  value_in_hand : Hand (set hand row true) rows (os ++ value v ∷ [])
  value_in_hand = record {
    long = length-set hand row true ∙ h.long;
    marked = λ r l. marked_after r l (ℕ_discrete r row);
    unmarked = λ r l. get_or-set_other hand row r true false (λ q. omega (arith, below)) ∙ h.unmarked r l;
    known = all_snoc (HasPlace rows) os (value v) h.known there;
  }

-- one more line
pub hand_is_after : {hand : List Bool} {rows : List Value} {os : List Outcome} (o : Outcome) (row : Option ℕ) → Hand hand rows os
    → Rows rows
    → length rows ≤ 4096 → RowIs rows o row → Hand (hand_after hand row) rows (os ++ o ∷ [])
hand_is_after {hand} {rows} {os} (value v) row h R few e = rw e.1 (value_in_hand hand rows os v h R few e.0)
hand_is_after {hand} {rows} {os} none row h R few e =
    rw e
    (record {
      long = h.long;
      marked = λ r l. h.marked r l ∙ sym (some_snoc (is_value (value_at rows r)) os none ∙ or-false (some (is_value (value_at rows r)) os));
      unmarked = h.unmarked;
      known = all_snoc (HasPlace rows) os none h.known tt;
    })

-- ---- the breach mark of the model, from the guarded rows

pub breach_is : (hand : List Bool) (guards : List ℕ) (rows guarded : List Value) (os : List Outcome) → Hand hand rows os
    → map (value_at rows) guards ≡ guarded → ((i : ℕ) → i < length guards → get_or guards i 0 < length rows)
    → breached_by rows hand guards ≡ breached guarded os
unfolding breached_by
breach_is hand guards rows guarded os h e below =
    some_agrees (λ g. get_or hand g false || is_const (value_at rows g)) (λ g. in_hand os (value_at rows g)) 0 guards
    (λ i l. rw (h.marked (get_or guards i 0) (below i l))
    (or_comm (some (is_value (value_at rows (get_or guards i 0))) os) (is_const (value_at rows (get_or guards i 0)))))
    ∙ sym (some_map (in_hand os) (value_at rows) guards)
    ∙ ap (λ x. some (in_hand os) x) e
