-- Laws of lines and digits: what a byte is worth, how the pairs at the front of the rest tell the first line, what the loop over the
-- pairs keeps, and what a caller knows of lines.
-- Assumes nothing.
use Prim.Native.Nat.{ℕ, zero, suc, ◌+◌, ◌-◌, ◌*◌, ◌/◌, ◌≤◌, ◌<◌, min}
use mathlib.Core.Path.{◌≡◌, refl, sym, ap, ◌∙◌, subst}
use mathlib.Core.Bool.{Bool, true, false, cond, ◌&&◌, and-false, and-true}
use mathlib.Core.List.{List, [], ◌∷◌}
use native.Mathlib.Nat.{zero-lt-suc}
use native.Mathlib.Numerals.{add-one, add-two}
use native.Mathlib.Omega.{arith}
use lib.ListN.{length, get_or, take, drop, set, length-set, length-drop}
use lib.Seq.{drop-cons, take_all, take-suc-set, take-suc, take-take, length-take-le, drop-drop}
use lib.Dec.{T, eqb, ltb, leb, eqb→eq, ltb→lt, lit<}
use borrow.Author.Tests.{lt-ltb, le-ltb, ne_eqb}
use Rattle.std.specs.Prelude.{Option, Some, None}
use Rattle.model.specs.Basics.{up_from}
use Rattle.model.specs.Text.{newline, TextLine, on_first, lines_of, digit_value, is_digit, in_pairs, well_written, bytes_of}
use Rattle.model.proofs.Tests.{and_left, and_right, every_in_range}
use Rattle.text.specs.Scan.{taken, after, scanned, pairs_in, starts_with_newline, PairsAre, ScanIs}
use Rattle.text.specs.declared.Scanned.{Scanned}

-- ---- what a byte is worth: a test of each byte that antt computes

abbrev pub worth : ℕ → ℕ
worth b = cond (leb 48 b && leb b 57) (b - 48) (cond (leb 97 b && leb b 102) (b - 97 + 10) 16)

pub byte_worth : (b : ℕ) → b < 256 → digit_value b ≡ worth b
unfolding digit_value up_from
byte_worth b h =
    sym (eqb→eq (worth b) (digit_value b) (every_in_range (λ x. eqb (worth x) (digit_value x)) 0 256 tt b (omega arith) (omega arith)))

-- ---- pairs of digits

first_pair : (x y : ℕ) (p : List ℕ) → T (in_pairs (x ∷ y ∷ p)) → T (is_digit x) × T (is_digit y) × T (in_pairs p)
unfolding in_pairs
first_pair x y p t =
    let both = and_left (is_digit x && is_digit y) (in_pairs p) t in
    (and_left (is_digit x) (is_digit y) both, and_right (is_digit x) (is_digit y) both, and_right (is_digit x && is_digit y) (in_pairs p) t)

-- two digits a byte
bytes_between : (p : List ℕ) → (2 * length (bytes_of p) ≤ length p) × (length p < 2 * length (bytes_of p) + 2)
unfolding bytes_of
bytes_between [] = omega arith
bytes_between (x ∷ []) = omega arith
bytes_between (x ∷ y ∷ p) = let more = bytes_between p in omega arith

-- the pair at a place decides with those after it, and is one of the bytes
drop_two : (s : List ℕ) (i : ℕ) → i + 1 < length s → drop i s ≡ get_or s i 0 ∷ get_or s (i + 1) 0 ∷ drop (i + 2) s
drop_two s i h =
    let a : i < length s = omega arith in
    let b : suc i < length s = omega arith in
    rw (add-one, add-two, drop-cons s i 0, drop-cons s (suc i) 0)

-- the byte of the pair at i
abbrev pub pair_at : List ℕ → ℕ → ℕ
pair_at p i = 16 * digit_value (get_or p (2 * i) 0) + digit_value (get_or p (2 * i + 1) 0)

byte_there : (p : List ℕ) (i : ℕ) → 2 * i + 1 < length p → get_or (bytes_of p) i 0 ≡ pair_at p i
unfolding bytes_of
byte_there [] i h = absurd (omega arith)
byte_there (x ∷ []) i h = absurd (omega arith)
byte_there (x ∷ y ∷ p) zero h = refl
byte_there (x ∷ y ∷ p) (suc i) h =
    let e : 2 * suc i ≡ suc (suc (2 * i)) = omega arith in
    let f : 2 * suc i + 1 ≡ suc (suc (2 * i + 1)) = omega arith in
    rw (f, e) (byte_there p i (omega arith))

-- the bytes of the first pairs are the first bytes
bytes_of_front : (n : ℕ) (s : List ℕ) → bytes_of (take (2 * n) s) ≡ take n (bytes_of s)
unfolding bytes_of
bytes_of_front zero s = refl
bytes_of_front (suc n) [] = let e : 2 * suc n ≡ suc (suc (2 * n)) = omega arith in rw e
bytes_of_front (suc n) (x ∷ []) = let e : 2 * suc n ≡ suc (suc (2 * n)) = omega arith in rw e
bytes_of_front (suc n) (x ∷ y ∷ s) =
    let e : 2 * suc n ≡ suc (suc (2 * n)) = omega arith in
    rw (e, bytes_of_front n s)

pairs_fit : (s : List ℕ) → 2 * pairs_in s ≤ length s
unfolding pairs_in
pairs_fit [] = omega arith
pairs_fit (x ∷ []) = omega arith
pairs_fit (x ∷ y ∷ s) = by (is_digit x && is_digit y) (pairs_fit s)
  where
    by : (b : Bool) → 2 * pairs_in s ≤ length s → 2 * cond b (suc (pairs_in s)) 0 ≤ length (x ∷ y ∷ s)
    by true h = omega arith
    by false h = omega arith

-- a part too short for a pair has none
no_pairs : (s : List ℕ) → length s < 2 → pairs_in s ≡ 0
unfolding pairs_in
no_pairs [] h = refl
no_pairs (x ∷ []) h = refl
no_pairs (x ∷ y ∷ s) h = absurd (omega arith)

-- ---- the first line, by the pairs at the front and the byte after them

both_true : (a b : Bool) → a && b ≡ true → (a ≡ true) × (b ≡ true)
both_true true b e = (refl, e)
both_true false b e = absurd (let z : ◌≡◌ {A = ℕ} 0 1 = cc in omega arith)

digit_no_newline : (x : ℕ) → is_digit x ≡ true → eqb x newline ≡ false
unfolding digit_value
digit_no_newline x t = ne_eqb x newline (λ e. absurd (subst (λ (k : ℕ). T (is_digit k)) e (rw t tt)))

abbrev pub after_pairs : List ℕ → List ℕ
after_pairs s = drop (2 * pairs_in s) s

-- whether the first line, if there is one, has its newline and is in pairs of digits
abbrev starts_well : List TextLine → Bool
starts_well [] = false
starts_well (l ∷ ls) = l.ended && in_pairs l.body

-- where the first two bytes are no pair, only a newline at once starts well
module _ (x y : ℕ) (s : List ℕ) (none : is_digit x && is_digit y ≡ false) where
  no_pair_tells : starts_well (lines_of (x ∷ y ∷ s)) ≡ eqb x newline
  unfolding lines_of in_pairs
  no_pair_tells = by (eqb x newline) (eqb y newline) (lines_of s)
    where
      by : (b c : Bool) (ts : List TextLine)
          → starts_well (cond b (record { body = []; ended = true } ∷ cond c (record { body = []; ended = true } ∷ ts) (on_first y ts))
          (on_first x (cond c (record { body = []; ended = true } ∷ ts) (on_first y ts)))) ≡ b
      by true c ts = refl
      by false true ts = refl
      by false false [] = refl
      by false false (l ∷ ls) = rw (none, and-false l.ended)

pairs_tell : (s : List ℕ) → starts_well (lines_of s) ≡ starts_with_newline (after_pairs s)
unfolding lines_of in_pairs pairs_in
pairs_tell [] = refl
pairs_tell (x ∷ []) = by (eqb x newline)
  where
    by : (b : Bool) → starts_well (cond b (record { body = []; ended = true } ∷ []) (record { body = x ∷ []; ended = false } ∷ [])) ≡ b
    by true = refl
    by false = refl
pairs_tell (x ∷ y ∷ s) = by (is_digit x) (is_digit y) refl refl (pairs_tell s)
  where
    passed : (ts : List TextLine) → is_digit x ≡ true → is_digit y ≡ true → starts_well (on_first x (on_first y ts)) ≡ starts_well ts
    passed [] a b = refl
    passed (l ∷ ls) a b = rw (a, b)

    by : (a b : Bool) → is_digit x ≡ a → is_digit y ≡ b → starts_well (lines_of s) ≡ starts_with_newline (after_pairs s)
        → starts_well (lines_of (x ∷ y ∷ s)) ≡ starts_with_newline (after_pairs (x ∷ y ∷ s))
    by true true p q later =
        let two : 2 * suc (pairs_in s) ≡ suc (suc (2 * pairs_in s)) = omega arith in
        rw (digit_no_newline x p, digit_no_newline y q, p, q, two) (passed (lines_of s) p q ∙ later)
    by true false p q later = rw (p, q) (no_pair_tells x y s (rw (p, q)))
    by false b p q later = rw p (no_pair_tells x y s (rw p))

-- a newline after the pairs ends the first line there
line_of_pairs : (s : List ℕ) → starts_with_newline (after_pairs s) ≡ true
    → lines_of s ≡ record { body = take (2 * pairs_in s) s; ended = true } ∷ lines_of (drop (suc (2 * pairs_in s)) s)
unfolding lines_of in_pairs pairs_in
line_of_pairs [] e = absurd (let z : ◌≡◌ {A = ℕ} 0 1 = cc in omega arith)
line_of_pairs (x ∷ []) e = rw e
line_of_pairs (x ∷ y ∷ s) e = by (is_digit x && is_digit y) refl e (line_of_pairs s)
  where
    by : (b : Bool) → is_digit x && is_digit y ≡ b → starts_with_newline (after_pairs (x ∷ y ∷ s)) ≡ true
        → (starts_with_newline (after_pairs s) ≡ true
        → lines_of s ≡ record { body = take (2 * pairs_in s) s; ended = true } ∷ lines_of (drop (suc (2 * pairs_in s)) s))
        → lines_of (x ∷ y ∷ s) ≡ record { body = take (2 * pairs_in (x ∷ y ∷ s)) (x ∷ y ∷ s); ended = true }
        ∷ lines_of (drop (suc (2 * pairs_in (x ∷ y ∷ s))) (x ∷ y ∷ s))
    by true p e later =
        let two : 2 * suc (pairs_in s) ≡ suc (suc (2 * pairs_in s)) = omega arith in
        let digits = both_true (is_digit x) (is_digit y) p in
        let ends : starts_with_newline (after_pairs s) ≡ true = rw (p, two) at e in
        rw (p, two, digit_no_newline x digits.0, digit_no_newline y digits.1, later ends)
    by false p e later = let ends : eqb x newline ≡ true = rw p at e in rw (p, ends)

-- ---- what a caller knows of lines

pub lines_none : lines_of [] ≡ []
unfolding lines_of
lines_none = refl

pub record FirstLine (ts : List TextLine) : Type 0 where
  pub line : TextLine
  pub rest : List TextLine
  pub split : ts ≡ line ∷ rest

pub lines_some : (x : ℕ) (s : List ℕ) → FirstLine (lines_of (x ∷ s))
unfolding lines_of
lines_some x s = at (eqb x newline) (lines_of s)
  where
    at : (b : Bool) (ts : List TextLine) → FirstLine (cond b (record { body = []; ended = true } ∷ ts) (on_first x ts))
    at true ts = record { line = _; rest = _; split = refl }
    at false [] = record { line = _; rest = _; split = refl }
    at false (l ∷ ls) = record { line = _; rest = _; split = refl }

pub lines_at : (s : List ℕ) (i : ℕ) → i < length s → FirstLine (lines_of (drop i s))
lines_at s i h = rw (drop-cons s i 0) (lines_some (get_or s i 0) (drop (suc i) s))

module _ (l : TextLine) (t : T (well_written l)) where
  line_facts : (0 < length l.body) × T (in_pairs l.body)
  unfolding well_written
  line_facts =
      let some = ltb 0 (length l.body) in
      let both = and_left (l.ended && some) (in_pairs l.body) t in
      (ltb→lt 0 (length l.body) (and_right l.ended some both), and_right (l.ended && some) (in_pairs l.body) t)

  pub frame_some : 0 < length (bytes_of l.body)
  unfolding bytes_of in_pairs
  frame_some = some l.body line_facts.0 line_facts.1
    where
      some : (p : List ℕ) → 0 < length p → T (in_pairs p) → 0 < length (bytes_of p)
      some [] h t = h
      some (x ∷ []) h t = absurd t
      some (x ∷ y ∷ p) h t = zero-lt-suc _

  pub frame_bytes : (j : ℕ) → get_or (bytes_of l.body) j 0 < 256
  unfolding bytes_of in_pairs
  frame_bytes = below l.body line_facts.1
    where
      below : (p : List ℕ) → T (in_pairs p) → (j : ℕ) → get_or (bytes_of p) j 0 < 256
      below [] t j = lit< tt
      below (x ∷ []) t j = absurd t
      below (x ∷ y ∷ p) t zero = let f = first_pair x y p t in omega (arith, ltb→lt (digit_value x) 16 f.0, ltb→lt (digit_value y) 16 f.1)
      below (x ∷ y ∷ p) t (suc j) = below p (first_pair x y p t).2 j

-- what an answer says of the line
module _ {input : List ℕ} {at : ℕ} {l : TextLine} {ls : List TextLine} {before exit : List ℕ} {r : Option Scanned}
    (is : ScanIs input at l ls r before exit) where
  pub frame_answer : {w : Scanned} → r ≡ Some w → T (well_written l) × (w.len ≡ taken (length before) l) × (w.next ≡ after at l)
  unfolding scanned
  frame_answer {w} e = by (well_written l) (record { len = taken (length before) l; next = after at l }) (sym e ∙ is.answer)
    where
      by : (b : Bool) (x : Scanned) → Some w ≡ cond b (Some x) None → T b × (w.len ≡ x.len) × (w.next ≡ x.next)
      by true x q = let same : w ≡ x = cc in (tt, rw same, rw same)
      by false x q = let z : ◌≡◌ {A = ℕ} 0 1 = cc in absurd (omega arith)

  pub broken_answer : r ≡ None → well_written l ≡ false
  unfolding scanned
  broken_answer e = by (well_written l) (record { len = taken (length before) l; next = after at l }) (sym e ∙ is.answer)
    where
      by : (b : Bool) (x : Scanned) → None ≡ cond b (Some x) None → b ≡ false
      by true x q = let z : ◌≡◌ {A = ℕ} 0 1 = cc in absurd (omega arith)
      by false x q = refl

-- ---- the loop over the pairs

-- those before the i-th are pairs of digits, and the buffer holds as many of their bytes as it has room for
pub record Writing (s before frame : List ℕ) (i : ℕ) : Type 0 where
  pub count : pairs_in s ≡ i + pairs_in (drop (2 * i) s)
  pub front : take (min i (length before)) frame ≡ take (min i (length before)) (bytes_of s)
  pub length_kept : length frame ≡ length before

pub start : (s before : List ℕ) → Writing s before before 0
start s before =
    let none : min 0 (length before) ≡ 0 = omega arith in
    let same : pairs_in s ≡ 0 + pairs_in s = omega arith in
    record { count = same; front = rw none; length_kept = refl }

module _ {s before frame : List ℕ} {i : ℕ} (v : Writing s before frame i) where
  abbrev high : ℕ
  high = get_or s (2 * i) 0

  abbrev low : ℕ
  low = get_or s (2 * i + 1) 0

  -- the i-th is the first that is none
  stops : pairs_in (drop (2 * i) s) ≡ 0 → PairsAre s i before frame
  stops none = record { count = omega (arith, v.count, none); front = v.front; length_kept = v.length_kept }

  pub all_written : i ≡ length s / 2 → PairsAre s (length s / 2) before frame
  all_written all =
      subst (λ (n : ℕ). PairsAre s n before frame) all (stops (no_pairs (drop (2 * i) s) (omega (arith, length-drop (2 * i) s))))

  module _ (more : i < length s / 2) where
    pair_there : pairs_in (drop (2 * i) s) ≡ cond (is_digit high && is_digit low) (suc (pairs_in (drop (2 * (i + 1)) s))) 0
    unfolding pairs_in
    pair_there =
        let next : 2 * (i + 1) ≡ 2 * i + 2 = omega arith in
        rw (drop_two s (2 * i) (omega arith), next)

    pub no_high : 16 ≤ digit_value high → PairsAre s i before frame
    no_high h = stops (rw (pair_there, le-ltb (digit_value high) 16 h))

    pub no_low : 16 ≤ digit_value low → PairsAre s i before frame
    no_low h = stops (rw (pair_there, le-ltb (digit_value low) 16 h, and-false (is_digit high)))

    module _ (high_is : digit_value high < 16) (low_is : digit_value low < 16) where
      count_after : pairs_in s ≡ i + 1 + pairs_in (drop (2 * (i + 1)) s)
      count_after =
          let here : pairs_in (drop (2 * i) s) ≡ suc (pairs_in (drop (2 * (i + 1)) s)) =
          rw (pair_there, lt-ltb (digit_value high) 16 high_is, lt-ltb (digit_value low) 16 low_is) in
          omega (arith, v.count, here)

      pub stored : i < length frame → {b : ℕ} {frame' : List ℕ} → frame' ≡ set frame i b → b ≡ pair_at s i
          → Writing s before frame' (i + 1)
      stored room {b} e is =
          let here : min i (length before) ≡ i = omega (arith, v.length_kept) in
          let after : min (i + 1) (length before) ≡ suc i = omega (arith, v.length_kept) in
          let some : i < length (bytes_of s) = omega (arith, bytes_between s) in
          let front : take i frame ≡ take i (bytes_of s) = rw here at v.front in
          record {
            count = count_after;
            front = rw (e, after, take-suc-set frame i, take-suc (bytes_of s) i 0, front, is, byte_there s i (omega arith));
            length_kept = rw e (length-set frame i b ∙ v.length_kept);
          }

      pub full : length frame ≤ i → {frame' : List ℕ} → frame' ≡ frame → Writing s before frame' (i + 1)
      full past e =
          let same : min (i + 1) (length before) ≡ min i (length before) = omega (arith, v.length_kept) in
          record { count = count_after; front = rw (e, same) v.front; length_kept = rw e v.length_kept }

-- ---- the line, by its pairs

-- what scan_line ensures of an answer
abbrev pub Answers : List ℕ → ℕ → List ℕ → List ℕ → Option Scanned → Type 0
Answers input at before exit r =
    (l : TextLine) (ls : List TextLine) → lines_of (drop at input) ≡ l ∷ ls → ScanIs input at l ls r before exit

refused : {input : List ℕ} {at : ℕ} {l : TextLine} {ls : List TextLine} {before exit : List ℕ}
    → well_written l ≡ false → length exit ≡ length before → ScanIs input at l ls None before exit
unfolding scanned
refused e kept = record { answer = rw e; front = λ t. absurd (subst T e t); next = λ t. absurd (subst T e t); length_kept = kept }

no_body : (n : ℕ) (s : List ℕ) → ltb 0 n ≡ false → ltb 0 (length (take (2 * n) s)) ≡ false
no_body zero s e = refl
no_body (suc n) s e =
    let some : ltb 0 (suc n) ≡ true = lt-ltb 0 (suc n) (omega arith) in
    absurd (let z : ◌≡◌ {A = ℕ} 0 1 = cc in omega arith)

ill_written : (l : TextLine) (ls : List TextLine) → starts_well (l ∷ ls) ≡ false → well_written l ≡ false
unfolding well_written
ill_written l ls e = also l.ended (ltb 0 (length l.body)) (in_pairs l.body) e
  where
    also : (a b c : Bool) → a && c ≡ false → a && b && c ≡ false
    also true true c e = e
    also true false c e = refl
    also false b c e = refl

pub pairs_within : {s before exit : List ℕ} {n : ℕ} → PairsAre s n before exit → n ≤ length s
pairs_within {s = s} are = omega (arith, are.count, pairs_fit s)

-- s is the rest of the input, from the line on, and n the count of its pairs
module _ (input : List ℕ) (at : ℕ) (s : List ℕ) (rest_is : s ≡ drop at input) {n : ℕ} {before exit : List ℕ}
    (are : PairsAre s n before exit) where
  abbrev ends : Bool
  ends = starts_with_newline (drop (2 * n) s)

  count_is : starts_with_newline (after_pairs s) ≡ ends
  count_is = rw are.count

  same_lines : {l : TextLine} {ls : List TextLine} → lines_of (drop at input) ≡ l ∷ ls → lines_of s ≡ l ∷ ls
  same_lines q = rw (← rest_is) at q

  -- a newline after the pairs makes them the line
  line_is : ends ≡ true → (l : TextLine) (ls : List TextLine) → lines_of (drop at input) ≡ l ∷ ls
      → (l ≡ record { body = take (2 * n) s; ended = true }) × (ls ≡ lines_of (drop (suc (2 * n)) s))
  line_is e l ls q =
      let is = rw (← are.count) at (line_of_pairs s (count_is ∙ e)) in
      let same = same_lines q in
      (cc, cc)

  pub broken : ltb 0 n && ends ≡ false → Answers input at before exit None
  unfolding well_written
  broken e l ls q = by ends refl
    where
      by : (b : Bool) → ends ≡ b → ScanIs input at l ls None before exit
      by false stop =
          refused (ill_written l ls (ap starts_well (sym (same_lines q)) ∙ pairs_tell s ∙ count_is ∙ stop)) are.length_kept
      by true stop =
          let none : ltb 0 n ≡ false = rw (stop, and-true (ltb 0 n)) at e in
          refused (rw ((line_is stop l ls q).0, no_body n s none)) are.length_kept

  pub scanned_well : ltb 0 n && ends ≡ true → {len next : ℕ} → len ≡ min n (length exit) → next ≡ at + 2 * n + 1
      → Answers input at before exit (Some (record { len = len; next = next }))
  unfolding well_written scanned
  scanned_well good {len} {next} len_is next_is l ls q =
      let both = both_true (ltb 0 n) ends good in
      let stop : ends ≡ true = both.1 in
      let told = line_is stop l ls q in
      let fits : 2 * n ≤ length s = rw are.count (pairs_fit s) in
      let long : length (take (2 * n) s) ≡ 2 * n = length-take-le (2 * n) s fits in
      let some : 0 < 2 * n = omega (arith, ltb→lt 0 n (rw both.0 tt)) in
      let well : starts_well (l ∷ ls) ≡ true = ap starts_well (sym (same_lines q)) ∙ pairs_tell s ∙ count_is ∙ stop in
      let right : in_pairs (take (2 * n) s) ≡ true = rw told.0 at well in
      let count : length (bytes_of (take (2 * n) s)) ≡ n = omega (arith, bytes_between (take (2 * n) s), long) in
      let rest : at + 2 * n + 1 ≡ at + suc (2 * n) = omega arith in
      let taken_is : len ≡ min n (length before) = rw (← are.length_kept) len_is in
      rw told.0
      (record {
        answer = rw (long, right, lt-ltb 0 (2 * n) some, count, taken_is, next_is);
        front = λ t. rw (count, bytes_of_front n s, take-take (min n (length before)) n (bytes_of s) (omega arith)) are.front;
        next = λ t. rw (long, rest, ← (drop-drop (suc (2 * n)) at input), ← rest_is) (sym told.1);
        length_kept = are.length_kept;
      })

-- a part that goes to the end is all of the rest
pub rest_of : (at : ℕ) (input : List ℕ) → take (length input - at) (drop at input) ≡ drop at input
rest_of at input = take_all (length input - at) (drop at input) (omega (arith, length-drop at input))
