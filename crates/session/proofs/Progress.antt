-- The session line by line: what the token carries after some lines, and that the rest of the lines gives the run of the whole.
-- Assumes nothing.
use Prim.Native.Nat.{ℕ, zero, suc, ◌+◌, ◌-◌, ◌≤◌, ◌<◌}
use mathlib.Core.Path.{◌≡◌, refl, sym, ap, subst, ◌∙◌}
use mathlib.Core.Bool.{Bool, true, false, cond}
use mathlib.Core.List.{List, [], ◌∷◌, ◌++◌, map, append-nil}
use native.Mathlib.Omega.{arith}
use native.Mathlib.Decide.{dec_lt}
use Rattle.std.proofs.Common.{Err, None, Ok, Option, Result, Some}
use Rattle.std.proofs.lemmas.List.{get_or_default, map-append}
use Rattle.std.specs.Bool.{then_some}
use Rattle.std.specs.Option.{IfSome}
use lib.Dec.{T, ltb}
use lib.ListN.{length, get_or, take, drop, set, length-append, replicate, length-replicate, length-map, drop_of_length-le}
use lib.Seq.{drop-cons, length-take-le, get_or-take}
use borrow.Author.Tests.{lt-ltb, le-ltb}
use Rattle.model.specs.Basics.{index_by}
use Rattle.model.specs.Step.{Command}
use Rattle.model.specs.Value.{Value, fresh, row_of, present, value_at}
use Rattle.model.specs.Token.{State, empty, Out, gave, ended, stopped, full}
use Rattle.model.specs.Session.{Line, calls, Outcome, value, none, Finished, outcomes_of, Session, start, finished_as, finish, row_after}
use Rattle.model.specs.Session.{Run, after_line, run_line, run_from}
use Rattle.model.specs.Frame.{File}
use Rattle.model.specs.Report.{program_room, run_of, first_breach}
use Rattle.model.specs.Numbers.{full_number}
use Rattle.model.specs.Told.{ending_number, ending_place, breach_told}
use Rattle.model.specs.Tables.{Tables, zeros, padded, Rows, row_codes, key_code, outcome_code, head_code, args_code, args_of_line}
use Rattle.model.specs.Tables.{line_read, lines_read}
use Rattle.model.specs.declared.Ending.{Ending}
use Rattle.model.specs.declared.Full.{Full}
use Rattle.model.proofs.Tests.{and_left, and_right}
use Rattle.model.proofs.TypedValues.{outcomes_snoc}
use Rattle.values.proofs.Index.{index_at_most_length, index_kept_by_append, index_goes_on_after}
use Rattle.values.proofs.Held.{zeros_hold_nothing}
use Rattle.values.proofs.Padded.{set_next}
use Rattle.values.proofs.Present.{present_means_below}
use Rattle.token.specs.Carried.{room_in, counts_of, CarriedIn, PerformsIn, Stands}
use Rattle.token.specs.declared.Halt.{Halt}
use Rattle.token.specs.declared.Token.{Token}
use Rattle.line.specs.Lined.{Rowed, RowIs, finished_at, Finishing, LineGiven, LineReady}
use Rattle.line.proofs.OneArgument.{entry_of, rowed_kept, table_long}
use Rattle.line.proofs.States.{ready_where_it_stands}
use Rattle.session.specs.Sessioned.{SessionGiven, GuardsBelow, breached_by, outcome_number, RowBelow, earliest_of, SettledIs, FinishReady}
use Rattle.session.specs.Sessioned.{FinishedIs, guards_in, RanIs}
use Rattle.session.specs.declared.Session.{Session as Ran}
use Rattle.session.proofs.Hand.{Hand, hand_grown, hand_is_after, breach_is}

-- ---- the first breached line, with one line more

mark : Finished → Bool
mark f = f.breach

pub first_marked : List Finished → Option ℕ
first_marked fs = cond (ltb (index_by mark fs) (length fs)) (Some (index_by mark fs)) None

first_marked_told : (fs : List Finished) → breach_told (first_marked fs) ≡ first_breach fs
unfolding first_marked mark
first_marked_told fs = go (ltb (index_by mark fs) (length fs))
  where
    go : (b : Bool) → breach_told (cond b (Some (index_by mark fs)) None) ≡ cond b (index_by mark fs) 0xffff
    go true = refl
    go false = refl

first_marked_below : (fs : List Finished) {n : ℕ} → length fs ≤ n → IfSome (first_marked fs) (λ i. i < n)
unfolding first_marked
first_marked_below fs {n} few = go (dec_lt (index_by mark fs) (length fs))
  where
    go : Dec (index_by mark fs < length fs) → IfSome (cond (ltb (index_by mark fs) (length fs)) (Some (index_by mark fs)) None) (λ i. i < n)
    go (yes l) =
        let below : index_by mark fs < n = omega arith in
        rw (lt-ltb (index_by mark fs) (length fs) l) below
    go (no l) = rw (le-ltb (index_by mark fs) (length fs) (omega arith)) tt

last_line_decides : (n : ℕ) (b : Bool) → cond (ltb (n + cond b 0 1) (suc n)) (Some (n + cond b 0 1)) None ≡ then_some b n
last_line_decides n true =
    let e : n + 0 ≡ n = omega arith in
    rw (e, lt-ltb n (suc n) (omega arith))
last_line_decides n false = rw (le-ltb (n + 1) (suc n) (omega arith))

first_marked_after : (fs : List Finished) (f : Finished) → first_marked (fs ++ f ∷ []) ≡ earliest_of (first_marked fs) (length fs) f.breach
unfolding first_marked index_by mark
first_marked_after fs f = go (dec_lt (index_by mark fs) (length fs))
  where
    more : length (fs ++ f ∷ []) ≡ suc (length fs)
    more = length-append fs (f ∷ []) ∙ omega arith

    go : Dec (index_by mark fs < length fs) → first_marked (fs ++ f ∷ []) ≡ earliest_of (first_marked fs) (length fs) f.breach
    go (yes l) =
        let at = index_by mark fs in
        rw (index_kept_by_append mark fs (f ∷ []) l, more, lt-ltb at (length fs) l, lt-ltb at (suc (length fs)) (omega arith))
    go (no l) =
        let end : index_by mark fs ≡ length fs = omega (arith, index_at_most_length mark fs) in
        rw (index_goes_on_after mark fs (f ∷ []) end, more, end, le-ltb (length fs) (length fs) (omega arith))
        (last_line_decides (length fs) f.breach)

-- ---- what reading has seen to in each line

line_read_at : (cs : List Command) (n : ℕ) (ls : List Line) (i : ℕ) (d : Line) → T (lines_read cs n ls) → i < length ls
    → T (line_read cs (n + i) (get_or ls i d))
unfolding lines_read
line_read_at cs n [] i d t h = absurd (omega arith)
line_read_at cs n (l ∷ ls) zero d t h =
    let here : n ≡ n + 0 = omega arith in
    subst (λ (k : ℕ). T (line_read cs k l)) here (and_left (line_read cs n l) (lines_read cs (suc n) ls) t)
line_read_at cs n (l ∷ ls) (suc i) d t h =
    subst (λ (k : ℕ). T (line_read cs k (get_or ls i d))) (let e : suc n + i ≡ n + suc i = omega arith in e)
    (line_read_at cs (suc n) ls i d (and_right (line_read cs n l) (lines_read cs (suc n) ls) t) (omega arith))

-- ---- after i lines

pub record At (φ : File) (t : Token) (hand : List Bool) (outcomes : List ℕ) (i : ℕ) (first : Option ℕ) : Type 0 where
  pub session : Session
  pub stands : Stands session.state t
  pub finishing : Finishing session.finished session.state.world.rows outcomes
  pub finished_count : length session.finished ≡ i
  pub is_in_hand : Hand hand session.state.world.rows (outcomes_of session.finished)
  pub first_is : first ≡ first_marked session.finished
  pub rest : run_from program_room φ.commands (drop i φ.lines) i session ≡ run_of φ

-- the token's tables, at their lengths
pub record Long (t : Token) : Type 0 where
  pub rows : length t.rows.now ≡ 4096
  pub keys : length t.keys.now ≡ 256

absent_from_none : (n : ℕ) → present (fresh n) [] ≡ false
unfolding index_by
absent_from_none n = refl

-- nothing is used of tables that are zero
pub start_at : (φ : File) (before : Tables) (m : ℕ) (t : Token) → SessionGiven φ before m → t.rows.now ≡ before.rows
    → t.keys.now ≡ before.keys → t.guards.now ≡ zeros 256 → t.used ≡ counts_of empty
    → At φ t (replicate 4096 false) before.outcomes 0 None
unfolding padded index_by first_marked
start_at φ before m t g rows keys guards unused =
    let rows_zero : t.rows.now ≡ zeros 4096 = rows ∙ g.rows_zero in
    let keys_zero : t.keys.now ≡ zeros 256 = keys ∙ g.keys_zero in
    let rows_long : length t.rows.now ≡ 4096 = ap length rows_zero ∙ length-replicate {A = ℕ} 4096 0 in
    let keys_long : length t.keys.now ≡ 256 = ap length keys_zero ∙ length-replicate {A = ℕ} 256 0 in
    let guards_long : length t.guards.now ≡ 256 = ap length guards ∙ length-replicate {A = ℕ} 256 0 in
    record {
      session = start;
      stands = record {
        carries = record {
          tidy = record {
            unmade_absent = λ n l. absent_from_none n;
            handle_present = λ i l. absurd (omega arith);
            key_present = λ i l. absurd (omega arith);
            template_byte = λ i l. absurd (omega arith);
            guarded_present = λ i l. absurd (omega arith);
            few_guards = omega arith;
          };
          rows_held = zeros_hold_nothing (rows_zero ∙ ap zeros (sym rows_long)) (omega arith);
          keys_are = keys_zero ∙ ap (λ k. zeros k) (let e : 256 ≡ length t.keys.now - 0 = omega arith in e);
          keys_fit = omega arith;
          guards_are = refl;
          guards_have_rows = λ i l. absurd (omega arith);
          guards_fit = omega arith;
        };
        few_atoms = omega arith;
        counts_are = unused;
      };
      finishing = record {
        codes_are = g.outcomes_zero;
        few = omega arith;
        rowed = λ i l. absurd (omega arith);
        keys_small = λ i l. absurd (omega arith);
      };
      finished_count = refl;
      is_in_hand = record {
        long = length-replicate {A = Bool} 4096 false;
        marked = λ r l. absurd (omega arith);
        unmarked = λ r l. none_anywhere 4096 r;
        known = tt;
      };
      first_is = refl;
      rest = refl;
    }
  where
    none_anywhere : (k r : ℕ) → get_or (replicate k false) r false ≡ false
    none_anywhere zero r = refl
    none_anywhere (suc k) zero = refl
    none_anywhere (suc k) (suc r) = none_anywhere k r

-- ---- line i is given to the code that runs it

abbrev no_line : Line
no_line = calls 0 []

module _ {φ : File} {before : Tables} {t : Token} {hand : List Bool} {outcomes : List ℕ} {i m : ℕ} {first : Option ℕ}
    (at : At φ t hand outcomes i first) (g : SessionGiven φ before m) (long : Long t) (more : i < m) where
  abbrev s : Session
  s = at.session

  abbrev l : Line
  l = get_or φ.lines i no_line

  within : i < length φ.lines
  within = let e = g.lines_counted in omega arith

  pub line_given : LineGiven s.state φ.commands s.finished l t outcomes before.commands before.steps
      (get_or before.heads i 0) (get_or before.arguments i 0)
  line_given = record {
    stands = at.stands;
    finishing = at.finishing;
    few_commands = g.well_read.few_commands;
    commands_read = g.well_read.commands_read;
    line_is_read =
        let lines : 0 + i ≡ length s.finished = omega (arith, at.finished_count) in
        subst (λ (k : ℕ). T (line_read φ.commands k l)) lines
        (line_read_at φ.commands 0 φ.lines i no_line g.well_read.lines_well_read within);
    commands_are = g.held.commands_are;
    steps_are = g.held.steps_are;
    head_is = entry_of head_code 1024 φ.lines g.held.heads_are within no_line;
    args_are = entry_of (λ x. args_code (args_of_line x)) 1024 φ.lines g.held.arguments_are within no_line;
  }

  pub line_ready : LineReady t outcomes before.commands before.steps (get_or before.heads i 0) (get_or before.arguments i 0)
  line_ready = record {
    σ = s.state;
    cs = φ.commands;
    fs = s.finished;
    l = l;
    given = line_given;
    ready = ready_where_it_stands at.stands (omega (arith, long.rows)) (omega (arith, long.keys));
  }

  -- the outcome of the model, in the program's room
  abbrev pub out : Out
  out = run_line (room_in t) φ.commands s.finished l s.state

  room_is : room_in t ≡ program_room
  room_is = rw (long.rows, long.keys)

  -- the whole, from this line's outcome on
  pub line_decides : after_line out i s (λ s'. run_from program_room φ.commands (drop (suc i) φ.lines) (suc i) s') ≡ run_of φ
  unfolding run_from
  line_decides =
      let split : drop i φ.lines ≡ l ∷ drop (suc i) φ.lines = drop-cons φ.lines i no_line within in
      let whole = rw split at at.rest in
      rw room_is whole

-- ---- what came of the line

-- it is finished: with an outcome, in a state that the token carries
pub record LineDone (s : Session) (i : ℕ) (out : Out) (row : Option ℕ) (t : Token) : Type 0 where
  pub outcome : Outcome
  pub left : State
  pub stands : Stands left t
  pub new_rows : List Value
  pub rows_grown : left.world.rows ≡ s.state.world.rows ++ new_rows
  pub row_is : RowIs left.world.rows outcome row
  pub goes_on : (rest : Session → Run) → after_line out i s rest ≡ rest (finish outcome left s)

line_stopped : (s : Session) (i : ℕ) (out : Out) (row : Option ℕ) (t : Token) → Stands s.state t
    → ◌≡◌ {A = Result (Option ℕ) ℕ} (Ok row) (Ok None) → ((rest : Session → Run) → after_line out i s rest ≡ rest (finish none s.state s))
    → LineDone s i out row t
line_stopped s i out row t S same on = record {
  outcome = none;
  left = s.state;
  stands = S;
  new_rows = [];
  rows_grown = sym (append-nil s.state.world.rows);
  row_is = cc;
  goes_on = on;
}

module _ {s : Session} {t₀ : Token} (S : Stands s.state t₀) (i : ℕ) (o : Result ℕ Halt) (t t' : Token) where
  pub line_done : (out : Out) {row : Option ℕ} → PerformsIn s.state out o t → SettledIs s.state out (Ok row) t' → LineDone s i out row t'
  line_done (ended v σ) {row} p h =
      let same : ◌≡◌ {A = Result (Option ℕ) ℕ} (Ok row) (Ok (Some (row_of v σ.world.rows))) = h.answer in
      record {
        outcome = value v;
        left = σ;
        stands = record { carries = h.carries; few_atoms = p.atoms_rowed; counts_are = h.counts_are };
        new_rows = p.extends.new_rows;
        rows_grown = p.extends.rows_grown;
        row_is = (p.has_row, (cc));
        goes_on = λ rest. refl;
      }
  line_done (gave v σ) {row} p h =
      line_stopped s i (gave v σ) row t'
      (record { carries = h.carries; few_atoms = S.few_atoms; counts_are = h.counts_are })
      h.answer
      (λ rest. refl)
  line_done (stopped σ) {row} p h =
      line_stopped s i (stopped σ) row t'
      (record { carries = h.carries; few_atoms = S.few_atoms; counts_are = h.counts_are })
      h.answer
      (λ rest. refl)
  line_done (full n σ) {row} p h =
      let same : ◌≡◌ {A = Result (Option ℕ) ℕ} (Ok row) (Err n) = h.answer in
      absurd (let z : ◌≡◌ {A = ℕ} 0 1 = cc in omega arith)

-- or it met an ending, and the state before it stays
pub record LineOver (s : Session) (i : ℕ) (out : Out) (f : Full) (t : Token) : Type 0 where
  pub carries : CarriedIn s.state t
  pub ends : (rest : Session → Run) → after_line out i s rest ≡ record { session = s; ending = full_number f; place = i }

pub line_over : (s : Session) (i : ℕ) (out : Out) (f : Full) (t : Token) → SettledIs s.state out (Err f) t → LineOver s i out f t
line_over s i (ended v σ) f t h =
    let same : ◌≡◌ {A = Result (Option ℕ) ℕ} (Err (full_number f)) (Ok (Some (row_of v σ.world.rows))) = h.answer in
    absurd (let z : ◌≡◌ {A = ℕ} 0 1 = cc in omega arith)
line_over s i (gave v σ) f t h =
    let same : ◌≡◌ {A = Result (Option ℕ) ℕ} (Err (full_number f)) (Ok None) = h.answer in
    absurd (let z : ◌≡◌ {A = ℕ} 0 1 = cc in omega arith)
line_over s i (stopped σ) f t h =
    let same : ◌≡◌ {A = Result (Option ℕ) ℕ} (Err (full_number f)) (Ok None) = h.answer in
    absurd (let z : ◌≡◌ {A = ℕ} 0 1 = cc in omega arith)
line_over s i (full n σ) f t h =
    let same : ◌≡◌ {A = Result (Option ℕ) ℕ} (Err (full_number f)) (Err n) = h.answer in
    let number_is : n ≡ full_number f = cc in
    record { carries = h.carries; ends = λ rest. ap (λ k. record { session = s; ending = k; place = i }) number_is }

-- ---- the state after one more line

-- the number of a finished line, as the code makes it
number_is : (o : Outcome) (σ : State) (before : List Finished) (row : Option ℕ) (keys : ℕ) (b : Bool) → RowIs σ.world.rows o row
    → keys ≡ length σ.token.stored → b ≡ (finished_as o σ before).breach → outcome_number row keys b ≡ outcome_code (finished_as o σ before)
unfolding outcome_number outcome_code
number_is (value v) σ before row keys b (there, at) k e = rw (at, k, e)
number_is none σ before row keys b at k e = rw (at, k, e)

-- a row's number, or ffff, fits two bytes
row_fits : (rows : List Value) (o : Outcome) (row : ℕ) → length rows ≤ 4096 → Rowed rows o row → row < 65536
row_fits rows (value v) row few (there, is) = omega (arith, present_means_below v rows there)
row_fits rows none row few is = omega arith

row_below : (rows : List Value) (o : Outcome) (row : Option ℕ) → length rows ≤ 4096 → RowIs rows o row → RowBelow 4096 row
row_below rows (value v) row few (there, is) =
    let below : row_of v rows < 4096 = omega (arith, present_means_below v rows there) in
    rw is below
row_below rows none row few is = rw is tt

-- the row that is recorded for a line
row_recorded : (o : Outcome) (σ : State) (row : Option ℕ) → RowIs σ.world.rows o row → Rowed σ.world.rows o (row_after o σ)
row_recorded (value v) σ row (there, is) = (there, refl)
row_recorded none σ row is = refl

-- what holds at each place of a list, and of one more element, holds of the longer list
at_each : (P : Finished → Type 0) (fs : List Finished) (f : Finished) → ((j : ℕ) → j < length fs → P (finished_at fs j)) → P f
    → (j : ℕ) → j < length (fs ++ f ∷ []) → P (finished_at (fs ++ f ∷ []) j)
at_each P [] f all this zero l = this
at_each P [] f all this (suc j) l = absurd (omega arith)
at_each P (g ∷ gs) f all this zero l = all 0 (omega arith)
at_each P (g ∷ gs) f all this (suc j) l = at_each P gs f (λ k h. all (suc k) (omega arith)) this j (omega arith)

module _ {φ : File} {before : Tables} {t : Token} {hand : List Bool} {outcomes : List ℕ} {i m : ℕ} {first : Option ℕ}
    (at : At φ t hand outcomes i first) (g : SessionGiven φ before m) (long : Long t) (more : i < m)
    {row : Option ℕ} {t' : Token} (d : LineDone at.session i (out at g long more) row t') (long' : Long t') where
  abbrev fs : List Finished
  fs = at.session.finished

  few_rows : length d.left.world.rows ≤ 4096
  few_rows = omega (arith, d.stands.carries.rows_held.fit, long'.rows)

  few_lines : i < 1024
  few_lines = omega (arith, g.lines_counted, g.well_read.few_lines)

  guards_counted : t'.used.guards ≡ length d.left.world.guarded
  guards_counted = ap (λ x. x.guards) d.stands.counts_are

  keys_counted : t'.used.keys ≡ length d.left.token.stored
  keys_counted = ap (λ x. x.keys) d.stands.counts_are

  guards_fit : t'.used.guards ≤ length t'.guards.now
  guards_fit =
      let C = d.stands.carries in
      omega (arith, guards_counted, C.tidy.few_guards, C.keys_fit, C.guards_fit)

  guards_long : length (guards_in t') ≡ t'.used.guards
  guards_long = length-take-le t'.used.guards t'.guards.now guards_fit

  guards_below : GuardsBelow (guards_in t') (length d.left.world.rows) (length hand)
  guards_below = record {
    below = λ j l.
        let near : j < t'.used.guards = omega (arith, guards_long) in
        let here : get_or (guards_in t') j 0 ≡ get_or t'.guards.now j 0 = get_or-take t'.used.guards t'.guards.now j 0 near in
        let b : get_or (guards_in t') j 0 < length d.left.world.rows =
        rw here (d.stands.carries.guards_have_rows j (omega (arith, guards_counted))) in
        (b, omega (arith, at.is_in_hand.long, few_rows));
  }

  pub finish_ready : FinishReady t' hand outcomes i row
  finish_ready = record {
    guards_fit = guards_fit;
    guards_below = record {
      below = λ j l. (omega (arith, (guards_below.below j l).0, d.stands.carries.rows_held.fit), (guards_below.below j l).1);
    };
    in_table = omega (arith, table_long at.finishing, few_lines);
    hand_long = at.is_in_hand.long;
    row_below = row_below d.left.world.rows d.outcome row few_rows d.row_is;
    keys_fit = omega (arith, keys_counted, d.stands.carries.keys_fit, long'.keys);
  }

  -- the record of this line, with the mark that the code found
  module _ {b : Bool} {hand' : List Bool} {outcomes' : List ℕ} (f : FinishedIs t' hand outcomes i row b hand' outcomes') where
    abbrev line : Finished
    line = finished_as d.outcome d.left fs

    hand_next : Hand hand' d.left.world.rows (outcomes_of fs ++ d.outcome ∷ [])
    hand_next =
        let grown = d.rows_grown in
        let rows_right : Rows (at.session.state.world.rows ++ d.new_rows) = subst Rows grown d.stands.carries.rows_held.rows in
        let wider : Hand hand d.left.world.rows (outcomes_of fs) =
        subst (λ (x : List Value). Hand hand x (outcomes_of fs)) (sym grown)
        (hand_grown hand at.session.state.world.rows d.new_rows (outcomes_of fs) at.is_in_hand rows_right) in
        rw f.hand_is (hand_is_after d.outcome row wider d.stands.carries.rows_held.rows few_rows d.row_is)

    mark_right : b ≡ line.breach
    mark_right =
        let guarded : map (value_at d.left.world.rows) (guards_in t') ≡ d.left.world.guarded =
        ap (λ k. map (value_at d.left.world.rows) (take k t'.guards.now)) guards_counted ∙ d.stands.carries.guards_are in
        f.mark_is d.left.world.rows d.stands.carries.rows_held guards_below
        ∙ ap (λ x. breached_by d.left.world.rows x (guards_in t')) (sym f.hand_is)
        ∙ breach_is hand' (guards_in t') d.left.world.rows d.left.world.guarded (outcomes_of fs ++ d.outcome ∷ []) hand_next guarded
        (λ j l. (guards_below.below j l).0)

    codes_next : outcomes' ≡ padded 1024 (map outcome_code (fs ++ line ∷ []))
    codes_next =
        let code_is : outcome_number row t'.used.keys b ≡ outcome_code line =
        number_is d.outcome d.left fs row t'.used.keys b d.row_is keys_counted mark_right in
        let here : length (map outcome_code fs) ≡ i = length-map fs outcome_code ∙ at.finished_count in
        f.outcomes_are
        ∙ ap (λ t. set t i (outcome_number row t'.used.keys b)) at.finishing.codes_are
        ∙ ap (λ x. set (padded 1024 (map outcome_code fs)) i x) code_is
        ∙ set_next 1024 (map outcome_code fs) (outcome_code line) (omega (arith, few_lines)) i here
        ∙ ap (padded 1024) (sym (map-append outcome_code fs (line ∷ [])))

    one_more : length (fs ++ line ∷ []) ≡ i + 1
    one_more = length-append fs (line ∷ []) ∙ omega (arith, at.finished_count)

    pub next_at : At φ t' hand' outcomes' (i + 1) (earliest_of first i b)
    next_at = record {
      session = finish d.outcome d.left at.session;
      stands = d.stands;
      finishing = record {
        codes_are = codes_next;
        few = omega (arith, one_more, few_lines);
        rowed = at_each (λ g. Rowed d.left.world.rows g.outcome g.row) fs line
            (λ j l. subst (λ (x : List Value). Rowed x (finished_at fs j).outcome (finished_at fs j).row) (sym d.rows_grown)
            (rowed_kept at.session.state.world.rows d.new_rows (finished_at fs j).outcome (finished_at fs j).row (at.finishing.rowed j l)))
            (row_recorded d.outcome d.left row d.row_is);
        keys_small = at_each (λ g. g.keys ≤ 256) fs line at.finishing.keys_small (omega (arith, d.stands.carries.keys_fit, long'.keys));
      };
      finished_count = one_more;
      is_in_hand = subst (Hand hand' d.left.world.rows) (sym (outcomes_snoc fs line)) hand_next;
      first_is =
          let counted = ap (λ k. earliest_of (first_marked fs) k line.breach) at.finished_count in
          rw (at.first_is, mark_right) (sym (first_marked_after fs line ∙ counted));
      rest =
          let step : i + 1 ≡ suc i = omega arith in
          let rest : Session → Run = λ s'. run_from program_room φ.commands (drop (suc i) φ.lines) (suc i) s' in
          rw step (sym (d.goes_on rest) ∙ line_decides at g long more);
    }

-- ---- the end

-- a finished line's row and count of keys fit two bytes
line_fits : {φ : File} {t : Token} {hand : List Bool} {outcomes : List ℕ} {i : ℕ} {first : Option ℕ} (at : At φ t hand outcomes i first)
    → length at.session.state.world.rows ≤ 4096 → (j : ℕ) (d : Finished) → j < length at.session.finished
    → ((get_or at.session.finished j d).row < 65536) × ((get_or at.session.finished j d).keys < 65536)
line_fits at few j d l =
    let fs = at.session.finished in
    let same : get_or fs j d ≡ finished_at fs j = get_or_default fs j d _ l in
    rw same (
      row_fits at.session.state.world.rows (finished_at fs j).outcome (finished_at fs j).row few (at.finishing.rowed j l),
      omega (arith, at.finishing.keys_small j l),
    )

-- what the code tells of a run
abbrev pub told : Option Ending → Option ℕ → ℕ → Ran
told ending first_breach finished = record { ran = record { ending = ending; first_breach = first_breach }; finished = finished }

-- what the tables hold that a run leaves
pub record Leaves (t : Token) (outcomes : List ℕ) (after : Tables) : Type 0 where
  pub rows : after.rows ≡ t.rows.now
  pub keys : after.keys ≡ t.keys.now
  pub outcomes_are : after.outcomes ≡ outcomes

-- the run of the model is what the code tells, where it ended with the session so far
module _ {φ : File} {t : Token} {hand : List Bool} {outcomes : List ℕ} {i : ℕ} {first : Option ℕ} (at : At φ t hand outcomes i first)
    {t' : Token} {after : Tables} (carried : CarriedIn at.session.state t') (long : Long t') (leaves : Leaves t' outcomes after)
    (ended_by : Option Ending) where
  abbrev run_so_far : Run
  run_so_far = record { session = at.session; ending = ending_number ended_by; place = ending_place ended_by }

  ran_so_far : run_so_far ≡ run_of φ → (lines : ℕ) → i ≡ lines
      → RanIs (run_of φ) (told ended_by first lines) after
  ran_so_far whole lines count =
      let σ = at.session.state in
      let few : length σ.world.rows ≤ 4096 = omega (arith, carried.rows_held.fit, long.rows) in
      rw (← whole) (record {
        ending_is = refl;
        place_is = refl;
        first_is = ap breach_told at.first_is ∙ first_marked_told at.session.finished;
        first_below = rw at.first_is (first_marked_below at.session.finished at.finishing.few);
        finished_is = omega (arith, at.finished_count);
        rows_are = leaves.rows ∙ carried.rows_held.is ∙ ap (λ k. padded k (row_codes σ.world.rows)) long.rows;
        keys_are = leaves.keys ∙ carried.keys_are ∙ ap (λ k. padded k (map (key_code σ.world.rows) σ.token.stored)) long.keys;
        outcomes_are = leaves.outcomes_are ∙ at.finishing.codes_are;
        rows_few = few;
        rows_apart = carried.rows_held.rows;
        few_lines = at.finishing.few;
        lines_fit = line_fits at few;
      })

module _ {φ : File} {before after : Tables} {t : Token} {hand : List Bool} {outcomes : List ℕ} {i m : ℕ} {first : Option ℕ}
    (at : At φ t hand outcomes i first) (g : SessionGiven φ before m) where
  pub ran_through : Long t → Leaves t outcomes after → m ≤ i → i ≤ m
      → RanIs (run_of φ) (told None first m) after
  unfolding run_from
  ran_through long leaves over short =
      let past : length φ.lines ≤ i = let e = g.lines_counted in omega arith in
      ran_so_far at at.stands.carries long leaves None (rw (drop_of_length-le φ.lines past) at at.rest) m (omega arith)

  pub ran_over : (long : Long t) (more : i < m) {f : Full} {t' : Token} → LineOver at.session i (out at g long more) f t' → Long t'
      → Leaves t' outcomes after
      → RanIs (run_of φ) (told (Some (record { full = f; line = i })) first i) after
  ran_over long more {f} d long' leaves =
      let whole = sym (d.ends (λ s'. run_from program_room φ.commands (drop (suc i) φ.lines) (suc i) s')) ∙ line_decides at g long more in
      ran_so_far at d.carries long' leaves (Some (record { full = f; line = i })) whole i refl
