-- Reading frame by frame: what the loop has in hand after some lines, and that the rest of the work gives the answer of the whole.
-- Assumes nothing.
use Prim.Native.Nat.{ℕ, zero, suc, ◌+◌, ◌≤◌, ◌<◌, min}
use mathlib.Core.Path.{◌≡◌, refl, sym, ap, subst, ◌∙◌}
use mathlib.Core.Bool.{Bool, true, false, cond}
use mathlib.Core.List.{List, ◌∷◌}
use native.Mathlib.Omega.{arith}
use native.Mathlib.Decide.{dec_le}
use lib.Dec.{T, eqb, eqb→eq, leb→le}
use lib.ListN.{length, take, drop, drop_of_length-le}
use lib.Seq.{take_all, length-take-le}
use borrow.Author.Tests.{le-leb, ne_eqb}
use Rattle.std.specs.Prelude.{Option, Some, None, Result, Ok, Err}
use Rattle.std.specs.Option.{ok_or}
use Rattle.model.specs.Basics.{◌else◌then◌}
use Rattle.model.specs.Text.{TextLine, lines_of, well_written, bytes_of}
use Rattle.model.specs.declared.Policy.{Policy}
use Rattle.model.specs.Frame.{Reading, nothing_read, Kind, policy_kind, command_kind, line_kind, other_kind}
use Rattle.model.specs.Frame.{kind_of, policy_of, in_place, body_refusal, frame_refusal}
use Rattle.model.specs.File.{refused, file, line_refusal, after_frame, unless_refused, parse_from, parse}
use Rattle.model.specs.Tables.{read_answer}
use Rattle.model.specs.Tables as read
use Rattle.model.proofs.Tests.{met}
use Rattle.text.specs.Scan.{taken, after, ScanIs}
use Rattle.text.specs.declared.Scanned.{Scanned}
use Rattle.text.proofs.Laws.{FirstLine, lines_none, lines_at, frame_some, frame_answer, broken_answer}
use Rattle.model.specs.declared.Fault.{Fault}
use Rattle.model.specs.declared.Refusal.{Refusal}
use Rattle.model.specs.Numbers.{fault_number}
use Rattle.model.specs.Told.{read_told}
use Rattle.frames.specs.declared.Turn.{Turn as TakenTurn}
use Rattle.frames.specs.Turn.{Turn, turn_told, place_number, turn_of, filed, Counted, HeldIn, TurnIn}
use Rattle.frames.specs.Turn as turn
use Rattle.frames.specs.declared.Counts.{Counts}
use Rattle.frames.specs.declared.file_tables.FileTables.{FileTables}
use Rattle.frames.specs.declared.Place.TheVariants.{Start, Commands, Lines}
use Rattle.frames.proofs.Cut.{cut_means_same, taken_is_short}
use Rattle.frames.proofs.Reading.{nothing_counted, nothing_held, after_policy, after_command, read_after_line}
use Rattle.file.specs.Framed.{located, contents_of, ZerosIn, FramedIs}

-- after the lines before `at`, of which there are `frame`: what was counted, what the tables hold, and the policy, where one was read
pub record Progress (input : List ℕ) (t : FileTables) (at frame : ℕ) (counts : Counts) (policy : Option Policy) : Type 0 where
  pub reading : Reading
  pub counted : Counted reading (place_number counts.place) counts.commands counts.lines
  pub held : HeldIn reading.file t
  pub policy_is : policy ≡ cond (eqb reading.place 0) None (Some reading.file.policy)
  pub few_frames : frame ≤ at
  pub few_commands : counts.commands ≤ 32
  pub few_lines : counts.lines ≤ 1024
  pub rest : parse_from (lines_of (drop at input)) frame reading ≡ parse_from (lines_of input) 0 nothing_read

pub start : (input : List ℕ) (t : FileTables) → ZerosIn t
    → Progress input t 0 0 (record { place = Start; commands = 0; lines = 0 }) None
start input t h = record {
  reading = nothing_read;
  counted = nothing_counted;
  held = rw (h.heads_zero, h.arguments_zero, h.commands_zero, h.steps_zero) nothing_held;
  policy_is = refl;
  few_frames = omega arith;
  few_commands = omega arith;
  few_lines = omega arith;
  rest = refl;
}

short_parse : (input : List ℕ) → length input ≤ 32768 → parse input ≡ parse_from (lines_of input) 0 nothing_read
unfolding parse
short_parse input h = rw (le-leb (length input) 32768 h)

-- ---- the line that begins at `at`

module _ {input : List ℕ} {t : FileTables} {at frame : ℕ} {counts : Counts} {policy : Option Policy}
    (p : Progress input t at frame counts policy)
    {l : TextLine} {ls : List TextLine} (split : lines_of (drop at input) ≡ l ∷ ls) where
  abbrev c : Reading
  c = p.reading

  abbrev g : List ℕ
  g = bytes_of l.body

  -- the whole is this line's refusal, or what the rest comes to
  unfold_line : unless_refused (line_refusal c l) frame (parse_from ls (suc frame) (after_frame c g))
      ≡ parse_from (lines_of input) 0 nothing_read
  unfolding parse_from
  unfold_line = rw split at p.rest

  refused_here : (k : ℕ) → line_refusal c l ≡ suc k → refused (suc k) frame ≡ parse_from (lines_of input) 0 nothing_read
  refused_here k e = rw e at unfold_line

  pub broken_refused : well_written l ≡ false → refused 2 frame ≡ parse_from (lines_of input) 0 nothing_read
  broken_refused e = refused_here 1 (rw e)

  module _ (well : T (well_written l)) where
    frame_decides : line_refusal c l ≡ frame_refusal c g
    frame_decides = go (well_written l) well
      where
        go : (b : Bool) → T b → (b else 2 then frame_refusal c g) ≡ frame_refusal c g
        go true t = refl
        go false t = absurd t

    pub frame_refused : (k : ℕ) → frame_refusal c g ≡ suc k → refused (suc k) frame ≡ parse_from (lines_of input) 0 nothing_read
    frame_refused k e = refused_here k (frame_decides ∙ e)

    pub frame_taken : frame_refusal c g ≡ 0 → parse_from ls (suc frame) (after_frame c g) ≡ parse_from (lines_of input) 0 nothing_read
    frame_taken e = rw (frame_decides, e) at unfold_line

-- ---- the bytes that the buffer took mean the same as the line's

module _ (g f : List ℕ) (len : ℕ) (cut : len ≡ min (length g) 68) (front : f ≡ take len g) where
  cut_is : f ≡ take 68 g
  cut_is = go (dec_le (length g) 68)
    where
      go : Dec (length g ≤ 68) → f ≡ take 68 g
      go (yes h) = front ∙ rw (take_all 68 g h) (take_all len g (omega arith))
      go (no h) = let e : len ≡ 68 = omega arith in front ∙ ap (λ k. take k g) e

  pub same_refusal : (c : Reading) → frame_refusal c f ≡ frame_refusal c g
  same_refusal c = rw cut_is (cut_means_same c g 68 (omega arith))

  pub whole_if_taken : (c : Reading) → frame_refusal c f ≡ 0 → f ≡ g
  whole_if_taken c e =
      let short : length g ≤ 67 = taken_is_short c g (sym (same_refusal c) ∙ e) in
      cut_is ∙ take_all 68 g (omega arith)

-- ---- what a turn's answer tells of the frame's refusal and kind

refusal_of : (n : ℕ) (k : Kind) (f : List ℕ) (number : ℕ) → turn.Refused number ≡ turn_of n k f → (n ≡ 0 → k ≡ other_kind → ⊥)
    → (j : ℕ) × (n ≡ suc j) × (number ≡ suc j)
unfolding turn_of
refusal_of zero policy_kind f number e other = absurd (let z : ◌≡◌ {A = ℕ} 0 1 = cc in omega arith)
refusal_of zero command_kind f number e other = absurd (let z : ◌≡◌ {A = ℕ} 0 1 = cc in omega arith)
refusal_of zero line_kind f number e other = absurd (let z : ◌≡◌ {A = ℕ} 0 1 = cc in omega arith)
refusal_of zero other_kind f number e other = absurd (other refl refl)
refusal_of (suc n) k f number e other = (n, refl, (cc))

other_refused : (c : Reading) (f : List ℕ) → frame_refusal c f ≡ 0 → kind_of f ≡ other_kind → ⊥
other_refused c f e k = go (kind_of f) k e
  where
    go : (x : Kind) → x ≡ other_kind → (in_place c.place x else 3 then body_refusal c.file x f) ≡ 0 → ⊥
    go policy_kind q h = let z : ◌≡◌ {A = ℕ} 0 1 = cc in omega arith
    go command_kind q h = let z : ◌≡◌ {A = ℕ} 0 1 = cc in omega arith
    go line_kind q h = let z : ◌≡◌ {A = ℕ} 0 1 = cc in omega arith
    go other_kind q h = omega arith

refused_number : (c : Reading) (f : List ℕ) (number : ℕ) → turn.Refused number ≡ turn_of (frame_refusal c f) (kind_of f) f
    → (j : ℕ) × (frame_refusal c f ≡ suc j) × (number ≡ suc j)
refused_number c f number e = refusal_of (frame_refusal c f) (kind_of f) f number e (other_refused c f)

policy_turn : (n : ℕ) (k : Kind) (f : List ℕ) (q : Policy) → turn.Policy q ≡ turn_of n k f → (n ≡ 0) × (k ≡ policy_kind) × (q ≡ policy_of f)
unfolding turn_of
policy_turn zero policy_kind f q e = (refl, refl, cc)
policy_turn zero command_kind f q e = absurd (let z : ◌≡◌ {A = ℕ} 0 1 = cc in omega arith)
policy_turn zero line_kind f q e = absurd (let z : ◌≡◌ {A = ℕ} 0 1 = cc in omega arith)
policy_turn zero other_kind f q e = absurd (let z : ◌≡◌ {A = ℕ} 0 1 = cc in omega arith)
policy_turn (suc n) k f q e = absurd (let z : ◌≡◌ {A = ℕ} 0 1 = cc in omega arith)

command_turn : (n : ℕ) (k : Kind) (f : List ℕ) → turn.Command ≡ turn_of n k f → (n ≡ 0) × (k ≡ command_kind)
unfolding turn_of
command_turn zero policy_kind f e = absurd (let z : ◌≡◌ {A = ℕ} 0 1 = cc in omega arith)
command_turn zero command_kind f e = (refl, refl)
command_turn zero line_kind f e = absurd (let z : ◌≡◌ {A = ℕ} 0 1 = cc in omega arith)
command_turn zero other_kind f e = absurd (let z : ◌≡◌ {A = ℕ} 0 1 = cc in omega arith)
command_turn (suc n) k f e = absurd (let z : ◌≡◌ {A = ℕ} 0 1 = cc in omega arith)

line_turn : (n : ℕ) (k : Kind) (f : List ℕ) → turn.Line ≡ turn_of n k f → (n ≡ 0) × (k ≡ line_kind)
unfolding turn_of
line_turn zero policy_kind f e = absurd (let z : ◌≡◌ {A = ℕ} 0 1 = cc in omega arith)
line_turn zero command_kind f e = absurd (let z : ◌≡◌ {A = ℕ} 0 1 = cc in omega arith)
line_turn zero line_kind f e = (refl, refl)
line_turn zero other_kind f e = absurd (let z : ◌≡◌ {A = ℕ} 0 1 = cc in omega arith)
line_turn (suc n) k f e = absurd (let z : ◌≡◌ {A = ℕ} 0 1 = cc in omega arith)

-- ---- one turn: a line was scanned into the buffer, and its frame f taken with the answer t

-- what taking the frame promises
abbrev Takes : List ℕ → Turn → Counts → FileTables → FileTables → Type 0
Takes f r counts t t' =
    (c : Reading) → Counted c (place_number counts.place) counts.commands counts.lines → HeldIn c.file t → TurnIn c f r t'

-- what scanning the line promises
abbrev Scans : List ℕ → ℕ → Option Scanned → List ℕ → List ℕ → Type 0
Scans input at r before buffer =
    (l : TextLine) (ls : List TextLine) → lines_of (drop at input) ≡ l ∷ ls → ScanIs input at l ls r before buffer

pub scan_broken : {input : List ℕ} {t : FileTables} {at frame : ℕ} {counts : Counts} {policy : Option Policy}
    → Progress input t at frame counts policy
    → at < length input → {before buffer : List ℕ} {r : Option Scanned} → Scans input at r before buffer → r ≡ None
    → refused 2 frame ≡ parse_from (lines_of input) 0 nothing_read
scan_broken {input} {at = at} p more scans broken =
    let first = lines_at input at more in
    broken_refused p first.split (broken_answer (scans first.line first.rest first.split) broken)

-- a well written line has a byte, the buffer holds what is taken of it, and the next line begins later
pub record Scanned-well (at len next : ℕ) (buffer : List ℕ) : Type 0 where
  pub some_byte : 0 < len
  pub fits : len ≤ length buffer
  pub later : at < next

pub front_some : (len : ℕ) (buffer : List ℕ) → 0 < len → len ≤ length buffer → 0 < length (take len buffer)
front_some len buffer some fits = rw (length-take-le len buffer fits) some

pub scan_well : (input : List ℕ) (at : ℕ) → at < length input → {before buffer : List ℕ} {r : Option Scanned} → length before ≡ 68
    → Scans input at r before buffer → {w : Scanned} → r ≡ Some w → Scanned-well at w.len w.next buffer
scan_well input at more sized scans e =
    let first = lines_at input at more in
    let line = scans first.line first.rest first.split in
    let told = frame_answer line e in
    let some = frame_some first.line told.0 in
    let len_is = told.1 in
    let next_is = told.2 in
    record { some_byte = omega arith; fits = omega (arith, line.length_kept); later = omega arith }

module _ {input : List ℕ} {t : FileTables} {at frame : ℕ} {counts : Counts} {policy : Option Policy}
    (p : Progress input t at frame counts policy)
    (more : at < length input) {before buffer f : List ℕ} {w : Scanned} {r : Option Scanned} {a : Turn}
    (sized : length before ≡ 68) (scans : Scans input at r before buffer) (well : r ≡ Some w) (part : f ≡ take w.len buffer)
    (t' : FileTables) (takes : Takes f a counts t t') where
  abbrev len : ℕ
  len = w.len

  abbrev next : ℕ
  next = w.next

  first : FirstLine (lines_of (drop at input))
  first = lines_at input at more

  l : TextLine
  l = first.line

  scanned_line : ScanIs input at l first.rest r before buffer
  unfolding l
  scanned_line = scans first.line first.rest first.split

  told : T (well_written l) × (len ≡ taken (length before) l) × (next ≡ after at l)
  told = frame_answer scanned_line well

  bytes_are : f ≡ take len (bytes_of l.body)
  bytes_are =
      let e = told.1 in
      part ∙ subst (λ (k : ℕ). take k buffer ≡ take k (bytes_of l.body)) (sym e) (scanned_line.front told.0)

  length_is : len ≡ min (length (bytes_of l.body)) 68
  length_is = told.1 ∙ ap (λ k. min (length (bytes_of l.body)) k) sized

  turned : TurnIn p.reading f a t'
  turned = takes p.reading p.counted p.held

  split_line : lines_of (drop at input) ≡ l ∷ first.rest
  unfolding l
  split_line = first.split

  pub turn_refused : (number : ℕ) → a ≡ turn.Refused number → refused number frame ≡ parse_from (lines_of input) 0 nothing_read
  turn_refused number e =
      let told_number = refused_number p.reading f number (sym e ∙ turned.answer) in
      let line_number : frame_refusal p.reading (bytes_of l.body) ≡ suc told_number.0 =
      sym (same_refusal (bytes_of l.body) f len length_is bytes_are p.reading) ∙ told_number.1 in
      subst (λ (k : ℕ). refused k frame ≡ parse_from (lines_of input) 0 nothing_read) (sym told_number.2)
      (frame_refused p split_line told.0 told_number.0 line_number)

  -- a frame that is taken: nothing of it was cut
  module _ (none : frame_refusal p.reading f ≡ 0) where
    whole : f ≡ bytes_of l.body
    whole = whole_if_taken (bytes_of l.body) f len length_is bytes_are p.reading none

    rest_after : parse_from (lines_of (drop next input)) (frame + 1) (after_frame p.reading f) ≡ parse_from (lines_of input) 0 nothing_read
    rest_after =
        let one_more : frame + 1 ≡ suc frame = omega arith in
        let taken_line = frame_taken p split_line told.0 (subst (λ (x : List ℕ). frame_refusal p.reading x ≡ 0) whole none) in
        let lines_left : lines_of (drop next input) ≡ first.rest = ap (λ k. lines_of (drop k input)) told.2 ∙ scanned_line.next told.0 in
        ap (λ k. parse_from (lines_of (drop next input)) k (after_frame p.reading f)) one_more
        ∙ ap (λ ls. parse_from ls (suc frame) (after_frame p.reading f)) lines_left
        ∙ ap (λ x. parse_from first.rest (suc frame) (after_frame p.reading x)) whole
        ∙ taken_line

    held_after : HeldIn (after_frame p.reading f).file t'
    held_after = subst (λ (k : ℕ). HeldIn (filed k p.reading f) t') none turned.held

    longer : at < next
    longer = let e = told.2 in omega arith

  pub policy_taken : {q : Policy} → a ≡ turn.Policy q
      → Progress input t' next (frame + 1) (record { place = Commands; commands = counts.commands; lines = counts.lines }) (Some q)
  policy_taken {q} e =
      let told_policy = policy_turn (frame_refusal p.reading f) (kind_of f) f q (sym e ∙ turned.answer) in
      let none = told_policy.0 in
      let farther = longer none in
      record {
        reading = after_frame p.reading f;
        counted = after_policy p.counted f none told_policy.1;
        held = held_after none;
        policy_is = rw (told_policy.1, told_policy.2);
        few_frames = omega (arith, p.few_frames);
        few_commands = p.few_commands;
        few_lines = p.few_lines;
        rest = rest_after none;
      }

  pub command_taken : a ≡ turn.Command
      → Progress input t' next (frame + 1) (record { place = counts.place; commands = counts.commands + 1; lines = counts.lines }) policy
  command_taken e =
      let told_command = command_turn (frame_refusal p.reading f) (kind_of f) f (sym e ∙ turned.answer) in
      let none = told_command.0 in
      let counted_after = after_command p.counted f none told_command.1 in
      let farther = longer none in
      let is_in_place = (met (in_place p.reading.place (kind_of f)) 2 (body_refusal p.reading.file (kind_of f) f) none).0 in
      let at_commands : p.reading.place ≡ 1 =
      eqb→eq p.reading.place 1 (subst (λ (k : Kind). T (in_place p.reading.place k)) told_command.1 is_in_place) in
      let one : place_number counts.place ≡ 1 = p.counted.place_is ∙ at_commands in
      record {
        reading = after_frame p.reading f;
        counted = subst (λ (k : ℕ). Counted (after_frame p.reading f) k (counts.commands + 1) counts.lines) (sym one) counted_after.0;
        held = held_after none;
        policy_is = p.policy_is ∙ rw (told_command.1, at_commands);
        few_frames = omega (arith, p.few_frames);
        few_commands = omega (arith, counted_after.1);
        few_lines = p.few_lines;
        rest = rest_after none;
      }

  pub line_taken : a ≡ turn.Line
      → Progress input t' next (frame + 1) (record { place = Lines; commands = counts.commands; lines = counts.lines + 1 }) policy
  line_taken e =
      let told_line = line_turn (frame_refusal p.reading f) (kind_of f) f (sym e ∙ turned.answer) in
      let none = told_line.0 in
      let counted_after = read_after_line p.counted f none told_line.1 in
      let farther = longer none in
      let is_in_place = (met (in_place p.reading.place (kind_of f)) 2 (body_refusal p.reading.file (kind_of f) f) none).0 in
      let past_policy = leb→le 1 p.reading.place (subst (λ (k : Kind). T (in_place p.reading.place k)) told_line.1 is_in_place) in
      record {
        reading = after_frame p.reading f;
        counted = counted_after.0;
        held = held_after none;
        policy_is = p.policy_is ∙ rw (told_line.1, ne_eqb p.reading.place 0 (λ z. omega arith));
        few_frames = omega (arith, p.few_frames);
        few_commands = p.few_commands;
        few_lines = omega (arith, counted_after.1);
        rest = rest_after none;
      }

-- ---- a refusal's answer

pub refusal_framed : (input : List ℕ) (n k : ℕ) (t : FileTables) → length input ≤ 32768
    → refused n k ≡ parse_from (lines_of input) 0 nothing_read → FramedIs (parse input) (read.Refused n k) t
unfolding read_answer
refusal_framed input n k t short e =
    let whole : parse input ≡ refused n k = short_parse input short ∙ sym e in
    record { answer = rw whole; held = rw whole tt }

-- ---- the end of the input

module _ {input : List ℕ} {t : FileTables} {at frame : ℕ} {counts : Counts} {policy : Option Policy}
    (p : Progress input t at frame counts policy) (over : length input ≤ at) where
  end_is : cond (eqb p.reading.place 0) (refused 3 0) (file p.reading.file) ≡ parse_from (lines_of input) 0 nothing_read
  unfolding parse_from
  end_is = rw (drop_of_length-le input over, lines_none) at p.rest

  -- where no policy was read there was no frame
  pub all_framed : length input ≤ 32768 → FramedIs (parse input) (read_told (contents_of policy counts)) t
  unfolding read_answer
  all_framed short = by (eqb p.reading.place 0) refl
    where
      by : (b : Bool) → eqb p.reading.place 0 ≡ b → FramedIs (parse input) (read_told (contents_of policy counts)) t
      by true here =
          let none : policy ≡ None = p.policy_is ∙ rw here in
          rw none (refusal_framed input 3 0 t short (rw here at end_is))
      by false here =
          let some : policy ≡ Some p.reading.file.policy = p.policy_is ∙ rw here in
          let whole : parse input ≡ file p.reading.file = short_parse input short ∙ sym (rw here at end_is) in
          record { answer = rw (some, whole, p.counted.commands_are, p.counted.lines_are); held = rw whole p.held }

-- ---- what a refusal tells of the call that gave it

pub none_told : {A E : Type 0} (o : Option A) {d e : E} → Err d ≡ ok_or o e → (o ≡ None) × (d ≡ e)
none_told None q = (refl, cc)
none_told (Some x) q = absurd (let z : ◌≡◌ {A = ℕ} 0 1 = cc in omega arith)

pub some_told : {A E : Type 0} (o : Option A) {x : A} (e : E) → Ok x ≡ ok_or o e → o ≡ Some x
some_told None e q = absurd (let z : ◌≡◌ {A = ℕ} 0 1 = cc in omega arith)
some_told (Some x) e q = ap Some (cc)

pub fault_told : (r : Result TakenTurn Fault) (k : ℕ) {d : Refusal} → Err d ≡ located k r
    → (turn_told r ≡ turn.Refused (fault_number d.fault)) × (d.frame ≡ k)
fault_told (Ok t) k q = absurd (let z : ◌≡◌ {A = ℕ} 0 1 = cc in omega arith)
fault_told (Err e) k {d} q = let same : d ≡ record { fault = e; frame = k } = cc in (rw same, rw same)

pub turn_kept : (r : Result TakenTurn Fault) (k : ℕ) {a : TakenTurn} → Ok a ≡ located k r → r ≡ Ok a
turn_kept (Ok t) k q = ap Ok (cc)
turn_kept (Err e) k q = absurd (let z : ◌≡◌ {A = ℕ} 0 1 = cc in omega arith)
