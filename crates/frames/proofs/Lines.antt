-- Laws of a session line's frame: its form, what it names, its refusals, and what stands in the tables once it is taken.
-- Assumes nothing.
use mathlib.Core.Path.{◌≡◌, refl, sym, ap, ◌∙◌}
use mathlib.Core.Bool.{Bool, true, false, cond, ◌&&◌}
use mathlib.Core.List.{List, map}
use Prim.Native.Nat.{ℕ, zero, suc, ◌+◌, ◌*◌, ◌%◌, ◌≤◌}
use native.Mathlib.Decide.{dec_lt}
use native.Mathlib.Omega.{arith}
use lib.Dec.{eqb, ltb, leb, eqb-suc-zero}
use lib.ListN.{length, get_or, drop}
use borrow.Author.Tests.{le-ltb, le-leb, leb-true, eqb-true}
use Rattle.model.specs.Basics.{◌else◌then◌, every}
use Rattle.model.specs.Step.{Command}
use Rattle.model.specs.Token.{command_at}
use Rattle.model.specs.Session.{Arg}
use Rattle.model.specs.Frame.{Reading, byte_at, args_of, arg_names, line_by, line_of, head_fits, line_formed, line_names, line_kind}
use Rattle.model.specs.Frame.{body_refusal}
use Rattle.model.specs.Tables.{padded, command_code, head_code, args_code, args_of_line}
use Rattle.frames.specs.Turn.{turn_of, Counted}
use Rattle.frames.specs.Parts.{line_named, LineStored, Takes}
use Rattle.frames.specs.declared.file_tables.FileTables.{FileTables}
use Rattle.frames.specs.Turn as turn
use Rattle.frames.proofs.Lists.{both}
use Rattle.frames.proofs.Turns.{refused, room_left, is_line, taken, is_in_place}
use Rattle.frames.proofs.Tables.{entry_written, params_there}
use Rattle.frames.proofs.Arguments.{arguments_count}

-- ---- the form of a line

record LineTells (f : List ℕ) : Type 0 where
  pub kind : byte_at f 1 ≤ 3
  pub few : byte_at f 3 ≤ 4
  pub whole : length f ≡ 4 + 2 * byte_at f 3
  pub fits : head_fits (byte_at f 1) (byte_at f 2) (byte_at f 3) ≡ true

line_tells : (f : List ℕ) → line_formed f ≡ true → LineTells f
line_tells f formed =
    let last = head_fits (byte_at f 1) (byte_at f 2) (byte_at f 3) in
    let three = both (leb (byte_at f 1) 3 && leb (byte_at f 3) 4 && eqb (length f) (4 + 2 * byte_at f 3)) last formed in
    let two = both (leb (byte_at f 1) 3 && leb (byte_at f 3) 4) (eqb (length f) (4 + 2 * byte_at f 3)) three.0 in
    let one = both (leb (byte_at f 1) 3) (leb (byte_at f 3) 4) two.0 in
    record {
      kind = leb-true (byte_at f 1) 3 one.0;
      few = leb-true (byte_at f 3) 4 one.1;
      whole = eqb-true (length f) (4 + 2 * byte_at f 3) two.1;
      fits = three.1;
    }

-- ---- what a line names

-- the table's answer is the model's
module _ (cs : List Command) (commands : List ℕ) (held : commands ≡ padded 32 (map command_code cs))
    (few : (i : ℕ) → (command_at cs i).params ≤ 4) where
  called : (number count : ℕ) → (ltb number (length cs) && eqb count (get_or commands number 0 % 256))
      ≡ (ltb number (length cs) && eqb count (command_at cs number).params)
  called number count =
      elim (dec_lt number (length cs)) [
        | yes there ↦ rw (params_there cs number commands few held there)
        | no past ↦ rw (le-ltb number (length cs) (omega arith))
      ]

  named_by : (kind number m : ℕ) (args : List Arg) →
      (cond (eqb kind 0) (ltb number (length cs) && eqb (length args) (get_or commands number 0 % 256)) true && every (arg_names m) args)
      ≡ line_names cs m (line_by kind number args)
  named_by zero number m args = rw (called number (length args))
  named_by (suc zero) number m args = refl
  named_by (suc (suc zero)) number m args = refl
  named_by (suc (suc (suc kind))) number m args = rw (eqb-suc-zero (suc (suc kind)))

-- the head's code is the model's
no_number : (number count : ℕ) → (eqb number 0 && eqb count 2) ≡ true → number ≡ 0
no_number number count fits = eqb-true number 0 (both (eqb number 0) (eqb count 2) fits).0

head_by : (kind number : ℕ) (args : List Arg) → kind ≤ 3 → head_fits kind number (length args) ≡ true
    → kind + 256 * number + 65536 * length args ≡ head_code (line_by kind number args)
unfolding head_code
head_by zero number args known fits = omega arith
head_by (suc zero) number args known fits = omega (arith, no_number number (length args) fits)
head_by (suc (suc zero)) number args known fits = omega (arith, no_number number (length args) fits)
head_by (suc (suc (suc zero))) number args known fits = omega arith
head_by (suc (suc (suc (suc kind)))) number args known fits = absurd (omega arith)

arguments_by : (kind number : ℕ) (args : List Arg) → args_of_line (line_by kind number args) ≡ args
arguments_by zero number args = refl
arguments_by (suc zero) number args = refl
arguments_by (suc (suc zero)) number args = refl
arguments_by (suc (suc (suc kind))) number args = refl

-- ---- the refusals
module _ (f : List ℕ) (kind : byte_at f 0 ≡ 3) where
  pub line_unformed : false ≡ line_formed f → (n m : ℕ) (h a k s : List ℕ) (place : ℕ) → 1 ≤ place
      → Takes place n m f (turn.Refused 4) h a k s h a k s
  line_unformed unformed n m h a k s place here c counted held =
      let e : line_formed f ≡ false = sym unformed in
      refused 4 (is_in_place f (is_line f kind) counted (le-leb 1 place here) ∙ rw e) (λ q. omega arith) held

  module _ (good : true ≡ line_formed f) (n m : ℕ) (k : List ℕ) (q : Bool) (is_q : q ≡ line_named f n m k) (x : ℕ)
      (is_x : x ≡ (true else 4 then ltb m 1024 else 5 then q else 6 then 0)) where
    tells : LineTells f
    tells = line_tells f (sym good)

    count : length (args_of (drop 4 f)) ≡ byte_at f 3
    count = arguments_count f (byte_at f 3) tells.whole

    refusal_is : {c : Reading} {place : ℕ} → Counted c place n m → k ≡ padded 32 (map command_code c.file.commands)
        → body_refusal c.file line_kind f ≡ x
    unfolding line_named
    refusal_is {c} counted held =
        let cs = c.file.commands in
        let e : line_formed f ≡ true = sym good in
        let same : q ≡ line_names cs m (line_of f) =
        is_q
        ∙ rw (counted.commands_are, ← count)
        (named_by cs k held counted.few_params (byte_at f 1) (byte_at f 2) m (args_of (drop 4 f))) in
        rw (e, ← counted.lines_are, is_x, same)

    pub line_refused : (x ≡ 0 → ⊥) → (h a s : List ℕ) (place : ℕ) → 1 ≤ place → Takes place n m f (turn.Refused x) h a k s h a k s
    line_refused some h a s place here c counted held =
        refused x (is_in_place f (is_line f kind) counted (le-leb 1 place here) ∙ refusal_is counted held.commands_are) some held

    pub line_taken : x ≡ 0 → {t t' : FileTables} → LineStored f m t t' → (place : ℕ) (s : List ℕ) → 1 ≤ place
        → Takes place n m f turn.Line t.heads.now t.arguments.now k s t'.heads.now t'.arguments.now k s
    unfolding turn_of
    line_taken none stored place s here c counted held =
        let args = args_of (drop 4 f) in
        let ls = c.file.lines in
        let room = room_left true q m 1024 x is_x none in
        let head : byte_at f 1 + 256 * byte_at f 2 + 65536 * byte_at f 3 ≡ head_code (line_of f) =
        rw (← count) (head_by (byte_at f 1) (byte_at f 2) args tells.kind (rw count tells.fits)) in
        let code : args_code args ≡ args_code (args_of_line (line_of f)) =
        ap args_code (sym (arguments_by (byte_at f 1) (byte_at f 2) args)) in
        taken f (is_line f kind)
        (is_in_place f (is_line f kind) counted (le-leb 1 place here) ∙ refusal_is counted held.commands_are ∙ none) refl
        (record {
          heads_are = stored.head ∙ entry_written head_code 1024 m ls (line_of f) _ _ held.heads_are counted.lines_are room head;
          arguments_are = stored.arguments
              ∙ entry_written (λ l. args_code (args_of_line l)) 1024 m ls (line_of f) _ _ held.arguments_are counted.lines_are room code;
          commands_are = held.commands_are;
          steps_are = held.steps_are;
        })
