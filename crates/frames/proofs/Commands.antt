-- Laws of a command's frame: what its form tells, what is decoded of it, its refusals, and what stands in the tables once it is taken.
-- Assumes nothing.
use mathlib.Core.Path.{◌≡◌, refl, sym, ap, ◌∙◌}
use mathlib.Core.Bool.{Bool, true, false, ◌&&◌}
use mathlib.Core.List.{List, map}
use Prim.Native.Nat.{ℕ, ◌+◌, ◌-◌, ◌*◌, ◌≤◌}
use native.Mathlib.Omega.{arith}
use lib.Dec.{leb, ltb, eqb}
use lib.ListN.{length, take, drop, length-drop}
use borrow.Author.Tests.{leb-true, eqb-true}
use Rattle.model.specs.Basics.{◌else◌then◌, every}
use Rattle.model.specs.Frame.{File, byte_at, steps_of, command_of, step_formed, returns_last, names_made, command_kind, body_refusal}
use Rattle.model.specs.Tables.{padded, step_code, command_code}
use Rattle.frames.specs.Turn.{turn_of}
use Rattle.frames.specs.Parts.{no_step, filled, head_formed, DecodedAs, CommandStored, Takes}
use Rattle.frames.specs.declared.file_tables.FileTables.{FileTables}
use Rattle.frames.specs.declared.command.Command.{Command}
use Rattle.frames.specs.Turn as turn
use Rattle.frames.proofs.Lists.{both, whole_rest, filled_first, filled_map}
use Rattle.frames.proofs.Turns.{refused, room_left, is_command, taken, is_in_place}
use Rattle.frames.proofs.Tables.{entry_written, steps_written}
use Rattle.frames.proofs.Steps.{steps_count}

-- ---- the first bytes

pub record HeadTells (f : List ℕ) : Type 0 where
  pub few_params : byte_at f 1 ≤ 4
  pub some_step : 1 ≤ byte_at f 2
  pub few_steps : byte_at f 2 ≤ 16
  pub whole : length f ≡ 3 + 4 * byte_at f 2

pub formed_head : (f : List ℕ) → head_formed f ≡ true → HeadTells f
unfolding head_formed
formed_head f formed =
    let three = both (leb (byte_at f 1) 4 && leb 1 (byte_at f 2) && leb (byte_at f 2) 16) (eqb (length f) (3 + 4 * byte_at f 2)) formed in
    let two = both (leb (byte_at f 1) 4 && leb 1 (byte_at f 2)) (leb (byte_at f 2) 16) three.0 in
    let one = both (leb (byte_at f 1) 4) (leb 1 (byte_at f 2)) two.0 in
    record {
      few_params = leb-true (byte_at f 1) 4 one.0;
      some_step = leb-true 1 (byte_at f 2) one.1;
      few_steps = leb-true (byte_at f 2) 16 two.1;
      whole = eqb-true (length f) (3 + 4 * byte_at f 2) three.1;
    }

head_tells : (f : List ℕ) (b : Bool) → b ≡ head_formed f → b ≡ true → HeadTells f
head_tells f b is good = formed_head f (sym is ∙ good)

pub head_whole : (f : List ℕ) (b : Bool) → b ≡ head_formed f → b ≡ true → length f ≡ 3 + 4 * byte_at f 2
head_whole f b is good = (head_tells f b is good).whole

pub head_some : (f : List ℕ) (b : Bool) → b ≡ head_formed f → b ≡ true → 1 ≤ byte_at f 2
head_some f b is good = (head_tells f b is good).some_step

pub head_few : (f : List ℕ) (b : Bool) → b ≡ head_formed f → b ≡ true → byte_at f 2 ≤ 16
head_few f b is good = (head_tells f b is good).few_steps

-- ---- the refusals
module _ (f : List ℕ) (kind : byte_at f 0 ≡ 2) (b : Bool) (is_b : b ≡ head_formed f) where
  pub head_unformed : b ≡ false → (n : ℕ) (k s : List ℕ) (m : ℕ) (h a : List ℕ) → Takes 1 n m f (turn.Refused 4) h a k s h a k s
  unfolding head_formed
  head_unformed unformed n k s m h a c counted held =
      let e : head_formed f ≡ false = sym is_b ∙ unformed in
      refused 4 (is_in_place f (is_command f kind) counted refl ∙ rw e) (λ q. omega arith) held

  module _ (good : b ≡ true) (r : Command) (is_r : DecodedAs (take (length f - 3) (drop 3 f)) (byte_at f 1) (byte_at f 2) r) where
    tells : HeadTells f
    tells = head_tells f b is_b good

    count_is : length (steps_of (drop 3 f)) ≡ r.count
    count_is = steps_count (drop 3 f) (byte_at f 2) (omega (arith, length-drop 3 f, tells.whole)) ∙ sym is_r.count_is

    filled_are : r.steps ≡ filled 16 no_step (steps_of (drop 3 f))
    filled_are = is_r.steps_are ∙ ap (λ (l : List ℕ). filled 16 no_step (steps_of l)) (whole_rest 3 f)

    -- the decoded steps are the frame's
    steps_are : take r.count r.steps ≡ steps_of (drop 3 f)
    steps_are = rw (filled_are, ← count_is) (filled_first 16 no_step (steps_of (drop 3 f)))

    codes_are : map step_code r.steps ≡ padded 16 (map step_code (steps_of (drop 3 f)))
    unfolding padded filled step_code
    codes_are = ap (map step_code) filled_are ∙ filled_map step_code 16 no_step (steps_of (drop 3 f))

    pub some_step : 1 ≤ r.count
    some_step = omega (arith, is_r.count_is, tells.some_step)

    pub few_steps : r.count ≤ 16
    few_steps = omega (arith, is_r.count_is, tells.few_steps)

    module _ (p q : Bool)
        (is_p : p ≡ (every step_formed (take r.count r.steps) && returns_last (take r.count r.steps)))
        (is_q : q ≡ names_made r.params (take r.count r.steps))
        (n x : ℕ) (is_x : x ≡ (p else 4 then ltb n 32 else 5 then q else 6 then 0)) where
      refusal_is : (φ : File) → n ≡ length φ.commands → body_refusal φ command_kind f ≡ x
      unfolding head_formed
      refusal_is φ count =
          let e : head_formed f ≡ true = sym is_b ∙ good in
          rw (e, ← count, is_x, is_p, is_q, steps_are, is_r.params_are)

      pub command_refused : (x ≡ 0 → ⊥) → (k s : List ℕ) (m : ℕ) (h a : List ℕ) → Takes 1 n m f (turn.Refused x) h a k s h a k s
      command_refused some k s m h a c counted held =
          refused x (is_in_place f (is_command f kind) counted refl ∙ refusal_is c.file counted.commands_are) some held

      pub command_taken : x ≡ 0 → {t t' : FileTables} → CommandStored r n t t' → (m : ℕ) (h a : List ℕ)
          → Takes 1 n m f turn.Command h a t.commands.now t.steps.now h a t'.commands.now t'.steps.now
      unfolding turn_of command_code
      command_taken none stored m h a c counted held =
          let cs = c.file.commands in
          let count = counted.commands_are in
          let room = room_left p q n 32 x is_x none in
          let few : length (steps_of (drop 3 f)) ≤ 16 = omega (arith, count_is, few_steps) in
          let code : r.params + 256 * r.count ≡ command_code (command_of f) = rw (is_r.params_are, count_is) in
          taken f (is_command f kind) (is_in_place f (is_command f kind) counted refl ∙ refusal_is c.file count ∙ none) refl
          (record {
            heads_are = held.heads_are;
            arguments_are = held.arguments_are;
            commands_are = stored.entry ∙ entry_written command_code 32 n cs (command_of f) _ _ held.commands_are count room code;
            steps_are = stored.places ∙ steps_written cs counted.few_steps (command_of f) n _ _ held.steps_are count room codes_are few;
          })
