-- What is counted and held at the start, and that a frame that is taken keeps the counts.
-- Assumes nothing.
use mathlib.Core.Path.{◌≡◌, refl, sym, subst}
use mathlib.Core.Bool.{◌&&◌}
use mathlib.Core.List.{List, [], ◌∷◌, ◌++◌}
use Prim.Native.Nat.{ℕ, zero, suc, ◌+◌, ◌≤◌, ◌<◌}
use native.Mathlib.Omega.{arith}
use lib.Dec.{ltb}
use lib.ListN.{length, get_or, drop, length-append, length-drop}
use Rattle.model.specs.Basics.{◌else◌then◌, every}
use Rattle.model.specs.Step.{Command}
use Rattle.model.specs.Frame.{File, Reading, Kind, policy_kind, command_kind, line_kind, byte_at, steps_of, command_of, step_formed}
use Rattle.model.specs.Frame.{returns_last, names_made, command_formed, line_formed, line_names, line_of, nothing_read, kind_of, in_place}
use Rattle.model.specs.Frame.{body_refusal, frame_refusal, with_frame}
use Rattle.model.specs.File.{after_frame}
use Rattle.model.specs.Tables.{Held, zeros, padded, step_codes}
use Rattle.model.proofs.Tests.{met}
use Rattle.frames.specs.Turn.{Counted}
use Rattle.frames.specs.Parts.{head_formed}
use Rattle.frames.proofs.Lists.{is_true, both}
use Rattle.frames.proofs.Turns.{room_left}
use Rattle.frames.proofs.Steps.{steps_count}
use Rattle.frames.proofs.Commands.{HeadTells, formed_head}

-- ---- the start

pub nothing_counted : Counted nothing_read 0 0 0
nothing_counted =
    record { place_is = refl; commands_are = refl; lines_are = refl; few_params = λ i. omega arith; few_steps = λ i. omega arith }

pub nothing_held : Held nothing_read.file (zeros 1024) (zeros 1024) (zeros 32) (zeros 512)
unfolding padded step_codes
nothing_held = record { heads_are = refl; arguments_are = refl; commands_are = refl; steps_are = refl }

-- ---- what a frame that is taken was tested for

not_refused : (c : Reading) (f : List ℕ) (kind : Kind) → kind_of f ≡ kind → frame_refusal c f ≡ 0 → body_refusal c.file kind f ≡ 0
not_refused c f kind is none = rw is at (met (in_place c.place (kind_of f)) 2 (body_refusal c.file (kind_of f) f) none).1

module _ (φ : File) (f : List ℕ) where
  command_room : body_refusal φ command_kind f ≡ 0 → length φ.commands < 32
  command_room none =
      room_left (command_formed f) (names_made (byte_at f 1) (command_of f).steps) (length φ.commands) 32 (body_refusal φ command_kind f)
      refl none

  line_room : body_refusal φ line_kind f ≡ 0 → length φ.lines < 1024
  line_room none =
      let named = line_names φ.commands (length φ.lines) (line_of f) in
      room_left (line_formed f) named (length φ.lines) 1024 (body_refusal φ line_kind f) refl none

  command_head : body_refusal φ command_kind f ≡ 0 → HeadTells f
  unfolding head_formed
  command_head none =
      let rest = ltb (length φ.commands) 32 else 5 then names_made (byte_at f 1) (command_of f).steps else 6 then 0 in
      let formed = is_true (command_formed f) (met (command_formed f) 3 rest none).0 in
      let steps = both (head_formed f && every step_formed (steps_of (drop 3 f))) (returns_last (steps_of (drop 3 f))) formed in
      formed_head f (both (head_formed f) (every step_formed (steps_of (drop 3 f))) steps.0).0

-- ---- the counts after it

-- what holds at every place of a list holds with one element more
at_more : {A : Type 0} (P : A → Type 0) (z : A) (xs : List A) (x : A) → ((i : ℕ) → P (get_or xs i z)) → P x → (i : ℕ)
    → P (get_or (xs ++ x ∷ []) i z)
at_more P z [] x all this zero = this
at_more P z [] x all this (suc i) = all 0
at_more P z (y ∷ xs) x all this zero = all 0
at_more P z (y ∷ xs) x all this (suc i) = at_more P z xs x (λ j. all (suc j)) this i

module _ {c : Reading} {place n m : ℕ} (counted : Counted c place n m) (f : List ℕ) (taken : frame_refusal c f ≡ 0) where
  after : (kind : Kind) → kind_of f ≡ kind → (p i j : ℕ) → Counted (with_frame c.file kind f) p i j → Counted (after_frame c f) p i j
  after kind is p i j h = subst (λ (x : Kind). Counted (with_frame c.file x f) p i j) (sym is) h

  pub after_policy : kind_of f ≡ policy_kind → Counted (after_frame c f) 1 n m
  after_policy is = after policy_kind is 1 n m
      (record {
        place_is = refl;
        commands_are = counted.commands_are;
        lines_are = counted.lines_are;
        few_params = counted.few_params;
        few_steps = counted.few_steps;
      })

  pub after_command : kind_of f ≡ command_kind → Counted (after_frame c f) 1 (n + 1) m × (n < 32)
  after_command is =
      let none = not_refused c f command_kind is taken in
      let head = command_head c.file f none in
      let room = command_room c.file f none in
      let steps = steps_count (drop 3 f) (byte_at f 2) (omega (arith, length-drop 3 f, head.whole)) in
      let few : length (steps_of (drop 3 f)) ≤ 16 = omega (arith, head.few_steps) in
      let cs = c.file.commands in
      let no : Command = record { params = 0; steps = [] } in (
        after command_kind is 1 (n + 1) m
            (record {
              place_is = refl;
              commands_are = omega (arith, counted.commands_are, length-append cs (command_of f ∷ []));
              lines_are = counted.lines_are;
              few_params = at_more (λ (d : Command). d.params ≤ 4) no cs (command_of f) counted.few_params head.few_params;
              few_steps = at_more (λ (d : Command). length d.steps ≤ 16) no cs (command_of f) counted.few_steps few;
            }),
        omega (arith, counted.commands_are),
      )

  pub read_after_line : kind_of f ≡ line_kind → Counted (after_frame c f) 2 n (m + 1) × (m < 1024)
  read_after_line is =
      let room = line_room c.file f (not_refused c f line_kind is taken) in (
        after line_kind is 2 n (m + 1)
            (record {
              place_is = refl;
              commands_are = counted.commands_are;
              lines_are = omega (arith, counted.lines_are, length-append c.file.lines (line_of f ∷ []));
              few_params = counted.few_params;
              few_steps = counted.few_steps;
            }),
        omega (arith, counted.lines_are),
      )
