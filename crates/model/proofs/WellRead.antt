-- What reading has seen to: a file that it takes has commands and lines within the bounds that the code relies on.
-- Assumes nothing.
use Prim.Native.Nat.{ℕ, zero, suc, ◌+◌, ◌-◌, ◌*◌, ◌≤◌, ◌<◌}
use mathlib.Core.Path.{◌≡◌, refl, sym, subst}
use mathlib.Core.Bool.{Bool, true, false, cond, ◌&&◌}
use mathlib.Core.List.{List, [], ◌∷◌, ◌++◌}
use native.Mathlib.Omega.{arith}
use lib.Dec.{T, eqb, ltb, leb, eqb→eq, ltb→lt, leb→le, lt→ltb, le→leb}
use lib.ListN.{length, drop, length-append, length-drop}
use Rattle.model.specs.Basics.{◌else◌then◌, every}
use Rattle.model.specs.Step.{Command}
use Rattle.model.specs.Session.{Arg, constant, of_line, Line}
use Rattle.model.specs.Text.{TextLine, lines_of, is_digit, digit_value, in_pairs, well_written, bytes_of, number_from}
use Rattle.model.specs.Frame.{File, Reading, nothing_read, Kind, policy_kind, command_kind, line_kind, other_kind, kind_of, byte_at, steps_of, step_formed, returns_last, command_of, command_formed, names_made, arg_of, args_of, line_by, line_of, head_fits, line_formed, line_names, in_place, body_refusal, frame_refusal, with_frame}
use Rattle.model.specs.File.{Parsed, refused, file, line_refusal, after_frame, unless_refused, parse_from, parse}
use Rattle.model.specs.Tables.{command_read, arg_read, args_of_line, line_read, lines_read, has_operands, WellRead}
use Rattle.model.proofs.Tests.{and_left, and_right, and_both, met}

-- ---- bytes, steps and arguments

abbrev small : ℕ → Bool
small b = ltb b 256

pub bytes_small : (body : List ℕ) → T (in_pairs body) → T (every small (bytes_of body))
unfolding in_pairs bytes_of
bytes_small [] h = tt
bytes_small (x ∷ []) h = absurd h
bytes_small (x ∷ y ∷ s) h =
    let pair = and_left (is_digit x && is_digit y) (in_pairs s) h in
    let high = ltb→lt (digit_value x) 16 (and_left (is_digit x) (is_digit y) pair) in
    let low = ltb→lt (digit_value y) 16 (and_right (is_digit x) (is_digit y) pair) in
    and_both (small (16 * digit_value x + digit_value y)) (every small (bytes_of s)) (lt→ltb (16 * digit_value x + digit_value y) 256 (omega arith))
    (bytes_small s (and_right (is_digit x && is_digit y) (in_pairs s) h))

every_drop : (q : ℕ → Bool) (n : ℕ) (l : List ℕ) → T (every q l) → T (every q (drop n l))
every_drop q zero l h = h
every_drop q (suc n) [] h = h
every_drop q (suc n) (x ∷ l) h = every_drop q n l (and_right (q x) (every q l) h)

every_snoc : {A : Type 0} (q : A → Bool) (l : List A) (x : A) → T (every q l) → T (q x) → T (every q (l ++ x ∷ []))
every_snoc q [] x h k = and_both (q x) true k tt
every_snoc q (y ∷ ys) x h k =
    and_both (q y) (every q (ys ++ x ∷ [])) (and_left (q y) (every q ys) h) (every_snoc q ys x (and_right (q y) (every q ys) h) k)

steps_of_four : (part : List ℕ) → 4 * length (steps_of part) ≤ length part
unfolding steps_of
steps_of_four [] = omega arith
steps_of_four (o ∷ []) = omega arith
steps_of_four (o ∷ x ∷ []) = omega arith
steps_of_four (o ∷ x ∷ y ∷ []) = omega arith
steps_of_four (o ∷ x ∷ y ∷ z ∷ rest) = let shorter = steps_of_four rest in omega arith

args_of_two : (part : List ℕ) → 2 * length (args_of part) ≤ length part
unfolding args_of
args_of_two [] = omega arith
args_of_two (x ∷ []) = omega arith
args_of_two (x ∷ y ∷ rest) = let shorter = args_of_two rest in omega arith

arg_is_read : (n : ℕ) → n < 65536 → T (arg_read (arg_of n))
arg_is_read n l = go (leb 0x8000 n) (λ t. leb→le 0x8000 n t)
  where
    go : (b : Bool) → (T b → 0x8000 ≤ n) → T (arg_read (cond b (constant (n - 0x8000)) (of_line n)))
    go true f = let high = f tt in lt→ltb (n - 0x8000) 0x8000 (omega arith)
    go false f = tt

args_read : (part : List ℕ) → T (every small part) → T (every arg_read (args_of part))
unfolding args_of number_from
args_read [] h = tt
args_read (x ∷ []) h = tt
args_read (x ∷ y ∷ rest) h =
    let later = and_right (small x) (every small (y ∷ rest)) h in
    let high = ltb→lt x 256 (and_left (small x) (every small (y ∷ rest)) h) in
    let low = ltb→lt y 256 (and_left (small y) (every small rest) later) in
    and_both (arg_read (arg_of (number_from 0 (x ∷ y ∷ [])))) (every arg_read (args_of rest)) (arg_is_read (256 * (256 * 0 + x) + y) (omega arith))
    (args_read rest (and_right (small y) (every small rest) later))

args_of_the_line : (k c : ℕ) (args : List Arg) → args_of_line (line_by k c args) ≡ args
args_of_the_line zero c args = refl
args_of_the_line (suc zero) c args = refl
args_of_the_line (suc (suc zero)) c args = refl
args_of_the_line (suc (suc (suc k))) c args = refl

lines_read_snoc : (cs : List Command) (n : ℕ) (ls : List Line) (l : Line) → T (lines_read cs n ls) → T (line_read cs (n + length ls) l)
    → T (lines_read cs n (ls ++ l ∷ []))
unfolding lines_read
lines_read_snoc cs n [] l h k =
    and_both (line_read cs n l) true (subst (λ (m : ℕ). T (line_read cs m l)) (let e : n + 0 ≡ n = omega arith in e) k) tt
lines_read_snoc cs n (x ∷ xs) l h k =
    and_both (line_read cs n x) (lines_read cs (suc n) (xs ++ l ∷ [])) (and_left (line_read cs n x) (lines_read cs (suc n) xs) h)
    (lines_read_snoc cs (suc n) xs l (and_right (line_read cs n x) (lines_read cs (suc n) xs) h)
    (subst (λ (m : ℕ). T (line_read cs m l)) (let e : n + suc (length xs) ≡ suc n + length xs = omega arith in e) k))

-- ---- what stands before a frame is within bounds, and so is what stands after it

record Sound (c : Reading) : Type 0 where
  well_read : WellRead c.file
  no_lines_yet : c.place ≤ 1 → c.file.lines ≡ []

command_is_read : (f : List ℕ) → T (command_formed f) → T (names_made (byte_at f 1) (steps_of (drop 3 f))) → T (command_read (command_of f))
command_is_read f formed named =
    let steps = steps_of (drop 3 f) in
    let params : Bool = leb (byte_at f 1) 4 in
    let some_step : Bool = leb 1 (byte_at f 2) in
    let few : Bool = leb (byte_at f 2) 16 in
    let long : Bool = eqb (length f) (3 + 4 * byte_at f 2) in
    let without_return = and_left (params && some_step && few && long && every step_formed steps) (returns_last steps) formed in
    let sized = and_left (params && some_step && few && long) (every step_formed steps) without_return in
    let counted = and_left (params && some_step && few) long sized in
    let exact = eqb→eq (length f) (3 + 4 * byte_at f 2) (and_right (params && some_step && few) long sized) in
    let sixteen = leb→le (byte_at f 2) 16 (and_right (params && some_step) few counted) in
    let few_steps : length steps ≤ 16 = omega (arith, steps_of_four (drop 3 f), length-drop 3 f) in
    let some_params = and_left params some_step (and_left (params && some_step) few counted) in
    and_both (params && leb (length steps) 16 && every step_formed steps && returns_last steps) (names_made (byte_at f 1) steps)
    (and_both (params && leb (length steps) 16 && every step_formed steps) (returns_last steps)
    (and_both (params && leb (length steps) 16) (every step_formed steps) (and_both params (leb (length steps) 16) some_params (le→leb (length steps) 16 few_steps))
    (and_right (params && some_step && few && long) (every step_formed steps) without_return))
    (and_right (params && some_step && few && long && every step_formed steps) (returns_last steps) formed))
    named

args_of_pairs : (n : ℕ) (part : List ℕ) → length part ≡ 2 * n → length (args_of part) ≡ n
unfolding args_of
args_of_pairs zero [] e = refl
args_of_pairs zero (x ∷ rest) e = absurd (omega arith)
args_of_pairs (suc n) [] e = absurd (omega arith)
args_of_pairs (suc n) (x ∷ []) e = absurd (omega arith)
args_of_pairs (suc n) (x ∷ y ∷ rest) e = let rest_paired = args_of_pairs n rest (omega arith) in omega arith

-- the operands that the kind asks for, as many as the count says
operands_are_read : (k c n : ℕ) (args : List Arg) → length args ≡ n → T (head_fits k c n) → T (has_operands (line_by k c args))
operands_are_read zero c n args counted t = tt
operands_are_read (suc zero) c n args counted t = rw counted (and_right (eqb c 0) (eqb n 2) t)
operands_are_read (suc (suc zero)) c n args counted t = rw counted (and_right (eqb c 0) (eqb n 2) t)
operands_are_read (suc (suc (suc k))) c n args counted t = rw counted t

line_is_read : (f : List ℕ) (cs : List Command) (n : ℕ) → T (every small f) → T (line_formed f) → T (line_names cs n (line_of f)) → T (line_read cs n (line_of f))
line_is_read f cs n bytes formed named =
    let args = args_of (drop 4 f) in
    let kind : Bool = leb (byte_at f 1) 3 in
    let few : Bool = leb (byte_at f 3) 4 in
    let long : Bool = eqb (length f) (4 + 2 * byte_at f 3) in
    let fits : Bool = head_fits (byte_at f 1) (byte_at f 2) (byte_at f 3) in
    let sized = and_left (kind && few && long) fits formed in
    let exact = eqb→eq (length f) (4 + 2 * byte_at f 3) (and_right (kind && few) long sized) in
    let four = leb→le (byte_at f 3) 4 (and_right kind few (and_left (kind && few) long sized)) in
    let counted : length args ≡ byte_at f 3 = args_of_pairs (byte_at f 3) (drop 4 f) (omega (arith, length-drop 4 f)) in
    let same_arguments = args_of_the_line (byte_at f 1) (byte_at f 2) args in
    let small_args : Bool = leb (length (args_of_line (line_of f))) 4 && every arg_read (args_of_line (line_of f)) in
    and_both (small_args && line_names cs n (line_of f)) (has_operands (line_of f))
    (and_both small_args (line_names cs n (line_of f))
    (subst (λ (as' : List Arg). T (leb (length as') 4 && every arg_read as')) (sym same_arguments)
    (and_both (leb (length args) 4) (every arg_read args) (le→leb (length args) 4 (omega arith)) (args_read (drop 4 f) (every_drop small 4 f bytes))))
    named)
    (operands_are_read (byte_at f 1) (byte_at f 2) (byte_at f 3) args counted (and_right (kind && few && long) fits formed))

after_policy : (c : Reading) (f : List ℕ) → Sound c → T (eqb c.place 0) → Sound (with_frame c.file policy_kind f)
after_policy c f s placed = record {
  well_read = record {
    few_commands = s.well_read.few_commands;
    few_lines = s.well_read.few_lines;
    commands_read = s.well_read.commands_read;
    lines_well_read = s.well_read.lines_well_read;
  };
  no_lines_yet = λ _. let start = eqb→eq c.place 0 placed in s.no_lines_yet (omega arith);
}

after_command : (c : Reading) (f : List ℕ) → Sound c → T (eqb c.place 1) → body_refusal c.file command_kind f ≡ 0
    → Sound (with_frame c.file command_kind f)
unfolding lines_read
after_command c f s placed e =
    let formed = met (command_formed f) 3 (ltb (length c.file.commands) 32 else 5 then names_made (byte_at f 1) (command_of f).steps else 6 then 0) e in
    let room = met (ltb (length c.file.commands) 32) 4 (names_made (byte_at f 1) (command_of f).steps else 6 then 0) formed.1 in
    let named = met (names_made (byte_at f 1) (command_of f).steps) 5 0 room.1 in
    let below = ltb→lt (length c.file.commands) 32 room.0 in
    let at_commands = eqb→eq c.place 1 placed in
    let none_yet : c.file.lines ≡ [] = s.no_lines_yet (omega arith) in
    record {
      well_read = record {
        few_commands = omega (arith, length-append c.file.commands (command_of f ∷ []));
        few_lines = s.well_read.few_lines;
        commands_read = every_snoc command_read c.file.commands (command_of f) s.well_read.commands_read
            (command_is_read f formed.0 named.0);
        lines_well_read = subst (λ (ls : List Line). T (lines_read (c.file.commands ++ command_of f ∷ []) 0 ls)) (sym none_yet) tt;
      };
      no_lines_yet = λ _. none_yet;
    }

read_after_line : (c : Reading) (f : List ℕ) → Sound c → T (every small f) → body_refusal c.file line_kind f ≡ 0 → Sound (with_frame c.file line_kind f)
read_after_line c f s bytes e =
    let n = length c.file.lines in
    let formed = met (line_formed f) 3 (ltb n 1024 else 5 then line_names c.file.commands n (line_of f) else 6 then 0) e in
    let room = met (ltb n 1024) 4 (line_names c.file.commands n (line_of f) else 6 then 0) formed.1 in
    let named = met (line_names c.file.commands n (line_of f)) 5 0 room.1 in
    let below = ltb→lt n 1024 room.0 in
    record {
      well_read = record {
        few_commands = s.well_read.few_commands;
        few_lines = omega (arith, length-append c.file.lines (line_of f ∷ []));
        commands_read = s.well_read.commands_read;
        lines_well_read = lines_read_snoc c.file.commands 0 c.file.lines (line_of f) s.well_read.lines_well_read
            (subst (λ (m : ℕ). T (line_read c.file.commands m (line_of f))) (let e : n ≡ 0 + n = omega arith in e)
            (line_is_read f c.file.commands n bytes formed.0 named.0));
      };
      no_lines_yet = λ l. absurd (omega arith);
    }

read_after_frame : (c : Reading) (k : Kind) (f : List ℕ) → Sound c → T (every small f)
    → (in_place c.place k else 3 then body_refusal c.file k f) ≡ 0 → Sound (with_frame c.file k f)
read_after_frame c policy_kind f s bytes e = after_policy c f s (met (eqb c.place 0) 2 (body_refusal c.file policy_kind f) e).0
read_after_frame c command_kind f s bytes e =
    let placed = met (eqb c.place 1) 2 (body_refusal c.file command_kind f) e in
    after_command c f s placed.0 placed.1
read_after_frame c line_kind f s bytes e = read_after_line c f s bytes (met (leb 1 c.place) 2 (body_refusal c.file line_kind f) e).1
read_after_frame c other_kind f s bytes e = absurd (met false 2 0 e).0

-- ---- the whole input

abbrev Taken : Parsed → Type 0
Taken (refused n k) = Unit {0}
Taken (file φ) = WellRead φ

taken_from : (ls : List TextLine) (k : ℕ) (c : Reading) → Sound c → Taken (parse_from ls k c)
unfolding parse_from well_written
taken_from [] k c s = go (eqb c.place 0)
  where
    go : (b : Bool) → Taken (cond b (refused 3 0) (file c.file))
    go true = tt
    go false = s.well_read
taken_from (l ∷ ls) k c s =
    let f = bytes_of l.body in
    go (line_refusal c l) refl (λ e.
    let right = met (well_written l) 1 (frame_refusal c f) e in
    taken_from ls (suc k) (after_frame c f)
    (read_after_frame c (kind_of f) f s (bytes_small l.body (and_right (l.ended && ltb 0 (length l.body)) (in_pairs l.body) right.0)) right.1))
  where
    go : (n : ℕ) → line_refusal c l ≡ n → (line_refusal c l ≡ 0 → Taken (parse_from ls (suc k) (after_frame c (bytes_of l.body))))
        → Taken (unless_refused n k (parse_from ls (suc k) (after_frame c (bytes_of l.body))))
    go zero e later = later e
    go (suc n) e later = tt

nothing_sound : Sound nothing_read
unfolding lines_read
nothing_sound = record {
  well_read = record { few_commands = omega arith; few_lines = omega arith; commands_read = tt; lines_well_read = tt };
  no_lines_yet = λ _. refl;
}

parse_taken : (input : List ℕ) → Taken (parse input)
unfolding parse
parse_taken input = go (leb (length input) 32768)
  where
    go : (b : Bool) → Taken (cond b (parse_from (lines_of input) 0 nothing_read) (refused 1 0))
    go true = taken_from (lines_of input) 0 nothing_read nothing_sound
    go false = tt

pub parsed_well_read : (input : List ℕ) (φ : File) → parse input ≡ file φ → WellRead φ
parsed_well_read input φ e = subst Taken e (parse_taken input)
