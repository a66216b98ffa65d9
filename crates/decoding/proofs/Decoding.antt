-- The codings of steps and commands undone, and the tables that reading leaves: what each of their entries stands for.
-- Other crates that work from the same tables cite these laws too.
-- Assumes nothing.
use Prim.Native.Nat.{ℕ, zero, suc, ◌+◌, ◌-◌, ◌*◌, ◌/◌, ◌%◌, ◌≤◌, ◌<◌, min}
use mathlib.Core.Path.{◌≡◌, refl, sym, ap, ap₂, ◌∙◌}
use mathlib.Core.List.{List, [], ◌∷◌, ◌++◌, map, append_assoc}
use native.Mathlib.Omega.{arith}
use lib.Dec.{T, ltb, leb, ltb→lt, leb→le, eqb→eq}
use lib.ListN.{get_or, length, take, drop, length-append, length-replicate, length-map, get_or-append, get_or-map}
use lib.Seq.{take-append_seam, take_at, drop_at, drop-drop, get_or-take, get_or-drop}
use Rattle.std.proofs.lemmas.List.{map-append}
use Rattle.model.specs.Basics.{every, up_from}
use Rattle.model.specs.Step.{fields_of, ops, op_of, Command}
use Rattle.model.specs.declared.Operation.TheVariants.{Encrypt, Decrypt, Derive}
use Rattle.model.specs.declared.Op.{Op}
use Rattle.model.specs.declared.Op.TheVariants.{Return, Get, Generate, Store, Compute, Unknown}
use Rattle.model.specs.declared.Use.{Use}
use Rattle.model.specs.declared.Use.TheVariants.{Nothing, Operand, Attributes, Label}
use Rattle.model.specs.Token.{command_at}
use Rattle.model.specs.Frame.{field_formed, step_formed, field_names, step_names, names_made}
use Rattle.model.specs.Tables.{zeros, padded, step_code, command_code, step_codes, command_read}
use Rattle.model.specs.declared.Step.{Step}
use Rattle.model.proofs.Tests.{and_left, and_right}
use Rattle.decoding.specs.Decoded.{step_from, command_from}

-- ---- a step

pub record Small (s : Step) : Type 0 where
  pub op_small : s.op < 64
  pub a_small : s.a < 64
  pub b_small : s.b < 64
  pub t_small : s.t < 64

module _ (s : Step) (small : Small s) where
  pub op_back : step_code s % 256 ≡ s.op
  unfolding step_code
  op_back = omega arith

  pub a_back : step_code s / 256 % 256 ≡ s.a
  unfolding step_code
  a_back = omega arith

  pub b_back : step_code s / 65536 % 256 ≡ s.b
  unfolding step_code
  b_back = omega arith

  pub t_back : step_code s / 16777216 % 256 ≡ s.t
  unfolding step_code
  t_back = omega arith

  pub step_back : step_from (step_code s) ≡ s
  unfolding step_from
  step_back = rw (op_back, a_back, b_back, t_back)

-- The steps that reading takes are small: a field is 0 where its op does not use it, names one of at most twenty values,
-- or is a set of attributes or a label.

used_small : (u : Use) (n x : ℕ) → n ≤ 20 → T (field_formed u x) → T (field_names n u x) → x < 64
used_small Nothing n x few formed named = let none = eqb→eq x 0 formed in omega arith
used_small Operand n x few formed named = let made = ltb→lt x n named in omega arith
used_small Attributes n x few formed named = ltb→lt x 64 formed
used_small Label n x few formed named = let low = ltb→lt x 2 formed in omega arith

-- no op names a value by its last field
last_small : (o : Op) (x : ℕ) → T (field_formed (fields_of o).t x) → x < 64
last_small Return x formed = let none = eqb→eq x 0 formed in omega arith
last_small Get x formed = ltb→lt x 64 formed
last_small Generate x formed = ltb→lt x 64 formed
last_small Store x formed = ltb→lt x 64 formed
last_small (Compute Encrypt) x formed = let none = eqb→eq x 0 formed in omega arith
last_small (Compute Decrypt) x formed = let none = eqb→eq x 0 formed in omega arith
last_small (Compute (Derive l)) x formed = let low = ltb→lt x 2 formed in omega arith
last_small Unknown x formed = let none = eqb→eq x 0 formed in omega arith

pub step_small : (n : ℕ) (s : Step) → n ≤ 20 → T (step_formed s) → T (step_names n s) → Small s
step_small n s few formed named =
    let uses = fields_of (op_of s) in
    let known : T (ltb s.op (length (ops s.t))) = search (and_left, and_right) in
    record {
      op_small = omega (arith, ltb→lt s.op (length (ops s.t)) known);
      a_small = used_small uses.a n s.a few (search (and_left, and_right)) (search and_left);
      b_small = used_small uses.b n s.b few (search (and_left, and_right)) (search (and_left, and_right));
      t_small = last_small (op_of s) s.t (search (and_left, and_right));
    }

steps_back : (n : ℕ) (ss : List Step) → n + length ss ≤ 20 → T (every step_formed ss) → T (names_made n ss)
    → map step_from (map step_code ss) ≡ ss
unfolding names_made
steps_back n [] few formed named = refl
steps_back n (s ∷ ss) few formed named =
    ap₂ (λ x xs. x ∷ xs)
    (step_back s (step_small n s (omega arith) (search and_left) (search and_left)))
    (steps_back (suc n) ss (omega arith) (search and_right) (search and_right))

-- ---- a command

-- what reading has seen to in a command, in its parts
pub record Read (c : Command) : Type 0 where
  pub few_params : c.params ≤ 4
  pub few_steps : length c.steps ≤ 16
  pub steps_formed : T (every step_formed c.steps)
  pub made_names : T (names_made c.params c.steps)

pub read_in_parts : (c : Command) → T (command_read c) → Read c
read_in_parts c read =
    let params : T (leb c.params 4) = search (and_left, and_right) in
    let count : T (leb (length c.steps) 16) = search (and_left, and_right) in
    record {
      few_params = leb→le c.params 4 params;
      few_steps = leb→le (length c.steps) 16 count;
      steps_formed = search (and_left, and_right);
      made_names = search (and_left, and_right);
    }

-- the places of a command in the steps' table
abbrev pub places_of : Command → List ℕ
places_of c = padded 16 (map step_code c.steps)

length_padded : (n : ℕ) (xs : List ℕ) → length xs ≤ n → length (padded n xs) ≡ n
unfolding padded
length_padded n xs fits = simp (length-append, length-replicate) (omega arith)

module _ (c : Command) (read : Read c) where
  pub params_back : command_code c % 256 ≡ c.params
  unfolding command_code
  params_back = omega (arith, read.few_params)

  pub count_back : command_code c / 256 ≡ length c.steps
  unfolding command_code
  count_back = omega (arith, read.few_params)

  pub command_back : command_from (command_code c) (places_of c) ≡ c
  unfolding command_from padded
  command_back =
      let codes = map step_code c.steps in
      let unused = map step_from (zeros (16 - length codes)) in
      let params : min (command_code c % 256) 4 ≡ c.params = omega (arith, params_back, read.few_params) in
      let count : min (command_code c / 256) 16 ≡ length c.steps = omega (arith, count_back, read.few_steps) in
      let few : c.params + length c.steps ≤ 20 = omega (arith, read.few_params, read.few_steps) in
      ap₂ (λ k ss. record { params = k; steps = ss }) params
      (ap₂ take count (map-append step_from codes (zeros (16 - length codes))
      ∙ ap (λ l. l ++ unused) (steps_back c.params c.steps few read.steps_formed read.made_names))
      ∙ take-append_seam c.steps unused)

  sixteen_places : length (places_of c) ≡ 16
  sixteen_places = length_padded 16 (map step_code c.steps) (omega (arith, length-map c.steps step_code, read.few_steps))

-- ---- the tables

padded_entry : (n : ℕ) (xs : List ℕ) (i : ℕ) → i < length xs → get_or (padded n xs) i 0 ≡ get_or xs i 0
unfolding padded
padded_entry n xs i within = get_or-append xs (zeros (n - length xs)) 0 i within

pub command_entry : (cs : List Command) (c : ℕ) → c < length cs
    → get_or (padded 32 (map command_code cs)) c 0 ≡ command_code (command_at cs c)
unfolding command_code
command_entry cs c there =
    padded_entry 32 (map command_code cs) c (omega (arith, length-map cs command_code))
    ∙ get_or-map command_code cs c (record { params = 0; steps = [] })

pub read_at : (cs : List Command) (c : ℕ) → T (every command_read cs) → c < length cs → Read (command_at cs c)
read_at [] c read there = absurd (omega arith)
read_at (x ∷ xs) zero read there = read_in_parts x (search and_left)
read_at (x ∷ xs) (suc c) read there = read_at xs c (search and_right) (omega arith)

-- the sixteen places of command c, whatever follows the last command
places_before : (cs : List Command) (later : List ℕ) (c : ℕ) → T (every command_read cs) → c < length cs
    → take 16 (drop (16 * c) (step_codes cs ++ later)) ≡ places_of (command_at cs c)
unfolding step_codes
places_before [] later c read there = absurd (omega arith)
places_before (x ∷ xs) later zero read there =
    rw append_assoc (take_at (places_of x) (step_codes xs ++ later) 16 (sixteen_places x (read_at (x ∷ xs) 0 read there)))
places_before (x ∷ xs) later (suc c) read there =
    let next : 16 * suc c ≡ 16 + 16 * c = omega arith in
    let size = sixteen_places x (read_at (x ∷ xs) 0 read (omega arith)) in
    rw (append_assoc, next, ← drop-drop, drop_at (places_of x) (step_codes xs ++ later) 16 size)
    (places_before xs later c (search and_right) (omega arith))

-- command c of two tables, and k commands from c on
unfoldable pub command_in : List ℕ → List ℕ → ℕ → Command
command_in commands steps c = command_from (get_or commands c 0) (take 16 (drop (16 * c) steps))

unfoldable pub commands_in : List ℕ → List ℕ → ℕ → ℕ → List Command
commands_in commands steps c k = map (command_in commands steps) (up_from c k)

module _ (cs : List Command) (read : T (every command_read cs)) (c : ℕ) (there : c < length cs) where
  pub steps_part : take 16 (drop (16 * c) (padded 512 (step_codes cs))) ≡ places_of (command_at cs c)
  unfolding padded
  steps_part = places_before cs (zeros (512 - length (step_codes cs))) c read there

  pub step_entry : (i : ℕ) → i < length (command_at cs c).steps
      → get_or (padded 512 (step_codes cs)) (16 * c + i) 0
      ≡ step_code (get_or (command_at cs c).steps i (record { op = 0; a = 0; b = 0; t = 0 }))
  unfolding step_code
  step_entry i within =
      let steps = (command_at cs c).steps in
      let table = padded 512 (step_codes cs) in
      let few = (read_at cs c read there).few_steps in
      sym (get_or-drop (16 * c) table i 0)
      ∙ sym (get_or-take 16 (drop (16 * c) table) i 0 (omega arith))
      ∙ ap (λ l. get_or l i 0) steps_part
      ∙ padded_entry 16 (map step_code steps) i (omega (arith, length-map steps step_code))
      ∙ get_or-map step_code steps i (record { op = 0; a = 0; b = 0; t = 0 })

  pub command_decoded : command_in (padded 32 (map command_code cs)) (padded 512 (step_codes cs)) c ≡ command_at cs c
  unfolding command_in
  command_decoded = ap₂ command_from (command_entry cs c there) steps_part ∙ command_back (command_at cs c) (read_at cs c read there)

-- a list from its entries, which f gives from i on
by_entries : (f : ℕ → Command) (i : ℕ) (cs : List Command) → ((j k : ℕ) → j ≡ i + k → k < length cs → f j ≡ command_at cs k)
    → map f (up_from i (length cs)) ≡ cs
unfolding up_from
by_entries f i [] entry = refl
by_entries f i (x ∷ xs) entry =
    ap₂ (λ y ys. y ∷ ys) (entry i 0 (omega arith) (omega arith))
    (by_entries f (suc i) xs (λ j k e l. entry j (suc k) (omega arith) (omega arith)))

pub commands_decoded : (cs : List Command) → T (every command_read cs)
    → commands_in (padded 32 (map command_code cs)) (padded 512 (step_codes cs)) 0 (length cs) ≡ cs
unfolding commands_in
commands_decoded cs read =
    let decoded = command_in (padded 32 (map command_code cs)) (padded 512 (step_codes cs)) in
    by_entries decoded 0 cs (λ j k e l. ap decoded (omega arith) ∙ command_decoded cs read k l)
