-- A whole line, from its head: its arguments, and then the steps of its command or an operation of the attacker's own.
-- Assumes nothing.
use Prim.Native.Nat.{ℕ, ◌+◌, ◌-◌, ◌*◌, ◌/◌, ◌%◌, ◌≤◌, ◌<◌, min}
use mathlib.Core.Path.{◌≡◌, refl, sym, ap, ap₂, subst, ◌∙◌}
use mathlib.Core.Bool.{Bool, ◌&&◌}
use mathlib.Core.List.{List, [], map}
use native.Mathlib.Omega.{arith}
use borrow.Author.Tests.{eq-eqb}
use Rattle.std.proofs.Common.{Err, Result}
use lib.Dec.{T, eqb, ltb, leb, eqb→eq, ltb→lt, leb→le}
use lib.ListN.{length, get_or, take, drop, length-take, length-drop, length-map, get_or-map}
use lib.Seq.{get_or-take}
use Rattle.model.specs.Basics.{every}
use Rattle.model.specs.Step.{Command}
use Rattle.model.specs.declared.Operation.{Operation}
use Rattle.model.specs.declared.Operation.TheVariants.{Encrypt, Decrypt, Derive}
use Rattle.model.specs.Value.{Value, compute, value_at}
use Rattle.model.specs.Token.{State, Room, Out, ended, and_then, appear, command_at, call, run_steps}
use Rattle.model.specs.Session.{Arg, Line, calls, computes, Finished, with_arguments, run_line}
use Rattle.model.specs.Frame.{arg_names, line_names, names_made}
use Rattle.model.specs.Tables.{head_code, arg_read, args_of_line, step_code, command_code, operands_read, has_operands, line_read}
use Rattle.model.specs.declared.Step.{Step}
use Rattle.model.proofs.Tests.{and_left, and_right}
use Rattle.values.proofs.Padded.{length_padded}
use Rattle.decoding.specs.Decoded.{step_from, command_from}
use Rattle.decoding.proofs.Decoding.{Read as Sound, places_of, count_back, command_entry, read_at, command_in, steps_part, command_decoded}
use Rattle.token.specs.Outcome.{SameTables}
use Rattle.token.specs.Carried.{PerformsIn, ReadyIn, Stands, room_in}
use Rattle.token.specs.declared.Halt.{Halt}
use Rattle.token.specs.declared.Token.{Token}
use Rattle.line.specs.Lined.{LineGiven, LineReady}
use Rattle.line.specs.Stages.{act_from, head_from, ArgumentsGiven, ArgumentsReady, AllTaken, Taken, StepsGiven, StepsReady, OperandsReady}
use Rattle.line.specs.Stages.{step_at, second_of, computed}
use Rattle.line.specs.declared.Act.{Act}
use Rattle.line.specs.declared.Act.TheVariants.{Call, Compute}
use Rattle.line.specs.declared.Head.{Head}
use Rattle.line.proofs.States.{same_room, rows_length, keys_length, ready_where_it_stands, rows_counted, performs_from_earlier}

-- ---- what a line does with the values of its arguments

abbrev act_of : Line → Act
act_of (calls k args) = Call k
act_of (computes o args) = Compute o

abbrev goes_further : Room → List Command → Act → List Value → State → Out
goes_further ρ cs (Call k) vs σ = call ρ cs k vs σ
goes_further ρ cs (Compute o) vs σ = and_then (appear ρ (compute o vs) σ) (λ v σ'. ended v σ')

arguments_then : (ρ : Room) (cs : List Command) (fs : List Finished) (l : Line) (σ : State)
    → run_line ρ cs fs l σ ≡ with_arguments ρ fs (args_of_line l) [] σ (goes_further ρ cs (act_of l))
arguments_then ρ cs fs (calls k args) σ = refl
arguments_then ρ cs fs (computes o args) σ = refl

computes_operands : (ρ : Room) (cs : List Command) (o : Operation) (vs : List Value) (σ : State)
    → goes_further ρ cs (Compute o) vs σ ≡ computed ρ o (value_at vs 0) (value_at vs (second_of o)) σ
computes_operands ρ cs Encrypt vs σ = refl
computes_operands ρ cs Decrypt vs σ = refl
computes_operands ρ cs (Derive label) vs σ = refl

-- ---- what reading has seen to in a line, and what its head tells

record Read (cs : List Command) (n : ℕ) (l : Line) : Type 0 where
  few : length (args_of_line l) ≤ 4
  read : T (every arg_read (args_of_line l))
  names : T (line_names cs n l)
  operands : T (has_operands l)
  named : T (every (arg_names n) (args_of_line l))

read_in_parts : (cs : List Command) (n : ℕ) (l : Line) → T (line_read cs n l) → Read cs n l
read_in_parts cs n l h =
    let few : Bool = leb (length (args_of_line l)) 4 in
    let read = every arg_read (args_of_line l) in
    let without_operands = and_left (few && read && line_names cs n l) (has_operands l) h in
    let without_names = and_left (few && read) (line_names cs n l) without_operands in
    let names = and_right (few && read) (line_names cs n l) without_operands in
    record {
      few = leb→le (length (args_of_line l)) 4 (and_left few read without_names);
      read = and_right few read without_names;
      names = names;
      operands = and_right (few && read && line_names cs n l) (has_operands l) h;
      named = go l names;
    }
  where
    go : (l : Line) → T (line_names cs n l) → T (every (arg_names n) (args_of_line l))
    go (calls k args) h = and_right (ltb k (length cs) && eqb (length args) (command_at cs k).params) (every (arg_names n) args) h
    go (computes o args) h = h

-- a call's command is there and has as many parameters as the call has arguments
called : (cs : List Command) (n k : ℕ) (args : List Arg) → Read cs n (calls k args)
    → (k < length cs) × (length args ≡ (command_at cs k).params)
called cs n k args R =
    let there : Bool = ltb k (length cs) in
    let many : Bool = eqb (length args) (command_at cs k).params in
    let both = and_left (there && many) (every (arg_names n) args) R.names in
    (ltb→lt k (length cs) (and_left there many both), eqb→eq (length args) (command_at cs k).params (and_right there many both))

labelled : (label : ℕ) (args : List Arg) → T (operands_read (Derive label) args) → (label < 2) × (length args ≡ 1)
labelled label args h =
    let small : Bool = ltb label 2 in
    let one : Bool = eqb (length args) 1 in
    (ltb→lt label 2 (and_left small one h), eqb→eq (length args) 1 (and_right small one h))

-- an operation's operands are there
operands_there : (o : Operation) (args : List Arg) → T (operands_read o args) → (0 < length args) × (second_of o < length args)
operands_there Encrypt args h = let two = eqb→eq (length args) 2 h in (omega arith, omega arith)
operands_there Decrypt args h = let two = eqb→eq (length args) 2 h in (omega arith, omega arith)
operands_there (Derive label) args h = let one = (labelled label args h).1 in (omega arith, omega arith)

head_in_parts : (head kind number count : ℕ) → head ≡ kind + 256 * number + 65536 * count → kind < 256 → number < 256
    → head_from head ≡ record { act = act_from kind number; count = count }
unfolding head_from
head_in_parts head kind number count e kind_small number_small =
    let kind_is : head % 256 ≡ kind = omega arith in
    let number_is : head / 256 % 256 ≡ number = omega arith in
    let count_is : head / 65536 ≡ count = omega arith in
    rw (kind_is, number_is, count_is)

head_told : {head : ℕ} (cs : List Command) (n : ℕ) (l : Line) → length cs ≤ 32 → Read cs n l → head ≡ head_code l
    → head_from head ≡ record { act = act_of l; count = length (args_of_line l) }
unfolding head_code
head_told {head} cs n (calls k args) few R e =
    let there = (called cs n k args R).0 in
    head_in_parts head 0 k (length args) (omega arith) (omega arith) (omega arith)
head_told {head} cs n (computes Encrypt args) few R e = head_in_parts head 1 0 (length args) (omega arith) (omega arith) (omega arith)
head_told {head} cs n (computes Decrypt args) few R e = head_in_parts head 2 0 (length args) (omega arith) (omega arith) (omega arith)
head_told {head} cs n (computes (Derive label) args) few R e =
    let small = (labelled label args R.operands).0 in
    head_in_parts head 3 label (length args) (omega arith) (omega arith) (omega arith)

-- a line that is told to call, or to compute
call_told : (cs : List Command) (n : ℕ) (l : Line) {k : ℕ} → Read cs n l → act_of l ≡ Call k
    → (k < length cs) × (length (args_of_line l) ≡ (command_at cs k).params)
call_told cs n (calls j args) {k} R e =
    let same : j ≡ k = cc in
    subst (λ i. (i < length cs) × (length args ≡ (command_at cs i).params)) same (called cs n j args R)
call_told cs n (computes o args) R e = absurd (let z : ◌≡◌ {A = ℕ} 0 1 = cc in omega arith)

operation_told : (cs : List Command) (n : ℕ) (l : Line) {o : Operation} → Read cs n l → act_of l ≡ Compute o
    → (0 < length (args_of_line l)) × (second_of o < length (args_of_line l))
operation_told cs n (calls j args) R e = absurd (let z : ◌≡◌ {A = ℕ} 0 1 = cc in omega arith)
operation_told cs n (computes p args) {o} R e =
    let same : p ≡ o = cc in
    subst (λ (q : Operation). (0 < length args) × (second_of q < length args)) same (operands_there p args R.operands)

-- ---- from the line to its stages

-- the places of the steps' table that the code takes for a call
abbrev part_for : ℕ → ℕ → List ℕ → List ℕ
part_for k count steps = take (16 * k + count - 16 * k) (drop (16 * k) steps)

module _ {σ : State} {cs : List Command} {fs : List Finished} {l : Line} {t : Token} {outcomes commands steps : List ℕ} {head args : ℕ}
    (G : LineGiven σ cs fs l t outcomes commands steps head args) {h : Head} (told : h ≡ head_from head) where
  read_line : Read cs (length fs) l
  read_line = read_in_parts cs (length fs) l G.line_is_read

  in_parts : h ≡ record { act = act_of l; count = length (args_of_line l) }
  in_parts = told ∙ head_told cs (length fs) l G.few_commands read_line G.head_is

  line_count : h.count ≡ length (args_of_line l)
  line_count = ap (λ (x : Head). x.count) in_parts

  line_act : {a : Act} → h.act ≡ a → act_of l ≡ a
  line_act e = sym (ap (λ (x : Head). x.act) in_parts) ∙ e

  arguments_given : ArgumentsGiven σ fs (args_of_line l) t outcomes args 0 h.count
  arguments_given = record {
    stands = G.stands;
    finishing = G.finishing;
    read = read_line.read;
    named = read_line.named;
    left_is = G.args_are;
    count_is = omega (arith, line_count);
  }

  -- the places of a call's command in the tables
  module _ {k : ℕ} (is : h.act ≡ Call k) where
    line_calls : (k < length cs) × (length (args_of_line l) ≡ (command_at cs k).params)
    line_calls = call_told cs (length fs) l read_line (line_act is)

    abbrev command : Command
    command = command_at cs k

    pub command_is_within : k < length commands
    command_is_within =
        let few : length (map command_code cs) ≤ 32 = omega (arith, G.few_commands, length-map cs command_code) in
        omega (arith, ap length G.commands_are, length_padded 32 (map command_code cs) few, line_calls.0, G.few_commands)

    command_is_read : Sound command
    command_is_read = read_at cs k G.commands_read line_calls.0

    places : take 16 (drop (16 * k) steps) ≡ places_of command
    places = rw G.steps_are (steps_part cs G.commands_read k line_calls.0)

    places_long : 16 ≤ length (drop (16 * k) steps)
    places_long =
        let codes = map step_code command.steps in
        let few : length codes ≤ 16 = omega (arith, command_is_read.few_steps, length-map command.steps step_code) in
        omega (arith, ap length places, length-take 16 (drop (16 * k) steps), length_padded 16 codes few)

    module _ {count : ℕ} (counted : count ≡ min (get_or commands k 0 / 256) 16) where
      steps_counted : count ≡ length command.steps
      steps_counted =
          let entry = ap (λ t. get_or t k 0) G.commands_are ∙ command_entry cs k line_calls.0 in
          let read : get_or commands k 0 / 256 ≡ length command.steps = ap (λ x. x / 256) entry ∙ count_back command command_is_read in
          omega (arith, read, command_is_read.few_steps)

      pub part_is_within : 16 * k + count ≤ length steps
      part_is_within = omega (arith, places_long, length-drop (16 * k) steps)

      part_is : part_for k count steps ≡ take count (drop (16 * k) steps)
      part_is =
          let size : 16 * k + count - 16 * k ≡ count = omega arith in
          ap (λ n. take n (drop (16 * k) steps)) size

      part_length : length (part_for k count steps) ≡ count
      part_length = ap length part_is ∙ omega (arith, places_long, length-take count (drop (16 * k) steps))

      -- a place of the part stands for the step of that number
      steps_read : (j : ℕ) → j < length command.steps → step_from (get_or (part_for k count steps) j 0) ≡ step_at command.steps j
      unfolding step_from command_in command_from
      steps_read j h =
          let all = drop (16 * k) steps in
          let part = take 16 all in
          let decoded : command_from (get_or commands k 0) part ≡ command =
          rw (G.commands_are, G.steps_are) (command_decoded cs G.commands_read k line_calls.0) in
          let here : get_or (part_for k count steps) j 0 ≡ get_or part j 0 =
          ap (λ xs. get_or xs j 0) part_is
          ∙ get_or-take count all j 0 (omega (arith, steps_counted))
          ∙ sym (get_or-take 16 all j 0 (omega (arith, command_is_read.few_steps))) in
          ap step_from here
          ∙ sym (get_or-map step_from part j 0)
          ∙ sym (get_or-take (min (get_or commands k 0 / 256) 16) (map step_from part) j (step_from 0) (omega (arith, steps_counted)))
          ∙ ap (λ (x : Command). step_at x.steps j) decoded

  -- the arguments were not all taken
  pub line_ends_with_arguments : (e : Halt) (t' : Token)
      → ((σ : State) (fs : List Finished) (asked : List Arg) → ArgumentsGiven σ fs asked t outcomes args 0 h.count
      → Taken (room_in t) σ fs asked (Err e) t')
      → PerformsIn σ (run_line (room_in t) cs fs l σ) (Err e) t'
  line_ends_with_arguments e t' took =
      rw arguments_then (took σ fs (args_of_line l) arguments_given (goes_further (room_in t) cs (act_of l)))

  -- or they were
  module _ {values : List ℕ} {t' : Token} (same : SameTables t t')
      (took : (σ : State) (fs : List Finished) (asked : List Arg) → ArgumentsGiven σ fs asked t outcomes args 0 h.count
      → AllTaken (room_in t) σ fs asked t' values) where
    all_taken : AllTaken (room_in t) σ fs (args_of_line l) t' values
    all_taken = took σ fs (args_of_line l) arguments_given

    goes_on_with_values : {a : Act} → h.act ≡ a → run_line (room_in t) cs fs l σ ≡ goes_further (room_in t') cs a all_taken.vs all_taken.σ'
    goes_on_with_values is =
        arguments_then (room_in t) cs fs l σ
        ∙ all_taken.goes_on (goes_further (room_in t) cs (act_of l))
        ∙ ap₂ (λ (ρ : Room) (a : Act). goes_further ρ cs a all_taken.vs all_taken.σ') (sym (same_room t t' same)) (line_act is)

    -- ---- a call

    module _ {k : ℕ} (is : h.act ≡ Call k) {count : ℕ} (counted : count ≡ min (get_or commands k 0 / 256) 16) where
      steps_given : StepsGiven all_taken.σ' (command is).steps all_taken.vs t' (part_for k count steps) 0 h.count values
      steps_given = record {
        stands = all_taken.stands;
        valued = all_taken.valued;
        made = omega (arith, all_taken.as_many, line_count);
        count_is = omega (arith, part_length is counted, steps_counted is counted);
        codes_are = λ j h.
            let here : 0 + j ≡ j = omega arith in
            rw here (steps_read is counted j h);
        named = subst (λ m. T (names_made m (command is).steps)) (sym (all_taken.as_many ∙ (line_calls is).1))
            (command_is_read is).made_names;
      }

      pub steps_are_ready : ReadyIn t → StepsReady t' (part_for k count steps) h.count values
      steps_are_ready ready = record {
        σ = all_taken.σ';
        ss = (command is).steps;
        vs = all_taken.vs;
        given = steps_given;
        few_steps = omega (arith, part_length is counted, steps_counted is counted, (command_is_read is).few_steps);
        few_params = omega (arith, line_count, read_line.few);
        values_long = all_taken.twenty;
        rows_small = omega (arith, rows_length t t' same, ready.rows_small);
        keys_small = omega (arith, keys_length t t' same, ready.keys_small);
      }

      pub line_runs_steps : (o : Result ℕ Halt) (exit : Token)
          → ((τ : State) (ss : List Step) (vs : List Value) → StepsGiven τ ss vs t' (part_for k count steps) 0 h.count values
          → PerformsIn τ (run_steps (room_in t') ss vs τ) o exit)
          → PerformsIn σ (run_line (room_in t) cs fs l σ) o exit
      line_runs_steps o exit ran =
          let many = all_taken.as_many ∙ (line_calls is).1 in
          let runs : goes_further (room_in t') cs (Call k) all_taken.vs all_taken.σ'
          ≡ run_steps (room_in t') (command is).steps all_taken.vs all_taken.σ' =
          rw (eq-eqb (length all_taken.vs) (command is).params many) in
          performs_from_earlier all_taken.extends (goes_on_with_values is ∙ runs)
          (ran all_taken.σ' (command is).steps all_taken.vs steps_given)

    -- ---- an operation of the attacker's own

    module _ {a : Operation} (is : h.act ≡ Compute a) where
      -- the values that are there are those of the first rows
      operand : (i : ℕ) → i < length (args_of_line l)
          → (get_or values i 0 < t'.used.rows) × (value_at all_taken.σ'.world.rows (get_or values i 0) ≡ value_at all_taken.vs i)
      operand i h =
          let there : i < length all_taken.vs = omega (arith, all_taken.as_many) in
          (omega (arith, all_taken.valued.has_row i there, rows_counted all_taken.stands), all_taken.valued.is i there)

      first_two : (0 < length (args_of_line l)) × (second_of a < length (args_of_line l))
      first_two = operation_told cs (length fs) l read_line (line_act is)

      pub operands_are_ready : ReadyIn t → OperandsReady t' a values
      operands_are_ready ready = record {
        ready = ready_where_it_stands all_taken.stands
            (omega (arith, rows_length t t' same, ready.rows_small))
            (omega (arith, keys_length t t' same, ready.keys_small));
        values_long = all_taken.twenty;
        first_there = (operand 0 first_two.0).0;
        second_there = (operand (second_of a) first_two.1).0;
      }

      pub line_computes_value : (o : Result ℕ Halt) (exit : Token)
          → ((τ : State) → Stands τ t'
          → PerformsIn τ
          (computed (room_in t') a (value_at τ.world.rows (get_or values 0 0)) (value_at τ.world.rows (get_or values (second_of a) 0)) τ)
          o exit)
          → PerformsIn σ (run_line (room_in t) cs fs l σ) o exit
      line_computes_value o exit did =
          let ρ = room_in t' in
          let τ = all_taken.σ' in
          performs_from_earlier all_taken.extends
          (goes_on_with_values is
          ∙ computes_operands ρ cs a all_taken.vs τ
          ∙ ap₂ (λ v w. computed ρ a v w τ) (sym (operand 0 first_two.0).1) (sym (operand (second_of a) first_two.1).1))
          (did τ all_taken.stands)

pub arguments_are_ready : {t : Token} {outcomes commands steps : List ℕ} {head args : ℕ} (R : LineReady t outcomes commands steps head args)
    {h : Head} → h ≡ head_from head → ArgumentsReady t outcomes args h.count
arguments_are_ready R told =
    let read = read_line R.given told in
    record {
      σ = R.σ;
      fs = R.fs;
      args = args_of_line R.l;
      given = arguments_given R.given told;
      few = omega (arith, line_count R.given told, read.few);
      rows_small = R.ready.rows_small;
    }
