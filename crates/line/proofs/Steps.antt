-- The steps of a command, one after the other: what the loop over them has in hand, and that what is left of them gives what the whole
-- does.
-- Assumes nothing.
use Prim.Native.Nat.{ℕ, suc, ◌+◌, ◌≤◌, ◌<◌}
use mathlib.Core.Path.{◌≡◌, refl, sym, ap, ap₂, subst, ◌∙◌}
use mathlib.Core.List.{List, [], ◌∷◌, ◌++◌}
use native.Mathlib.Omega.{arith}
use native.Mathlib.Numerals.{add-one}
use Rattle.std.proofs.Common.{Err, Ok, Result}
use lib.Dec.{T, ltb→lt}
use lib.ListN.{length, get_or, set, length-append, length-set}
use Rattle.model.specs.Step.{op_of, fields_of}
use Rattle.model.specs.declared.Operation.TheVariants.{Encrypt, Decrypt, Derive}
use Rattle.model.specs.declared.Op.{Op}
use Rattle.model.specs.declared.Op.TheVariants.{Return, Get, Generate, Store, Compute, Unknown}
use Rattle.model.specs.declared.Use.{Use}
use Rattle.model.specs.declared.Use.TheVariants.{Nothing, Operand, Attributes, Label}
use Rattle.model.specs.Value.{Value, value_at, compute, operands}
use Rattle.model.specs.Token.{State, Room, Out, ended, and_then, appear, get, store, perform, run_steps}
use Rattle.model.specs.Frame.{field_names, step_names, names_made}
use Rattle.model.specs.declared.Step.{Step}
use Rattle.model.proofs.Tests.{and_left, and_right}
use Rattle.decoding.specs.Decoded.{step_from}
use Rattle.token.specs.Outcome.{SameTables}
use Rattle.token.specs.Carried.{UsedBelow, Named, Extends, PerformsIn, ReadyIn, Stands, room_in}
use Rattle.token.specs.declared.Halt.{Halt}
use Rattle.token.specs.declared.Halt.TheVariants as halt
use Rattle.token.specs.declared.Token.{Token}
use Rattle.token.proofs.Undoing.{extends_refl, extends_trans}
use Rattle.line.specs.Stages.{Valued, StepsGiven, StepsReady}
use Rattle.line.proofs.States.{same_tables_refl, same_tables_trans, same_room, rows_length, keys_length, ready_where_it_stands}
use Rattle.line.proofs.States.{rows_counted, performs_from_earlier, stop_performs, goes_on_with_row, stands_after, ends_with_halt}
use Rattle.line.proofs.States.{values_go_on}

-- ---- a step uses only the values that its op names

abbrev SameWhereUsed : Use → Value → Value → Type 0
SameWhereUsed Nothing v w = Unit {0}
SameWhereUsed Operand v w = v ≡ w
SameWhereUsed Attributes v w = Unit {0}
SameWhereUsed Label v w = Unit {0}

performs_by_what_it_uses : (ρ : Room) (o : Op) (s : Step) (v v' w w' : Value) (σ : State) → SameWhereUsed (fields_of o).a v v'
    → SameWhereUsed (fields_of o).b w w' → perform ρ o s v w σ ≡ perform ρ o s v' w' σ
performs_by_what_it_uses ρ Return s v v' w w' σ e f = ap (λ x. ended x σ) e
performs_by_what_it_uses ρ Get s v v' w w' σ e f = ap (λ x. get ρ s x σ) e
performs_by_what_it_uses ρ Generate s v v' w w' σ e f = refl
performs_by_what_it_uses ρ Store s v v' w w' σ e f = ap (λ x. store ρ x s.t σ) e
performs_by_what_it_uses ρ (Compute Encrypt) s v v' w w' σ e f = ap₂ (λ x y. appear ρ (compute Encrypt (operands Encrypt x y)) σ) e f
performs_by_what_it_uses ρ (Compute Decrypt) s v v' w w' σ e f = ap₂ (λ x y. appear ρ (compute Decrypt (operands Decrypt x y)) σ) e f
performs_by_what_it_uses ρ (Compute (Derive l)) s v v' w w' σ e f = ap (λ y. appear ρ (compute (Derive l) (operands (Derive l) v y)) σ) f
performs_by_what_it_uses ρ Unknown s v v' w w' σ e f = refl

module _ {rows vs : List Value} {values : List ℕ} (H : Valued rows vs values) (x : ℕ) where
  used_has_row : (u : Use) → T (field_names (length vs) u x) → {n : ℕ} → n ≡ length rows → UsedBelow u (get_or values x 0) n
  used_has_row Nothing named count = tt
  used_has_row Operand named count = omega (arith, H.has_row x (ltb→lt x (length vs) named))
  used_has_row Attributes named count = tt
  used_has_row Label named count = tt

  used_is_same : (u : Use) → T (field_names (length vs) u x) → SameWhereUsed u (value_at rows (get_or values x 0)) (value_at vs x)
  used_is_same Nothing named = tt
  used_is_same Operand named = H.is x (ltb→lt x (length vs) named)
  used_is_same Attributes named = tt
  used_is_same Label named = tt

-- ---- the next step

-- the steps that are left are s, which is next, and the rest
record Next (σ : State) (ss : List Step) (vs : List Value) (t : Token) (part : List ℕ) (i params : ℕ) (values : List ℕ) : Type 0 where
  s : Step
  rest : List Step
  split : ss ≡ s ∷ rest
  read_is : step_from (get_or part i 0) ≡ s
  named : Named s (get_or values s.a 0) (get_or values s.b 0) t.used.rows
  same : (ρ : Room)
      → perform ρ (op_of s) s (value_at σ.world.rows (get_or values s.a 0)) (value_at σ.world.rows (get_or values s.b 0)) σ
      ≡ perform ρ (op_of s) s (value_at vs s.a) (value_at vs s.b) σ
  rest_count : i + 1 + length rest ≡ length part
  rest_codes : (j : ℕ) → j < length rest → step_from (get_or part (i + 1 + j) 0) ≡ get_or rest j (record { op = 0; a = 0; b = 0; t = 0 })
  rest_named : T (names_made (suc (length vs)) rest)

next_of : {σ : State} {vs : List Value} {t : Token} {part : List ℕ} {i params : ℕ} {values : List ℕ} (ss : List Step)
    → StepsGiven σ ss vs t part i params values → i < length part → Next σ ss vs t part i params values
unfolding names_made step_from
next_of [] G h = absurd (omega (arith, G.count_is))
next_of {σ} {vs} {part = part} {i} {values = values} (s ∷ rest) G h =
    let uses = fields_of (op_of s) in
    let a_names = field_names (length vs) uses.a s.a in
    let b_names = field_names (length vs) uses.b s.b in
    let names : T (step_names (length vs) s) = and_left (step_names (length vs) s) (names_made (suc (length vs)) rest) G.named in
    let a_named = and_left a_names b_names names in
    let b_named = and_right a_names b_names names in
    let counted = rows_counted G.stands in
    let here : i ≡ i + 0 = omega arith in
    let read : step_from (get_or part i 0) ≡ s = ap (λ k. step_from (get_or part k 0)) here ∙ G.codes_are 0 (omega arith) in
    record {
      s = s;
      rest = rest;
      split = refl;
      read_is = read;
      named = record {
        a_named = used_has_row G.valued s.a uses.a a_named counted;
        b_named = used_has_row G.valued s.b uses.b b_named counted;
        t_byte = omega (arith, ap (λ (x : Step). x.t) read);
      };
      same = λ ρ.
          performs_by_what_it_uses ρ (op_of s) s _ _ _ _ σ
          (used_is_same G.valued s.a uses.a a_named) (used_is_same G.valued s.b uses.b b_named);
      rest_count = omega (arith, G.count_is);
      rest_codes = λ j l.
          let later : i + 1 + j ≡ i + suc j = omega arith in
          ap (λ k. step_from (get_or part k 0)) later ∙ G.codes_are (suc j) (omega arith);
      rest_named = and_right (step_names (length vs) s) (names_made (suc (length vs)) rest) G.named;
    }

none_left : (ss : List Step) → length ss ≤ 0 → ss ≡ []
none_left [] h = refl
none_left (s ∷ rest) h = absurd (omega arith)

-- ---- the loop

-- from the steps ss₀, the values vs₀ and the state σ₀ the call came to what is left and to the state now
pub record Reached (ρ : Room) (σ₀ : State) (ss₀ : List Step) (vs₀ : List Value) (t : Token)
    (part : List ℕ) (i params : ℕ) (values : List ℕ) : Type 0 where
  pub σ : State
  pub ss : List Step
  pub vs : List Value
  pub given : StepsGiven σ ss vs t part i params values
  pub extends : Extends σ₀ σ
  pub same : run_steps ρ ss₀ vs₀ σ₀ ≡ run_steps ρ ss vs σ

pub record Running (before : Token) (part : List ℕ) (params : ℕ) (values₀ : List ℕ) (t : Token) (values : List ℕ) (i : ℕ) : Type 0 where
  pub same_tables : SameTables before t
  pub twenty : length values ≡ 20
  pub reached : (σ : State) (ss : List Step) (vs : List Value) → StepsGiven σ ss vs before part 0 params values₀
      → Reached (room_in before) σ ss vs t part i params values

pub running_begins : {t : Token} {part : List ℕ} {params : ℕ} {values : List ℕ} → length values ≡ 20
    → Running t part params values t values 0
running_begins {t} twenty = record {
  same_tables = same_tables_refl t;
  twenty = twenty;
  reached = λ σ ss vs G. record { σ = σ; ss = ss; vs = vs; given = G; extends = extends_refl σ; same = refl };
}

module _ {before : Token} {part : List ℕ} {params : ℕ} {values₀ : List ℕ} {t : Token} {values : List ℕ} {i : ℕ}
    (L : Running before part params values₀ t values i) where
  -- the step that the code reads at place i, and the rows that it takes for the step's values
  module _ (h : i < length part) (s : Step) (x y : ℕ) (s_is : s ≡ step_from (get_or part i 0)) (x_is : x ≡ get_or values s.a 0)
      (y_is : y ≡ get_or values s.b 0) where
    pub next_is_ready : StepsReady before part params values₀ → ReadyIn t × Named s x y t.used.rows
    next_is_ready R =
        let reached = L.reached R.σ R.ss R.vs R.given in
        let next = next_of reached.ss reached.given h in
        let by_step : Step → Type 0 = λ z. Named z (get_or values z.a 0) (get_or values z.b 0) t.used.rows in
        let named = subst by_step (sym (s_is ∙ next.read_is)) next.named in (
          ready_where_it_stands reached.given.stands
              (omega (arith, rows_length before t L.same_tables, R.rows_small))
              (omega (arith, keys_length before t L.same_tables, R.keys_small)),
          rw (x_is, y_is) named,
        )

    -- one step more
    module _ (o : Result ℕ Halt) (exit : Token)
        (did : (σ : State) → Stands σ t
        → PerformsIn σ (perform (room_in t) (op_of s) s (value_at σ.world.rows x) (value_at σ.world.rows y) σ) o exit) where
      -- the whole is that step and what follows it
      record Turned (σ₀ : State) (ss₀ : List Step) (vs₀ : List Value) : Type 0 where
        reached : Reached (room_in before) σ₀ ss₀ vs₀ t part i params values
        next : Next reached.σ reached.ss reached.vs t part i params values
        out : Out
        performs : PerformsIn reached.σ out o exit
        whole : run_steps (room_in before) ss₀ vs₀ σ₀
            ≡ and_then out (λ v σ'. run_steps (room_in before) next.rest (reached.vs ++ v ∷ []) σ')

      turned : (σ₀ : State) (ss₀ : List Step) (vs₀ : List Value) → StepsGiven σ₀ ss₀ vs₀ before part 0 params values₀ → Turned σ₀ ss₀ vs₀
      unfolding run_steps
      turned σ₀ ss₀ vs₀ G =
          let reached = L.reached σ₀ ss₀ vs₀ G in
          let next = next_of reached.ss reached.given h in
          let σ = reached.σ in
          let ρ = room_in before in
          let by_rows : Room → Step → ℕ → ℕ → Out =
          λ room z j k. perform room (op_of z) z (value_at σ.world.rows j) (value_at σ.world.rows k) σ in
          let out : Out = perform ρ (op_of next.s) next.s (value_at reached.vs next.s.a) (value_at reached.vs next.s.b) σ in
          let by_step : Step → Room → Out = λ z r. by_rows r z (get_or values z.a 0) (get_or values z.b 0) in
          let by_places : by_rows (room_in t) s x y ≡ by_step s (room_in t) = ap₂ (by_rows (room_in t) s) x_is y_is in
          let as_read : by_step s (room_in t) ≡ by_step next.s ρ =
          ap₂ by_step (s_is ∙ next.read_is) (same_room before t L.same_tables) in
          let same_read : by_rows (room_in t) s x y ≡ by_step next.s ρ = by_places ∙ as_read in
          let same_out : by_rows (room_in t) s x y ≡ out = ◌∙◌ {c = out} same_read (next.same ρ) in
          record {
            reached = reached;
            next = next;
            out = out;
            performs = subst (λ (u : Out). PerformsIn σ u o exit) same_out (did σ reached.given.stands);
            whole = reached.same ∙ ap (λ l. run_steps ρ l reached.vs σ) next.split;
          }

    module _ (exit : Token) where
      pub running_ends : (e : Halt)
          → ((σ : State) → Stands σ t
          → PerformsIn σ (perform (room_in t) (op_of s) s (value_at σ.world.rows x) (value_at σ.world.rows y) σ) (Err e) exit)
          → (σ₀ : State) (ss₀ : List Step) (vs₀ : List Value) → StepsGiven σ₀ ss₀ vs₀ before part 0 params values₀
          → PerformsIn σ₀ (run_steps (room_in before) ss₀ vs₀ σ₀) (Err e) exit
      running_ends e did σ₀ ss₀ vs₀ G =
          let turn = turned (Err e) exit did σ₀ ss₀ vs₀ G in
          performs_from_earlier turn.reached.extends turn.whole (ends_with_halt e exit _ turn.performs)

      pub running_goes_on : params + i < 20 → SameTables t exit → (row : ℕ)
          → ((σ : State) → Stands σ t
          → PerformsIn σ (perform (room_in t) (op_of s) s (value_at σ.world.rows x) (value_at σ.world.rows y) σ) (Ok row) exit)
          → Running before part params values₀ exit (set values (params + i) row) (i + 1)
      running_goes_on room kept row did = record {
        same_tables = same_tables_trans before t exit L.same_tables kept;
        twenty = length-set values (params + i) row ∙ L.twenty;
        reached = λ σ₀ ss₀ vs₀ G.
            let turn = turned (Ok row) exit did σ₀ ss₀ vs₀ G in
            let went = goes_on_with_row exit turn.performs in
            let next = turn.next in
            let vs = turn.reached.vs in
            let one_more : length (vs ++ went.value ∷ []) ≡ suc (length vs) = length-append vs (went.value ∷ []) ∙ add-one (length vs) in
            record {
              σ = went.state;
              ss = next.rest;
              vs = vs ++ went.value ∷ [];
              given = record {
                stands = stands_after exit went;
                valued = values_go_on exit turn.reached.given.valued went (sym turn.reached.given.made) (omega (arith, L.twenty));
                made = omega (arith, turn.reached.given.made);
                count_is = next.rest_count;
                codes_are = next.rest_codes;
                named = subst (λ n. T (names_made n next.rest)) (sym one_more) next.rest_named;
              };
              extends = extends_trans turn.reached.extends went.extends;
              same = turn.whole ∙ ap (λ u. and_then u (λ v σ'. run_steps (room_in before) next.rest (vs ++ v ∷ []) σ')) went.is;
            };
      }

  -- after the last step without a return the call stops
  pub steps_run_out : length part ≤ i → (σ₀ : State) (ss₀ : List Step) (vs₀ : List Value)
      → StepsGiven σ₀ ss₀ vs₀ before part 0 params values₀
      → PerformsIn σ₀ (run_steps (room_in before) ss₀ vs₀ σ₀) (Err halt.Stopped) t
  unfolding run_steps
  steps_run_out h σ₀ ss₀ vs₀ G =
      let reached = L.reached σ₀ ss₀ vs₀ G in
      let empty = none_left reached.ss (omega (arith, reached.given.count_is)) in
      performs_from_earlier reached.extends (reached.same ∙ ap (λ l. run_steps (room_in before) l reached.vs reached.σ) empty)
      (stop_performs reached.given.stands)
