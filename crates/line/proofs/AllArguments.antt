-- The arguments of a line, one after the other: what the loop over them has in hand, and that what is left of them gives what the whole
-- does.
-- Assumes nothing.
use Prim.Native.Nat.{ℕ, ◌+◌, ◌*◌, ◌/◌, ◌%◌, ◌≤◌, ◌<◌}
use mathlib.Core.Path.{◌≡◌, refl, sym, ap, subst, ◌∙◌}
use mathlib.Core.List.{List, [], ◌∷◌, ◌++◌}
use native.Mathlib.Omega.{arith}
use Rattle.std.proofs.Common.{Err, Ok, Result}
use lib.Dec.{T, ltb→lt}
use lib.ListN.{length, set, length-append, length-set}
use Rattle.model.specs.Basics.{every}
use Rattle.model.specs.Value.{Value}
use Rattle.model.specs.Token.{State, Room, Out, and_then}
use Rattle.model.specs.Session.{Arg, constant, of_line, Finished, argument, appearing, with_arguments}
use Rattle.model.specs.Frame.{arg_names}
use Rattle.model.specs.Tables.{arg_code, args_code, arg_read}
use Rattle.model.proofs.Tests.{and_left, and_right}
use Rattle.token.specs.Outcome.{SameTables}
use Rattle.token.specs.Carried.{Extends, PerformsIn, room_in}
use Rattle.token.specs.declared.Halt.{Halt}
use Rattle.token.specs.declared.Token.{Token}
use Rattle.token.proofs.Undoing.{extends_refl, extends_trans}
use Rattle.line.specs.Stages.{ArgumentGiven, ArgumentReady, Valued, ArgumentsGiven, ArgumentsReady, AllTaken}
use Rattle.line.proofs.States.{same_tables_refl, same_tables_trans, same_room, rows_length, performs_from_earlier, goes_on_with_row}
use Rattle.line.proofs.States.{stands_after, ends_with_halt, values_go_on}
use Rattle.line.proofs.OneArgument.{argument_ready, finishing_kept}

-- ---- the next argument

argument_small : (n : ℕ) (a : Arg) → n ≤ 1024 → T (arg_read a) → T (arg_names n a) → arg_code a < 65536
argument_small n (constant k) few read named = let small = ltb→lt k 0x8000 read in omega arith
argument_small n (of_line i) few read named = let there = ltb→lt i n named in omega arith

-- the arguments that are left are a, which is next, and the rest
record Next (σ : State) (fs : List Finished) (args : List Arg) (t : Token) (outcomes : List ℕ) (left i count : ℕ) : Type 0 where
  a : Arg
  rest : List Arg
  split : args ≡ a ∷ rest
  given : ArgumentGiven σ fs a t outcomes (left % 65536)
  rest_read : T (every arg_read rest)
  rest_named : T (every (arg_names (length fs)) rest)
  rest_left : left / 65536 ≡ args_code rest
  rest_count : i + 1 + length rest ≡ count

next_of : {σ : State} {fs : List Finished} {t : Token} {outcomes : List ℕ} {left i count : ℕ} (args : List Arg)
    → ArgumentsGiven σ fs args t outcomes left i count → i < count → Next σ fs args t outcomes left i count
unfolding args_code
next_of [] G h = absurd (omega (arith, G.count_is))
next_of {fs = fs} {left = left} (a ∷ rest) G h =
    let read = and_left (arg_read a) (every arg_read rest) G.read in
    let named = and_left (arg_names (length fs) a) (every (arg_names (length fs)) rest) G.named in
    let small = argument_small (length fs) a G.finishing.few read named in
    let code : left ≡ arg_code a + 65536 * args_code rest = G.left_is in
    record {
      a = a;
      rest = rest;
      split = refl;
      given = record { stands = G.stands; finishing = G.finishing; read = read; named = named; code_is = omega arith };
      rest_read = and_right (arg_read a) (every arg_read rest) G.read;
      rest_named = and_right (arg_names (length fs) a) (every (arg_names (length fs)) rest) G.named;
      rest_left = omega arith;
      rest_count = omega (arith, G.count_is);
    }

none_left : (args : List Arg) → length args ≤ 0 → args ≡ []
none_left [] h = refl
none_left (a ∷ rest) h = absurd (omega arith)

-- ---- the loop

-- from the arguments args₀ and the state σ₀ the line came to those that are left and the state now
pub record Reached (ρ : Room) (σ₀ : State) (fs : List Finished) (args₀ : List Arg) (t : Token)
    (outcomes values : List ℕ) (left i count : ℕ) : Type 0 where
  pub σ : State
  pub args : List Arg
  pub vs : List Value
  pub given : ArgumentsGiven σ fs args t outcomes left i count
  pub extends : Extends σ₀ σ
  pub valued : Valued σ.world.rows vs values
  pub made : length vs ≡ i
  pub same : (next : List Value → State → Out) → with_arguments ρ fs args₀ [] σ₀ next ≡ with_arguments ρ fs args vs σ next

pub record Taking (before : Token) (outcomes : List ℕ) (args count : ℕ) (t : Token) (values : List ℕ) (left i : ℕ) : Type 0 where
  pub same_tables : SameTables before t
  pub twenty : length values ≡ 20
  pub reached : (σ : State) (fs : List Finished) (as₀ : List Arg) → ArgumentsGiven σ fs as₀ before outcomes args 0 count
      → Reached (room_in before) σ fs as₀ t outcomes values left i count

pub taking_begins : {t : Token} {outcomes values : List ℕ} {args count : ℕ} → length values ≡ 20
    → Taking t outcomes args count t values args 0
taking_begins {t} twenty = record {
  same_tables = same_tables_refl t;
  twenty = twenty;
  reached = λ σ fs as₀ G. record {
    σ = σ;
    args = as₀;
    vs = [];
    given = G;
    extends = extends_refl σ;
    valued = record { has_row = λ i h. absurd (omega arith); is = λ i h. absurd (omega arith) };
    made = refl;
    same = λ next. refl;
  };
}

module _ {before : Token} {outcomes : List ℕ} {args count : ℕ} {t : Token} {values : List ℕ} {left i : ℕ}
    (L : Taking before outcomes args count t values left i) where
  pub next_is_ready : ArgumentsReady before outcomes args count → i < count → ArgumentReady t outcomes (left % 65536)
  next_is_ready R h =
      let reached = L.reached R.σ R.fs R.args R.given in
      let next = next_of reached.args reached.given h in
      argument_ready next.a next.given (omega (arith, rows_length before t L.same_tables, R.rows_small))

  -- one argument more
  module _ (h : i < count) (o : Result ℕ Halt) (exit : Token)
      (did : (σ : State) (fs : List Finished) (a : Arg) → ArgumentGiven σ fs a t outcomes (left % 65536)
      → PerformsIn σ (appearing (room_in t) (argument fs a) σ) o exit) where
    -- the whole is that argument and what follows it
    record Turned (σ₀ : State) (fs : List Finished) (args₀ : List Arg) : Type 0 where
      reached : Reached (room_in before) σ₀ fs args₀ t outcomes values left i count
      next : Next reached.σ fs reached.args t outcomes left i count
      out : Out
      performs : PerformsIn reached.σ out o exit
      whole : (then : List Value → State → Out) → with_arguments (room_in before) fs args₀ [] σ₀ then
          ≡ and_then out (λ v σ'. with_arguments (room_in before) fs next.rest (reached.vs ++ v ∷ []) σ' then)

    turned : (σ₀ : State) (fs : List Finished) (args₀ : List Arg) → ArgumentsGiven σ₀ fs args₀ before outcomes args 0 count
        → Turned σ₀ fs args₀
    unfolding with_arguments
    turned σ₀ fs args₀ G =
        let reached = L.reached σ₀ fs args₀ G in
        let next = next_of reached.args reached.given h in
        let ρ = room_in before in
        record {
          reached = reached;
          next = next;
          out = appearing ρ (argument fs next.a) reached.σ;
          performs = subst (λ (x : Room). PerformsIn reached.σ (appearing x (argument fs next.a) reached.σ) o exit)
              (same_room before t L.same_tables)
              (did reached.σ fs next.a next.given);
          whole = λ then. reached.same then ∙ ap (λ l. with_arguments ρ fs l reached.vs reached.σ then) next.split;
        }

  pub taking_ends : i < count → (e : Halt) (exit : Token)
      → ((σ : State) (fs : List Finished) (a : Arg) → ArgumentGiven σ fs a t outcomes (left % 65536)
      → PerformsIn σ (appearing (room_in t) (argument fs a) σ) (Err e) exit)
      → (σ₀ : State) (fs : List Finished) (args₀ : List Arg) → ArgumentsGiven σ₀ fs args₀ before outcomes args 0 count
      → (next : List Value → State → Out) → PerformsIn σ₀ (with_arguments (room_in before) fs args₀ [] σ₀ next) (Err e) exit
  taking_ends h e exit did σ₀ fs args₀ G then =
      let turn = turned h (Err e) exit did σ₀ fs args₀ G in
      performs_from_earlier turn.reached.extends (turn.whole then) (ends_with_halt e exit _ turn.performs)

  pub taking_goes_on : i < count → count ≤ 4 → (row : ℕ) (exit : Token) → SameTables t exit
      → ((σ : State) (fs : List Finished) (a : Arg) → ArgumentGiven σ fs a t outcomes (left % 65536)
      → PerformsIn σ (appearing (room_in t) (argument fs a) σ) (Ok row) exit)
      → Taking before outcomes args count exit (set values i row) (left / 65536) (i + 1)
  taking_goes_on h few row exit kept did = record {
    same_tables = same_tables_trans before t exit L.same_tables kept;
    twenty = length-set values i row ∙ L.twenty;
    reached = λ σ₀ fs args₀ G.
        let turn = turned h (Ok row) exit did σ₀ fs args₀ G in
        let went = goes_on_with_row exit turn.performs in
        let next = turn.next in
        let vs = turn.reached.vs in
        record {
          σ = went.state;
          args = next.rest;
          vs = vs ++ went.value ∷ [];
          given = record {
            stands = stands_after exit went;
            finishing = finishing_kept next.given.finishing went.extends.new_rows went.extends.rows_grown;
            read = next.rest_read;
            named = next.rest_named;
            left_is = next.rest_left;
            count_is = next.rest_count;
          };
          extends = extends_trans turn.reached.extends went.extends;
          valued = values_go_on exit turn.reached.valued went (sym turn.reached.made) (omega (arith, L.twenty));
          made = length-append vs (went.value ∷ []) ∙ ap (λ n. n + 1) turn.reached.made;
          same = λ then.
              turn.whole then
              ∙ ap (λ x. and_then x (λ v σ'. with_arguments (room_in before) fs next.rest (vs ++ v ∷ []) σ' then)) went.is;
        };
  }

  pub all_are_taken : count ≤ i → (σ₀ : State) (fs : List Finished) (args₀ : List Arg)
      → ArgumentsGiven σ₀ fs args₀ before outcomes args 0 count
      → AllTaken (room_in before) σ₀ fs args₀ t values
  unfolding with_arguments
  all_are_taken h σ₀ fs args₀ G =
      let reached = L.reached σ₀ fs args₀ G in
      let empty = none_left reached.args (omega (arith, reached.given.count_is)) in
      record {
        σ' = reached.σ;
        vs = reached.vs;
        twenty = L.twenty;
        stands = reached.given.stands;
        extends = reached.extends;
        valued = reached.valued;
        as_many = omega (arith, reached.made, reached.given.count_is, G.count_is, ap length empty);
        goes_on = λ then. reached.same then ∙ ap (λ l. with_arguments (room_in before) fs l reached.vs reached.σ then) empty;
      }
