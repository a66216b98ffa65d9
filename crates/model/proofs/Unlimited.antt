-- Where there is no limit on room every line of every session finishes, so that demand 3 there speaks of all of them.
-- Assumes nothing.
use Prim.Native.Nat.{ℕ, suc, ◌+◌}
use mathlib.Core.Path.{◌≡◌, refl, ◌∙◌}
use mathlib.Core.Bool.{Bool, true, false, cond, ◌&&◌}
use mathlib.Core.List.{List, [], ◌∷◌, ◌++◌}
use native.Mathlib.Omega.{arith}
use lib.Dec.{eqb, ltb}
use lib.ListN.{length, length-append}
use Rattle.model.specs.Step.{op_of, Command}
use Rattle.model.specs.declared.Op.{Op}
use Rattle.model.specs.declared.Op.TheVariants.{Return, Get, Generate, Store, Compute, Unknown}
use Rattle.model.specs.Policy.{meets}
use Rattle.model.specs.Value.{Value, present, value_at, compute, operands}
use Rattle.model.specs.Token.{State, Room, unlimited, Out, gave, ended, stopped, full, and_then, with_row, appear, new_atom, keep, guards_generated, guards_stored, generate, store, place_of, key_at, get, perform, run_steps, command_at, call}
use Rattle.model.specs.Session.{Arg, Line, calls, computes, Outcome, value, none, Finished, Session, start, argument, appearing, with_arguments, run_line, finish, Run, after_line, run_from, run}
use Rattle.model.specs.declared.Step.{Step}

abbrev pub boundless : Room
boundless = record { rows = unlimited; keys = unlimited }

-- no ending was met
abbrev Goes : Out → Type 0
Goes (gave v σ) = Unit {0}
Goes (ended v σ) = Unit {0}
Goes (stopped σ) = Unit {0}
Goes (full n σ) = ⊥

goes_if : (b : Bool) (o q : Out) → Goes o → Goes q → Goes (cond b o q)
goes_if true o q h k = h
goes_if false o q h k = k

goes_then : (o : Out) (next : Value → State → Out) → Goes o → ((v : Value) (σ : State) → Goes (next v σ)) → Goes (and_then o next)
goes_then (gave v σ) next h f = f v σ
goes_then (ended v σ) next h f = tt
goes_then (stopped σ) next h f = tt
goes_then (full n σ) next h f = h

appear_goes : (v : Value) (σ : State) → Goes (appear boundless v σ)
unfolding appear
appear_goes v σ =
    goes_if (present v σ.world.rows) (gave v σ) (gave v (record { world = with_row v σ.world; token = σ.token })) tt tt

generate_goes : (t : ℕ) (σ : State) → Goes (generate boundless t σ)
unfolding generate
generate_goes t σ =
    let keyed : Value → Value → State → Out = λ h k σ₂. keep (guards_generated t) h k t σ₂ in
    let handled : Value → State → Out = λ h σ₁. and_then (new_atom boundless σ₁) (keyed h) in
    goes_then (new_atom boundless σ) handled (appear_goes _ _)
    (λ h σ₁. goes_then (new_atom boundless σ₁) (keyed h) (appear_goes _ _) (λ k σ₂. tt))

store_goes : (v : Value) (t : ℕ) (σ : State) → Goes (store boundless v t σ)
unfolding store
store_goes v t σ =
    let handled : Value → State → Out = λ h σ₁. keep (guards_stored t) h v t σ₁ in
    goes_then (new_atom boundless σ) handled (appear_goes _ _) (λ h σ₁. tt)

get_goes : (s : Step) (h : Value) (σ : State) → Goes (get boundless s h σ)
unfolding get
get_goes s h σ =
    let ks = σ.token.stored in
    goes_if (ltb (place_of h ks) (length ks) && meets s (key_at ks (place_of h ks)).template)
    (appear boundless (key_at ks (place_of h ks)).key σ) (stopped σ) (appear_goes _ _) tt

step_goes : (o : Op) (s : Step) (v w : Value) (σ : State) → Goes (perform boundless o s v w σ)
step_goes Return s v w σ = tt
step_goes Get s v w σ = get_goes s v σ
step_goes Generate s v w σ = generate_goes s.t σ
step_goes Store s v w σ = store_goes v s.t σ
step_goes (Compute o) s v w σ = appear_goes (compute o (operands o v w)) σ
step_goes Unknown s v w σ = tt

steps_go : (ss : List Step) (vs : List Value) (σ : State) → Goes (run_steps boundless ss vs σ)
unfolding run_steps
steps_go [] vs σ = tt
steps_go (s ∷ ss) vs σ =
    goes_then (perform boundless (op_of s) s (value_at vs s.a) (value_at vs s.b) σ) (λ v σ'. run_steps boundless ss (vs ++ v ∷ []) σ')
    (step_goes (op_of s) s (value_at vs s.a) (value_at vs s.b) σ) (λ v σ'. steps_go ss (vs ++ v ∷ []) σ')

call_goes : (cs : List Command) (c : ℕ) (vs : List Value) (σ : State) → Goes (call boundless cs c vs σ)
call_goes cs c vs σ =
    goes_if (eqb (length vs) (command_at cs c).params) (run_steps boundless (command_at cs c).steps vs σ) (stopped σ)
    (steps_go (command_at cs c).steps vs σ) tt

appearing_goes : (o : Outcome) (σ : State) → Goes (appearing boundless o σ)
appearing_goes (value v) σ = appear_goes v σ
appearing_goes none σ = tt

arguments_go : (fs : List Finished) (args : List Arg) (vs : List Value) (σ : State) (next : List Value → State → Out)
    → ((ws : List Value) (σ' : State) → Goes (next ws σ')) → Goes (with_arguments boundless fs args vs σ next)
unfolding with_arguments
arguments_go fs [] vs σ next f = f vs σ
arguments_go fs (a ∷ rest) vs σ next f =
    goes_then (appearing boundless (argument fs a) σ) (λ v σ'. with_arguments boundless fs rest (vs ++ v ∷ []) σ' next)
    (appearing_goes (argument fs a) σ) (λ v σ'. arguments_go fs rest (vs ++ v ∷ []) σ' next f)

line_goes : (cs : List Command) (fs : List Finished) (l : Line) (σ : State) → Goes (run_line boundless cs fs l σ)
line_goes cs fs (calls c args) σ = arguments_go fs args [] σ (λ vs σ'. call boundless cs c vs σ') (λ vs σ'. call_goes cs c vs σ')
line_goes cs fs (computes o args) σ =
    arguments_go fs args [] σ (λ vs σ'. and_then (appear boundless (compute o vs) σ') (λ v σ''. ended v σ''))
    (λ vs σ'. goes_then (appear boundless (compute o vs) σ') (λ v σ''. ended v σ'') (appear_goes (compute o vs) σ') (λ v σ''. tt))

-- a run through all lines: n of them were finished before, m come
pub record Through (r : Run) (n m : ℕ) : Type 0 where
  pub no_ending : r.ending ≡ 0
  pub all_finished : length r.session.finished ≡ n + m

one_more : (o : Outcome) (σ : State) (s : Session) → length (finish o σ s).finished ≡ suc (length s.finished)
one_more o σ s = length-append s.finished _ ∙ omega arith

after_line_through : (o : Out) (i m : ℕ) (s : Session) (next : Session → Run) → Goes o
    → ((s' : Session) → length s'.finished ≡ suc (length s.finished) → Through (next s') (length s'.finished) m)
    → Through (after_line o i s next) (length s.finished) (suc m)
after_line_through o i m s next g f = go o g
  where
    counted : (s' : Session) → length s'.finished ≡ suc (length s.finished) → Through (next s') (length s.finished) (suc m)
    counted s' e = let t = f s' e in record { no_ending = t.no_ending; all_finished = t.all_finished ∙ omega arith }

    go : (o : Out) → Goes o → Through (after_line o i s next) (length s.finished) (suc m)
    go (gave v σ) g = counted (finish none s.state s) (one_more none s.state s)
    go (ended v σ) g = counted (finish (value v) σ s) (one_more (value v) σ s)
    go (stopped σ) g = counted (finish none s.state s) (one_more none s.state s)
    go (full n σ) g = absurd g

run_through : (cs : List Command) (ls : List Line) (i : ℕ) (s : Session)
    → Through (run_from boundless cs ls i s) (length s.finished) (length ls)
unfolding run_from
run_through cs [] i s = record { no_ending = refl; all_finished = omega arith }
run_through cs (l ∷ ls) i s =
    after_line_through (run_line boundless cs s.finished l s.state) i (length ls) s (λ s'. run_from boundless cs ls (suc i) s')
    (line_goes cs s.finished l s.state) (λ s' e. run_through cs ls (suc i) s')

pub every_line_finishes : (cs : List Command) (ls : List Line) → Through (run boundless cs ls) 0 (length ls)
every_line_finishes cs ls = run_through cs ls 0 start
