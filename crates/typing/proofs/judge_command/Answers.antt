-- `typing::judge_command` meets its contract. The loop's invariant: the array holds the types of the values made before the step,
-- and the steps from it on say what the whole command says.
-- Assumes nothing.
use mathlib.Core.Path.{◌≡◌, refl, sym, ap, ◌∙◌}
use native.Mathlib.Omega.{arith}
use borrow.Author.Rules.{rules}
use Rattle.std.proofs.Common.{Result, Ok, Err}
use Rattle.std.specs.Result.{MatchResult, IsErrAnd}
use Rattle.std.proofs.lemmas.Result.{err_from_is_err_and}
use Rattle.decoding.specs.Decoded.{command_from}
use Rattle.typing.specs.Judged.{rule_told}
use Rattle.typing.proofs.Judging.{reached_start, refused_here, reached_next, reached_end, param_count, step_count, next_step}
use Rattle.typing.proofs.judge_command.Goals as goal

-- What `map_err` was given, from what it answered.

given_err : {X E F : Type 0} (P : E → F → Type 0) (r : Result X E) (m : Result X F) → MatchResult r (λ x. m ≡ Ok x) (λ e. IsErrAnd m (P e))
    → (f : F) → m ≡ Err f → (e : E) × (r ≡ Err e) × P e f
given_err P (Ok x) m h f failed = absurd (cc)
given_err P (Err e) (Ok x) h f failed = absurd h
given_err P (Err e) (Err g) h f failed = let same : f ≡ g = cc in (e, refl, rw same h)

given_ok : {X E F : Type 0} (P : E → F → Type 0) (r : Result X E) (m : Result X F) → MatchResult r (λ x. m ≡ Ok x) (λ e. IsErrAnd m (P e))
    → (x : X) → m ≡ Ok x → r ≡ Ok x
given_ok P (Ok y) m h x went = cc
given_ok P (Err e) (Ok y) h x went = absurd h
given_ok P (Err e) (Err g) h x went = absurd (cc)

pub loop-step-init : goal.loop-step-init
loop-step-init c = reached_start _ _ _

pub returns-in_err-map_err : goal.returns-in_err-map_err
returns-in_err-map_err c =
    let a = c.args in
    let out = err_from_is_err_and c.from_residual.result c.from_residual.ensures.1 in
    let given = given_err _ c.check_step.result c.map_err.result c.map_err.ensures.cases _ c.in_err-map_err.was in
    let b : c.in_err-map_err.field-0.0 ≡ record { rule = given.0; frame = a.frame; step = c.loop-step.step-counter } = search rules in
    let judged = sym (ap rule_told given.1) ∙ c.check_step.ensures in
    rw (out.1, out.2, b)
    (refused_here _ a.frame (command_from a.code a.steps.now) c.loop-step.made c.loop-step.step-counter _ _ _ c.loop-step.invariant
    (next_step a.code a.steps.now (omega arith) c.loop-step.step-counter c.step_of-s.result (omega arith) c.step_of-s.ensures)
    c.type_at-x.ensures c.type_at-y.ensures given.0 judged)

pub loop-step-preserved : goal.loop-step-preserved
loop-step-preserved c =
    let a = c.args in
    let met = given_ok _ c.check_step.result c.map_err.result c.map_err.ensures.cases _ c.in_ok-map_err.was in
    reached_next _ a.frame (command_from a.code a.steps.now) c.loop-step.made c.loop-step.step-counter _ _ _ c.loop-step.invariant
    (next_step a.code a.steps.now (omega arith) c.loop-step.step-counter c.step_of-s.result (omega arith) c.step_of-s.ensures)
    c.type_at-x.ensures c.type_at-y.ensures
    _ _ _ (sym (ap rule_told met) ∙ c.check_step.ensures) c.type_given.ensures
    (omega (arith, param_count a.code a.steps.now)) (omega arith) (omega arith)

pub returns : goal.returns
returns c =
    let a = c.args in
    reached_end _ _ _ _ _ c.loop-step.invariant (omega (arith, step_count a.code a.steps.now (omega arith)))
