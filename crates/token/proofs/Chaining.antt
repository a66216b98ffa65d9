-- Steps one after the other: what one leaves for the next, and that one that gave no value ends what follows it.
-- Assumes nothing.
use Prim.Native.Nat.{ℕ, ◌≤◌}
use mathlib.Core.Path.{◌≡◌, refl, ◌∙◌}
use mathlib.Core.List.{List}
use native.Mathlib.Omega.{arith}
use lib.ListN.{length, length-append}
use Rattle.std.specs.Prelude.{Err}
use Rattle.model.specs.Value.{Value, row_of}
use Rattle.model.specs.Token.{State, Out, gave, ended, stopped, full, and_then}
use Rattle.values.proofs.Present.{HasRow as InRow, present_means_below, row_kept, present_kept}
use Rattle.token.specs.Carried.{counts_of, FewAtoms, Carries, Ready, Extends, outcome_of, Performs}
use Rattle.token.specs.declared.Counts.{Counts}
use Rattle.token.specs.declared.Halt.{Halt}
use Rattle.token.specs.declared.Halt.TheVariants as halt
use Rattle.token.specs.Outcome.{Outcome, Gave, outcome_told}
use Rattle.token.proofs.Undoing.{extends_trans}

-- the numbers that the next step asks for
pub ready_again : {σ : State} {t ks gs : List ℕ} {c : Counts} → Carries σ t ks gs → FewAtoms σ → c ≡ counts_of σ → length t ≤ 4096
    → length ks ≤ 256 → Ready c t ks gs
ready_again C few count rows_small keys_small =
    rw count
    (record {
      rows_fit = C.rows_held.fit;
      rows_small = rows_small;
      keys_fit = C.keys_fit;
      keys_small = keys_small;
      few_atoms = few;
      few_guards = C.tidy.few_guards;
      guards_fit = C.guards_fit;
    })

-- a value keeps its row in a later state
pub row_later : {σ σ' : State} {v : Value} {i : ℕ} → InRow v σ.world.rows i → Extends σ σ' → InRow v σ'.world.rows i
row_later {σ} {v = v} R E =
    rw E.rows_grown
    (record {
      there = present_kept v σ.world.rows E.new_rows R.there;
      row = row_kept v σ.world.rows E.new_rows R.there ∙ R.row;
      within = omega (arith, R.within, length-append σ.world.rows E.new_rows);
    })

-- an outcome without a value to go on with
abbrev pub Stops : Outcome → Type 0
Stops r = (c : Counts) (i : ℕ) → r ≡ Gave c i → ⊥

pub halts : (h : Halt) (c : Counts) → Stops (outcome_told (Err h) c)
halts (halt.Ended x) c d i e = let z : ◌≡◌ {A = ℕ} 0 1 = cc in omega arith
halts halt.Stopped c d i e = let z : ◌≡◌ {A = ℕ} 0 1 = cc in omega arith
halts (halt.Full f) c d i e = let z : ◌≡◌ {A = ℕ} 0 1 = cc in omega arith

pub stops : {σ : State} {o : Out} {r : Outcome} {t ks gs : List ℕ} (next : Value → State → Out) → Stops r → Performs σ o r t ks gs
    → Performs σ (and_then o next) r t ks gs
stops {o = gave v σ'} next q P = absurd (q _ _ P.answer)
stops {o = ended v σ'} next q P = P
stops {o = stopped σ'} next q P = P
stops {o = full n σ'} next q P = P

-- from σ the step came to o, and gave the value in row i with the counts c
pub record Went (σ : State) (o : Out) (c : Counts) (i : ℕ) (rows keys guards : List ℕ) : Type 0 where
  pub value : Value
  pub state : State
  pub is : o ≡ gave value state
  pub counts : c ≡ counts_of state
  pub in_row : InRow value state.world.rows i
  pub few_atoms : FewAtoms state
  pub carries : Carries state rows keys guards
  pub extends : Extends σ state

pub went : {σ : State} {o : Out} {r : Outcome} {c : Counts} {i : ℕ} {t ks gs : List ℕ} → r ≡ Gave c i → Performs σ o r t ks gs
    → Went σ o c i t ks gs
went {o = gave v σ'} {r = r} {i = i} e P =
    let answer : r ≡ outcome_of (gave v σ') = P.answer in
    let row : row_of v σ'.world.rows ≡ i = cc in
    record {
      value = v;
      state = σ';
      is = refl;
      counts = cc;
      in_row = record {
        there = P.has_row;
        row = row;
        within = omega (arith, row, present_means_below v σ'.world.rows P.has_row);
      };
      few_atoms = P.atoms_rowed;
      carries = P.carries;
      extends = P.extends;
    }
went {o = ended v σ'} {r = r} e P =
    let answer : r ≡ outcome_of (ended v σ') = P.answer in
    let z : ◌≡◌ {A = ℕ} 0 1 = cc in
    absurd (omega arith)
went {o = stopped σ'} {r = r} e P =
    let answer : r ≡ outcome_of (stopped σ') = P.answer in
    let z : ◌≡◌ {A = ℕ} 0 1 = cc in
    absurd (omega arith)
went {o = full n σ'} {r = r} e P =
    let answer : r ≡ outcome_of (full n σ') = P.answer in
    let z : ◌≡◌ {A = ℕ} 0 1 = cc in
    absurd (omega arith)

-- the next step, from what the one before left
pub goes_on : {σ : State} {o : Out} {c : Counts} {i : ℕ} {t ks gs : List ℕ} (W : Went σ o c i t ks gs) (next : Value → State → Out)
    {r : Outcome} {u ls hs : List ℕ} → Performs W.state (next W.value W.state) r u ls hs → Performs σ (and_then o next) r u ls hs
goes_on W next P =
    rw W.is
    (record {
      answer = P.answer;
      has_row = P.has_row;
      atoms_rowed = P.atoms_rowed;
      carries = P.carries;
      extends = extends_trans W.extends P.extends;
    })
