-- Laws on the states that a line goes through: each extends the one before it, and the token carries it with the rows of the values so far.
-- Assumes nothing.
use Prim.Native.Nat.{ℕ, ◌≤◌, ◌<◌}
use mathlib.Core.Path.{◌≡◌, refl, sym, ap, ap₂, subst, ◌∙◌}
use mathlib.Core.List.{List, [], ◌∷◌, ◌++◌}
use native.Mathlib.Omega.{arith}
use native.Mathlib.Decide.{dec_lt}
use Rattle.std.proofs.Common.{Err, Ok}
use lib.ListN.{length, get_or, set, length-append, get_or-append}
use lib.Seq.{get_or_at, get_or-set_same, get_or-set_other}
use Rattle.model.specs.Value.{Value, const, value_at}
use Rattle.model.specs.Token.{State, at_most, Out, stopped, and_then}
use Rattle.values.proofs.Present.{value_at_its_row}
use Rattle.token.specs.Outcome.{Outcome, Stopped, SameTables}
use Rattle.token.specs.Carried.{Extends, Performs, PerformsIn, ReadyIn, Stands, room_in}
use Rattle.token.specs.declared.Counts.{Counts}
use Rattle.token.specs.declared.Halt.{Halt}
use Rattle.token.specs.declared.Halt.TheVariants as halt
use Rattle.token.specs.declared.Token.{Token}
use Rattle.token.proofs.Undoing.{extends_refl, extends_trans}
use Rattle.token.proofs.Chaining.{halts, stops, Went, went, ready_again}
use Rattle.line.specs.Stages.{Valued}

-- ---- the same tables

pub same_tables_refl : (t : Token) → SameTables t t
same_tables_refl t = ((refl, refl), (refl, refl), (refl, refl))

pub same_tables_trans : (t u v : Token) → SameTables t u → SameTables u v → SameTables t v
same_tables_trans t u v f g =
    ((g.0.0 ∙ f.0.0, g.0.1 ∙ f.0.1), (g.1.0 ∙ f.1.0, g.1.1 ∙ f.1.1), (g.2.0 ∙ f.2.0, g.2.1 ∙ f.2.1))

pub rows_length : (t u : Token) → SameTables t u → length u.rows.now ≡ length t.rows.now
rows_length t u s = s.0.1

pub keys_length : (t u : Token) → SameTables t u → length u.keys.now ≡ length t.keys.now
keys_length t u s = s.1.1

pub same_room : (t u : Token) → SameTables t u → room_in u ≡ room_in t
same_room t u s = ap₂ (λ m n. record { rows = at_most m; keys = at_most n }) (rows_length t u s) (keys_length t u s)

-- ---- what a state makes ready

pub ready_where_it_stands : {σ : State} {t : Token} → Stands σ t → length t.rows.now ≤ 4096 → length t.keys.now ≤ 256 → ReadyIn t
ready_where_it_stands S rows_small keys_small = ready_again S.carries S.few_atoms S.counts_are rows_small keys_small

pub rows_counted : {σ : State} {t : Token} → Stands σ t → t.used.rows ≡ length σ.world.rows
rows_counted S = ap (λ (k : Counts). k.rows) S.counts_are

-- ---- later states

-- what is done from a later state, where that is all that is left to do
pub performs_from_earlier : {σ σ' : State} {o o' : Out} {r : Outcome} {rows keys guards : List ℕ} → Extends σ σ' → o ≡ o'
    → Performs σ' o' r rows keys guards → Performs σ o r rows keys guards
performs_from_earlier {σ} {r = r} {rows = rows} {keys = keys} {guards = guards} E e P =
    subst (λ (x : Out). Performs σ x r rows keys guards) (sym e)
    (record {
      answer = P.answer;
      has_row = P.has_row;
      atoms_rowed = P.atoms_rowed;
      carries = P.carries;
      extends = extends_trans E P.extends;
    })

pub stop_performs : {σ : State} {t : Token} → Stands σ t → PerformsIn σ (stopped σ) (Err halt.Stopped) t
stop_performs {σ} S = record {
  answer = ap Stopped S.counts_are;
  has_row = tt;
  atoms_rowed = S.few_atoms;
  carries = S.carries;
  extends = extends_refl σ;
}

-- ---- a row with which a line goes on, and a halt with which it ends

abbrev pub WentIn : State → Out → ℕ → Token → Type 0
WentIn σ o row t = Went σ o t.used row t.rows.now t.keys.now t.guards.now

pub goes_on_with_row : {σ : State} {o : Out} {row : ℕ} (t : Token) → PerformsIn σ o (Ok row) t → WentIn σ o row t
goes_on_with_row t P = went refl P

pub stands_after : {σ : State} {o : Out} {row : ℕ} (t : Token) (W : WentIn σ o row t) → Stands W.state t
stands_after t W = record { carries = W.carries; few_atoms = W.few_atoms; counts_are = W.counts }

pub ends_with_halt : {σ : State} {o : Out} (h : Halt) (t : Token) (next : Value → State → Out) → PerformsIn σ o (Err h) t
    → PerformsIn σ (and_then o next) (Err h) t
ends_with_halt h t next P = stops next (halts h _) P

-- ---- the values so far

module _ {rows vs : List Value} {values : List ℕ} (held : Valued rows vs values) where
  pub values_keep_rows : {later : List Value} (new : List Value) → later ≡ rows ++ new → Valued later vs values
  values_keep_rows new e =
      rw e
      (record {
        has_row = λ i h. omega (arith, length-append rows new, held.has_row i h);
        is = λ i h. get_or-append rows new (const 0) (get_or values i 0) (held.has_row i h) ∙ held.is i h;
      })

  module _ (v : Value) {row n : ℕ} (next : n ≡ length vs) (room : n < length values) (within : row < length rows)
      (at : value_at rows row ≡ v) where
    row_then : (i : ℕ) → i < length (vs ++ v ∷ []) → Dec (i < length vs)
        → (get_or (set values n row) i 0 < length rows) × (value_at rows (get_or (set values n row) i 0) ≡ value_at (vs ++ v ∷ []) i)
    row_then i h (yes l) =
        let here : get_or (set values n row) i 0 ≡ get_or values i 0 = get_or-set_other values n i row 0 (λ e. omega arith) in
        (rw here (held.has_row i l), rw (here, get_or-append vs (v ∷ []) (const 0) i l) (held.is i l))
    row_then i h (no l) =
        let last : i ≡ length vs = omega (arith, length-append vs (v ∷ [])) in
        let here : get_or (set values n row) i 0 ≡ row =
        ap (λ k. get_or (set values n row) k 0) (last ∙ sym next) ∙ get_or-set_same values n row 0 room in
        (rw here within, rw (here, get_or_at vs v [] (const 0) i (sym last)) at)

    pub values_with_one_more : Valued rows (vs ++ v ∷ []) (set values n row)
    values_with_one_more = record {
      has_row = λ i h. (row_then i h (dec_lt i (length vs))).0;
      is = λ i h. (row_then i h (dec_lt i (length vs))).1;
    }

-- with the value that a step gave
pub values_go_on : {σ : State} {o : Out} {row : ℕ} (t : Token) {vs : List Value} {values : List ℕ} {n : ℕ}
    → Valued σ.world.rows vs values → (W : WentIn σ o row t) → n ≡ length vs → n < length values
    → Valued W.state.world.rows (vs ++ W.value ∷ []) (set values n row)
values_go_on t held W next room =
    let later = W.state.world.rows in
    values_with_one_more (values_keep_rows held W.extends.new_rows W.extends.rows_grown) W.value next room W.in_row.within
    (ap (value_at later) (sym W.in_row.row) ∙ value_at_its_row W.value later W.in_row.there)
