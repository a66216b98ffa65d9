-- The rows that a run leaves mean one thing: two runs that leave the same numbers there have the same values in the same rows.
-- Assumes nothing.
use Prim.Native.Nat.{ℕ}
use mathlib.Core.Path.{◌≡◌, ap, ◌∙◌}
use mathlib.Core.List.{List}
use native.Mathlib.Omega.{arith}
use Rattle.model.specs.Value.{Value}
use Rattle.model.specs.Frame.{File}
use Rattle.model.specs.File.{file}
use Rattle.model.specs.Report.{run_of}
use Rattle.model.specs.Tables.{Tables, RunAnswer, read_into, tables_run, RunIs}
use Rattle.values.specs.Holds.{Holds}
use Rattle.values.proofs.Held.{holds_padded, holds_one_list}

abbrev rows_of : File → List Value
rows_of φ = (run_of φ).session.state.world.rows

run_holds_its_rows : {input : List ℕ} {lent left : Tables} {r : RunAnswer} → RunIs input lent r left → (φ : File)
    → read_into lent input ≡ file φ → Holds left.rows (rows_of φ)
unfolding tables_run
run_holds_its_rows {lent = lent} h φ e =
    let left_is = h.tables ∙ ap (tables_run lent) e in
    holds_padded (h.apart φ e) (h.few φ e) (omega arith) (ap (λ (t : Tables). t.rows) left_is)

pub rows_mean_one_list : {input input' : List ℕ} {lent lent' left left' : Tables} {r r' : RunAnswer} → RunIs input lent r left
    → RunIs input' lent' r' left' → (φ ψ : File) → read_into lent input ≡ file φ → read_into lent' input' ≡ file ψ
    → left.rows ≡ left'.rows → rows_of φ ≡ rows_of ψ
rows_mean_one_list h k φ ψ d e same = holds_one_list (run_holds_its_rows h φ d) (rw same (run_holds_its_rows k ψ e))
