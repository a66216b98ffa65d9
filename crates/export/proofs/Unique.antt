-- What each promise of an entry that tells its answer allows is one possibility only.
-- Assumes nothing.
use Prim.Native.Nat.{ℕ, ◌≤◌}
use mathlib.Core.Path.{◌≡◌, sym, ◌∙◌}
use mathlib.Core.List.{List}
use native.Mathlib.Omega.{arith}
use native.Mathlib.Decide.{dec_le}
use lib.ListN.{length}
use Rattle.model.specs.Tables.{Tables}
use Rattle.model.proofs.Unique.{read_unique, verdict_unique, run_unique}
use Rattle.export.specs.Exported.{NumbersAre, ReadTold, VerdictTold, RunTold}

-- where the tables that the library's promise allows are one possibility only, so is the whole
numbers_unique : {size : ℕ} {numbers space answer answer' : List ℕ} {Promise : Tables → Type 0} {lent left left' : Tables} {r r' : ℕ}
    → (Promise left → Promise left' → left ≡ left') → NumbersAre size numbers Promise lent space r left answer
    → NumbersAre size numbers Promise lent space r' left' answer' → (r ≡ r') × (left ≡ left') × (answer ≡ answer')
numbers_unique {size} {numbers} {space} {answer} {answer'} {Promise} {lent} {left} {left'} {r} {r'} one h k =
    go (dec_le (length space) size) (dec_le size (length space))
  where
    untouched : (length space ≡ size → ⊥) → (r ≡ r') × (left ≡ left') × (answer ≡ answer')
    untouched other =
        let a = h.wrong_size other in
        let b = k.wrong_size other in
        (a.count ∙ sym b.count, a.tables ∙ sym b.tables, a.buffer_is ∙ sym b.buffer_is)

    go : Dec (length space ≤ size) → Dec (size ≤ length space) → (r ≡ r') × (left ≡ left') × (answer ≡ answer')
    go (yes x) (yes y) =
        let right : length space ≡ size = omega arith in
        let a = h.right_size right in
        let b = k.right_size right in
        (a.count ∙ sym b.count, one a.promised b.promised, a.answer_is ∙ sym b.answer_is)
    go (no x) y = untouched (λ e. omega arith)
    go (yes x) (no y) = untouched (λ e. omega arith)

module _ {input space answer answer' : List ℕ} {lent left left' : Tables} {r r' : ℕ} where
  pub read_told_unique : ReadTold input lent space r left answer → ReadTold input lent space r' left' answer'
      → (r ≡ r') × (left ≡ left') × (answer ≡ answer')
  read_told_unique = numbers_unique (λ h k. (read_unique h k).1)

  pub verdict_told_unique : VerdictTold input lent space r left answer → VerdictTold input lent space r' left' answer'
      → (r ≡ r') × (left ≡ left') × (answer ≡ answer')
  verdict_told_unique = numbers_unique (λ h k. (verdict_unique h k).1)

  pub run_told_unique : RunTold input lent space r left answer → RunTold input lent space r' left' answer'
      → (r ≡ r') × (left ≡ left') × (answer ≡ answer')
  run_told_unique = numbers_unique (λ h k. (run_unique h k).1)
