-- An operation of the attacker's own: what the token does, and the line ends with it.
-- Assumes nothing.
use Prim.Native.Nat.{ℕ, ◌<◌}
use mathlib.Core.Path.{ap, ap₂, sym}
use Rattle.std.proofs.Common.{Err, Ok}
use Rattle.model.specs.declared.Operation.{Operation}
use Rattle.model.specs.declared.Operation.TheVariants.{Encrypt, Decrypt, Derive}
use Rattle.model.specs.Token.{Out, State, ended, and_then}
use Rattle.model.specs.Value.{Value}
use Rattle.token.specs.Outcome.{Ended}
use Rattle.token.specs.Carried.{OperandsBelow, PerformsIn}
use Rattle.token.specs.declared.Halt.TheVariants as halt
use Rattle.token.specs.declared.Token.{Token}
use Rattle.token.proofs.Undoing.{extends_refl}
use Rattle.line.proofs.States.{performs_from_earlier, goes_on_with_row}

-- rows that are there may be those of any operands
pub operands_below : (o : Operation) {x y n : ℕ} → x < n → y < n → OperandsBelow o x y n
operands_below Encrypt h k = (h, k)
operands_below Decrypt h k = (h, k)
operands_below (Derive label) h k = (tt, k)

-- a value that is given ends the line
pub ends_with_row : {σ : State} {o : Out} {row : ℕ} (t : Token) → PerformsIn σ o (Ok row) t
    → PerformsIn σ (and_then o (λ v σ'. ended v σ')) (Err (halt.Ended row)) t
ends_with_row {σ} t P =
    let went = goes_on_with_row t P in
    let then : Value → State → Out = λ v σ'. ended v σ' in
    performs_from_earlier (extends_refl σ) (ap (λ u. and_then u then) went.is)
    (record {
      answer = ap₂ Ended went.counts (sym went.in_row.row);
      has_row = went.in_row.there;
      atoms_rowed = went.few_atoms;
      carries = went.carries;
      extends = went.extends;
    })
