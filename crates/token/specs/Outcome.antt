-- What a step or a call comes to, in row numbers and counts; and how the code's results and the fields of its token tell it.
use Rattle.std.specs.Prelude.{ℕ, ◌≡◌, List, Result, Ok, Err, length}
use Rattle.std.specs.Borrow.{MutBor}
use Rattle.model.specs.Numbers.{full_number}
use Rattle.token.specs.declared.Counts.{Counts}
use Rattle.token.specs.declared.Halt.{Halt}
use Rattle.token.specs.declared.Halt.TheVariants as halt
use Rattle.token.specs.declared.Token.{Token}

-- the row of a value, with which the call goes on or ends; a stop; an ending; and the counts then
pub data Outcome : Type 0 where
  Gave Ended : Counts → ℕ → Outcome
  Stopped : Counts → Outcome
  Full : ℕ → Counts → Outcome

abbrev pub outcome_told : Result ℕ Halt → Counts → Outcome
outcome_told (Ok row) c = Gave c row
outcome_told (Err (halt.Ended row)) c = Ended c row
outcome_told (Err halt.Stopped) c = Stopped c
outcome_told (Err (halt.Full f)) c = Full (full_number f) c

-- the reference is the one that was lent, and the table behind it is as long as it was
abbrev pub SameLent : MutBor (List ℕ) → MutBor (List ℕ) → Type 0
SameLent a b = (b.ghost_name ≡ a.ghost_name) × (length b.now ≡ length a.now)

-- the same of the three lent tables
abbrev pub SameTables : Token → Token → Type 0
SameTables t u = SameLent t.rows u.rows × SameLent t.keys u.keys × SameLent t.guards u.guards

-- the tables of the keys and of the guards have what they had
abbrev pub KeysKept : Token → Token → Type 0
KeysKept t u = (u.keys.now ≡ t.keys.now) × (u.guards.now ≡ t.guards.now)
