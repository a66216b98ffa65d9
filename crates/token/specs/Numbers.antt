-- What the inner functions do, as the code does it: over counts and the tables' numbers alone, whatever they stand for.
use Rattle.std.specs.Prelude.{ℕ, ◌+◌, ◌*◌, ◌≤◌, ◌<◌, ◌≡◌, Bool, true, false, cond, List, Option, Some, None, ltb, length, set}
use Rattle.model.specs.Policy.{meets}
use Rattle.model.specs.Value.{Value, fresh, present}
use Rattle.model.specs.declared.Step.{Step}
use Rattle.values.specs.Holds.{Holds, rows_in}
use Rattle.keys.specs.Stored.{stored_of}
use Rattle.keys.specs.declared.KeyRecord.{KeyRecord}
use Rattle.token.specs.declared.Counts.{Counts}
use Rattle.token.specs.declared.Token.{Token}
use Rattle.token.specs.Outcome.{Outcome, Gave, Stopped, Full}

-- ---- counts with one more

abbrev pub one_row : Counts → Counts
one_row c = record { rows = c.rows + 1; keys = c.keys; atoms = c.atoms; guards = c.guards }

abbrev pub one_atom : Counts → Counts
one_atom c = record { rows = c.rows; keys = c.keys; atoms = c.atoms + 1; guards = c.guards }

-- one key more, and one guarded value more where it is guarded
abbrev pub one_key : Bool → Counts → Counts
one_key true c = record { rows = c.rows; keys = c.keys + 1; atoms = c.atoms; guards = c.guards + 1 }
one_key false c = record { rows = c.rows; keys = c.keys + 1; atoms = c.atoms; guards = c.guards }

-- ---- appearing

-- what is seen to before an atom is made
abbrev pub AtomsFit : Token → Type 0
AtomsFit t = (t.used.rows ≤ length t.rows.now) × (t.used.rows ≤ 4096) × (t.used.atoms ≤ t.used.rows)

-- a new atom, where there is room for len rows
unfoldable pub atom_of : ℕ → Counts → Outcome
atom_of len c = cond (ltb c.rows len) (Gave (one_row (one_atom c)) c.rows) (Full 32 (one_atom c))

pub record MakesAtom (c : Counts) (r : Outcome) (before exit : List ℕ) : Type 0 where
  pub answer : r ≡ atom_of (length before) c
  pub holds : (vs : List Value) → Holds before vs → c.rows ≡ length vs → present (fresh c.atoms) vs ≡ false
      → Holds exit (rows_in (length before) (fresh c.atoms) vs)
  pub length_kept : length exit ≡ length before

-- an atom for a handle, where there are places for so many keys
pub record MakesHandle (places : ℕ) (c : Counts) (r : Outcome) (before exit : List ℕ) : Type 0 where
  pub place_with : c.keys < places → MakesAtom c r before exit
  pub without : places ≤ c.keys → (r ≡ Full 33 c) × (exit ≡ before)

-- ---- keeping

abbrev pub key_number : ℕ → ℕ → ℕ → ℕ
key_number h k t = 1099511627776 + 16777216 * h + 256 * k + t

abbrev pub guards_with : Bool → ℕ → ℕ → List ℕ → List ℕ
guards_with true n k guards = set guards n k
guards_with false n k guards = guards

pub record Keeps (c : Counts) (h k t : ℕ) (guarded : Bool) (r : Outcome) (keys guards keys' guards' : List ℕ) : Type 0 where
  pub answer : r ≡ Gave (one_key guarded c) h
  pub key : keys' ≡ set keys c.keys (key_number h k t)
  pub guard : guards' ≡ guards_with guarded c.guards k guards

-- ---- getting

-- a stored key that is found is got where its template has what the step asks for
abbrev pub got_of : Counts → Step → Option KeyRecord → Outcome
got_of c s (Some r) = cond (meets s r.template) (Gave c r.key) (Stopped c)
got_of c s None = Stopped c

abbrev pub get_of : List ℕ → Counts → Step → ℕ → Outcome
get_of keys c s x = got_of c s (stored_of keys c.keys x)
