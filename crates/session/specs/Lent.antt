-- The tables that a session is lent as the model's tables, at the call's entry and at its exit.
use Rattle.std.specs.Prelude.{ℕ, List}
use Rattle.std.specs.Borrow.{Bor, MutBor}
use Rattle.model.specs.Tables.{Tables}
use Rattle.session.specs.declared.RunTables.{RunTables}

abbrev pub lent : RunTables → Tables
lent t = record {
  rows = t.rows.now;
  keys = t.keys.now;
  heads = t.heads.now;
  arguments = t.arguments.now;
  outcomes = t.outcomes.now;
  commands = t.commands.now;
  steps = t.steps.now;
}

-- what a call leaves behind the seven references, of which three are lent to be written
abbrev pub LeftTables : Type 0
LeftTables =
    MutBor (List ℕ)
    × (MutBor (List ℕ) × (Bor (List ℕ) × (Bor (List ℕ) × (MutBor (List ℕ) × (Bor (List ℕ) × (Bor (List ℕ) × Unit {0}))))))

abbrev pub left : LeftTables → Tables
left t = record {
  rows = t.0.now;
  keys = t.1.0.now;
  heads = t.1.1.0.now;
  arguments = t.1.1.1.0.now;
  outcomes = t.1.1.1.1.0.now;
  commands = t.1.1.1.1.1.0.now;
  steps = t.1.1.1.1.1.1.0.now;
}
