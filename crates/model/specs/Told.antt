-- The code's answers in the documents' numbers, and the lent tables as lists: what the contracts of the public entries and
-- the promises of Tables.antt meet by.
use Rattle.std.specs.Prelude.{ℕ, List, Option, Some, None, Result, Ok, Err}
use Rattle.std.specs.Borrow.{MutBor}
use Rattle.model.specs.Types.{code_of}
use Rattle.model.specs.Typing.{Verdict, accepted}
use Rattle.model.specs.Tables.{Tables, ReadAnswer, Taken, Refused, RunAnswer, NotRun, Ended}
use Rattle.model.specs.Numbers.{fault_number, rule_number, full_number}
use Rattle.model.specs.declared.Refusal.{Refusal}
use Rattle.model.specs.declared.Broken.{Broken}
use Rattle.model.specs.declared.Rejection.{Rejection}
use Rattle.model.specs.declared.Rejection.TheVariants as rejection
use Rattle.model.specs.declared.Contents.{Contents}
use Rattle.model.specs.declared.Ending.{Ending}
use Rattle.model.specs.declared.Ran.{Ran}
use Rattle.model.specs.declared.Tables.{Tables as LentTables}

-- ---- answers

abbrev pub read_told : Result Contents Refusal → ReadAnswer
read_told (Ok c) = Taken (code_of c.policy.transported) c.policy.allowing c.commands c.lines
read_told (Err r) = Refused (fault_number r.fault) r.frame

abbrev pub broken_told : Broken → Verdict
broken_told b = record { number = rule_number b.rule; frame = b.frame; step = b.step }

abbrev pub judged_told : Result (Unit {0}) Broken → Verdict
judged_told (Ok u) = accepted
judged_told (Err b) = broken_told b

-- a refused input has step 0
abbrev pub verdict_told : Result (Unit {0}) Rejection → Verdict
verdict_told (Ok u) = accepted
verdict_told (Err (rejection.Refused r)) = record { number = fault_number r.fault; frame = r.frame; step = 0 }
verdict_told (Err (rejection.Broken b)) = broken_told b

-- 0 and 0 where a run goes through
abbrev pub ending_number : Option Ending → ℕ
ending_number (Some e) = full_number e.full
ending_number None = 0

abbrev pub ending_place : Option Ending → ℕ
ending_place (Some e) = e.line
ending_place None = 0

-- 65535 where no line has a breach mark
abbrev pub breach_told : Option ℕ → ℕ
breach_told (Some i) = i
breach_told None = 0xffff

abbrev pub run_told : Result Ran Refusal → RunAnswer
run_told (Ok r) = Ended (ending_number r.ending) (ending_place r.ending) (breach_told r.first_breach)
run_told (Err r) = NotRun (fault_number r.fault) r.frame

-- ---- the lent tables, at a call's entry and at its exit

abbrev pub lent : LentTables → Tables
lent t = record {
  rows = t.rows.now;
  keys = t.keys.now;
  heads = t.heads.now;
  arguments = t.arguments.now;
  outcomes = t.outcomes.now;
  commands = t.commands.now;
  steps = t.steps.now;
}

-- what a call leaves behind the seven references
abbrev pub LeftTables : Type 0
LeftTables =
    MutBor (List ℕ)
    × (MutBor (List ℕ) × (MutBor (List ℕ) × (MutBor (List ℕ) × (MutBor (List ℕ) × (MutBor (List ℕ) × (MutBor (List ℕ) × Unit {0}))))))

abbrev pub left : LeftTables → Tables
left t = record {
  rows = t.0.now;
  keys = t.1.0.now;
  heads = t.1.1.0.now;
  arguments = t.1.1.1.0.now;
  outcomes = t.1.1.1.1.0.now;
  commands = t.1.1.1.1.1.0.now;
  steps = t.1.1.1.1.1.1.0.now;
}
