-- `migladze::verdict` meets its contract: a refusal of reading is the verdict, and of a file it is what judging its tables answers.
-- Assumes nothing.
use Rattle.std.proofs.Common.{arith, ◌∙◌, ap, sym}
use borrow.Author.Rules.{rules}
use Rattle.std.proofs.lemmas.Result.{err_from_is_err_and}
use Rattle.model.specs.Told.{judged_told}
use Rattle.migladze.proofs.Taken.{refusal_told, answer_taken, given_to_judge, few_commands, file_judged}
use Rattle.migladze.proofs.verdict.Goals as goal

pub returns-in_err-contents-clause-answer : goal.returns-in_err-contents-clause-answer
returns-in_err-contents-clause-answer c =
    refusal_told _ c.read_tables.ensures (search rules) (search rules)

pub judge-requires : goal.judge-requires
judge-requires c =
    let f = answer_taken c.read_tables.ensures c.in_ok-contents.contents (search rules) in
    (few_commands f, omega (arith, f.lengths.commands_length), omega (arith, f.lengths.steps_length))

pub returns-in_err-judge-clause-answer : goal.returns-in_err-judge-clause-answer
returns-in_err-judge-clause-answer c =
    let f = answer_taken c.read_tables.ensures c.in_ok-contents.contents (search rules) in
    let p = err_from_is_err_and c.from_residual-in_err-judge.result c.from_residual-in_err-judge.ensures.1 in
    rw (p.1, p.2) (file_judged f (ap judged_told (sym c.in_err-judge.was) ∙ c.judge.ensures f.φ (given_to_judge f)))

pub returns-clause-answer : goal.returns-clause-answer
returns-clause-answer c =
    let f = answer_taken c.read_tables.ensures c.in_ok-contents.contents (search rules) in
    file_judged f (ap judged_told (sym c.in_ok-judge.was) ∙ c.judge.ensures f.φ (given_to_judge f))
