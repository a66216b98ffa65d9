-- `values::appearing::intern` meets its contract: the search for the row's number answers, or the number is added.
-- Assumes nothing.
use mathlib.Core.Path.{sym, ◌∙◌}
use Rattle.values.proofs.Interning.{stored_by_push, interns_found, interns_added}
use Rattle.values.proofs.appearing.intern.Goals as goal

pub returns-in-Some-clause-interns : goal.returns-in-Some-clause-interns
returns-in-Some-clause-interns c =
    let t = c.args.rows.now in
    rw (← c.code-x.ensures) (interns_found t c.code-x.result (sym c.in-Some.is ∙ c.find_code.ensures))

pub returns-clause-interns : goal.returns-clause-interns
returns-clause-interns c =
    let t = c.args.rows.now in
    let put = stored_by_push c.push.ensures.with_room c.push.ensures.full in
    rw (← c.code-x.ensures) (interns_added t c.code-x.result (sym c.in_default.is ∙ c.find_code.ensures) put)
