-- `line::run_line` meets its contract: each way out is the answer of the whole line, from what its arguments came to.
-- Assumes nothing.
use mathlib.Core.Path.{ap, sym, ◌∙◌}
use Rattle.std.proofs.lemmas.Result.{err_from_is_err_and}
use Rattle.line.specs.declared.Act.TheVariants.{Call}
use Rattle.line.proofs.Whole.{arguments_are_ready, command_is_within, part_is_within, steps_are_ready, line_runs_steps}
use Rattle.line.proofs.Whole.{line_ends_with_arguments, operands_are_ready, line_computes_value}
use Rattle.line.proofs.run_line.Goals as goal

pub take_arguments-requires : goal.take_arguments-requires
take_arguments-requires c = arguments_are_ready c.requires c.head_of-head.ensures

pub returns-in_err-values-clause-performs : goal.returns-in_err-values-clause-performs
returns-in_err-values-clause-performs c = λ σ cs fs l G.
    let p = err_from_is_err_and c.from_residual.result c.from_residual.ensures.1 in
    rw (p.1, p.2) (line_ends_with_arguments G c.head_of-head.ensures _ c.take_arguments.new.token c.in_err-values.ensures.taken)

pub bounds-commands-command : goal.bounds-commands-command
bounds-commands-command c = command_is_within c.requires.given c.head_of-head.ensures (c.in-Call.is ∙ ap Call (sym c.from-command.ensures))

pub slice_bounds-part-end : goal.slice_bounds-part-end
slice_bounds-part-end c =
    part_is_within c.requires.given c.head_of-head.ensures (c.in-Call.is ∙ ap Call (sym c.from-command.ensures)) c.min-count.ensures

pub run_steps-requires : goal.run_steps-requires
run_steps-requires c =
    steps_are_ready c.requires.given c.head_of-head.ensures c.take_arguments.ensures.same_tables c.in_ok-values.ensures.taken
    (c.in-Call.is ∙ ap Call (sym c.from-command.ensures)) c.min-count.ensures c.requires.ready

pub returns-in-Call-clause-performs : goal.returns-in-Call-clause-performs
returns-in-Call-clause-performs c = λ σ cs fs l G.
    line_runs_steps G c.head_of-head.ensures c.take_arguments.ensures.same_tables c.in_ok-values.ensures.taken
    (c.in-Call.is ∙ ap Call (sym c.from-command.ensures)) c.min-count.ensures _ c.run_steps.new.token c.run_steps.ensures.performs

pub compute-requires : goal.compute-requires
compute-requires c =
    operands_are_ready c.requires.given c.head_of-head.ensures c.take_arguments.ensures.same_tables c.in_ok-values.ensures.taken
    c.in-Compute.is c.requires.ready

pub returns-in-Compute-clause-performs : goal.returns-in-Compute-clause-performs
returns-in-Compute-clause-performs c = λ σ cs fs l G.
    line_computes_value G c.head_of-head.ensures c.take_arguments.ensures.same_tables c.in_ok-values.ensures.taken
    c.in-Compute.is _ c.compute.new.token c.compute.ensures.performs
