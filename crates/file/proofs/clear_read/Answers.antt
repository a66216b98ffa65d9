-- `file::clear_read` meets its contract: each table is filled with zeros, as many as its type says it holds.
-- Assumes nothing.
use Rattle.file.proofs.clear_read.Goals as goal

pub returns-clause-zeros : goal.returns-clause-zeros
returns-clause-zeros c =
    let t = c.args.tables.now in
    record {
      heads_zero = rw t.heads_length at c.fill.ensures.after (λ y e. e);
      arguments_zero = rw t.arguments_length at c.fill-2.ensures.after (λ y e. e);
      commands_zero = rw t.commands_length at c.fill-3.ensures.after (λ y e. e);
      steps_zero = rw t.steps_length at c.fill-4.ensures.after (λ y e. e);
    }
