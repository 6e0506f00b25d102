use Rattle.std.proofs.Common.{◌++◌}
use Rattle.es5_machine.proofs.scripts.ScriptReader.take.Goals as goal

pub returns-then-not-is_empty-clause-reads : goal.returns-then-not-is_empty-clause-reads
returns-then-not-is_empty-clause-reads c given offers =
    let read = c.step_all.ensures given offers.machine in
    record {
      machine = read;
      suits = λ tokens program. c.goal-self.ensures.suits (given ++ c.args.tokens.now) tokens read program;
    }
