use Rattle.es5_trees.specs.Words.{lexeme}
use Rattle.es5_machine.proofs.Verdicts.{has_read_then}
use Rattle.es5_machine.proofs.machine.Machine.step.Goals as goal

pub returns-clause-reads : goal.returns-clause-reads
returns-clause-reads c m h =
    has_read_then c.args.self.now c.read.new.self m (lexeme c.args.token c.args.newline) c.read.ensures h
