use Rattle.std.proofs.Common.{sym, ◌∙◌}
use Rattle.es5_machine.proofs.ScriptTestLemmas.{lost}
use Rattle.es5_machine.proofs.script_tests.ScriptTest.is_dead.Goals as goal

pub returns-clause-hopeless : goal.returns-clause-hopeless
returns-clause-hopeless c dead m w reads script = lost c.args.self.now m w reads (sym c.is_dead.ensures ∙ dead) script
