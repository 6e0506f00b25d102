use Rattle.std.proofs.Common.{sym, ◌∙◌}
use Rattle.json_recogniser.proofs.JsonTestLemmas.{dead_never}
use Rattle.json_recogniser.proofs.json_test.JsonTest.is_dead.Goals as goal

pub returns-clause-never : goal.returns-clause-never
returns-clause-never c = λ bytes more h dead. dead_never c.args.self.now bytes more (sym c.is_dead.ensures ∙ dead) h
