use Rattle.std.proofs.Common.{◌∙◌, sym}
use Rattle.response_rules.proofs.HopelessLemmas.{never_script}
use Rattle.response_rules.proofs.text.TextTest.is_dead.Goals as goal

pub returns-clause-never : goal.returns-clause-never
returns-clause-never c = λ m more reads is. never_script c.args.self.now.script m more reads.script (sym c.is_dead.ensures.state ∙ is)
