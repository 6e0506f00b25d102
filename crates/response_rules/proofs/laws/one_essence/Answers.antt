use Rattle.response_rules.proofs.EssenceLemmas.{one_essence}
use Rattle.response_rules.proofs.laws.one_essence.Goals as goal

pub returns : goal.returns
returns c = one_essence
