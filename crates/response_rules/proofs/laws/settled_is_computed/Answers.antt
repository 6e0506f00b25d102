use Rattle.response_rules.proofs.SettledLemmas.{settled_is_computed}
use Rattle.response_rules.proofs.laws.settled_is_computed.Goals as goal

pub returns : goal.returns
returns c = settled_is_computed
