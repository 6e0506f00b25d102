use Rattle.response_rules.proofs.TableLemmas.{rule_is_computed}
use Rattle.response_rules.proofs.laws.rule_is_computed.Goals as goal

pub returns : goal.returns
returns c = rule_is_computed
