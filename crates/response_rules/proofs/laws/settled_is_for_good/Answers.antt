use Rattle.response_rules.proofs.TableLemmas.{rule_is_computed}
use Rattle.response_rules.proofs.SettledLemmas.{settled_is_computed, settled-longer, settled-decides}
use Rattle.response_rules.proofs.laws.settled_is_for_good.Goals as goal

pub returns : goal.returns
returns c = record {
  settled = λ h prefix more r s.
      (settled_is_computed h _ r).1 (settled-longer h prefix more r ((settled_is_computed h prefix r).0 s));
  decides = λ h prefix more r s.
      (rule_is_computed h _ r).1 (settled-decides h prefix more r ((settled_is_computed h prefix r).0 s));
}
