use Rattle.response_rules.proofs.HopelessLemmas.{hopeless-longer, hopeless-unsent, hopeless-blocks}
use Rattle.response_rules.proofs.laws.hopeless_is_for_good.Goals as goal

pub returns : goal.returns
returns c = record {
  hopeless = λ h prefix more dead is. hopeless-longer h prefix more dead dead (λ d. d) is;
  unsent = hopeless-unsent;
  blocks = hopeless-blocks;
}
