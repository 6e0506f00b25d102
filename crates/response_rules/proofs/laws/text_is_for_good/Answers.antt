use Rattle.response_rules.proofs.HopelessLemmas.{text-longer, text-unsent}
use Rattle.response_rules.proofs.laws.text_is_for_good.Goals as goal

pub returns : goal.returns
returns c = record { text = text-longer; unsent = text-unsent }
