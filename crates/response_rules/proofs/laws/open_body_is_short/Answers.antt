use Rattle.response_rules.proofs.HopelessLemmas.{hopeful-short}
use Rattle.response_rules.proofs.laws.open_body_is_short.Goals as goal

pub returns : goal.returns
returns c = hopeful-short
