use Rattle.response_rules.proofs.SettledLemmas.{blocked-longer, blocked-blocks, blocked-unsent}
use Rattle.response_rules.proofs.laws.blocked_is_for_good.Goals as goal

pub returns : goal.returns
returns c = record { blocked = blocked-longer; blocks = blocked-blocks; unsent = blocked-unsent }
