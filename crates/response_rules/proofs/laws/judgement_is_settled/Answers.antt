use Rattle.response_rules.proofs.SettledLemmas.{sent-settled, blocked-settled}
use Rattle.response_rules.proofs.laws.judgement_is_settled.Goals as goal

pub returns : goal.returns
returns c = record { sent = sent-settled; blocked = blocked-settled }
