use Rattle.response_rules.proofs.SettledLemmas.{sent-longer, sent-rule, sent-allows}
use Rattle.response_rules.proofs.laws.sent_is_for_good.Goals as goal

pub returns : goal.returns
returns c = record { sent = sent-longer; rule = sent-rule; allows = sent-allows }
