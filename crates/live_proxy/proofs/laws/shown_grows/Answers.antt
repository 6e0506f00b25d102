use Rattle.live_proxy.proofs.ResponseLaws.{longer, ends}
use Rattle.live_proxy.proofs.laws.shown_grows.Goals as goal

pub returns : goal.returns
returns c = record { longer = longer; ends = ends }
