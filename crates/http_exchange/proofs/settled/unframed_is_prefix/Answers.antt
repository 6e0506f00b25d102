use Rattle.http_exchange.proofs.UnframerLemmas.{prefix_read}
use Rattle.http_exchange.proofs.settled.unframed_is_prefix.Goals as goal

pub returns : goal.returns
returns c = λ u f m given h. prefix_read u f m given h.stands
