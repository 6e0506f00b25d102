use Rattle.httparse.proofs.GrammarLemmas.{response_unique}
use Rattle.http_exchange.proofs.settled.one_response.Goals as goal

pub returns : goal.returns
returns c head h k x y = (response_unique head h k _ _ x.0 y.0).0
