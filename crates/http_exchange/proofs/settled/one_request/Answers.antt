use Rattle.httparse.proofs.GrammarLemmas.{request_unique}
use Rattle.http_exchange.proofs.settled.one_request.Goals as goal

pub returns : goal.returns
returns c head h k x y = (request_unique head h k _ _ x.0 y.0).0
