use Rattle.http_exchange.proofs.EndLemmas.{head_length-stays, head_length-alone}
use Rattle.http_exchange.proofs.settled.head_length_stays.Goals as goal

pub returns : goal.returns
returns c = record { longer = head_length-stays; alone = head_length-alone }
