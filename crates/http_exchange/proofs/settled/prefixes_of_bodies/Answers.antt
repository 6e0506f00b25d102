use Rattle.http_exchange.proofs.UnframerLemmas.{one_prefix, whole_prefix, shorter_prefix, last_byte}
use Rattle.http_exchange.proofs.settled.prefixes_of_bodies.Goals as goal

pub returns : goal.returns
returns c = record { one = one_prefix; whole = whole_prefix; shorter = shorter_prefix; last = last_byte }
