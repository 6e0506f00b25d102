use Rattle.live_proxy.proofs.ResponseLaws.{one}
use Rattle.live_proxy.proofs.laws.one_response.Goals as goal

pub returns : goal.returns
returns c = record {
  end = λ to_head bytes a b after others x y. (one to_head bytes a b after others x y).end;
  shown = λ k bytes a b after others x y. (one k.asks.is_head bytes a b after others x y).shown k;
  state = λ k bytes a b after others x y. (one k.asks.is_head bytes a b after others x y).state k;
}
