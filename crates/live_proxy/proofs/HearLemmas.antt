-- What is answered of a request head.
use Rattle.std.proofs.Common.{◌≡◌, ℕ, List, refl, sym, ap, ◌∙◌}
use Rattle.std.specs.Prelude.{Ok, Err, Some}
use Rattle.media_state.specs.Table.{States}
use Rattle.media_state.specs.declared.states.MediaState.{MediaState}
use Rattle.media_state.specs.declared.table.Full.{Full}
use Rattle.http_exchange.specs.HeadTexts.{IsHeadText}
use Rattle.http_exchange.specs.Reading.{ReadsRequestHead}
use Rattle.http_exchange.specs.declared.request.RequestHead.{RequestHead}
use Rattle.exchanges.specs.Heads.{RequestText, id_of, state_before}
use Rattle.exchanges.specs.Media.{EntersFor}
use Rattle.exchanges.proofs.TableLemmas.{kept-admitted, state-admitted}
use Rattle.live_proxy.specs.Requests.{Request, HasBadTarget}
use Rattle.live_proxy.specs.Forwarding.{IsPrepared}
use Rattle.live_proxy.specs.Hearing.{Takes, IsFull, IsMisdirected}
use Rattle.live_proxy.specs.Proxies.{table_of}
use Rattle.live_proxy.specs.declared.targets.ProxyTarget.{ProxyTarget}
use Rattle.live_proxy.specs.declared.proxy.Proxy.{Proxy}

abbrev text_of : List ℕ → RequestHead → RequestText
text_of head asks = record { bytes = head; asks = asks }

-- the target is refused
pub misdirected : (head : List ℕ) (asks : RequestHead) → IsHeadText head → ReadsRequestHead head (Ok asks) → HasBadTarget head
    → IsMisdirected head
misdirected head asks text reads bad = record {
  text = text_of head asks;
  head_is = refl;
  good = record { text = text; reads = reads };
  target = bad;
}

-- the request that was made ready
abbrev request_of : (head : List ℕ) (asks : RequestHead) (read : ProxyTarget) (text : List ℕ) → IsPrepared head read text → Request
request_of head asks read text p = record {
  text = text_of head asks;
  method = p.method;
  target = p.target;
  fields = p.fields;
}

-- there is no room for its id
pub full : (table after : States) (head : List ℕ) (asks : RequestHead) (read : ProxyTarget) (text : List ℕ) (why : Full)
    → IsHeadText head → ReadsRequestHead head (Ok asks) → IsPrepared head read text → EntersFor table after asks (Err why)
    → IsFull table head
full table after head asks read text why whole reads p enters = record {
  request = request_of head asks read text p;
  head_is = refl;
  good = record { head = record { text = whole; reads = reads }; parts = p.parts };
  full = enters.0;
}

-- it is taken
pub takes : (table : States) (after : Proxy) (head : List ℕ) (asks : RequestHead) (state : MediaState) (read : ProxyTarget) (text : List ℕ)
    → IsHeadText head → ReadsRequestHead head (Ok asks) → IsPrepared head read text
    → EntersFor table (table_of after) asks (Ok state) → after.head ≡ head
    → after.asked ≡ Some (record { asks = asks; state = state; target = read }) → after.text.items ≡ text
    → Takes table after head
takes table after head asks state read text whole reads p enters same is text_is = record {
  request = request_of head asks read text p;
  head_is = refl;
  good = record { head = record { text = whole; reads = reads }; parts = p.parts };
  room = enters.2;
  holds = record {
    asked = record { asks = asks; state = state; target = read };
    is = is;
    good = record { head = record { text = whole; reads = reads }; parts = p.parts };
    head = same;
    asks = refl;
    state = enters.0 ∙ sym (state-admitted table asks) ∙ ap (λ t. state_before t asks) (sym enters.1);
    kept = rw enters.1 (kept-admitted table (id_of asks));
    target = p.is_read;
    text = text_is ∙ p.text_is;
  };
  table_is = enters.1;
}
