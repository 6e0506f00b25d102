-- What is known of a proxy.
use Rattle.std.specs.Prelude.{◌≡◌, ℕ, Some}
use Rattle.media_state.specs.Table.{States, IsKept}
use Rattle.body_filter.specs.Reads.{limit_of as filter_limit}
use Rattle.exchanges.specs.Heads.{id_of, state_before}
use Rattle.live_proxy.specs.TargetReads.{IsRead}
use Rattle.live_proxy.specs.Requests.{Request, IsGood, forwarded}
use Rattle.live_proxy.specs.declared.proxy.Proxy.{Proxy}
use Rattle.live_proxy.specs.declared.proxy.Asked.{Asked}

-- how many bytes of a body are read for a script
abbrev pub limit_of : Proxy → ℕ
limit_of p = filter_limit p.filter

-- the media states that it keeps
abbrev pub table_of : Proxy → States
table_of p = p.media

-- it has taken this request, which is not answered yet
pub record Holds (p : Proxy) (r : Request) : Type 0 where
  pub asked : Asked
  pub is : p.asked ≡ Some asked
  pub good : IsGood r
  pub head : p.head ≡ r.text.bytes
  pub asks : asked.asks ≡ r.text.asks
  pub state : asked.state ≡ state_before (table_of p) r.text.asks
  pub kept : IsKept (table_of p) (id_of r.text.asks)
  pub target : IsRead asked.target r.target
  pub text : p.text.items ≡ forwarded r

-- it awaits a request
abbrev pub IsIdle : Proxy → Type 0
IsIdle p = (r : Request) → ¬ (Holds p r)
