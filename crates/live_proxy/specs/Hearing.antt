-- What a proxy answers a client, by the bytes that came from it.
use Rattle.std.specs.Prelude.{◌≡◌, ℕ, ◌+◌, ◌≤◌, List, ◌++◌, length, take, drop, Option, Result, Ok, Err, ⊤}
use Rattle.orb_io.specs.Told.{Loses, IsAtEnd, Rose}
use Rattle.media_state.specs.Table.{States, admits, IsRefusedId}
use Rattle.http_exchange.specs.HeadTexts.{IsHeadText, IsOpenHead, IsLongHead}
use Rattle.http_exchange.specs.Reading.{ReadsRequestHead}
use Rattle.exchanges.specs.Heads.{RequestText, IsRequestHead, id_of}
use Rattle.live_proxy.specs.Requests.{Request, IsGood, HasBadTarget}
use Rattle.live_proxy.specs.Proxies.{Holds, table_of}
use Rattle.live_proxy.specs.declared.gathering.Came.{Came}
use Rattle.live_proxy.specs.declared.gathering.HeadStop.{HeadStop}
use Rattle.live_proxy.specs.declared.gathering.HeadStop.TheVariants as stop
use Rattle.live_proxy.specs.declared.outcomes.ProxyRefusal.{ProxyRefusal}
use Rattle.live_proxy.specs.declared.outcomes.ProxyRefusal.TheVariants as refusal
use Rattle.live_proxy.specs.declared.proxy.Proxy.{Proxy}

-- the bytes are such a head, and others after it
abbrev pub BeginsWith : (List ℕ → Type 0) → List ℕ → Type 0
BeginsWith IsText read = (head : List ℕ) × (rest : List ℕ) × (read ≡ head ++ rest) × IsText head

-- the bytes that a source lost, and what holds of them
pub record Lost (left left' : Option (List ℕ)) (P : List ℕ → Type 0) : Type 0 where
  pub read : List ℕ
  pub lost : Loses left left' read
  pub holds : P read

-- a head that came, and bytes after it which stand in the room
pub record HasCome (came : Came) (head room read : List ℕ) : Type 0 where
  pub text : IsHeadText head
  pub used : came.used ≤ came.count
  pub count : came.count ≤ length room
  pub is : read ≡ head ++ drop came.used (take came.count room)

-- what gathering a head answers
abbrev pub Gathers : Result Came HeadStop → (head room : List ℕ) → (left' : Option (List ℕ)) → (read : List ℕ) → Type 0
Gathers (Ok came) head room left' read = HasCome came head room read
Gathers (Err stop.Long) head room left' read = BeginsWith IsLongHead read × (length read ≤ 65536 + length room)
Gathers (Err stop.Ended) head room left' read = IsOpenHead read × IsAtEnd left'
Gathers (Err stop.Failed) head room left' read = IsOpenHead read

-- a fault of the source is the cause exactly where gathering answers that it failed
abbrev pub GatherCause : Result Came HeadStop → ℕ → ℕ → Type 0
GatherCause (Err stop.Failed) before after = Rose before after
GatherCause result before after = after ≡ before

-- the request that was taken, and what that does to the table
pub record Takes (table : States) (after : Proxy) (head : List ℕ) : Type 0 where
  pub request : Request
  pub head_is : request.text.bytes ≡ head
  pub good : IsGood request
  pub room : IsRefusedId table (id_of request.text.asks) → ⊥
  pub holds : Holds after request
  pub table_is : table_of after ≡ admits table (id_of request.text.asks)

-- a request whose id the table has no room for
pub record IsFull (table : States) (head : List ℕ) : Type 0 where
  pub request : Request
  pub head_is : request.text.bytes ≡ head
  pub good : IsGood request
  pub full : IsRefusedId table (id_of request.text.asks)

-- a request head that is good, but for its target
pub record IsMisdirected (head : List ℕ) : Type 0 where
  pub text : RequestText
  pub head_is : text.bytes ≡ head
  pub good : IsRequestHead text
  pub target : HasBadTarget head

-- what is answered of a head
abbrev pub Hears : Result (Unit {0}) ProxyRefusal → States → Proxy → (head : List ℕ) → Type 0
Hears (Ok done) table after head = Takes table after head
Hears (Err (refusal.Bad kind)) table after head = IsHeadText head × ReadsRequestHead head (Err kind)
Hears (Err refusal.BadTarget) table after head = IsMisdirected head
Hears (Err refusal.MediaFull) table after head = IsFull table head
Hears (Err refusal.NoMemory) table after head = ⊤
Hears (Err other) table after head = ⊥

-- What is answered of the bytes that the client lost. Where memory ran out, nothing else is told of them.
abbrev pub RequestAnswers : Result (Unit {0}) ProxyRefusal → States → Proxy → (left' : Option (List ℕ)) → (read : List ℕ) → Type 0
RequestAnswers (Err refusal.HeadLimit) table after left' read = BeginsWith IsLongHead read
RequestAnswers (Err refusal.Cut) table after left' read = IsOpenHead read × IsAtEnd left'
RequestAnswers (Err refusal.ReadFault) table after left' read = IsOpenHead read
RequestAnswers result table after left' read = BeginsWith (Hears result table after) read

-- a read fault comes only where the client's count rose; every other answer leaves it as it was
abbrev pub RequestCause : Result (Unit {0}) ProxyRefusal → ℕ → ℕ → Type 0
RequestCause (Err refusal.ReadFault) before after = Rose before after
RequestCause result before after = after ≡ before
