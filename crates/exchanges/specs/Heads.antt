-- The two heads of an exchange (RFC 9112 2.1), and what they say.
use Rattle.std.specs.Prelude.{◌≡◌, ℕ, Bool, true, false, List, Option, None, Ok, if◌then◌else◌}
use Rattle.httparse.specs.Grammar.{status_code, ResponseHead}
use Rattle.media_state.specs.Table.{States, kept_state, IsRefusedId}
use Rattle.media_state.specs.declared.states.MediaState.{MediaState}
use Rattle.media_state.specs.declared.states.MediaState.TheVariants.{Na}
use Rattle.response_rules.specs.Heads.{Case, HasEssence, stated_length}
use Rattle.response_rules.specs.Reads.{case_of}
use Rattle.body_filter.specs.Responses as filter
use Rattle.body_filter.specs.Responses.{Response}
use Rattle.http_exchange.specs.Heads.{IsResponse}
use Rattle.http_exchange.specs.Fields.{pairs_of}
use Rattle.http_exchange.specs.Reading.{ReadsRequestHead}
use Rattle.http_exchange.specs.ResponseFields.{frame_of}
use Rattle.http_exchange.specs.declared.request.RequestHead.{RequestHead}
use Rattle.http_exchange.specs.declared.frames.BodyFrame.{BodyFrame}
use Rattle.http_exchange.specs.declared.frames.BodyFrame.TheVariants as frame
use Rattle.response_rules.specs.declared.verdicts.Policy.{Policy}
use Rattle.http_exchange.specs.HeadTexts.{IsHeadText}

-- a request head, and what it says of the fetch that made it
pub record RequestText : Type 0 where
  pub bytes : List ℕ
  pub asks : RequestHead

-- a response head, and what it says
pub record ResponseText : Type 0 where
  pub bytes : List ℕ
  pub status : ℕ
  pub fields : List (List ℕ × List ℕ)
  pub essence : Option (List ℕ × List ℕ)
  pub frame : BodyFrame

-- the heads of an exchange
pub record Heads : Type 0 where
  pub request : RequestText
  pub response : ResponseText

-- the id of a media request; one on another request has no effect
abbrev pub id_of : RequestHead → Option ℕ
id_of asks = if asks.media then asks.media_id else None

-- the state of its media resource that a request finds
abbrev pub state_before : States → RequestHead → MediaState
state_before table asks = if asks.media then kept_state table (id_of asks) else Na

-- the bytes are a request head that says this
pub record IsRequestHead (r : RequestText) : Type 0 where
  pub text : IsHeadText r.bytes
  pub reads : ReadsRequestHead r.bytes (Ok r.asks)

-- the same, and the id of a media request can be kept
pub record IsRequestIn (table : States) (r : RequestText) : Type 0 where
  pub head : IsRequestHead r
  pub room : IsRefusedId table (id_of r.asks) → ⊥

-- the bytes are a response head that says this, after a request that is HEAD or isn't
pub record IsResponseHead (to_head : Bool) (r : ResponseText) : Type 0 where
  pub text : IsHeadText r.bytes
  pub tree : ResponseHead
  pub reads : IsResponse r.bytes tree
  pub status : r.status ≡ status_code tree
  pub fields : r.fields ≡ pairs_of tree.fields
  pub frame : frame_of to_head r.status r.fields ≡ Ok r.frame
  pub essence : HasEssence r.fields r.essence

-- both heads are good
pub record AreHeads (table : States) (h : Heads) : Type 0 where
  pub request : IsRequestIn table h.request
  pub response : IsResponseHead h.request.asks.is_head h.response

-- the state of its media resource that the exchange finds
abbrev pub state_of : States → Heads → MediaState
state_of table h = state_before table h.request.asks

-- the complete length of the resource that the response is a part of, if it states one
abbrev pub length_of : Heads → Option ℕ
length_of h = stated_length h.response.status h.response.fields

-- what the response is judged by: the policy, the limit of bytes that are read for a script, and the rest
abbrev pub judged_by : Policy → (limit : ℕ) → States → Heads → Case
judged_by policy limit table h =
    case_of policy (state_of table h) h.request.asks.opaque h.response.status h.response.fields limit
    h.response.essence

abbrev pub is_chunked : BodyFrame → Bool
is_chunked frame.Empty = false
is_chunked (frame.Length n) = false
is_chunked frame.Chunked = true
is_chunked frame.ToEnd = false

abbrev pub is_to_end : BodyFrame → Bool
is_to_end frame.Empty = false
is_to_end (frame.Length n) = false
is_to_end frame.Chunked = false
is_to_end frame.ToEnd = true

-- the response, to be filtered
abbrev pub response_of : Policy → (limit : ℕ) → States → Heads → Response
response_of policy limit table h =
    filter.response_of (judged_by policy limit table h) h.response.bytes (is_chunked h.response.frame)
