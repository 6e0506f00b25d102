-- Exchanges of HTTP/1.1 as they are sent (RFC 9112), one after the other, each with a whole body.
use Rattle.std.specs.Prelude.{◌≡◌, List, ◌++◌, length, All, Some, None, Ok}
use Rattle.std.specs.List.{flat_map}
use Rattle.httparse.specs.Grammar.{status_code, ResponseHead}
use Rattle.http_exchange.specs.Fields.{pairs_of}
use Rattle.http_exchange.specs.Frames.{IsWhole}
use Rattle.http_exchange.specs.Head.{head_length}
use Rattle.http_exchange.specs.Heads.{IsResponse}
use Rattle.http_exchange.specs.Reading.{ReadsRequestHead}
use Rattle.http_exchange.specs.ResponseFields.{frame_of}
use Rattle.http_exchange.specs.declared.frames.BodyFrame.{BodyFrame}
use Rattle.http_exchange.specs.declared.request.RequestHead.{RequestHead}
use Rattle.har_recording.specs.Log.{Text}

-- an exchange, as it is sent
pub record Sent : Type 0 where
  pub request : Text
  pub response : Text
  pub body : Text

abbrev pub sent_text : Sent → Text
sent_text x = x.request ++ (x.response ++ x.body)

-- the text ends at its first empty line (RFC 9112 2.1)
abbrev pub IsOneHead : Text → Type 0
IsOneHead text = head_length text ≡ Some (length text)

-- the body is whole, by the frame that the response's head states after this request (RFC 9112 6.3)
abbrev pub HasWholeBody : Sent → RequestHead → Type 0
HasWholeBody x asks =
    (h : ResponseHead) (frame : BodyFrame) → IsResponse x.response h
    → frame_of asks.is_head (status_code h) (pairs_of h.fields) ≡ Ok frame → IsWhole frame x.body

-- Each head ends where the next part begins. Where the request's head isn't refused, it has no media id, and where the
-- response's isn't, the body is whole.
pub record IsSent (x : Sent) : Type 0 where
  pub request : IsOneHead x.request
  pub response : IsOneHead x.response
  pub no_id : (asks : RequestHead) → ReadsRequestHead x.request (Ok asks) → asks.media_id ≡ None
  pub body : (asks : RequestHead) → ReadsRequestHead x.request (Ok asks) → HasWholeBody x asks

-- the bytes are such exchanges, and nothing else
pub record AreSent (bytes : Text) : Type 0 where
  pub exchanges : List Sent
  pub are : bytes ≡ flat_map sent_text exchanges
  pub each : All IsSent exchanges
