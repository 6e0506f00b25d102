-- The recording that a HAR log stands for: its exchanges, each as a request and a response of HTTP/1.1 (RFC 9112).
use Rattle.std.specs.Prelude.{ℕ, ◌+◌, Bool, ◌&&◌, not, nat_le, List, [], ◌∷◌, ◌++◌, length, filter, codes, decimal, bytes_eq, Option, Some, None, Result, Ok, Err, if◌then◌else◌}
use Rattle.std.specs.List.{list_all, list_any}
use Rattle.serde_json.specs.Data.{Data, Items, no_items, item}
use Rattle.orb_bytes.specs.Bytes.{is_quoted_token_byte}
use Rattle.orb_bytes.specs.Fields.{same_name}
use Rattle.http_exchange.specs.Messages.{head_text}
use Rattle.http_exchange.specs.ResponseFields.{has_no_body}
use Rattle.har_recording.specs.Log.{Text, Headers, Request, Response, Entry, is_token, entry_of, entries_of, json_of, without_mark}

-- The names that no recorded head takes from a log. The log has a body without its codings, which may have another
-- length than was sent, and says nothing of media resources.
abbrev pub dropped_names : List Text
dropped_names =
    codes "Content-Length"
    ∷ codes "Transfer-Encoding"
    ∷ codes "Content-Encoding"
    ∷ codes "Orb-Media"
    ∷ []

-- a name that is a token (RFC 9110 5.1), and none of those
abbrev pub is_kept_name : Text → Bool
is_kept_name name = is_token name && not (list_any (same_name name) dropped_names)

-- a value of visible characters, obs-text, spaces and tabs (RFC 9110 5.5)
abbrev pub is_field_value : Text → Bool
is_field_value value = list_all is_quoted_token_byte value

abbrev pub is_kept : Text × Text → Bool
is_kept header = is_kept_name header.0 && is_field_value header.1

-- the head of the request
abbrev pub request_text : Request → Text
request_text r = head_text (r.method ++ codes " / HTTP/1.1") (filter is_kept r.headers)

-- the length of the body, which is stated also where no body is sent
abbrev pub length_field : Text → Text × Text
length_field body = (codes "Content-Length", decimal (length body))

abbrev pub status_line : ℕ → Text
status_line status = codes "HTTP/1.1 " ++ (decimal status ++ codes " OK")

abbrev pub response_fields : Response → Headers
response_fields r = filter is_kept r.headers ++ (length_field r.body ∷ [])

-- the head of the response
abbrev pub response_head : Response → Text
response_head r = head_text (status_line r.status) (response_fields r)

-- the body as it is sent to a request with the method (RFC 9112 6.3)
abbrev pub sent_body : (method : Text) → Response → Text
sent_body method r = if has_no_body (bytes_eq method (codes "HEAD")) r.status then [] else r.body

-- an exchange: both heads, and the body
abbrev pub exchange_text : Entry → Text
exchange_text e = request_text e.request ++ (response_head e.response ++ sent_body e.request.method e.response)

-- a final response, with a status of the classes 2 to 5 (RFC 9110 15)
abbrev pub is_final : Entry → Bool
is_final e = nat_le 200 e.response.status && nat_le e.response.status 599

-- what the entry stands for
abbrev pub recorded : Entry → Text
recorded e = if is_final e then exchange_text e else []

-- what an entry and those after it stand for, or which one isn't whole
abbrev pub followed : (number : ℕ) → Option Entry → Result Text ℕ → Result Text ℕ
followed number None others = Err number
followed number (Some e) (Ok rest) = Ok (recorded e ++ rest)
followed number (Some e) (Err later) = Err later

-- what entries stand for, which are numbered on from this, or which is the first that isn't whole
abbrev pub recording_from : (number : ℕ) → Items → Result Text ℕ
recording_from number no_items = Ok []
recording_from number (item d ds) = followed number (entry_of d) (recording_from (number + 1) ds)

-- entries are numbered from 1; 0 says that there are none to number
abbrev pub recording_of : Option Items → Result Text ℕ
recording_of None = Err 0
recording_of (Some entries) = recording_from 1 entries

abbrev pub of_json : Option Data → Result Text ℕ
of_json None = Err 0
of_json (Some d) = recording_of (entries_of d)

-- The recording that the text stands for as a HAR log. Where it is none, the number from 1 of the first entry that
-- isn't whole, or 0 where the text isn't JSON or has no entries.
abbrev pub har_of : Text → Result Text ℕ
har_of text = of_json (json_of (without_mark text))
