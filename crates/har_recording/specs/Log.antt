-- What a HAR log says (HTTP Archive 1.2, softwareishard.com/blog/har-12-spec), of JSON as `serde_json` reads it
-- (RFC 8259). Of two members of one name the last counts; members that no rule here names are passed over.
use Rattle.std.specs.Prelude.{ℕ, Bool, false, ◌&&◌, nat_eq, nat_le, List, [], ◌∷◌, length, drop, Option, Some, None, codes, bytes_eq, option_map, option_and_then, unwrap_or, if◌then◌else◌}
use Rattle.std.specs.List.{list_all, starts_with}
use Rattle.std.specs.Char.{encode_utf8}
use Rattle.std.specs.Str.{is_utf8}
use Rattle.serde_json.specs.Data.{Data, Items, no_items, item}
use Rattle.serde_json.specs.Read.{read}
use Rattle.serde_json.specs.Find.{get, as_str, as_array, as_object, as_number, as_u64}
use Rattle.base64.specs.GeneralPurpose.{decoded_of}
use Rattle.base64.specs.Engines.{standard}
use Rattle.orb_bytes.specs.Bytes.{is_token_byte}

abbrev pub Text : Type 0
Text = List ℕ

-- names and values, in their order
abbrev pub Headers : Type 0
Headers = List (Text × Text)

pub record Request : Type 0 where
  pub method : Text
  pub headers : Headers

pub record Response : Type 0 where
  pub status : ℕ
  pub headers : Headers
  -- what the content's text stands for
  pub body : Text

pub record Entry : Type 0 where
  pub request : Request
  pub response : Response

-- what is made of two parts, where both are there
abbrev pub of_both : {X Y Z : Type 0} → (X → Y → Z) → Option X → Option Y → Option Z
of_both make first second = option_and_then (λ x. option_map (make x) second) first

-- what each item is read as, where every one is
abbrev pub all_of : {X : Type 0} → (Data → Option X) → Items → Option (List X)
all_of f no_items = Some []
all_of f (item d ds) = of_both (λ x xs. x ∷ xs) (f d) (all_of f ds)

-- the member of that name, where it is a string
abbrev pub string_at : Text → Data → Option Text
string_at name d = option_and_then as_str (get name d)

-- a header has a name and a value
abbrev pub header_of : Data → Option (Text × Text)
header_of d = of_both (λ name value. (name, value)) (string_at (codes "name") d) (string_at (codes "value") d)

-- the headers of a request or a response
abbrev pub headers_of : Data → Option Headers
headers_of d = option_and_then (all_of header_of) (option_and_then as_array (get (codes "headers") d))

-- a method is a token: one or more token bytes (RFC 9110 9.1, 5.6.2)
abbrev pub is_token : Text → Bool
is_token text = nat_le 1 (length text) && list_all is_token_byte text

abbrev pub if_token : Text → Option Text
if_token text = if is_token text then Some text else None

abbrev pub request_of : Data → Option Request
request_of d =
    of_both (λ method headers. record { method = method; headers = headers })
    (option_and_then if_token (string_at (codes "method") d))
    (headers_of d)

-- a status has at most three digits (RFC 9110 15)
abbrev pub if_status : ℕ → Option ℕ
if_status n = if nat_le n 999 then Some n else None

-- the status is a number that is kept as an unsigned integer
abbrev pub status_of : Data → Option ℕ
status_of d = option_and_then if_status (option_and_then as_u64 (option_and_then as_number (get (codes "status") d)))

-- a member that is absent, or a string
abbrev pub optional : Option Data → Option (Option Text)
optional None = Some None
optional (Some d) = option_map (λ text. Some text) (as_str d)

abbrev pub is_base64 : Option Text → Bool
is_base64 None = false
is_base64 (Some encoding) = bytes_eq encoding (codes "base64")

-- the bytes that the text stands for in Base64 (RFC 4648 4)
abbrev pub decoded : Option Text → Option Text
decoded text = option_and_then (decoded_of standard) text

-- the bytes of a content, by its encoding and its text
abbrev pub body_from : (encoding text : Option Text) → Option Text
body_from encoding text = if is_base64 encoding then decoded text else Some (unwrap_or text [])

-- a content is an object
abbrev pub body_of : Data → Option Text
body_of content =
    option_and_then (λ members. option_and_then (λ encoding. option_and_then (body_from encoding)
    (optional (get (codes "text") content))) (optional (get (codes "encoding") content))) (as_object content)

abbrev pub response_of : Data → Option Response
response_of d =
    option_and_then (λ status. of_both (λ headers body. record { status = status; headers = headers; body = body })
    (headers_of d)
    (option_and_then body_of (get (codes "content") d)))
    (status_of d)

abbrev pub entry_of : Data → Option Entry
entry_of d =
    of_both (λ request response. record { request = request; response = response })
    (option_and_then request_of (get (codes "request") d))
    (option_and_then response_of (get (codes "response") d))

-- the entries of a log
abbrev pub entries_of : Data → Option Items
entries_of d = option_and_then as_array (option_and_then (get (codes "entries")) (get (codes "log") d))

-- a byte order mark: U+FEFF in UTF-8 (RFC 8259 8.1)
abbrev pub byte_order_mark : Text
byte_order_mark = encode_utf8 0xFEFF

-- the text without one such mark at its beginning
abbrev pub without_mark : Text → Text
without_mark text =
    if starts_with nat_eq text byte_order_mark then drop (length byte_order_mark) text else text

-- the JSON that the text is: it is written in UTF-8 (RFC 8259 8.1), and nests at most 127 levels
abbrev pub json_of : Text → Option Data
json_of text = if is_utf8 text then read text else None
