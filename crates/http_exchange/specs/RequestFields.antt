-- What the fields of a request say (Fetch Metadata 2, RFC 9112 6.1 and 6.2). Values are joined where
-- a name stands more than once, and taken without white space at their ends.
use Rattle.std.specs.Prelude.{ℕ, Bool, false, ◌&&◌, ◌||◌, not, if◌then◌else◌, List, Option, Some, None, Result, Ok, Err, codes, bytes_eq, is_some}
use Rattle.std.specs.Option.{option_map}
use Rattle.orb_bytes.specs.Bytes.{is_http_whitespace}
use Rattle.orb_bytes.specs.Decimal.{decimal_of}
use Rattle.orb_bytes.specs.Trim.{trimmed}
use Rattle.header_values.specs.Joined.{joined}
use Rattle.http_exchange.specs.declared.refusals.BadKind.{BadKind}
use Rattle.http_exchange.specs.declared.refusals.BadKind.TheVariants.{RequestBody, BadMediaId}
use Rattle.http_exchange.specs.declared.request.RequestHead.{RequestHead}

-- the value of that name; none where there is no such field
abbrev pub value_of : List (List ℕ × List ℕ) → List ℕ → Option (List ℕ)
value_of fields name = option_map (trimmed is_http_whitespace) (joined fields name)

-- there is a value, and it is this one, compared exactly
abbrev pub is_value : Option (List ℕ) → List ℕ → Bool
is_value None text = false
is_value (Some value) text = bytes_eq value text

-- there is a value, and it is another one
abbrev pub is_other : Option (List ℕ) → List ℕ → Bool
is_other None text = false
is_other (Some value) text = not (bytes_eq value text)

-- a Transfer-Encoding, or a Content-Length other than `0`
unfoldable pub has_body : List (List ℕ × List ℕ) → Bool
has_body fields =
    is_some (value_of fields (codes "Transfer-Encoding"))
    || is_other (value_of fields (codes "Content-Length")) (codes "0")

-- no id where there is no value, the number that the value writes, and else no such thing
abbrev pub id_of : Option (List ℕ) → Result (Option ℕ) BadKind
id_of None = Ok None
id_of (Some value) = number_or_bad (decimal_of value)
  where
    number_or_bad : Option ℕ → Result (Option ℕ) BadKind
    number_or_bad None = Err BadMediaId
    number_or_bad (Some n) = Ok (Some n)

-- the mode is `no-cors`, and the site isn't `same-origin`
unfoldable pub is_opaque : List (List ℕ × List ℕ) → Bool
is_opaque fields =
    is_value (value_of fields (codes "Sec-Fetch-Mode")) (codes "no-cors")
    && not (is_value (value_of fields (codes "Sec-Fetch-Site")) (codes "same-origin"))

-- the destination is audio or video
unfoldable pub is_for_media : List (List ℕ × List ℕ) → Bool
is_for_media fields =
    is_value (value_of fields (codes "Sec-Fetch-Dest")) (codes "audio")
    || is_value (value_of fields (codes "Sec-Fetch-Dest")) (codes "video")

-- what a request with an id is taken for
abbrev pub with_id : Bool → List (List ℕ × List ℕ) → Result (Option ℕ) BadKind → Result RequestHead BadKind
with_id is_head fields (Err kind) = Err kind
with_id is_head fields (Ok id) = Ok (record {
  opaque = is_opaque fields;
  media = is_opaque fields && is_for_media fields;
  is_head = is_head;
  media_id = id;
})

-- what a request is taken for, by whether its method is HEAD and by its fields; the first refusal
-- that holds
unfoldable pub request_of : Bool → List (List ℕ × List ℕ) → Result RequestHead BadKind
request_of is_head fields =
    if has_body fields then Err RequestBody
    else with_id is_head fields (id_of (value_of fields (codes "Orb-Media")))
