-- How the body of a response is framed (RFC 9112 6.3, RFC 9110 15.2).
use Rattle.std.specs.Prelude.{ℕ, Bool, false, ◌&&◌, ◌||◌, ◌==◌, not, nat_le, if◌then◌else◌, List, [], ◌∷◌, Option, Some, None, Result, Ok, Err, codes, is_some}
use Rattle.std.specs.List.{list_all}
use Rattle.orb_bytes.specs.Decimal.{decimal_of}
use Rattle.orb_bytes.specs.Fields.{same_name}
use Rattle.header_values.specs.Joined.{joined}
use Rattle.header_values.specs.Cuts.{parts_of}
use Rattle.http_exchange.specs.declared.refusals.BadKind.{BadKind}
use Rattle.http_exchange.specs.declared.refusals.BadKind.TheVariants.{Interim, BadFraming}
use Rattle.http_exchange.specs.declared.frames.BodyFrame.{BodyFrame}
use Rattle.http_exchange.specs.declared.frames.BodyFrame.TheVariants.{Empty, Length, Chunked, ToEnd}
use Rattle.http_exchange.specs.RequestFields.{value_of}

-- the text writes this number
abbrev pub writes : ℕ → List ℕ → Bool
writes n text = is_number (decimal_of text)
  where
    is_number : Option ℕ → Bool
    is_number None = false
    is_number (Some m) = m == n

-- the number that the first text writes, where each other writes the same
abbrev pub same_length : Option ℕ → List (List ℕ) → Result BodyFrame BadKind
same_length None texts = Err BadFraming
same_length (Some n) texts = if list_all (writes n) texts then Ok (Length n) else Err BadFraming

-- the length that the parts of a Content-Length agree on
abbrev pub length_of : List (List ℕ) → Result BodyFrame BadKind
length_of [] = Err BadFraming
length_of (text ∷ texts) = same_length (decimal_of text) texts

-- the frame that a Content-Length states; without one the body runs to the end of the input
abbrev pub sized : Option (List ℕ) → Result BodyFrame BadKind
sized None = Ok ToEnd
sized (Some value) = length_of (parts_of value)

-- the frame of a body that may be there: `chunked` alone, or a length, or the end of the input
abbrev pub framed : (coding : Option (List ℕ)) (length : Option (List ℕ)) → Result BodyFrame BadKind
framed None length = sized length
framed (Some coding) length =
    if same_name coding (codes "chunked") && not (is_some length) then Ok Chunked else Err BadFraming

-- a status of 100 to 199
abbrev pub is_interim : ℕ → Bool
is_interim status = nat_le 100 status && nat_le status 199

-- No Content (RFC 9110 15.3.5)
abbrev pub no_content : ℕ
no_content = 204

-- Not Modified (RFC 9110 15.4.5)
abbrev pub not_modified : ℕ
not_modified = 304

-- the response to HEAD, and one with one of these two statuses, has no body whatever its fields say
abbrev pub has_no_body : (to_head : Bool) (status : ℕ) → Bool
has_no_body to_head status = to_head || (status == no_content || status == not_modified)

-- the frame of the body of a response; the first refusal that holds
unfoldable pub frame_of : (to_head : Bool) (status : ℕ) → List (List ℕ × List ℕ) → Result BodyFrame BadKind
frame_of to_head status fields =
    if is_interim status then Err Interim
    else if has_no_body to_head status then Ok Empty
    else framed (value_of fields (codes "Transfer-Encoding")) (joined fields (codes "Content-Length"))
