-- The recording of the self-test: exchanges that are numbered on from a seed, of eight kinds in turn.
use Rattle.std.specs.Prelude.{ℕ, zero, suc, ◌+◌, ◌-◌, ◌/◌, ◌%◌, List, [], ◌∷◌, ◌++◌, length, get_or, codes, decimal}
use Rattle.std.specs.List.{repeat}
use Rattle.orb_bytes.specs.Ascii.{nul, line_feed, solidus, crlf}
use Rattle.trial.specs.declared.kinds.Kind.{Kind}
use Rattle.trial.specs.declared.kinds.Kind.TheVariants.{Javascript, Nosniff, Png, Script, Json, Text, Jpeg, Media}
use Rattle.http_exchange.specs.Messages.{head_text}
use Rattle.trial.specs.Texts.{chunked_text}

-- the kinds, in the order in which they follow one another
abbrev pub kinds : List Kind
kinds = Javascript ∷ Nosniff ∷ Png ∷ Script ∷ Json ∷ Text ∷ Jpeg ∷ Media ∷ []

-- the kind of the exchange of this number
abbrev pub kind_of : ℕ → Kind
kind_of number = get_or kinds (number % 8) Media

-- how far the body of the exchange of this number is repeated
abbrev pub size_of : ℕ → ℕ
size_of number = number % 1009

-- the id of the media resource of which the exchange of this number would be
abbrev pub id_of : ℕ → ℕ
id_of number = number / 8 % 16

-- the signatures of PNG and JPEG (WHATWG MIME Sniffing 6.1)
abbrev pub png_signature : List ℕ
png_signature = 0x89 ∷ (codes "PNG" ++ (crlf ++ (0x1A ∷ line_feed ∷ [])))

abbrev pub jpeg_signature : List ℕ
jpeg_signature = 0xFF ∷ 0xD8 ∷ 0xFF ∷ []

-- the content of a response, repeated as far as m says. That of Media begins as Ogg does (WHATWG MIME Sniffing 6.2)
unfoldable pub body_of : Kind → (m : ℕ) → List ℕ
body_of Javascript m = repeat (m + 1) (codes "x;")
body_of Nosniff m = repeat (m + 1) (codes "a")
body_of Png m = png_signature ++ repeat m (nul ∷ [])
body_of Script m = repeat (m + 1) (codes "var a=0;")
body_of Json m = codes "[0" ++ (repeat m (codes ",0") ++ codes "]")
body_of Text m = repeat (m + 1) (codes "a b ")
body_of Jpeg m = jpeg_signature ++ repeat m (nul ∷ [])
body_of Media m = (codes "OggS" ++ (nul ∷ [])) ++ repeat m (nul ∷ [])

-- the body as it is sent
abbrev pub sent_of : Kind → (body : List ℕ) → List ℕ
sent_of Jpeg body = chunked_text 100 body
sent_of _ body = body

-- the request line, and the fields of a request: a fetch whose response is opaque, and for media one with an id
abbrev pub request_line : List ℕ
request_line = codes "GET / HTTP/1.1"

abbrev pub plain_request : List (List ℕ × List ℕ)
plain_request = (codes "Sec-Fetch-Mode", codes "no-cors") ∷ []

abbrev pub media_request : (id : ℕ) → List (List ℕ × List ℕ)
media_request id =
    (codes "Sec-Fetch-Mode", codes "no-cors")
    ∷ (codes "Sec-Fetch-Dest", codes "video")
    ∷ (codes "Orb-Media", decimal id)
    ∷ []

abbrev pub request_of : Kind → (id : ℕ) → List (List ℕ × List ℕ)
request_of Media id = media_request id
request_of _ id = plain_request

-- the status line of a response
abbrev pub status_line : Kind → List ℕ
status_line Media = codes "HTTP/1.1 206 Partial Content"
status_line _ = codes "HTTP/1.1 200 OK"

-- the fields of a response
abbrev pub content_type : List ℕ → List ℕ × List ℕ
content_type text = (codes "Content-Type", text)

abbrev pub content_length : ℕ → List ℕ × List ℕ
content_length n = (codes "Content-Length", decimal n)

-- the range of all bytes of a resource that has as many (RFC 9110 14.4)
abbrev pub whole_range : ℕ → List ℕ
whole_range n = codes "bytes 0-" ++ (decimal (n - 1) ++ (solidus ∷ decimal n))

-- where the content has n bytes
abbrev pub fields_of : Kind → (n : ℕ) → List (List ℕ × List ℕ)
fields_of Javascript n = content_type (codes "text/javascript") ∷ content_length n ∷ []
fields_of Nosniff n =
    content_type (codes "text/html")
    ∷ (codes "X-Content-Type-Options", codes "nosniff")
    ∷ content_length n
    ∷ []
fields_of Png n = content_length n ∷ []
fields_of Script n = content_type (codes "application/octet-stream") ∷ content_length n ∷ []
fields_of Json n = content_type (codes "application/octet-stream") ∷ content_length n ∷ []
fields_of Text n = content_type (codes "text/plain") ∷ content_length n ∷ []
fields_of Jpeg n = content_type (codes "image/jpeg") ∷ (codes "Transfer-Encoding", codes "chunked") ∷ []
fields_of Media n =
    content_type (codes "video/ogg")
    ∷ (codes "Content-Range", whole_range n)
    ∷ content_length n
    ∷ []

-- an exchange of a kind, as it is sent: both heads, and the body
unfoldable pub kind_text : Kind → (m id : ℕ) → List ℕ
kind_text kind m id =
    head_text request_line (request_of kind id)
    ++ (head_text (status_line kind) (fields_of kind (length (body_of kind m)))
    ++ sent_of kind (body_of kind m))

-- the exchange of this number
abbrev pub numbered_text : ℕ → List ℕ
numbered_text number = kind_text (kind_of number) (size_of number) (id_of number)

-- so many exchanges, whose numbers go on from the seed
abbrev pub trial_of : (seed count : ℕ) → List ℕ
trial_of seed zero = []
trial_of seed (suc count) = numbered_text seed ++ trial_of (seed + 1) count
