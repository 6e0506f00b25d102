-- Chunked bodies (RFC 9112 7.1), as a profile: a size has at most 15 digits, what stands after it
-- on its line isn't read further, and each line ends in CR LF.
use Rattle.std.specs.Prelude.{◌≡◌, ℕ, ◌≤◌, Bool, true, ◌&&◌, nat_le, List, [], ◌∷◌, ◌++◌, length}
use Rattle.std.specs.List.{list_all}
use Rattle.std.specs.Char.{is_ascii_hexdigit}
use Rattle.std.specs.Str.Parse.{digits_value}
use Rattle.orb_bytes.specs.Ascii.{tab, space, semicolon, crlf}
use Rattle.orb_bytes.specs.Bytes.{is_one_of, is_quoted_token_byte}
use Rattle.http_exchange.specs.Marks.{Mark, bytes_of, content_of, framing, content}

-- a byte of a line: a tab, 20 to 7E, or 80 to FF
abbrev pub is_line_byte : ℕ → Bool
is_line_byte b = is_quoted_token_byte b

-- a byte that ends the digits of a size: a tab, a space or `;`
abbrev pub is_separator : ℕ → Bool
is_separator b = is_one_of (tab ∷ space ∷ semicolon ∷ []) b

-- the digits of a size (chunk-size), and what stands after them on the line (chunk-ext)
pub record SizeLine : Type 0 where
  pub digits : List ℕ
  pub ending : List ℕ

-- nothing, or a separator and further bytes
abbrev pub is_ending : List ℕ → Bool
is_ending [] = true
is_ending (b ∷ bytes) = is_separator b && list_all is_line_byte bytes

-- 1 to 15 digits of either case, and one of the endings
pub record IsSizeLine (l : SizeLine) : Type 0 where
  pub some : 1 ≤ length l.digits
  pub few : length l.digits ≤ 15
  pub hex : list_all is_ascii_hexdigit l.digits ≡ true
  pub ending : is_ending l.ending ≡ true

-- the number that the digits write
abbrev pub size_of : SizeLine → ℕ
size_of l = digits_value 16 l.digits

-- a trailer's line: one or more bytes
abbrev pub is_trailer : List ℕ → Bool
is_trailer text = nat_le 1 (length text) && list_all is_line_byte text

-- chunked-body = *chunk last-chunk trailer-section CRLF
pub data Chunked : Type 0 where
  chunk : (line : SizeLine) → (bytes : List ℕ) → (others : Chunked) → Chunked
  last : (line : SizeLine) → (trailers : List (List ℕ)) → Chunked

-- a chunk has as many bytes as its line says, and the last one none
abbrev pub IsChunked : Chunked → Type 0
IsChunked (chunk line bytes others) =
    IsSizeLine line × (1 ≤ size_of line) × (length bytes ≡ size_of line) × IsChunked others
IsChunked (last line trailers) =
    IsSizeLine line × (size_of line ≡ 0) × (list_all is_trailer trailers ≡ true)

-- the line of a size as it is sent, and what follows it
abbrev pub size_marks : SizeLine → List Mark → List Mark
size_marks l rest = framing l.digits (framing l.ending (framing crlf rest))

-- the trailers, and the empty line that ends the body
abbrev pub trailers_marks : List (List ℕ) → List Mark
trailers_marks [] = framing crlf []
trailers_marks (text ∷ texts) = framing text (framing crlf (trailers_marks texts))

-- a chunked body as it is sent
abbrev pub chunked_marks : Chunked → List Mark
chunked_marks (chunk line bytes others) = size_marks line (content bytes (framing crlf (chunked_marks others)))
chunked_marks (last line trailers) = size_marks line (trailers_marks trailers)

-- the bytes are a whole chunked body
pub record IsChunkedWhole (m : List ℕ) : Type 0 where
  pub body : Chunked
  pub good : IsChunked body
  pub spells : bytes_of (chunked_marks body) ≡ m

-- a chunked body begins with the bytes, and among them these are the content bytes
pub record IsChunkedPrefix (m given : List ℕ) : Type 0 where
  pub body : Chunked
  pub good : IsChunked body
  pub prefix : List Mark
  pub rest : List Mark
  pub spells : chunked_marks body ≡ prefix ++ rest
  pub reads : bytes_of prefix ≡ m
  pub gives : content_of prefix ≡ given
