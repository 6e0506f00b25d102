-- The signature of WebM (WHATWG MIME Sniffing 6.2.2): an EBML header whose DocType is `webm`. The
-- length that stands before the DocType is only passed over, and NUL bytes before it are ignored.
use Rattle.std.specs.Prelude.{◌≡◌, ◌≢◌, ℕ, ◌+◌, ◌<◌, ◌≤◌, Bool, false, not, ◌&&◌, ◌==◌, nat_le, nat_eq, List, [], ◌∷◌, ◌++◌, drop, replicate, codes, IsTrue, Option, Some, None, slice_get}
use Rattle.std.specs.List.{starts_with}
use Rattle.std.specs.Int.{w8, leading_zeros}
use Rattle.orb_bytes.specs.Ascii.{nul}
use Rattle.orb_bytes.specs.Bytes.{is_one_of}
use Rattle.orb_bytes.specs.Trim.{without_leading}
use Rattle.signatures.specs.Patterns.{stands_at, some_below}

-- the bytes that begin an EBML header
abbrev pub ebml_header : List ℕ
ebml_header = 0x1A ∷ 0x45 ∷ 0xDF ∷ 0xA3 ∷ []

-- the name of the element DocType
abbrev pub doc_type : List ℕ
doc_type = 0x42 ∷ 0x82 ∷ []

-- how many bytes a number of EBML takes, by its first byte: one more than that byte's leading zeros
abbrev pub number_width : ℕ → ℕ
number_width first = leading_zeros w8 first + 1

-- the text begins with a DocType `webm`: the element's name, a number that doesn't begin with NUL,
-- NUL bytes, and `webm`
pub record IsWebmDocType (text : List ℕ) : Type 0 where
  pub element : IsTrue (stands_at doc_type 0 text)
  pub first : ℕ
  pub number : slice_get text 2 ≡ Some first
  pub nonzero : first ≢ nul
  pub zeros : ℕ
  pub name : IsTrue (stands_at (replicate zeros nul ++ codes "webm") (2 + number_width first) text)

-- the window matches the signature: a DocType `webm` stands in it at an offset from 4 and below 38
pub record IsWebm (window : List ℕ) : Type 0 where
  pub header : IsTrue (stands_at ebml_header 0 window)
  pub offset : ℕ
  pub from : 4 ≤ offset
  pub below : offset < 38
  pub named : IsWebmDocType (drop offset window)

-- after NUL bytes the text begins with `webm`
abbrev pub begins_padded : List ℕ → Bool
begins_padded text = starts_with nat_eq (without_leading (is_one_of (nul ∷ [])) text) (codes "webm")

-- after the name and the number with that first byte the text is `webm`
abbrev pub is_named_after : Option ℕ → List ℕ → Bool
is_named_after None text = false
is_named_after (Some first) text =
    not (first == nul) && begins_padded (drop (2 + number_width first) text)

-- `IsWebmDocType` as a test
abbrev pub is_webm_doc_type : List ℕ → Bool
is_webm_doc_type text = stands_at doc_type 0 text && is_named_after (slice_get text 2) text

-- a DocType may be sought at the offset, and it is `webm`
abbrev pub is_webm_offset : List ℕ → ℕ → Bool
is_webm_offset window offset = nat_le 4 offset && is_webm_doc_type (drop offset window)

-- `IsWebm` as a test
unfoldable pub is_webm_window : List ℕ → Bool
is_webm_window window = stands_at ebml_header 0 window && some_below 38 (is_webm_offset window)
