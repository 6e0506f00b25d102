-- The parts of a field value: what its commas separate (WHATWG Fetch 2.2: get, decode, and split a header value).
--
--   value = part *( "," part )
--   part  = *( bare / quoted-string )
--
-- The steps named below are those of the standard's algorithm.
use Rattle.std.specs.Prelude.{◌≡◌, ℕ, Bool, true, false, ◌&&◌, ◌||◌, ◌==◌, not, List, [], ◌∷◌, ◌++◌, map}
use Rattle.std.specs.List.{list_all, flat_map}
use Rattle.orb_bytes.specs.Ascii.{quotation_mark, comma}
use Rattle.orb_bytes.specs.Bytes.{is_empty, is_tab_or_space}
use Rattle.orb_bytes.specs.Quoted.{QuotedUnit, unit_text, is_unit, Close, close_text, is_at_end}
use Rattle.orb_bytes.specs.Trim.{trimmed}

-- piece = bare / quoted-string: a byte (step 5.1), or a quoted string with its quotation mark (step 5.2.1)
pub data Piece : Type 0 where
  bare : (byte : ℕ) → Piece
  string : (units : List QuotedUnit) (close : Close) → Piece

-- the text of a piece
abbrev pub piece_text : Piece → List ℕ
piece_text (bare byte) = byte ∷ []
piece_text (string units close) = quotation_mark ∷ (flat_map unit_text units ++ close_text close)

-- the byte is neither `,` nor `"`
abbrev pub is_piece : Piece → Bool
is_piece (bare byte) = not (byte == comma || byte == quotation_mark)
is_piece (string units close) = list_all is_unit units

-- the piece goes to the end of the value (step 5.2.2)
abbrev pub is_last : Piece → Bool
is_last (bare byte) = false
is_last (string units close) = is_at_end close

-- part = *piece
abbrev pub part_text : List Piece → List ℕ
part_text pieces = flat_map piece_text pieces

-- each piece is valid, and none follows one that goes to the end of the value
abbrev pub is_part : List Piece → Bool
is_part [] = true
is_part (piece ∷ pieces) =
    is_piece piece && ((not (is_last piece) || is_empty pieces) && is_part pieces)

-- no piece goes to the end of the value
abbrev pub is_closed : List Piece → Bool
is_closed pieces = list_all (λ piece. not (is_last piece)) pieces

-- value = part *( "," part ): one comma between neighbours (steps 5.7 and 5.8)
abbrev pub parts_text : List (List Piece) → List ℕ
parts_text [] = []
parts_text (part ∷ []) = part_text part
parts_text (part ∷ (next ∷ parts)) = part_text part ++ (comma ∷ parts_text (next ∷ parts))

-- there are some, each is valid, and none follows one that goes to the end of the value
abbrev pub are_parts : List (List Piece) → Bool
are_parts [] = false
are_parts (part ∷ []) = is_part part
are_parts (part ∷ (next ∷ parts)) = (is_part part && is_closed part) && are_parts (next ∷ parts)

-- the value as parts
pub record IsCut (value : List ℕ) (parts : List (List Piece)) : Type 0 where
  pub whole : value ≡ parts_text parts
  pub are : are_parts parts ≡ true

-- a part as it is given: without tabs and spaces at its ends (step 5.3)
abbrev pub trimmed_part : List Piece → List ℕ
trimmed_part part = trimmed is_tab_or_space (part_text part)

-- these are the parts of the value, each one given (step 5.4)
abbrev pub IsParts : List ℕ → List (List ℕ) → Type 0
IsParts value texts =
    (parts : List (List Piece)) × IsCut value parts × (texts ≡ map trimmed_part parts)
