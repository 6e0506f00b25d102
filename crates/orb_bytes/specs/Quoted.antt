-- Quoted strings (RFC 9110 5.6.4), as WHATWG Fetch 2.2 collects them: what follows the quotation mark that opens one.
--
--   quoted-string = DQUOTE *( qdtext / quoted-pair ) DQUOTE
--   quoted-pair   = "\\" ( HTAB / SP / VCHAR / obs-text )
--
-- The collecting refuses nothing: any byte but `"` and `\` is qdtext, any byte follows the `\` of a pair, and the end
-- of the text closes a string that no `"` closes.
use Rattle.std.specs.Prelude.{◌≡◌, ℕ, Bool, true, false, ◌||◌, ◌==◌, not, if◌then◌else◌, List, [], ◌∷◌, ◌++◌, map}
use Rattle.std.specs.List.{list_all, flat_map}
use Rattle.orb_bytes.specs.Ascii.{quotation_mark, reverse_solidus}

-- qdtext: a byte that stands for itself (Fetch, step 5.1); quoted-pair: `\` and a byte (step 5.5.2)
pub data QuotedUnit : Type 0 where
  qdtext quoted_pair : (byte : ℕ) → QuotedUnit

-- the text of a unit
abbrev pub unit_text : QuotedUnit → List ℕ
unit_text (qdtext byte) = byte ∷ []
unit_text (quoted_pair byte) = reverse_solidus ∷ (byte ∷ [])

-- neither `"` nor `\` stands for itself
abbrev pub is_unit : QuotedUnit → Bool
is_unit (qdtext byte) = not (byte == quotation_mark || byte == reverse_solidus)
is_unit (quoted_pair byte) = true

-- the byte that the unit stands for
abbrev pub unit_value : QuotedUnit → ℕ
unit_value (qdtext byte) = byte
unit_value (quoted_pair byte) = byte

-- what closes a string: a `"` (step 5.6), the end of the text (step 5.2), or a `\` that is the text's last byte
-- (step 5.5.1)
pub data Close : Type 0 where
  by_quote by_end by_backslash : Close

-- the text of a close
abbrev pub close_text : Close → List ℕ
close_text by_quote = quotation_mark ∷ []
close_text by_end = []
close_text by_backslash = reverse_solidus ∷ []

-- a `\` at the end of the text stands for itself
abbrev pub close_value : Close → List ℕ
close_value by_quote = []
close_value by_end = []
close_value by_backslash = reverse_solidus ∷ []

-- the string goes to the end of the text
abbrev pub is_at_end : Close → Bool
is_at_end by_quote = false
is_at_end by_end = true
is_at_end by_backslash = true

-- the value of a quoted string: the bytes of its units, and what its close stands for
abbrev pub quoted_value : List QuotedUnit → Close → List ℕ
quoted_value units close = map unit_value units ++ close_value close

-- after the opening `"` the text is these units, what closes them, and the rest
pub record ReadsQuoted (text : List ℕ) (units : List QuotedUnit) (close : Close) (rest : List ℕ) : Type 0 where
  pub are : list_all is_unit units ≡ true
  pub last : is_at_end close ≡ true → rest ≡ []
  pub whole : text ≡ flat_map unit_text units ++ (close_text close ++ rest)

-- a byte of a string that is written: `"` and `\` as a pair, and each other one as it is
abbrev pub quoted_byte : ℕ → List ℕ
quoted_byte b = if b == quotation_mark || b == reverse_solidus then reverse_solidus ∷ (b ∷ []) else b ∷ []

-- the value between quotation marks
abbrev pub quoted_text : List ℕ → List ℕ
quoted_text value = quotation_mark ∷ (flat_map quoted_byte value ++ (quotation_mark ∷ []))
