-- MIME types as texts write them (WHATWG MIME Sniffing 4.4, parse a MIME type). A text is cut into its parts: each part is
-- a tree, with its text and a test of which trees are valid. The record is what the cut stands for.
--
--   mime-type = type "/" subtype *HTTP-whitespace *segment
--   segment   = ";" *HTTP-whitespace name [ "=" ( quoted-string ignored / plain ) ]
--
-- The steps named below are those of the standard's algorithm. It refuses a text for its type and its subtype alone:
-- every tail from a `;` on is some segments, and those that are no parameters count for nothing.
use Rattle.std.specs.Prelude.{◌≡◌, ℕ, Bool, true, false, ◌&&◌, ◌||◌, ◌==◌, not, if◌then◌else◌, List, [], ◌∷◌, ◌++◌, filter, Option, Some, None, option_map, bytes_eq}
use Rattle.std.specs.List.{list_all, flat_map, filter_map}
use Rattle.std.specs.Str.{str_to_ascii_lowercase}
use Rattle.orb_bytes.specs.Ascii.{quotation_mark, solidus, semicolon, equals_sign}
use Rattle.orb_bytes.specs.Bytes.{is_empty, AllPass, is_http_whitespace, is_token_byte, is_quoted_token_byte}
use Rattle.orb_bytes.specs.Trim.{trimmed, without_trailing}
use Rattle.orb_bytes.specs.Quoted.{QuotedUnit, unit_text, is_unit, Close, close_text, is_at_end, quoted_value}
use Rattle.mime_types.specs.Spans.{begins_outside}

-- a MIME type record: type, subtype, and the parameters in their order (WHATWG MIME Sniffing 4.1)
pub record Mime : Type 0 where
  pub main : List ℕ
  pub sub : List ℕ
  pub parameters : List (List ℕ × List ℕ)

-- solely HTTP token code points, and at least one (steps 4, 9 and 11.10)
abbrev pub is_token : List ℕ → Bool
is_token text = not (is_empty text) && list_all is_token_byte text

-- assigned = [ "=" ( quoted-string ignored / plain ) ]: nothing (steps 11.5.1 and 11.6); a quoted string and bytes that
-- are ignored (step 11.8); or a value that doesn't begin with `"` (step 11.9)
pub data Assigned : Type 0 where
  nothing : Assigned
  quoted : (units : List QuotedUnit) (close : Close) (ignored : List ℕ) → Assigned
  plain : (value : List ℕ) → Assigned

-- the text of what is assigned
abbrev pub assigned_text : Assigned → List ℕ
assigned_text nothing = []
assigned_text (quoted units close ignored) =
    equals_sign ∷ (quotation_mark ∷ (flat_map unit_text units ++ (close_text close ++ ignored)))
assigned_text (plain value) = equals_sign ∷ value

-- a byte other than `;`
abbrev pub is_no_semicolon : ℕ → Bool
is_no_semicolon b = not (b == semicolon)

-- what is ignored (step 11.8.2), and a plain value (step 11.9.1), end before the next `;`. A plain value doesn't begin
-- with `"`, and after a string that goes to the end of the text nothing is ignored
abbrev pub is_assigned : Assigned → Bool
is_assigned nothing = true
is_assigned (quoted units close ignored) =
    list_all is_unit units
    && (if is_at_end close then is_empty ignored else list_all is_no_semicolon ignored)
is_assigned (plain value) = begins_outside (λ b. b == quotation_mark) value && list_all is_no_semicolon value

-- it goes to the end of the text
abbrev pub is_last : Assigned → Bool
is_last nothing = false
is_last (quoted units close ignored) = is_at_end close
is_last (plain value) = false

-- segment = ";" *HTTP-whitespace name assigned: one turn of step 11
pub record Segment : Type 0 where
  pub space : List ℕ
  pub name : List ℕ
  pub assigned : Assigned

-- the text of a segment (steps 11.1 to 11.3, 11.8 and 11.9)
abbrev pub segment_text : Segment → List ℕ
segment_text s = semicolon ∷ (s.space ++ (s.name ++ assigned_text s.assigned))

-- a byte of a name: any but `;` and `=` (step 11.3)
abbrev pub is_name_byte : ℕ → Bool
is_name_byte b = not (b == semicolon || b == equals_sign)

-- each part is of its class, and a name doesn't begin with HTTP whitespace (steps 11.2 and 11.3)
abbrev pub is_segment : Segment → Bool
is_segment s =
    list_all is_http_whitespace s.space
    && (begins_outside is_http_whitespace s.name
    && (list_all is_name_byte s.name && is_assigned s.assigned))

-- the text of segments
abbrev pub segments_text : List Segment → List ℕ
segments_text segments = flat_map segment_text segments

-- each segment is valid, and none follows one that goes to the end of the text
abbrev pub are_segments : List Segment → Bool
are_segments [] = true
are_segments (s ∷ segments) =
    is_segment s && ((not (is_last s.assigned) || is_empty segments) && are_segments segments)

-- mime-type = type "/" subtype *HTTP-whitespace *segment
pub record Cut : Type 0 where
  pub main : List ℕ
  pub sub : List ℕ
  pub space : List ℕ
  pub segments : List Segment

-- the text without HTTP whitespace at its ends (step 1) is these parts, type and subtype are tokens (steps 3 to 9), and
-- the segments are valid (step 11)
pub record IsCut (text : List ℕ) (cut : Cut) : Type 0 where
  pub whole : trimmed is_http_whitespace text
      ≡ cut.main ++ (solidus ∷ (cut.sub ++ (cut.space ++ segments_text cut.segments)))
  pub main : is_token cut.main ≡ true
  pub sub : is_token cut.sub ≡ true
  pub space : AllPass is_http_whitespace cut.space
  pub segments : are_segments cut.segments ≡ true

-- the value, unless it is empty
abbrev pub unless_empty : List ℕ → Option (List ℕ)
unless_empty value = if is_empty value then None else Some value

-- the value that a name is assigned, if any: that of a quoted string (step 11.8.1), and a plain one without HTTP
-- whitespace at its end, which is none where nothing is left (steps 11.9.2 and 11.9.3)
abbrev pub assigned_value : Assigned → Option (List ℕ)
assigned_value nothing = None
assigned_value (quoted units close ignored) = Some (quoted_value units close)
assigned_value (plain value) = unless_empty (without_trailing is_http_whitespace value)

-- the pair that a segment stands for, if any: its name in ASCII lowercase (step 11.4), and its value
abbrev pub pair_of : Segment → Option (List ℕ × List ℕ)
pair_of s = option_map (λ value. (str_to_ascii_lowercase s.name, value)) (assigned_value s.assigned)

-- the name is a token, and the value solely HTTP quoted-string token code points (step 11.10)
abbrev pub is_parameter : List ℕ × List ℕ → Bool
is_parameter pair = is_token pair.0 && list_all is_quoted_token_byte pair.1

-- of the pairs of one name the first (step 11.10)
abbrev pub first_of_each : List (List ℕ × List ℕ) → List (List ℕ × List ℕ)
first_of_each [] = []
first_of_each (pair ∷ pairs) =
    pair ∷ filter (λ other. not (bytes_eq other.0 pair.0)) (first_of_each pairs)

-- the parameters that the segments stand for
abbrev pub parameters_of : List Segment → List (List ℕ × List ℕ)
parameters_of segments = first_of_each (filter is_parameter (filter_map pair_of segments))

-- the record that a cut stands for: type and subtype in ASCII lowercase (step 10), and the parameters
abbrev pub mime_of : Cut → Mime
mime_of cut = record {
  main = str_to_ascii_lowercase cut.main;
  sub = str_to_ascii_lowercase cut.sub;
  parameters = parameters_of cut.segments;
}

-- the text has this record
abbrev pub IsMime : List ℕ → Mime → Type 0
IsMime text mime = (cut : Cut) × IsCut text cut × (mime ≡ mime_of cut)

-- the text has none: the standard's failure (steps 4, 5 and 9)
abbrev pub HasNoMime : List ℕ → Type 0
HasNoMime text = (mime : Mime) → ¬ (IsMime text mime)

-- the text has a record, with this type and subtype but for the case of their letters
abbrev pub IsEssence : List ℕ → List ℕ → List ℕ → Type 0
IsEssence text main sub =
    (mime : Mime) × IsMime text mime
    × (mime.main ≡ str_to_ascii_lowercase main) × (mime.sub ≡ str_to_ascii_lowercase sub)

-- the text writes its type and subtype so
abbrev pub WritesEssence : List ℕ → List ℕ → List ℕ → Type 0
WritesEssence text main sub = (cut : Cut) × IsCut text cut × (cut.main ≡ main) × (cut.sub ≡ sub)

-- a text has one record at most
abbrev pub HasOneRecord : Type 0
HasOneRecord = (text : List ℕ) (m n : Mime) → IsMime text m → IsMime text n → m ≡ n
