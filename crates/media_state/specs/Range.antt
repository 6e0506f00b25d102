-- Content-Range (RFC 9110 14.4), as a profile: the unit `bytes` and a range that is given, in numbers of 1 to 19 digits.
--
--   Content-Range = range-unit SP first-pos "-" last-pos "/" ( complete-length / "*" )
use Rattle.std.specs.Prelude.{◌≡◌, ℕ, ◌<◌, ◌≤◌, Bool, true, ◌&&◌, ◌==◌, nat_lt, nat_le, List, ◌∷◌, ◌++◌, codes, bytes_eq, IsTrue, IfSome, Option, Some, None, if◌then◌else◌}
use Rattle.std.specs.List.{before_first, after_first}
use Rattle.orb_bytes.specs.Ascii.{space, hyphen_minus, solidus}
use Rattle.orb_bytes.specs.Bytes.{is_tab_or_space}
use Rattle.orb_bytes.specs.Trim.{trimmed}
use Rattle.orb_bytes.specs.Decimal.{decimal_of}
use Rattle.orb_bytes.specs.Fields.{same_name}
use Rattle.media_state.specs.declared.ranges.ContentRange.{ContentRange}

-- the parts of a value as they are written: range-unit, first-pos, last-pos, and complete-length or `*`
pub record Written : Type 0 where
  pub unit : List ℕ
  pub first : List ℕ
  pub last : List ℕ
  pub complete : List ℕ

-- the text of the parts
abbrev pub range_text : Written → List ℕ
range_text w = w.unit ++ (space ∷ (w.first ++ (hyphen_minus ∷ (w.last ++ (solidus ∷ w.complete)))))

-- the complete length: a number, or `*` where it isn't known
abbrev pub IsComplete : List ℕ → Option ℕ → Type 0
IsComplete text None = text ≡ codes "*"
IsComplete text (Some length) = decimal_of text ≡ Some length

-- the value is written so, and stands for the range; tabs and spaces at its ends are ignored
pub record IsWritten (value : List ℕ) (range : ContentRange) (w : Written) : Type 0 where
  pub whole : trimmed is_tab_or_space value ≡ range_text w
  pub unit : IsTrue (same_name w.unit (codes "bytes"))
  pub first : decimal_of w.first ≡ Some range.first
  pub last : decimal_of w.last ≡ Some range.last
  pub complete : IsComplete w.complete range.complete

-- a range ends no earlier than it begins, and inside the whole where that is known
pub record IsInOrder (range : ContentRange) : Type 0 where
  pub forward : range.first ≤ range.last
  pub inside : IfSome range.complete (λ length. range.last < length)

-- the value stands for the range
abbrev pub IsRange : List ℕ → ContentRange → Type 0
IsRange value range = ((w : Written) × IsWritten value range w) × IsInOrder range

abbrev pub known_length : Option ℕ → Option (Option ℕ)
known_length None = None
known_length (Some length) = Some (Some length)

-- the complete length that the text writes, if it writes one
abbrev pub complete_of : List ℕ → Option (Option ℕ)
complete_of text = if bytes_eq text (codes "*") then Some None else known_length (decimal_of text)

abbrev pub is_inside : ℕ → Option ℕ → Bool
is_inside last None = true
is_inside last (Some length) = nat_lt last length

-- the range of these numbers, if each is one and they are in order
abbrev pub range_from : Option ℕ → Option ℕ → Option (Option ℕ) → Option ContentRange
range_from None last complete = None
range_from (Some first) None complete = None
range_from (Some first) (Some last) None = None
range_from (Some first) (Some last) (Some complete) =
    if nat_le first last && is_inside last complete
    then Some (record { first = first; last = last; complete = complete })
    else None

-- the text before the first byte of that value, or all of it, and the text after that byte
abbrev pub before_byte : ℕ → List ℕ → List ℕ
before_byte stop text = before_first (λ b. b == stop) text

abbrev pub after_byte : ℕ → List ℕ → List ℕ
after_byte stop text = after_first (λ b. b == stop) text

-- the range of a text without white space at its ends
abbrev pub range_in : List ℕ → Option ContentRange
range_in text =
    let range = after_byte space text in
    let rest = after_byte hyphen_minus range in
    if same_name (before_byte space text) (codes "bytes")
    then range_from (decimal_of (before_byte hyphen_minus range)) (decimal_of (before_byte solidus rest))
    (complete_of (after_byte solidus rest))
    else None

-- `IsRange` as a function: the range that the value stands for, if it does for one
unfoldable pub range_of : List ℕ → Option ContentRange
range_of value = range_in (trimmed is_tab_or_space value)
