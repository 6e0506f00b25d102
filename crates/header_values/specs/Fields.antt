-- The fields of a head, as spans of its bytes and as names and values (RFC 9110 5.1 and 5.2).
use Rattle.std.specs.Prelude.{ℕ, ◌+◌, ◌<◌, ◌≤◌, List, length, map, All, sum_by, slice_range}
use Rattle.header_values.specs.declared.fields.FieldSpan.{FieldSpan}
use Rattle.header_values.specs.declared.fields.Fields.{Fields}

-- the name and the value that stand at the span
abbrev pub pair_at : List ℕ → FieldSpan → List ℕ × List ℕ
pair_at head s =
    (slice_range head s.name_start s.name_end, slice_range head s.value_start s.value_end)

-- the names and values of the fields, in order
abbrev pub pairs_of : List ℕ → List FieldSpan → List (List ℕ × List ℕ)
pairs_of head spans = map (pair_at head) spans

-- the same, of the fields that a call is given
abbrev pub pairs_in : Fields → List (List ℕ × List ℕ)
pairs_in fields = pairs_of fields.head.now fields.spans.now

-- name and value lie within so many bytes, and the name isn't empty
pub record IsFieldSpan (n : ℕ) (s : FieldSpan) : Type 0 where
  pub name : s.name_start < s.name_end
  pub name_within : s.name_end ≤ n
  pub value : s.value_start ≤ s.value_end
  pub value_within : s.value_end ≤ n

-- how many bytes a field takes of its head, at least: name, value, and two more, such as the `:`
-- and one end of a line
abbrev pub field_size : List ℕ × List ℕ → ℕ
field_size field = length field.0 + length field.1 + 2

-- each span lies in the head, no name is empty, and together the fields are no longer than the head
pub record AreFields (head : List ℕ) (spans : List FieldSpan) : Type 0 where
  pub within : All (IsFieldSpan (length head)) spans
  pub fit : sum_by field_size (pairs_of head spans) ≤ length head

-- the same, of the fields that a call is given
abbrev pub AreOfHead : Fields → Type 0
AreOfHead fields = AreFields fields.head.now fields.spans.now
