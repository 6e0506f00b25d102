-- Each tail of a text is the print of some segments.
use Rattle.std.proofs.Common.{◌≡◌, ℕ, zero, suc, ◌≤◌, true, not, nat_eq, List, [], ◌∷◌, ◌++◌, length, refl, ap, ◌∙◌, length-append, inl, inr, arith}
use Rattle.std.proofs.lemmas.Bool.Decides.{eqb_tells}
use Rattle.orb_bytes.specs.Bytes.{is_http_whitespace}
use Rattle.orb_bytes.specs.Trim.{without_leading}
use Rattle.orb_bytes.proofs.QuotedLemmas.{quoted_of}
use Rattle.mime_types.specs.Spans.{begins_outside}
use Rattle.mime_types.specs.Mime.{assigned_text, is_no_semicolon, Assigned, nothing, quoted, plain, Segment, is_name_byte, segments_text, are_segments}
use Rattle.mime_types.specs.Reading.{ReadsAssigned, ReadsSegment}
use Rattle.mime_types.proofs.SpanLemmas.{span_of}
use Rattle.mime_types.proofs.CutLemmas.{is_semicolon}
use Rattle.mime_types.proofs.ReadingLemmas.{reads_nothing, reads_plain, reads_string, reads_segment, more_segments}

-- after a name something is assigned, or nothing
abbrev AssignedIn : List ℕ → Type 0
AssignedIn text = (assigned : Assigned) × (rest : List ℕ) × ReadsAssigned text assigned rest

plain_of : (text after : List ℕ) → text ≡ 61 ∷ after → begins_outside (λ b. nat_eq b 34) after ≡ true → AssignedIn text
plain_of text after equals unquoted =
    let value = span_of is_no_semicolon after in
    (plain value.0, value.1, reads_plain text after value.0 value.1 equals unquoted value.2)

value_of : (text after : List ℕ) → text ≡ 61 ∷ after → AssignedIn text
value_of text [] equals = plain_of text [] equals refl
value_of text (b ∷ string) equals =
    elim (eqb_tells b 34) [
      | inl quote ↦ let found = quoted_of string in
          let ignored = span_of is_no_semicolon found.2 in (
            quoted found.0 found.1 ignored.0,
            ignored.1,
            reads_string text (b ∷ string) string found.2 ignored.0 ignored.1 found.0 found.1 equals (ap (λ e. e ∷ string) quote.1) found.3 ignored.2,
          )
      | inr unquoted ↦ plain_of text (b ∷ string) equals (ap not unquoted.0)
    ]

assigned_of : (text : List ℕ) → begins_outside is_name_byte text ≡ true → AssignedIn text
assigned_of [] begins = (nothing, [], reads_nothing [] refl refl)
assigned_of (b ∷ text) begins =
    elim (eqb_tells b 61) [
      | inl equals ↦ value_of (b ∷ text) text (ap (λ e. e ∷ text) equals.1)
      | inr other ↦ (nothing, b ∷ text, reads_nothing (b ∷ text) begins (ap not other.0))
    ]

pub record SegmentsOf (tail : List ℕ) : Type 0 where
  pub segments : List Segment
  pub are : are_segments segments ≡ true
  pub whole : tail ≡ segments_text segments

-- one segment more
one_more : (b : ℕ) (tail rest : List ℕ) (s : Segment) → b ≡ 59 → ReadsSegment (59 ∷ tail) s rest → SegmentsOf rest → SegmentsOf (b ∷ tail)
one_more b tail rest s first reads more =
    let all = more_segments (59 ∷ tail) rest s more.segments reads more.are more.whole in
    record { segments = s ∷ more.segments; are = all.0; whole = ap (λ e. e ∷ tail) first ∙ all.1 }

-- by the length of the text
segments_within : (most : ℕ) (tail : List ℕ) → length tail ≤ most → begins_outside is_no_semicolon tail ≡ true → SegmentsOf tail
segments_within most [] within begins = record { segments = []; are = refl; whole = refl }
segments_within zero (b ∷ tail) within begins = absurd (omega arith)
segments_within (suc most) (b ∷ tail) within begins =
    let name = span_of is_name_byte (without_leading is_http_whitespace tail) in
    let assigned = assigned_of name.1 name.2.stops in
    let segment = reads_segment tail (without_leading is_http_whitespace tail) name.0 name.1 assigned.1 assigned.0 refl name.2 assigned.2 in
    let inner : tail ≡ (segment.0 ++ (name.0 ++ assigned_text assigned.0)) ++ assigned.1 = let whole = segment.1.whole in cc in
    let shorter : length assigned.1 ≤ most = omega (arith, simp length-append at (ap length inner)) in
    one_more b tail assigned.1 (record { space = segment.0; name = name.0; assigned = assigned.0 }) (is_semicolon b tail begins) segment.1
    (segments_within most assigned.1 shorter segment.1.begins)

pub segments_of : (tail : List ℕ) → begins_outside is_no_semicolon tail ≡ true → SegmentsOf tail
segments_of tail begins = segments_within (length tail) tail (omega arith) begins
