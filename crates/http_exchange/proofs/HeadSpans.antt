-- The spans that the parser finds are good to read the fields by.
use Rattle.std.proofs.Common.{◌≡◌, ℕ, ◌<◌, ◌≤◌, List, [], ◌∷◌, ◌++◌, Bool, true, false, cond, reverse, length, map, refl, ap, ◌∙◌, arith, length-append}
use Rattle.std.specs.Prelude.{All, sum_by, slice_range}
use Rattle.std.specs.List.{flat_map}
use Rattle.std.proofs.lemmas.List.{length-reverse}
use Rattle.std.proofs.lemmas.List.Sums.{sum_by-cons}
use Rattle.std.proofs.lemmas.List.Elements.{All-head, All-tail, All-cons, All-nil}
use Rattle.httparse.specs.Grammar.{Field, IsField, is_ows, trim_ows, skip_ows, print_field, print_end, print_section, LineEnd, crlf, lf, RequestHead, ResponseHead, print_request, print_response}
use Rattle.httparse.proofs.RunLemmas.{length-slice_range}
use Rattle.httparse.specs.Spans.{name_and_value, header_bytes, IsHeaderWithin}
use Rattle.httparse.specs.declared.spans.HeaderSpan.{HeaderSpan}
use Rattle.header_values.specs.Fields.{IsFieldSpan, field_size, pairs_of as pairs_of_spans}
use Rattle.http_exchange.specs.Spans.{field_span, HasFields}

-- a span of the one kind reads what the same span of the other kind does
pub pairs-field_span : (head : List ℕ) (found : List HeaderSpan)
    → pairs_of_spans head (map field_span found) ≡ map (header_bytes head) found
pairs-field_span head [] = refl
pairs-field_span head (s ∷ found) = ap (λ pairs. header_bytes head s ∷ pairs) (pairs-field_span head found)

-- each span lies in the head, and no name is empty
pub AreFields-within : (head : List ℕ) (n : ℕ) (found : List HeaderSpan) (fields : List Field)
    → n ≤ length head → All (IsHeaderWithin n) found
    → map (header_bytes head) found ≡ map name_and_value fields → All IsField fields
    → All (IsFieldSpan (length head)) (map field_span found)
AreFields-within head n [] fields fits within are valid = All-nil (IsFieldSpan (length head))
AreFields-within head n (s ∷ found) [] fits within are valid =
    absurd (let no : header_bytes head s ∷ map (header_bytes head) found ≡ [] = are in cc)
AreFields-within head n (s ∷ found) (f ∷ fields) fits within are valid =
    let here : IsHeaderWithin n s = All-head (IsHeaderWithin n) s found within in
    let first : header_bytes head s ≡ name_and_value f = cc in
    let others : map (header_bytes head) found ≡ map name_and_value fields = cc in
    let name : slice_range head s.name.start s.name.end ≡ f.name = ap (λ (pair : List ℕ × List ℕ). pair.0) first in
    let some : 0 < length f.name = (All-head IsField f fields valid).name.0 in
    let size = length-slice_range head s.name.start s.name.end here.0.0 (omega arith) in
    All-cons (IsFieldSpan (length head)) (field_span s) (map field_span found)
    (record {
      name = omega (arith, ap length name);
      name_within = omega arith;
      value = here.1.0;
      value_within = omega arith;
    })
    (AreFields-within head n found fields fits (All-tail (IsHeaderWithin n) s found within) others (All-tail IsField f fields valid))

length-chosen-le : (t : Bool) (xs ys : List ℕ) (n : ℕ) → length xs ≤ n → length ys ≤ n → length (cond t xs ys) ≤ n
length-chosen-le true xs ys n first second = first
length-chosen-le false xs ys n first second = second

length-skip_ows-le : (xs : List ℕ) → length (skip_ows xs) ≤ length xs
length-skip_ows-le [] = omega arith
length-skip_ows-le (b ∷ bytes) =
    let shorter = length-skip_ows-le bytes in
    length-chosen-le (is_ows b) (skip_ows bytes) (b ∷ bytes) (length (b ∷ bytes)) (omega arith) (omega arith)

length-trim_ows-le : (xs : List ℕ) → length (trim_ows xs) ≤ length xs
unfolding trim_ows
length-trim_ows-le xs =
    omega (
      arith,
      length-reverse (skip_ows (reverse (skip_ows xs))),
      length-skip_ows-le (reverse (skip_ows xs)),
      length-reverse (skip_ows xs),
      length-skip_ows-le xs,
    )

length-print_end-ge : (end : LineEnd) → 1 ≤ length (print_end end)
length-print_end-ge crlf = omega arith
length-print_end-ge lf = omega arith

field_size-le : (f : Field) → field_size (name_and_value f) ≤ length (print_field f)
field_size-le f =
    omega (
      arith,
      length-trim_ows-le f.raw,
      length-print_end-ge f.end,
      length-append (f.name ++ (58 ∷ f.raw)) (print_end f.end),
      length-append f.name (58 ∷ f.raw),
    )

sum-field_size-le : (fields : List Field)
    → sum_by field_size (map name_and_value fields) ≤ length (flat_map print_field fields)
sum-field_size-le [] = omega arith
sum-field_size-le (f ∷ fields) =
    omega (
      arith,
      sum_by-cons field_size (name_and_value f) (map name_and_value fields),
      field_size-le f,
      sum-field_size-le fields,
      length-append (print_field f) (flat_map print_field fields),
    )

section-fits : (fields : List Field) (end : LineEnd)
    → length (flat_map print_field fields) ≤ length (print_section fields end)
section-fits fields end = omega (arith, length-append (flat_map print_field fields) (print_end end))

length-after : (prefix back : List ℕ) → length back ≤ length (prefix ++ back)
length-after prefix back = omega (arith, length-append prefix back)

request-fits : (h : RequestHead) → length (print_section h.fields h.last) ≤ length (print_request h)
unfolding print_request
request-fits h = length-after _ (print_section h.fields h.last)

response-fits : (h : ResponseHead) → length (print_section h.fields h.last) ≤ length (print_response h)
unfolding print_response
response-fits h = length-after _ (print_section h.fields h.last)

-- the spans of a section that is no longer than the head are its fields
pub HasFields-found : (head : List ℕ) (n : ℕ) (found : List HeaderSpan) (fields : List Field) (last : LineEnd)
    → n ≤ length head → All (IsHeaderWithin n) found
    → map (header_bytes head) found ≡ map name_and_value fields → All IsField fields
    → length (print_section fields last) ≤ length head
    → HasFields head (map field_span found) fields
HasFields-found head n found fields last fits within are valid section =
    let same = pairs-field_span head found ∙ are in
    record {
      are = same;
      good = record {
        within = AreFields-within head n found fields fits within are valid;
        fit = omega (arith, ap (sum_by field_size) same, sum-field_size-le fields, section-fits fields last);
      };
    }

pub length-request : (head : List ℕ) (h : RequestHead) → head ≡ print_request h ++ []
    → length (print_section h.fields h.last) ≤ length head
length-request head h is = omega (arith, ap length is, length-append (print_request h) [], request-fits h)

pub length-response : (head : List ℕ) (h : ResponseHead) → head ≡ print_response h ++ []
    → length (print_section h.fields h.last) ≤ length head
length-response head h is = omega (arith, ap length is, length-append (print_response h) [], response-fits h)
