-- Where the fields of a head stand, as the parser finds them and as a head gives them on.
use Rattle.std.specs.Prelude.{◌≡◌, ℕ, List}
use Rattle.httparse.specs.Grammar.{Field}
use Rattle.httparse.specs.declared.spans.HeaderSpan.{HeaderSpan}
use Rattle.header_values.specs.declared.fields.FieldSpan.{FieldSpan}
use Rattle.header_values.specs.Fields.{AreFields, pairs_of as pairs_of_spans}
use Rattle.http_exchange.specs.Fields.{pairs_of}

abbrev pub field_span : HeaderSpan → FieldSpan
field_span s = record {
  name_start = s.name.start;
  name_end = s.name.end;
  value_start = s.value.start;
  value_end = s.value.end;
}

-- the spans are those of the fields, and good to be read by
pub record HasFields (head : List ℕ) (spans : List FieldSpan) (fields : List Field) : Type 0 where
  pub are : pairs_of_spans head spans ≡ pairs_of fields
  pub good : AreFields head spans
