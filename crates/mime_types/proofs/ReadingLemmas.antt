-- How a reader of a text goes on.
use Rattle.std.proofs.Common.{◌≡◌, ℕ, Bool, true, false, not, nat_eq, ◌&&◌, ◌||◌, List, [], ◌∷◌, ◌++◌, length, refl, sym, ap, ◌∙◌, append_assoc, arith, if◌then◌else◌}
use Rattle.std.specs.List.{list_all, flat_map}
use Rattle.std.proofs.lemmas.Bool.{and_from}
use Rattle.orb_bytes.specs.Bytes.{is_empty, is_http_whitespace}
use Rattle.orb_bytes.specs.Trim.{without_leading}
use Rattle.orb_bytes.proofs.TrimLemmas.{leading_of}
use Rattle.orb_bytes.specs.Quoted.{QuotedUnit, unit_text, is_unit, Close, by_quote, by_end, by_backslash, close_text, is_at_end, ReadsQuoted}
use Rattle.mime_types.specs.Spans.{begins_outside, Spans}
use Rattle.mime_types.specs.Mime.{Assigned, nothing, quoted, plain, is_assigned, is_last, is_no_semicolon, is_name_byte, Segment, is_segment, segment_text, segments_text, are_segments}
use Rattle.mime_types.specs.Reading.{ReadsAssigned, ReadsSegment}
use Rattle.mime_types.proofs.TrailingLemmas.{without_leading_begins}
use Rattle.mime_types.proofs.CutLemmas.{is_semicolon}

-- a prefix of a text begins as the text does
pub prefix_begins : (test : ℕ → Bool) (prefix back : List ℕ) → begins_outside test (prefix ++ back) ≡ true
    → begins_outside test prefix ≡ true
prefix_begins test [] back begins = refl
prefix_begins test (b ∷ prefix) back begins = begins

-- nothing is assigned where a name ends and no `=` stands
pub reads_nothing : (text : List ℕ) → begins_outside is_name_byte text ≡ true
    → begins_outside (λ b. nat_eq b 61) text ≡ true → ReadsAssigned text nothing text
reads_nothing text ends other = record {
  valid = refl;
  last = λ never. absurd (cc);
  begins = semicolon_left text ends other;
  whole = refl;
} where
  left : (semicolon equals : Bool) → not (not (semicolon || equals)) ≡ true → not equals ≡ true → not (not semicolon) ≡ true
  left true equals ends other = refl
  left false true ends other = absurd (cc)
  left false false ends other = ends

  semicolon_left : (text : List ℕ) → begins_outside is_name_byte text ≡ true → begins_outside (λ b. nat_eq b 61) text ≡ true
      → begins_outside is_no_semicolon text ≡ true
  semicolon_left [] ends other = refl
  semicolon_left (b ∷ text) ends other = left (nat_eq b 59) (nat_eq b 61) ends other

pub reads_plain : (text after field rest : List ℕ) → text ≡ 61 ∷ after
    → begins_outside (λ b. nat_eq b 34) after ≡ true → Spans is_no_semicolon after field rest
    → ReadsAssigned text (plain field) rest
reads_plain text after field rest equals unquoted spans =
    let begins : begins_outside (λ b. nat_eq b 34) (field ++ rest) ≡ true =
    ap (begins_outside (λ b. nat_eq b 34)) (sym spans.whole) ∙ unquoted in
    record {
      valid = and_from (begins_outside (λ b. nat_eq b 34) field) (list_all is_no_semicolon field)
          (prefix_begins (λ b. nat_eq b 34) field rest begins) spans.inside;
      last = λ never. absurd (cc);
      begins = spans.stops;
      whole = equals ∙ ap (λ back. 61 ∷ back) spans.whole;
    }

none_in : (prefix back : List ℕ) → prefix ++ back ≡ [] → (is_empty prefix ≡ true) × (back ≡ [])
none_in [] back none = (refl, none)
none_in (b ∷ prefix) back none = absurd (cc)

-- what is ignored after a quoted string
ignored_valid : (c : Close) (after ignored rest : List ℕ) → (is_at_end c ≡ true → after ≡ [])
    → Spans is_no_semicolon after ignored rest
    → ((if is_at_end c then is_empty ignored else list_all is_no_semicolon ignored) ≡ true) × (is_at_end c ≡ true → rest ≡ [])
ignored_valid by_quote after ignored rest last spans = (spans.inside, λ never. absurd (cc))
ignored_valid by_end after ignored rest last spans =
    let none = none_in ignored rest (sym spans.whole ∙ last refl) in (none.0, λ is. none.1)
ignored_valid by_backslash after ignored rest last spans =
    let none = none_in ignored rest (sym spans.whole ∙ last refl) in (none.0, λ is. none.1)

pub reads_string : (text inner string after ignored rest : List ℕ) (units : List QuotedUnit) (c : Close)
    → text ≡ 61 ∷ inner → inner ≡ 34 ∷ string → ReadsQuoted string units c after
    → Spans is_no_semicolon after ignored rest → ReadsAssigned text (quoted units c ignored) rest
reads_string text inner string after ignored rest units c equals quote reads spans =
    let end = ignored_valid c after ignored rest reads.last spans in
    record {
      valid = and_from (list_all is_unit units) (if is_at_end c then is_empty ignored else list_all is_no_semicolon ignored) reads.are end.0;
      last = end.1;
      begins = spans.stops;
      whole = equals ∙ ap (λ back. 61 ∷ back) (quote ∙ ap (λ back. 34 ∷ back) (reads.whole
          ∙ ap (λ back. flat_map unit_text units ++ (close_text c ++ back)) spans.whole ∙ simp append_assoc));
    }

-- the segment that its parts make
pub reads_segment : (text named name after rest : List ℕ) (assigned : Assigned)
    → named ≡ without_leading is_http_whitespace text → Spans is_name_byte named name after
    → ReadsAssigned after assigned rest
    → (space : List ℕ) × ReadsSegment (59 ∷ text) (record { space = space; name = name; assigned = assigned }) rest
reads_segment text named name after rest assigned trim spans reads =
    let leading = leading_of is_http_whitespace text in
    let outside : begins_outside is_http_whitespace (name ++ after) ≡ true =
    ap (begins_outside is_http_whitespace) (sym spans.whole ∙ trim) ∙ without_leading_begins is_http_whitespace text in (
      leading.0,
      record {
        valid = and_from (list_all is_http_whitespace leading.0)
            (begins_outside is_http_whitespace name && (list_all is_name_byte name && is_assigned assigned)) leading.1
            (and_from (begins_outside is_http_whitespace name) (list_all is_name_byte name && is_assigned assigned)
            (prefix_begins is_http_whitespace name after outside)
            (and_from (list_all is_name_byte name) (is_assigned assigned) spans.inside reads.valid));
        last = reads.last;
        begins = reads.begins;
        whole = ap (λ back. 59 ∷ back) (leading.2 ∙ ap (λ back. leading.0 ++ back) (sym trim ∙ spans.whole
            ∙ ap (λ back. name ++ back) reads.whole) ∙ simp append_assoc);
      },
    )

-- no segments are printed as nothing
none_printed : (ss : List Segment) → segments_text ss ≡ [] → is_empty ss ≡ true
none_printed [] none = refl
none_printed (s ∷ ss) none = absurd (cc)

-- one that goes to the end of the text is the last
last_alone : (last alone : Bool) → (last ≡ true → alone ≡ true) → (not last || alone) ≡ true
last_alone true alone rule = rule refl
last_alone false alone rule = refl

-- a segment before others
pub more_segments : (text rest : List ℕ) (s : Segment) (segments : List Segment) → ReadsSegment text s rest
    → are_segments segments ≡ true → rest ≡ segments_text segments
    → (are_segments (s ∷ segments) ≡ true) × (text ≡ segments_text (s ∷ segments))
more_segments text rest s segments reads are whole = (
  and_from (is_segment s) ((not (is_last s.assigned) || is_empty segments) && are_segments segments) reads.valid
      (and_from (not (is_last s.assigned) || is_empty segments) (are_segments segments)
      (last_alone (is_last s.assigned) (is_empty segments) (λ last. none_printed segments (sym whole ∙ reads.last last))) are),
  reads.whole ∙ ap (λ back. segment_text s ++ back) whole,
)

-- a tail that is not empty begins with `;`
pub semicolon_first : (rest : List ℕ) (b : ℕ) (after : List ℕ) → begins_outside is_no_semicolon rest ≡ true
    → rest ≡ b ∷ after → rest ≡ 59 ∷ after
semicolon_first rest b after begins cut =
    let first = is_semicolon b after (ap (begins_outside is_no_semicolon) (sym cut) ∙ begins) in
    cut ∙ ap (λ e. e ∷ after) first

pub nothing_at : (rest : List ℕ) → length rest ≡ 0 → rest ≡ []
nothing_at [] none = refl
nothing_at (b ∷ rest) none = absurd (omega arith)
