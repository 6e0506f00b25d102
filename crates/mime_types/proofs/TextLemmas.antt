-- The text of a valid record is parsed to that record.
use Rattle.std.proofs.Common.{◌≡◌, ℕ, Bool, true, false, not, nat_eq, ◌&&◌, ◌||◌, List, [], ◌∷◌, ◌++◌, map, filter, bytes_eq, Some, option_map, refl, sym, ap, ◌∙◌, append_assoc, append-nil, arith, subst, if◌then◌else◌}
use Rattle.std.specs.List.{list_all, list_any, flat_map, filter_map, cons_option}
use Rattle.std.specs.Char.{to_ascii_lowercase, is_ascii_uppercase}
use Rattle.std.specs.Str.{str_to_ascii_lowercase}
use Rattle.std.proofs.lemmas.Bool.{and_parts, and_from}
use Rattle.std.proofs.lemmas.Bool.Decides.{nat_tests}
use Rattle.orb_bytes.specs.Bytes.{is_empty, is_http_whitespace, is_token_byte, is_quoted_token_byte}
use Rattle.orb_bytes.specs.Trim.{without_leading, without_trailing}
use Rattle.orb_bytes.proofs.TrimLemmas.{without_leading-stop, without_trailing-stop}
use Rattle.orb_bytes.specs.Quoted.{is_unit, unit_value, by_quote, quoted_byte}
use Rattle.orb_bytes.proofs.QuotedLemmas.{unit_of, units_print, units_stand, units_are}
use Rattle.mime_types.specs.Spans.{begins_outside}
use Rattle.mime_types.specs.Mime.{Mime, is_token, Assigned, quoted, plain, assigned_text, is_assigned, is_last, assigned_value, unless_empty, is_no_semicolon, is_name_byte, Segment, is_segment, segments_text, are_segments, pair_of, is_parameter, first_of_each, parameters_of, Cut, IsMime}
use Rattle.mime_types.specs.Records.{is_lowercase_token, is_lowercase_parameter, has_name, names_differ, IsRecord}
use Rattle.mime_types.specs.Text.{value_text, parameter_text, text_of}
use Rattle.mime_types.proofs.CutLemmas.{class_within, class_without, token_bytes, token_no_semicolon, token_no_space}
use Rattle.mime_types.proofs.TrailingLemmas.{without_trailing-none}
use Rattle.mime_types.proofs.NameLemmas.{is_other, filter_all}
use Rattle.mime_types.proofs.BoolLemmas.{false_from_not}

-- how a value is written
abbrev written : List ℕ → Assigned
written value = if is_token value then plain value else quoted (map unit_of value) by_quote []

written_prints : (value : List ℕ) → assigned_text (written value) ≡ 61 ∷ value_text value
written_prints value =
    elim (is_token value) as (λ v. assigned_text (if v then plain value else quoted (map unit_of value) by_quote [])
    ≡ 61 ∷ (if v then value else 34 ∷ (flat_map quoted_byte value ++ (34 ∷ [])))) [
      | true ↦ refl
      | false ↦ ap (λ units. 61 ∷ (34 ∷ (units ++ (34 ∷ [])))) (units_print value)
    ]

token_no_quote : (value : List ℕ) → list_all is_token_byte value ≡ true → begins_outside (λ b. nat_eq b 34) value ≡ true
token_no_quote [] are = refl
token_no_quote (b ∷ value) are =
    ap not (class_without is_token_byte b 34 refl (and_parts (is_token_byte b) (list_all is_token_byte value) are).0)

written_is : (value : List ℕ) → is_assigned (written value) ≡ true
written_is value =
    elim (is_token value) as (λ v. is_token value ≡ v → is_assigned (if v then plain value else quoted (map unit_of value) by_quote []) ≡ true) [
      | true ↦ λ token. let bytes = token_bytes value token in
          and_from (begins_outside (λ b. nat_eq b 34) value) (list_all is_no_semicolon value)
          (token_no_quote value bytes) (class_within is_token_byte is_no_semicolon value token_no_semicolon bytes)
      | false ↦ λ other. and_from (list_all is_unit (map unit_of value)) true (units_are value) refl
    ] refl

written_goes_on : (value : List ℕ) → is_last (written value) ≡ false
written_goes_on value =
    elim (is_token value) as (λ v. is_last (if v then plain value else quoted (map unit_of value) by_quote []) ≡ false) [
      | true ↦ refl
      | false ↦ refl
    ]

token_is_some : (value : List ℕ) → is_token value ≡ true → unless_empty value ≡ Some value
token_is_some [] token = absurd (cc)
token_is_some (b ∷ value) token = refl

written_stands : (value : List ℕ) → assigned_value (written value) ≡ Some value
written_stands value =
    elim (is_token value) as (λ v. is_token value ≡ v → assigned_value (if v then plain value else quoted (map unit_of value) by_quote []) ≡ Some value) [
      | true ↦ λ token. ap unless_empty (without_trailing-none is_http_whitespace value
          (class_within is_token_byte (λ b. not (is_http_whitespace b)) value (λ b is. ap not (token_no_space b is)) (token_bytes value token)))
          ∙ token_is_some value token
      | false ↦ λ other. ap Some (append-nil (map unit_value (map unit_of value)) ∙ units_stand value)
    ] refl

-- the segment that a parameter is written as
abbrev segment_of : List ℕ × List ℕ → Segment
segment_of pair = record { space = []; name = pair.0; assigned = written pair.1 }

segments_print : (pairs : List (List ℕ × List ℕ)) → segments_text (map segment_of pairs) ≡ flat_map parameter_text pairs
segments_print [] = refl
segments_print (pair ∷ pairs) =
    ap (λ assigned. (59 ∷ (pair.0 ++ assigned)) ++ segments_text (map segment_of pairs)) (written_prints pair.1)
    ∙ ap (λ back. parameter_text pair ++ back) (segments_print pairs)

name_begins_outside : (name : List ℕ) → is_token name ≡ true → begins_outside is_http_whitespace name ≡ true
name_begins_outside [] token = refl
name_begins_outside (b ∷ name) token =
    ap not (token_no_space b (and_parts (is_token_byte b) (list_all is_token_byte name) (token_bytes (b ∷ name) token)).0)

token_name_byte : (b : ℕ) → is_token_byte b ≡ true → is_name_byte b ≡ true
token_name_byte b token =
    let semicolon = class_without is_token_byte b 59 refl token in
    let equals = class_without is_token_byte b 61 refl token in
    rw (semicolon, equals) refl

segment_valid : (pair : List ℕ × List ℕ) → is_token pair.0 ≡ true → is_segment (segment_of pair) ≡ true
segment_valid pair token =
    and_from (begins_outside is_http_whitespace pair.0) (list_all is_name_byte pair.0 && is_assigned (written pair.1))
    (name_begins_outside pair.0 token)
    (and_from (list_all is_name_byte pair.0) (is_assigned (written pair.1))
    (class_within is_token_byte is_name_byte pair.0 token_name_byte (token_bytes pair.0 token)) (written_is pair.1))

-- what a valid parameter is
record IsSmall (pair : List ℕ × List ℕ) (pairs : List (List ℕ × List ℕ)) : Type 0 where
  token : is_token pair.0 ≡ true
  small : list_all (λ b. not (is_ascii_uppercase b)) pair.0 ≡ true
  value : list_all is_quoted_token_byte pair.1 ≡ true
  rest : list_all is_lowercase_parameter pairs ≡ true

small_of : (pair : List ℕ × List ℕ) (pairs : List (List ℕ × List ℕ)) → list_all is_lowercase_parameter (pair ∷ pairs) ≡ true → IsSmall pair pairs
small_of pair pairs are =
    let first = and_parts (is_lowercase_parameter pair) (list_all is_lowercase_parameter pairs) are in
    let parts = and_parts (is_lowercase_token pair.0) (list_all is_quoted_token_byte pair.1) first.0 in
    let name = and_parts (is_token pair.0) (list_all (λ b. not (is_ascii_uppercase b)) pair.0) parts.0 in
    record { token = name.0; small = name.1; value = parts.1; rest = first.1 }

segments_are : (pairs : List (List ℕ × List ℕ)) → list_all is_lowercase_parameter pairs ≡ true → are_segments (map segment_of pairs) ≡ true
segments_are [] small = refl
segments_are (pair ∷ pairs) small =
    let is = small_of pair pairs small in
    and_from (is_segment (segment_of pair)) ((not (is_last (written pair.1)) || is_empty (map segment_of pairs)) && are_segments (map segment_of pairs))
    (segment_valid pair is.token)
    (and_from (not (is_last (written pair.1)) || is_empty (map segment_of pairs)) (are_segments (map segment_of pairs))
    (ap (λ last. not last || is_empty (map segment_of pairs)) (written_goes_on pair.1)) (segments_are pairs is.rest))

-- small letters stay
lower_stays : (b : ℕ) → not (is_ascii_uppercase b) ≡ true → to_ascii_lowercase b ≡ b
lower_stays b small = grind (arith, nat_tests)

pub small_stays : (text : List ℕ) → list_all (λ b. not (is_ascii_uppercase b)) text ≡ true → str_to_ascii_lowercase text ≡ text
small_stays [] small = refl
small_stays (b ∷ text) small =
    let parts = and_parts (not (is_ascii_uppercase b)) (list_all (λ b. not (is_ascii_uppercase b)) text) small in
    ap (λ e. e ∷ str_to_ascii_lowercase text) (lower_stays b parts.0) ∙ ap (λ rest. b ∷ rest) (small_stays text parts.1)

segments_stand : (pairs : List (List ℕ × List ℕ)) → list_all is_lowercase_parameter pairs ≡ true → filter_map pair_of (map segment_of pairs) ≡ pairs
segments_stand [] small = refl
segments_stand (pair ∷ pairs) small =
    let is = small_of pair pairs small in
    ap (λ v. cons_option (option_map (λ value. (str_to_ascii_lowercase pair.0, value)) v) (filter_map pair_of (map segment_of pairs))) (written_stands pair.1)
    ∙ ap (λ name. (name, pair.1) ∷ filter_map pair_of (map segment_of pairs)) (small_stays pair.0 is.small)
    ∙ ap (λ rest. pair ∷ rest) (segments_stand pairs is.rest)

parameters_are : (pairs : List (List ℕ × List ℕ)) → list_all is_lowercase_parameter pairs ≡ true → list_all is_parameter pairs ≡ true
parameters_are [] small = refl
parameters_are (pair ∷ pairs) small =
    let is = small_of pair pairs small in
    and_from (is_parameter pair) (list_all is_parameter pairs)
    (and_from (is_token pair.0) (list_all is_quoted_token_byte pair.1) is.token is.value) (parameters_are pairs is.rest)

none_pass : (test : List ℕ × List ℕ → Bool) (pairs : List (List ℕ × List ℕ)) → list_any test pairs ≡ false
    → list_all (λ pair. not (test pair)) pairs ≡ true
none_pass test [] none = refl
none_pass test (pair ∷ pairs) none =
    elim (test pair) as (λ v. test pair ≡ v → list_all (λ pair. not (test pair)) (pair ∷ pairs) ≡ true) [
      | true ↦ λ passes. absurd (let lie : true ≡ false = ap (λ v. v || list_any test pairs) (sym passes) ∙ none in cc)
      | false ↦ λ fails. and_from (not (test pair)) (list_all (λ pair. not (test pair)) pairs) (ap not fails)
          (none_pass test pairs (ap (λ v. v || list_any test pairs) (sym fails) ∙ none))
    ] refl

first_of_distinct : (pairs : List (List ℕ × List ℕ)) → names_differ pairs ≡ true → first_of_each pairs ≡ pairs
first_of_distinct [] differ = refl
first_of_distinct (pair ∷ pairs) differ =
    let parts = and_parts (not (has_name pair.0 pairs)) (names_differ pairs) differ in
    ap (λ rest. pair ∷ filter (is_other pair) rest) (first_of_distinct pairs parts.1)
    ∙ ap (λ rest. pair ∷ rest) (filter_all (is_other pair) pairs
    (none_pass (λ other. bytes_eq other.0 pair.0) pairs (false_from_not (has_name pair.0 pairs) parts.0)))

-- the text ends in a byte outside the class
record EndsOutside (test : ℕ → Bool) (text : List ℕ) : Type 0 where
  prefix : List ℕ
  last : ℕ
  whole : text ≡ prefix ++ last ∷ []
  outside : test last ≡ false

ends_after : (test : ℕ → Bool) (prefix back : List ℕ) → EndsOutside test back → EndsOutside test (prefix ++ back)
ends_after test prefix back ends = record {
  prefix = prefix ++ ends.prefix;
  last = ends.last;
  whole = ap (λ rest. prefix ++ rest) ends.whole ∙ sym (append_assoc prefix ends.prefix (ends.last ∷ []));
  outside = ends.outside;
}

ends_token : (b : ℕ) (text : List ℕ) → list_all is_token_byte (b ∷ text) ≡ true → EndsOutside is_http_whitespace (b ∷ text)
ends_token b [] are =
    record { prefix = []; last = b; whole = refl; outside = token_no_space b (and_parts (is_token_byte b) true are).0 }
ends_token b (c ∷ text) are =
    ends_after is_http_whitespace (b ∷ []) (c ∷ text)
    (ends_token c text (and_parts (is_token_byte b) (list_all is_token_byte (c ∷ text)) are).1)

ends_in_token : (text : List ℕ) → is_token text ≡ true → EndsOutside is_http_whitespace text
ends_in_token [] token = absurd (cc)
ends_in_token (b ∷ text) token = ends_token b text (token_bytes (b ∷ text) token)

ends_in_value : (value : List ℕ) → EndsOutside is_http_whitespace (value_text value)
ends_in_value value =
    elim (is_token value) as (λ v. is_token value ≡ v → EndsOutside is_http_whitespace (if v then value else 34 ∷ (flat_map quoted_byte value ++ (34 ∷ [])))) [
      | true ↦ λ token. ends_in_token value token
      | false ↦ λ other. record { prefix = 34 ∷ flat_map quoted_byte value; last = 34; whole = refl; outside = refl }
    ] refl

ends_in_parameters : (sub : List ℕ) (pairs : List (List ℕ × List ℕ)) → is_token sub ≡ true
    → EndsOutside is_http_whitespace (sub ++ flat_map parameter_text pairs)
ends_in_parameters sub [] token = subst (EndsOutside is_http_whitespace) (sym (append-nil sub)) (ends_in_token sub token)
ends_in_parameters sub (pair ∷ pairs) token =
    ends_after is_http_whitespace sub (flat_map parameter_text (pair ∷ pairs)) (last_of pair pairs) where
      last_of : (pair : List ℕ × List ℕ) (pairs : List (List ℕ × List ℕ)) → EndsOutside is_http_whitespace (flat_map parameter_text (pair ∷ pairs))
      last_of pair [] =
          subst (EndsOutside is_http_whitespace) (sym (append-nil (parameter_text pair)))
          (ends_after is_http_whitespace (59 ∷ pair.0) (61 ∷ value_text pair.1)
          (ends_after is_http_whitespace (61 ∷ []) (value_text pair.1) (ends_in_value pair.1)))
      last_of pair (next ∷ pairs) =
          ends_after is_http_whitespace (parameter_text pair) (flat_map parameter_text (next ∷ pairs)) (last_of next pairs)

begins_in_token : (text back : List ℕ) → is_token text ≡ true
    → without_leading is_http_whitespace (text ++ back) ≡ text ++ back
begins_in_token [] back token = absurd (cc)
begins_in_token (b ∷ text) back token =
    without_leading-stop is_http_whitespace b (text ++ back)
    (token_no_space b (and_parts (is_token_byte b) (list_all is_token_byte text) (token_bytes (b ∷ text) token)).0)

ends_untrimmed : (text : List ℕ) → EndsOutside is_http_whitespace text → without_trailing is_http_whitespace text ≡ text
ends_untrimmed text ends =
    ap (without_trailing is_http_whitespace) ends.whole
    ∙ without_trailing-stop is_http_whitespace ends.prefix ends.last ends.outside ∙ sym ends.whole

pub text_is_parsed : (m : Mime) → IsRecord m → IsMime (text_of m) m
text_is_parsed m is =
    let main = and_parts (is_token m.main) (list_all (λ b. not (is_ascii_uppercase b)) m.main) is.main in
    let sub = and_parts (is_token m.sub) (list_all (λ b. not (is_ascii_uppercase b)) m.sub) is.sub in
    let ends = ends_after is_http_whitespace (m.main ++ 47 ∷ []) (m.sub ++ flat_map parameter_text m.parameters) (ends_in_parameters m.sub m.parameters sub.0) in
    let regrouped : (m.main ++ 47 ∷ []) ++ (m.sub ++ flat_map parameter_text m.parameters) ≡ text_of m =
    append_assoc m.main (47 ∷ []) (m.sub ++ flat_map parameter_text m.parameters) in
    let cut : Cut = record { main = m.main; sub = m.sub; space = []; segments = map segment_of m.parameters } in
    let stands : parameters_of (map segment_of m.parameters) ≡ m.parameters =
    ap (λ pairs. first_of_each (filter is_parameter pairs)) (segments_stand m.parameters is.parameters)
    ∙ ap first_of_each (filter_all is_parameter m.parameters (parameters_are m.parameters is.parameters))
    ∙ first_of_distinct m.parameters is.names in
    let main_same = small_stays m.main main.1 in
    let sub_same = small_stays m.sub sub.1 in (
      cut,
      record {
        whole = ap (without_trailing is_http_whitespace) (begins_in_token m.main (47 ∷ (m.sub ++ flat_map parameter_text m.parameters)) main.0)
            ∙ ends_untrimmed (text_of m) (subst (EndsOutside is_http_whitespace) regrouped ends)
            ∙ ap (λ back. m.main ++ (47 ∷ (m.sub ++ back))) (sym (segments_print m.parameters));
        main = main.0;
        sub = sub.0;
        space = refl;
        segments = segments_are m.parameters is.parameters;
      },
      λ i. record { main = sym main_same i; sub = sym sub_same i; parameters = sym stands i },
    )
