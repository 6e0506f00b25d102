-- The record of a text is a valid one.
use Rattle.std.proofs.Common.{◌≡◌, ℕ, ◌+◌, Bool, true, false, not, ◌&&◌, ◌||◌, nat_lt, List, [], ◌∷◌, ◌++◌, filter, bytes_eq, Some, None, Result, Ok, Err, OnOk, OnErr, option_map, codes, subst, refl, sym, ap, ◌∙◌, arith}
use Rattle.std.specs.List.{list_all, filter_map, cons_option}
use Rattle.std.specs.Char.{to_ascii_lowercase, is_ascii_uppercase, is_ascii_alphanumeric}
use Rattle.std.specs.Str.{str_to_ascii_lowercase}
use Rattle.std.proofs.lemmas.Bool.{and_parts, and_from}
use Rattle.std.proofs.lemmas.List.Folds.{list_all-append, list_any-append}
use Rattle.std.proofs.lemmas.Bool.Decides.{nat_tests}
use Rattle.orb_bytes.specs.Bytes.{is_token_byte, is_quoted_token_byte, is_one_of}
use Rattle.mime_types.specs.Mime.{Mime, Segment, pair_of, assigned_value, is_token, is_parameter, first_of_each, Cut, IsCut, mime_of, IsMime}
use Rattle.mime_types.specs.Records.{is_lowercase_token, is_lowercase_parameter, has_name, names_differ, IsRecord, value_of}
use Rattle.mime_types.specs.declared.parameters.Parameter.{Parameter}
use Rattle.mime_types.specs.Stored.{pairs_in, record_in}
use Rattle.mime_types.proofs.NameLemmas.{is_other, bytes_eq-sym, list_all-filter, list_all-filter_same, list_any-filter, list_any-filter_not}
use Rattle.mime_types.proofs.BoolLemmas.{or_parts, false_from_not}

-- no capital is left
pub lower_no_capital : (b : ℕ) → not (is_ascii_uppercase (to_ascii_lowercase b)) ≡ true
lower_no_capital b = grind (arith, nat_tests)

capital_lowered : (b : ℕ) → nat_lt b 65 ≡ false → nat_lt b 91 ≡ true → is_ascii_alphanumeric (b + 32) ≡ true
capital_lowered b high capital = grind (arith, nat_tests)

first_holds : (x y : Bool) → x ≡ true → (x || y) ≡ true
first_holds x y holds = rw holds refl

-- a small letter stands where the capital stood, and else the byte stays
pub lower_token : (b : ℕ) → is_token_byte b ≡ true → is_token_byte (to_ascii_lowercase b) ≡ true
lower_token b token =
    elim (nat_lt b 65) as (λ v. nat_lt b 65 ≡ v → is_token_byte (to_ascii_lowercase b) ≡ true) [
      | true ↦ λ low. rw low token
      | false ↦ λ high. elim (nat_lt b 91) as (λ v. nat_lt b 91 ≡ v → is_token_byte (to_ascii_lowercase b) ≡ true) [
        | true ↦ λ capital. rw (high, capital) (first_holds (is_ascii_alphanumeric (b + 32)) (is_one_of (codes "!#$%&'*+-.^_`|~") (b + 32)) (capital_lowered b high capital))
        | false ↦ λ other. rw (high, other) token
      ] refl
    ] refl

pub lower_is_small : (text : List ℕ) → list_all (λ b. not (is_ascii_uppercase b)) (str_to_ascii_lowercase text) ≡ true
lower_is_small [] = refl
lower_is_small (b ∷ text) =
    and_from (not (is_ascii_uppercase (to_ascii_lowercase b))) (list_all (λ b. not (is_ascii_uppercase b)) (str_to_ascii_lowercase text))
    (lower_no_capital b) (lower_is_small text)

lower_tokens : (text : List ℕ) → list_all is_token_byte text ≡ true → list_all is_token_byte (str_to_ascii_lowercase text) ≡ true
lower_tokens [] are = refl
lower_tokens (b ∷ text) are =
    let parts = and_parts (is_token_byte b) (list_all is_token_byte text) are in
    and_from (is_token_byte (to_ascii_lowercase b)) (list_all is_token_byte (str_to_ascii_lowercase text))
    (lower_token b parts.0) (lower_tokens text parts.1)

-- a token in ASCII lowercase
pub lower_small_token : (text : List ℕ) → is_token text ≡ true → is_lowercase_token (str_to_ascii_lowercase text) ≡ true
lower_small_token [] token = absurd (cc)
lower_small_token (b ∷ text) token =
    and_from (is_token (str_to_ascii_lowercase (b ∷ text))) (list_all (λ b. not (is_ascii_uppercase b)) (str_to_ascii_lowercase (b ∷ text)))
    (lower_tokens (b ∷ text) token) (lower_is_small (b ∷ text))

-- the name has no capital
abbrev has_small_name : List ℕ × List ℕ → Bool
has_small_name pair = list_all (λ b. not (is_ascii_uppercase b)) pair.0

pairs_are_small : (segments : List Segment) → list_all has_small_name (filter_map pair_of segments) ≡ true
pairs_are_small [] = refl
pairs_are_small (s ∷ segments) =
    elim (assigned_value s.assigned) as (λ v. list_all has_small_name (cons_option (option_map (λ value. (str_to_ascii_lowercase s.name, value)) v) (filter_map pair_of segments)) ≡ true) [
      | None ↦ pairs_are_small segments
      | Some value ↦ and_from (list_all (λ b. not (is_ascii_uppercase b)) (str_to_ascii_lowercase s.name)) (list_all has_small_name (filter_map pair_of segments))
          (lower_is_small s.name) (pairs_are_small segments)
    ]

small_parameters : (pairs : List (List ℕ × List ℕ)) → list_all has_small_name pairs ≡ true → list_all is_parameter pairs ≡ true
    → list_all is_lowercase_parameter pairs ≡ true
small_parameters [] small are = refl
small_parameters (pair ∷ pairs) small are =
    let smalls = and_parts (has_small_name pair) (list_all has_small_name pairs) small in
    let ares = and_parts (is_parameter pair) (list_all is_parameter pairs) are in
    let parts = and_parts (is_token pair.0) (list_all is_quoted_token_byte pair.1) ares.0 in
    and_from (is_lowercase_parameter pair) (list_all is_lowercase_parameter pairs)
    (and_from (is_lowercase_token pair.0) (list_all is_quoted_token_byte pair.1)
    (and_from (is_token pair.0) (has_small_name pair) parts.0 smalls.0) parts.1)
    (small_parameters pairs smalls.1 ares.1)

first_of_each_all : (test : List ℕ × List ℕ → Bool) (pairs : List (List ℕ × List ℕ)) → list_all test pairs ≡ true
    → list_all test (first_of_each pairs) ≡ true
first_of_each_all test [] are = refl
first_of_each_all test (pair ∷ pairs) are =
    let parts = and_parts (test pair) (list_all test pairs) are in
    and_from (test pair) (list_all test (filter (is_other pair) (first_of_each pairs))) parts.0
    (list_all-filter test (is_other pair) (first_of_each pairs) (first_of_each_all test pairs parts.1))

names_differ-filter : (test : List ℕ × List ℕ → Bool) (pairs : List (List ℕ × List ℕ)) → names_differ pairs ≡ true
    → names_differ (filter test pairs) ≡ true
names_differ-filter test [] differ = refl
names_differ-filter test (pair ∷ pairs) differ =
    let parts = and_parts (not (has_name pair.0 pairs)) (names_differ pairs) differ in
    elim (test pair) as (λ v. test pair ≡ v → names_differ (filter test (pair ∷ pairs)) ≡ true) [
      | true ↦ λ passes. rw passes (and_from (not (has_name pair.0 (filter test pairs))) (names_differ (filter test pairs))
          (ap not (list_any-filter (λ p. bytes_eq p.0 pair.0) test pairs (false_from_not (has_name pair.0 pairs) parts.0)))
          (names_differ-filter test pairs parts.1))
      | false ↦ λ fails. rw fails (names_differ-filter test pairs parts.1)
    ] refl

first_of_each_differ : (pairs : List (List ℕ × List ℕ)) → names_differ (first_of_each pairs) ≡ true
first_of_each_differ [] = refl
first_of_each_differ (pair ∷ pairs) =
    and_from (not (has_name pair.0 (filter (is_other pair) (first_of_each pairs)))) (names_differ (filter (is_other pair) (first_of_each pairs)))
    (ap not (list_any-filter_not (λ p. bytes_eq p.0 pair.0) (first_of_each pairs)))
    (names_differ-filter (is_other pair) (first_of_each pairs) (first_of_each_differ pairs))

-- what a cut stands for is valid
pub cut_is_record : (text : List ℕ) (cut : Cut) → IsCut text cut → IsRecord (mime_of cut)
cut_is_record text cut is =
    let pairs = filter_map pair_of cut.segments in
    record {
      main = lower_small_token cut.main is.main;
      sub = lower_small_token cut.sub is.sub;
      parameters = first_of_each_all is_lowercase_parameter (filter is_parameter pairs)
          (small_parameters (filter is_parameter pairs)
          (list_all-filter has_small_name is_parameter pairs (pairs_are_small cut.segments))
          (list_all-filter_same is_parameter pairs));
      names = first_of_each_differ (filter is_parameter pairs);
    }

-- so is the record of a text
pub mime_is_record : (text : List ℕ) (m : Mime) → IsMime text m → IsRecord m
mime_is_record text m is = subst IsRecord (sym is.2) (cut_is_record text is.0 is.1)

-- one pair of a new name more
names_differ-push : (pairs : List (List ℕ × List ℕ)) (pair : List ℕ × List ℕ) → names_differ pairs ≡ true
    → has_name pair.0 pairs ≡ false → names_differ (pairs ++ pair ∷ []) ≡ true
names_differ-push [] pair differ new = refl
names_differ-push (first ∷ pairs) pair differ new =
    let parts = and_parts (not (has_name first.0 pairs)) (names_differ pairs) differ in
    let news = or_parts (bytes_eq first.0 pair.0) (has_name pair.0 pairs) new in
    let other : (bytes_eq pair.0 first.0 || false) ≡ false = ap (λ v. v || false) (bytes_eq-sym pair.0 first.0 ∙ news.0) in
    and_from (not (has_name first.0 (pairs ++ pair ∷ []))) (names_differ (pairs ++ pair ∷ []))
    (ap not (list_any-append (λ p. bytes_eq p.0 first.0) pairs (pair ∷ []))
    ∙ ap (λ v. not (has_name first.0 pairs || v)) other
    ∙ ap (λ v. not (v || false)) (false_from_not (has_name first.0 pairs) parts.0))
    (names_differ-push pairs pair parts.1 news.1)

-- a valid record with one parameter more
pub record_grows : (m : Mime) (name value : List ℕ) → IsRecord m → is_lowercase_token name ≡ true
    → list_all is_quoted_token_byte value ≡ true → has_name name m.parameters ≡ false
    → IsRecord (record m { parameters = m.parameters ++ (name, value) ∷ [] })
record_grows m name value is name_is value_is new = record {
  main = is.main;
  sub = is.sub;
  parameters = list_all-append is_lowercase_parameter m.parameters ((name, value) ∷ [])
      ∙ and_from (list_all is_lowercase_parameter m.parameters) (is_lowercase_parameter (name, value) && true) is.parameters
      (and_from (is_lowercase_parameter (name, value)) true
      (and_from (is_lowercase_token name) (list_all is_quoted_token_byte value) name_is value_is) refl);
  names = names_differ-push m.parameters (name, value) is.names new;
}

value_found : (name : List ℕ) (pair : List ℕ × List ℕ) (pairs : List (List ℕ × List ℕ)) → bytes_eq pair.0 name ≡ true
    → value_of name (pair ∷ pairs) ≡ Some pair.1
value_found name pair pairs same = rw same refl

value_after : (name : List ℕ) (pair : List ℕ × List ℕ) (pairs : List (List ℕ × List ℕ)) → bytes_eq pair.0 name ≡ false
    → value_of name (pair ∷ pairs) ≡ value_of name pairs
value_after name pair pairs differ = rw differ refl

-- where no value is found, the name is new
pub no_value_new : (name : List ℕ) (pairs : List (List ℕ × List ℕ)) → value_of name pairs ≡ None → has_name name pairs ≡ false
no_value_new name [] none = refl
no_value_new name (pair ∷ pairs) none =
    elim (bytes_eq pair.0 name) as (λ v. bytes_eq pair.0 name ≡ v → has_name name (pair ∷ pairs) ≡ false) [
      | true ↦ λ same. absurd (let lie : Some pair.1 ≡ None = sym (value_found name pair pairs same) ∙ none in cc)
      | false ↦ λ differ. rw differ (no_value_new name pairs (sym (value_after name pair pairs differ) ∙ none))
    ] refl

-- a value that is found can stand between quotes
pub value_is_quoted : (name value : List ℕ) (pairs : List (List ℕ × List ℕ)) → list_all is_lowercase_parameter pairs ≡ true
    → value_of name pairs ≡ Some value → list_all is_quoted_token_byte value ≡ true
value_is_quoted name value [] are found = absurd (cc)
value_is_quoted name value (pair ∷ pairs) are found =
    let parts = and_parts (is_lowercase_parameter pair) (list_all is_lowercase_parameter pairs) are in
    elim (bytes_eq pair.0 name) as (λ v. bytes_eq pair.0 name ≡ v → list_all is_quoted_token_byte value ≡ true) [
      | true ↦ λ same.
          let is : Some pair.1 ≡ Some value = sym (value_found name pair pairs same) ∙ found in
          let inner : pair.1 ≡ value = cc in
          ap (list_all is_quoted_token_byte) (sym inner)
          ∙ (and_parts (is_lowercase_token pair.0) (list_all is_quoted_token_byte pair.1) parts.0).1
      | false ↦ λ differ.
          value_is_quoted name value pairs parts.1 (sym (value_after name pair pairs differ) ∙ found)
    ] refl

-- the record in memory, where a parameter was added or none could be
pub stored_grows : {T E : Type 0} (r : Result T E) (main sub : List ℕ) (old new : List Parameter) (m : Mime) (name value : List ℕ)
    → OnOk r (pairs_in new ≡ pairs_in old ++ (name, value) ∷ []) → OnErr r (new ≡ old)
    → record_in main sub old ≡ m → IsRecord (record_in main sub old) → is_lowercase_token name ≡ true
    → list_all is_quoted_token_byte value ≡ true → has_name name m.parameters ≡ false → IsRecord (record_in main sub new)
stored_grows (Ok x) main sub old new m name value added kept view is name_is value_is fresh =
    subst (λ pairs. IsRecord (record { main = main; sub = sub; parameters = pairs })) (sym added)
    (record_grows (record_in main sub old) name value is name_is value_is
    (ap (λ (m : Mime). has_name name m.parameters) view ∙ fresh))
stored_grows (Err e) main sub old new m name value added kept view is name_is value_is fresh =
    subst (λ parameters. IsRecord (record_in main sub parameters)) (sym kept) is
