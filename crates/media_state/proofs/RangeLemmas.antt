-- Ranges as values write them.
use Rattle.std.proofs.Common.{◌≡◌, ℕ, ◌<◌, ◌≤◌, true, not, ◌&&◌, ◌==◌, nat_lt, nat_le, List, [], ◌∷◌, ◌++◌, codes, bytes_eq, Option, Some, None, IfSome, IfNone, refl, sym, ap, subst, ◌∙◌, inl, inr, lit<, arith}
use Rattle.std.specs.List.{list_all}
use Rattle.std.specs.Char.{is_ascii_digit, to_ascii_lowercase}
use Rattle.std.specs.Str.{str_to_ascii_lowercase}
use Rattle.std.proofs.lemmas.Bool.{and_parts, and_from, ne_eqb, not_from_false, cases_Bool, le-leb, leb-true, lt-ltb, ltb-true}
use Rattle.std.proofs.lemmas.Bool.Decides.{eqb_tells}
use Rattle.std.proofs.lemmas.List.Folds.{list_all-map}
use Rattle.std.proofs.lemmas.Slice.Eq.{bytes_eq-Decides}
use Rattle.orb_bytes.specs.Bytes.{is_tab_or_space}
use Rattle.orb_bytes.specs.Trim.{trimmed}
use Rattle.orb_bytes.specs.Decimal.{decimal_of, is_decimal}
use Rattle.orb_bytes.specs.Fields.{same_name}
use Rattle.orb_bytes.proofs.DecimalLemmas.{ascii_digit_bounds}
use Rattle.media_state.specs.declared.ranges.ContentRange.{ContentRange}
use Rattle.media_state.specs.Range.{Written, range_text, IsComplete, IsInOrder, IsRange, known_length, complete_of, is_inside, range_from, before_byte, after_byte, range_in, range_of}
use Rattle.media_state.proofs.CutLemmas.{HasNo, rejoined, cut_again, list_all-weaker}

-- a decimal number has digits alone
decimal_digits : (text : List ℕ) (n : ℕ) → decimal_of text ≡ Some n → list_all is_ascii_digit text ≡ true
decimal_digits text n is =
    elim (cases_Bool (is_decimal text)) [
      | inl decimal ↦ (and_parts _ (list_all is_ascii_digit text) decimal).1
      | inr other ↦ absurd (let none = rw other at is in cc)
    ]

-- so it has no byte that isn't one
no_digit : (stop : ℕ) (text : List ℕ) (n : ℕ) → stop < 48 → decimal_of text ≡ Some n → HasNo stop text
no_digit stop text n low is =
    list_all-weaker is_ascii_digit (λ b. not (b == stop))
    (λ b digit. not_from_false (b == stop) (ne_eqb b stop (λ same. absurd (omega (arith, ascii_digit_bounds b digit)))))
    text (decimal_digits text n is)

-- `bytes` has no space
unit_no_space : (unit : List ℕ) → same_name unit (codes "bytes") ≡ true → HasNo 32 unit
unit_no_space unit is =
    let lowered = (bytes_eq-Decides (str_to_ascii_lowercase unit) (codes "bytes")).0 is in
    list_all-weaker (λ b. not (to_ascii_lowercase b == 32)) (λ b. not (b == 32)) as_lowered unit
    (sym (list_all-map (λ c. not (c == 32)) to_ascii_lowercase unit) ∙ ap (list_all (λ c. not (c == 32))) lowered) where
      as_lowered : (b : ℕ) → not (to_ascii_lowercase b == 32) ≡ true → not (b == 32) ≡ true
      as_lowered b other = elim (eqb_tells b 32) [
        | inl space ↦ absurd (let lie : not (to_ascii_lowercase 32 == 32) ≡ true =
            ap (λ c. not (to_ascii_lowercase c == 32)) (sym space.1) ∙ other in cc)
        | inr outside ↦ not_from_false (b == 32) outside.0
      ]

complete_to : (text : List ℕ) (length : Option ℕ) → complete_of text ≡ Some length → IsComplete text length
complete_to text length is =
    elim (cases_Bool (bytes_eq text (codes "*"))) [
      | inl star ↦ starred length ((bytes_eq-Decides text (codes "*")).0 star) (rw star at is)
      | inr other ↦ numbered (decimal_of text) length refl (rw other at is)
    ] where
      starred : (length : Option ℕ) → text ≡ codes "*" → ◌≡◌ {A = Option (Option ℕ)} (Some None) (Some length) → IsComplete text length
      starred None here is = here
      starred (Some n) here is = absurd (cc)

      numbered : (number : Option ℕ) (length : Option ℕ) → decimal_of text ≡ number → known_length number ≡ Some length → IsComplete text length
      numbered None length same is = absurd (cc)
      numbered (Some n) None same is = absurd (cc)
      numbered (Some n) (Some m) same is = let e : n ≡ m = cc in same ∙ ap Some e

complete_from : (text : List ℕ) (length : Option ℕ) → IsComplete text length → complete_of text ≡ Some length
complete_from text None is = ap complete_of is
complete_from text (Some n) is =
    elim (cases_Bool (bytes_eq text (codes "*"))) [
      | inl star ↦ absurd (let lie : decimal_of (codes "*") ≡ Some n =
          ap decimal_of (sym ((bytes_eq-Decides text (codes "*")).0 star)) ∙ is in cc)
      | inr other ↦ rw other (ap known_length is)
    ]

order_from : (first last : ℕ) (complete : Option ℕ) → first ≤ last → IfSome complete (λ length. last < length)
    → (nat_le first last && is_inside last complete) ≡ true
order_from first last None forward inside = and_from (nat_le first last) true (le-leb first last forward) refl
order_from first last (Some n) forward inside =
    and_from (nat_le first last) (nat_lt last n) (le-leb first last forward) (lt-ltb last n inside)

order_to : (first last : ℕ) (complete : Option ℕ) → (nat_le first last && is_inside last complete) ≡ true
    → (first ≤ last) × IfSome complete (λ length. last < length)
order_to first last None is = (leb-true first last (and_parts (nat_le first last) true is).0, tt)
order_to first last (Some n) is =
    let parts = and_parts (nat_le first last) (nat_lt last n) is in
    (leb-true first last parts.0, ltb-true last n parts.1)

-- what a range of three numbers says of them
from_parts : (first last : Option ℕ) (complete : Option (Option ℕ)) (range : ContentRange)
    → range_from first last complete ≡ Some range
    → (first ≡ Some range.first) × (last ≡ Some range.last) × (complete ≡ Some range.complete) × IsInOrder range
from_parts None last complete range is = absurd (cc)
from_parts (Some f) None complete range is = absurd (cc)
from_parts (Some f) (Some l) None range is = absurd (cc)
from_parts (Some f) (Some l) (Some c) range is =
    elim (cases_Bool (nat_le f l && is_inside l c)) [
      | inl order ↦ made (order_to f l c order) (rw order at is)
      | inr other ↦ absurd (let none = rw other at is in cc)
    ] where
      made : (f ≤ l) × IfSome c (λ length. l < length)
          → ◌≡◌ {A = Option ContentRange} (Some (record { first = f; last = l; complete = c })) (Some range)
          → (Some f ≡ Some range.first) × (Some l ≡ Some range.last) × (Some c ≡ Some range.complete) × IsInOrder range
      made order same =
          let r : ContentRange = record { first = f; last = l; complete = c } in
          let here : r ≡ range = cc in (
            ap (λ x. Some x.first) here,
            ap (λ x. Some x.last) here,
            ap (λ x. Some x.complete) here,
            subst IsInOrder here (record { forward = order.0; inside = order.1 }),
          )

to_parts : (range : ContentRange) → IsInOrder range
    → range_from (Some range.first) (Some range.last) (Some range.complete) ≡ Some range
to_parts range order =
    rw (order_from range.first range.last range.complete order.forward order.inside) refl

-- the text after a byte is not empty where something is read from it
some_after : (stop : ℕ) (text : List ℕ) → ¬ (after_byte stop text ≡ [])
    → text ≡ before_byte stop text ++ (stop ∷ after_byte stop text)
some_after stop text some = elim (rejoined stop text) [ inl whole ↦ whole | inr none ↦ absurd (some none) ]

abbrev range_part : List ℕ → List ℕ
range_part text = after_byte 32 text

abbrev rest_part : List ℕ → List ℕ
rest_part text = after_byte 45 (range_part text)

abbrev pieces : List ℕ → Written
pieces text = record {
  unit = before_byte 32 text;
  first = before_byte 45 (range_part text);
  last = before_byte 47 (rest_part text);
  complete = after_byte 47 (rest_part text);
}

abbrev Read : List ℕ → ContentRange → Type 0
Read text range =
    (same_name (pieces text).unit (codes "bytes") ≡ true)
    × (decimal_of (pieces text).first ≡ Some range.first)
    × (decimal_of (pieces text).last ≡ Some range.last)
    × (complete_of (pieces text).complete ≡ Some range.complete)
    × IsInOrder range

read_to : (text : List ℕ) (range : ContentRange) → range_in text ≡ Some range → Read text range
read_to text range is =
    elim (cases_Bool (same_name (pieces text).unit (codes "bytes"))) [
      | inl unit ↦
          let parts = from_parts (decimal_of (pieces text).first) (decimal_of (pieces text).last) (complete_of (pieces text).complete) range (rw unit at is) in
          (unit, parts.0, parts.1, parts.2, parts.3)
      | inr other ↦ absurd (let none = rw other at is in cc)
    ]

whole_of : (text : List ℕ) (range : ContentRange) → Read text range → text ≡ range_text (pieces text)
whole_of text range (unit, first, last, complete, order) =
    let in_rest = some_after 47 (rest_part text) (λ none. absurd (let lie : complete_of [] ≡ Some range.complete = ap complete_of (sym none) ∙ complete in cc)) in
    let in_range = some_after 45 (range_part text) (λ none. absurd (let lie : decimal_of (before_byte 47 []) ≡ Some range.last = ap (λ t. decimal_of (before_byte 47 t)) (sym none) ∙ last in cc)) in
    let in_text = some_after 32 text (λ none. absurd (let lie : decimal_of (before_byte 45 []) ≡ Some range.first = ap (λ t. decimal_of (before_byte 45 t)) (sym none) ∙ first in cc)) in
    in_text
    ∙ ap (λ t. before_byte 32 text ++ (32 ∷ t)) (in_range
    ∙ ap (λ t. before_byte 45 (range_part text) ++ (45 ∷ t)) in_rest)

pub range_to : (value : List ℕ) (range : ContentRange) → range_of value ≡ Some range → IsRange value range
unfolding range_of
range_to value range is =
    let text : List ℕ = trimmed is_tab_or_space value in
    let read = read_to text range is in (
      (
        pieces text,
        record {
          whole = whole_of text range read;
          unit = read.0;
          first = read.1;
          last = read.2;
          complete = complete_to (pieces text).complete range.complete read.3;
        },
      ),
      read.4,
    )

pub range_back : (value : List ℕ) (range : ContentRange) → IsRange value range → range_of value ≡ Some range
unfolding range_of
range_back value range ((w, is), order) =
    let by_unit = cut_again 32 w.unit (w.first ++ (45 ∷ (w.last ++ (47 ∷ w.complete)))) (unit_no_space w.unit is.unit) in
    let by_first = cut_again 45 w.first (w.last ++ (47 ∷ w.complete)) (no_digit 45 w.first range.first (lit< tt) is.first) in
    let by_last = cut_again 47 w.last w.complete (no_digit 47 w.last range.last (lit< tt) is.last) in
    ap range_in is.whole
    ∙ rw (by_unit.0, by_unit.1, by_first.0, by_first.1, by_last.0, by_last.1, is.unit, is.first, is.last, complete_from w.complete range.complete is.complete)
    (to_parts range order)

pub same_range : (value : List ℕ) (r s : ContentRange) → IsRange value r → IsRange value s → r ≡ s
same_range value r s is also =
    let same : Some r ≡ Some s = sym (range_back value r is) ∙ range_back value s also in cc

-- what an answer that equals the function says
pub range_found : (value : List ℕ) (result : Option ContentRange) → result ≡ range_of value
    → IfSome result (λ range. IsRange value range)
range_found value None same = tt
range_found value (Some range) same = range_to value range (sym same)

pub range_none : (value : List ℕ) (result : Option ContentRange) → result ≡ range_of value
    → IfNone result ((range : ContentRange) → ¬ (IsRange value range))
range_none value None same = λ range is. absurd (let lie : ◌≡◌ {A = Option ContentRange} None (Some range) = same ∙ range_back value range is in cc)
range_none value (Some range) same = tt
