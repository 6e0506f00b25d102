-- Quoted strings: a text begins with one in one way, and reading and writing go unit by unit.
use Rattle.std.proofs.Common.{◌≡◌, ◌≢◌, ℕ, Bool, true, false, not, nat_eq, ◌&&◌, ◌||◌, List, [], ◌∷◌, ◌++◌, map, refl, sym, ap, ◌∙◌, subst, append_assoc, append-nil, ne_eqb, inl, inr, if◌then◌else◌}
use Rattle.std.specs.List.{list_all, flat_map}
use Rattle.std.proofs.lemmas.Bool.{and_parts, and_from}
use Rattle.std.proofs.lemmas.Bool.Decides.{eqb_tells}
use Rattle.std.proofs.lemmas.Grind.{flat_map-append}
use Rattle.std.proofs.lemmas.List.{map-append}
use Rattle.std.proofs.lemmas.List.Folds.{list_all-append}
use Rattle.orb_bytes.specs.Bytes.{is_empty}
use Rattle.orb_bytes.specs.Quoted.{QuotedUnit, qdtext, quoted_pair, unit_text, is_unit, unit_value, Close, by_quote, by_end, by_backslash, close_text, ReadsQuoted, quoted_byte}

-- what may follow the units of a quoted string: nothing, a `"`, or a `\` at the end
abbrev pub stops_units : List ℕ → Bool
stops_units [] = true
stops_units (b ∷ text) = nat_eq b 34 || (nat_eq b 92 && is_empty text)

-- a unit that stands for itself begins nothing that stands after units
not_both : (quote slash last : Bool) → not (quote || slash) ≡ true → (quote || (slash && last)) ≡ true → ⊥
not_both true slash last unit stop = cc
not_both false true last unit stop = cc
not_both false false last unit stop = cc

itself_never_stops : (b c : ℕ) (x : List ℕ) → is_unit (qdtext b) ≡ true → stops_units (c ∷ x) ≡ true → c ≡ b → ⊥
itself_never_stops b c x unit stop same =
    not_both (nat_eq c 34) (nat_eq c 92) (is_empty x) (ap (λ e. is_unit (qdtext e)) same ∙ unit) stop

escaped_never_stops : (b : ℕ) (x y : List ℕ) → stops_units x ≡ true → x ≡ 92 ∷ (b ∷ y) → ⊥
escaped_never_stops b x y stop same =
    let lie : true ≡ false = sym stop ∙ ap stops_units same in cc

never_backslash : (b : ℕ) → is_unit (qdtext b) ≡ true → b ≡ 92 → ⊥
never_backslash b unit same =
    let lie : false ≡ true = ap (λ e. is_unit (qdtext e)) (sym same) ∙ unit in cc

rest_are_units : (u : QuotedUnit) (us : List QuotedUnit) → list_all is_unit (u ∷ us) ≡ true
    → (is_unit u ≡ true) × (list_all is_unit us ≡ true)
rest_are_units u us are = and_parts (is_unit u) (list_all is_unit us) are

pub units_unique : (us vs : List QuotedUnit) (x y : List ℕ) → list_all is_unit us ≡ true
    → list_all is_unit vs ≡ true → stops_units x ≡ true → stops_units y ≡ true
    → flat_map unit_text us ++ x ≡ flat_map unit_text vs ++ y → (us ≡ vs) × (x ≡ y)
units_unique [] [] x y us_are vs_are xs ys same = (refl, same)
units_unique [] (qdtext b ∷ vs) [] y us_are vs_are xs ys same = absurd (cc)
units_unique [] (qdtext b ∷ vs) (c ∷ x) y us_are vs_are xs ys same =
    absurd (itself_never_stops b c x (rest_are_units (qdtext b) vs vs_are).0 xs (cc))
units_unique [] (quoted_pair b ∷ vs) x y us_are vs_are xs ys same =
    absurd (escaped_never_stops b x (flat_map unit_text vs ++ y) xs same)
units_unique (qdtext b ∷ us) [] x [] us_are vs_are xs ys same = absurd (cc)
units_unique (qdtext b ∷ us) [] x (c ∷ y) us_are vs_are xs ys same =
    absurd (itself_never_stops b c y (rest_are_units (qdtext b) us us_are).0 ys (cc))
units_unique (quoted_pair b ∷ us) [] x y us_are vs_are xs ys same =
    absurd (escaped_never_stops b y (flat_map unit_text us ++ x) ys (sym same))
units_unique (qdtext b ∷ us) (qdtext c ∷ vs) x y us_are vs_are xs ys same =
    let bytes : b ≡ c = cc in
    let rest : flat_map unit_text us ++ x ≡ flat_map unit_text vs ++ y = cc in
    let parts = units_unique us vs x y (rest_are_units (qdtext b) us us_are).1
    (rest_are_units (qdtext c) vs vs_are).1 xs ys rest in
    let units : us ≡ vs = parts.0 in
    (cc, parts.1)
units_unique (qdtext b ∷ us) (quoted_pair c ∷ vs) x y us_are vs_are xs ys same =
    absurd (never_backslash b (rest_are_units (qdtext b) us us_are).0 (cc))
units_unique (quoted_pair b ∷ us) (qdtext c ∷ vs) x y us_are vs_are xs ys same =
    absurd (never_backslash c (rest_are_units (qdtext c) vs vs_are).0 (cc))
units_unique (quoted_pair b ∷ us) (quoted_pair c ∷ vs) x y us_are vs_are xs ys same =
    let bytes : b ≡ c = cc in
    let rest : flat_map unit_text us ++ x ≡ flat_map unit_text vs ++ y = cc in
    let parts = units_unique us vs x y (rest_are_units (quoted_pair b) us us_are).1
    (rest_are_units (quoted_pair c) vs vs_are).1 xs ys rest in
    let units : us ≡ vs = parts.0 in
    (cc, parts.1)

-- a text is some units and what stops them
pub record UnitsOf (text : List ℕ) : Type 0 where
  pub units : List QuotedUnit
  pub rest : List ℕ
  pub are : list_all is_unit units ≡ true
  pub stops : stops_units rest ≡ true
  pub whole : text ≡ flat_map unit_text units ++ rest

stopped : (text : List ℕ) → stops_units text ≡ true → UnitsOf text
stopped text stops = record { units = []; rest = text; are = refl; stops = stops; whole = refl }

with_itself : (b : ℕ) (text : List ℕ) → nat_eq b 34 ≡ false → nat_eq b 92 ≡ false → UnitsOf text → UnitsOf (b ∷ text)
with_itself b text unquoted other more = record {
  units = qdtext b ∷ more.units;
  rest = more.rest;
  are = and_from (is_unit (qdtext b)) (list_all is_unit more.units) (rw (unquoted, other) refl) more.are;
  stops = more.stops;
  whole = ap (λ rest. b ∷ rest) more.whole;
}

with_escaped : (b : ℕ) (text : List ℕ) → UnitsOf text → UnitsOf (92 ∷ (b ∷ text))
with_escaped b text more = record {
  units = quoted_pair b ∷ more.units;
  rest = more.rest;
  are = more.are;
  stops = more.stops;
  whole = ap (λ rest. 92 ∷ (b ∷ rest)) more.whole;
}

pub units_of : (text : List ℕ) → UnitsOf text
units_of [] = stopped [] refl
units_of (b ∷ []) =
    elim (eqb_tells b 34) [
      | inl quote ↦ stopped (b ∷ []) (ap (λ v. v || (nat_eq b 92 && true)) quote.0)
      | inr unquoted ↦ elim (eqb_tells b 92) [
        | inl slash ↦ stopped (b ∷ []) (rw (unquoted.0, slash.0) refl)
        | inr other ↦ with_itself b [] unquoted.0 other.0 (units_of [])
      ]
    ]
units_of (b ∷ (c ∷ text)) =
    elim (eqb_tells b 34) [
      | inl quote ↦ stopped (b ∷ (c ∷ text)) (ap (λ v. v || (nat_eq b 92 && false)) quote.0)
      | inr unquoted ↦ elim (eqb_tells b 92) [
        | inl slash ↦ subst (λ d. UnitsOf (d ∷ (c ∷ text))) (sym slash.1) (with_escaped c text (units_of text))
        | inr other ↦ with_itself b (c ∷ text) unquoted.0 other.0 (units_of (c ∷ text))
      ]
    ]

-- the units that are read of a text, their bytes, and the rest
abbrev pub ReadsUnits : List ℕ → List ℕ → List ℕ → Type 0
ReadsUnits text value rest =
    (units : List QuotedUnit) × (list_all is_unit units ≡ true)
    × (text ≡ flat_map unit_text units ++ rest) × (value ≡ map unit_value units)

-- one unit more
pub more_units : (text value rest value' rest' : List ℕ) (unit : QuotedUnit) → ReadsUnits text value rest
    → is_unit unit ≡ true → rest ≡ unit_text unit ++ rest' → value' ≡ value ++ unit_value unit ∷ []
    → ReadsUnits text value' rest'
more_units text value rest value' rest' unit reads is cut grown =
    let units = reads.0 in (
      units ++ unit ∷ [],
      list_all-append is_unit units (unit ∷ []) ∙ and_from (list_all is_unit units) (is_unit unit && true) reads.1 (and_from (is_unit unit) true is refl),
      reads.2 ∙ ap (λ back. flat_map unit_text units ++ back) cut
          ∙ ap (λ back. flat_map unit_text units ++ (back ++ rest')) (sym (append-nil (unit_text unit)))
          ∙ sym (append_assoc (flat_map unit_text units) (unit_text unit ++ []) rest')
          ∙ ap (λ prefix. prefix ++ rest') (sym (flat_map-append unit_text units (unit ∷ []))),
      grown ∙ ap (λ prefix. prefix ++ unit_value unit ∷ []) reads.3 ∙ sym (map-append unit_value units (unit ∷ [])),
    )

-- a unit before a quoted string's others
pub reads_unit : (text : List ℕ) (unit : QuotedUnit) (rest : List ℕ) (units : List QuotedUnit) (c : Close) (after : List ℕ)
    → is_unit unit ≡ true → text ≡ unit_text unit ++ rest → ReadsQuoted rest units c after
    → ReadsQuoted text (unit ∷ units) c after
reads_unit text unit rest units c after is cut reads = record {
  are = and_from (is_unit unit) (list_all is_unit units) is reads.are;
  last = reads.last;
  whole = cut ∙ ap (λ back. unit_text unit ++ back) reads.whole
      ∙ sym (append_assoc (unit_text unit) (flat_map unit_text units) (close_text c ++ after));
}

-- a byte that is neither `"` nor `\`
pub unit_itself : (b : ℕ) → b ≢ 34 → b ≢ 92 → is_unit (qdtext b) ≡ true
unit_itself b quote slash =
    let no_quote = ne_eqb b 34 quote in
    let no_slash = ne_eqb b 92 slash in
    rw (no_quote, no_slash) refl

-- after an opening quote stands some string
pub quoted_of : (text : List ℕ) → (units : List QuotedUnit) × (close : Close) × (after : List ℕ) × ReadsQuoted text units close after
quoted_of [] = ([], by_end, [], record { are = refl; last = λ is. refl; whole = refl })
quoted_of (b ∷ []) =
    elim (eqb_tells b 34) [
      | inl quote ↦ ([], by_quote, [], record { are = refl; last = λ never. absurd (cc); whole = ap (λ e. e ∷ []) quote.1 })
      | inr unquoted ↦ elim (eqb_tells b 92) [
        | inl slash ↦ ([], by_backslash, [], record { are = refl; last = λ is. refl; whole = ap (λ e. e ∷ []) slash.1 })
        | inr other ↦ (qdtext b ∷ [], by_end, [], record { are = rw (unquoted.0, other.0) refl; last = λ is. refl; whole = refl })
      ]
    ]
quoted_of (b ∷ (c ∷ text)) =
    elim (eqb_tells b 34) [
      | inl quote ↦ ([], by_quote, c ∷ text, record { are = refl; last = λ never. absurd (cc); whole = ap (λ e. e ∷ (c ∷ text)) quote.1 })
      | inr unquoted ↦ elim (eqb_tells b 92) [
        | inl slash ↦ let more = quoted_of text in
            (quoted_pair c ∷ more.0, more.1, more.2, reads_unit (b ∷ (c ∷ text)) (quoted_pair c) text more.0 more.1 more.2 refl (ap (λ e. e ∷ (c ∷ text)) slash.1) more.3)
        | inr other ↦ let more = quoted_of (c ∷ text) in
            (qdtext b ∷ more.0, more.1, more.2, reads_unit (b ∷ (c ∷ text)) (qdtext b) (c ∷ text) more.0 more.1 more.2 (rw (unquoted.0, other.0) refl) refl more.3)
      ]
    ]

-- the unit that a byte of a value is written as
abbrev pub unit_of : ℕ → QuotedUnit
unit_of b = if nat_eq b 34 || nat_eq b 92 then quoted_pair b else qdtext b

unit_prints : (b : ℕ) → unit_text (unit_of b) ≡ quoted_byte b
unit_prints b =
    elim (nat_eq b 34 || nat_eq b 92) as (λ v. unit_text (if v then quoted_pair b else qdtext b) ≡ (if v then 92 ∷ (b ∷ []) else b ∷ [])) [
      | true ↦ refl
      | false ↦ refl
    ]

unit_stands : (b : ℕ) → unit_value (unit_of b) ≡ b
unit_stands b =
    elim (nat_eq b 34 || nat_eq b 92) as (λ v. unit_value (if v then quoted_pair b else qdtext b) ≡ b) [ true ↦ refl | false ↦ refl ]

unit_is : (b : ℕ) → is_unit (unit_of b) ≡ true
unit_is b =
    elim (nat_eq b 34 || nat_eq b 92) as (λ v. (nat_eq b 34 || nat_eq b 92) ≡ v → is_unit (if v then quoted_pair b else qdtext b) ≡ true) [
      | true ↦ λ quoted. refl
      | false ↦ λ other. ap not other
    ] refl

pub units_print : (value : List ℕ) → flat_map unit_text (map unit_of value) ≡ flat_map quoted_byte value
units_print [] = refl
units_print (b ∷ value) =
    ap (λ prefix. prefix ++ flat_map unit_text (map unit_of value)) (unit_prints b)
    ∙ ap (λ back. quoted_byte b ++ back) (units_print value)

pub units_stand : (value : List ℕ) → map unit_value (map unit_of value) ≡ value
units_stand [] = refl
units_stand (b ∷ value) =
    ap (λ e. e ∷ map unit_value (map unit_of value)) (unit_stands b) ∙ ap (λ rest. b ∷ rest) (units_stand value)

pub units_are : (value : List ℕ) → list_all is_unit (map unit_of value) ≡ true
units_are [] = refl
units_are (b ∷ value) = and_from (is_unit (unit_of b)) (list_all is_unit (map unit_of value)) (unit_is b) (units_are value)
