-- The beginning of an object, as it is cut and as it is read.
use Rattle.std.proofs.Common.{◌≡◌, ℕ, true, false, not, ◌&&◌, ◌==◌, List, [], ◌∷◌, ◌++◌, Option, None, Some, refl, ap, ◌∙◌, inl, inr, eq-eqb}
use Rattle.std.specs.Prelude.{MatchOption, is_some}
use Rattle.std.specs.Option.{option_and_then}
use Rattle.std.proofs.lemmas.Bool.{cases_Bool, and_parts, eqb-true, not-true}
use Rattle.orb_bytes.specs.Bytes.{AllPass, is_http_whitespace}
use Rattle.orb_bytes.specs.Trim.{without_leading}
use Rattle.orb_bytes.proofs.TrimLemmas.{without_leading-stop, without_leading-append, leading_of}
use Rattle.corb_sniffers.specs.Json.{SniffsJson, NameUnit, Plain, Escaped, IsUnit, AreUnits, units_text, is_text_byte}
use Rattle.orb_bytes.specs.Ascii.{quotation_mark, colon, reverse_solidus, left_curly_bracket}
use Rattle.corb_sniffers.specs.JsonReading.{rest_after_first, rest_after_byte, rest_after_name, rest_after_colon}

-- white space, the byte, and the rest
pub byte_cut : (byte : ℕ) (text rest : List ℕ) → rest_after_byte byte text ≡ Some rest
    → (spaces : List ℕ) × AllPass is_http_whitespace spaces × (text ≡ spaces ++ (byte ∷ rest))
byte_cut byte text rest is =
    let cut = leading_of is_http_whitespace text in
    (cut.0, cut.1, cut.2 ∙ ap (λ t. cut.0 ++ t) (first (without_leading is_http_whitespace text) is)) where
      first : (t : List ℕ) → rest_after_first byte t ≡ Some rest → t ≡ byte ∷ rest
      first [] lie = absurd (cc)
      first (b ∷ t) so = elim (cases_Bool (b == byte)) [
        | inl same ↦ let found : Some t ≡ Some rest = rw same at so in let e : t ≡ rest = cc in rw (eqb-true b byte same, e) refl
        | inr other ↦ let none : None ≡ Some rest = rw other at so in absurd (cc)
      ]

pub byte_read : (byte : ℕ) (spaces rest : List ℕ) → AllPass is_http_whitespace spaces → is_http_whitespace byte ≡ false
    → rest_after_byte byte (spaces ++ (byte ∷ rest)) ≡ Some rest
byte_read byte spaces rest all outside =
    rw (without_leading-append is_http_whitespace spaces (byte ∷ rest) all, without_leading-stop is_http_whitespace byte rest outside)
    (rw (eq-eqb byte byte refl) refl)

-- units, the quote, and the rest
pub name_cut : (text rest : List ℕ) → rest_after_name text ≡ Some rest
    → (name : List NameUnit) × AreUnits name × (text ≡ units_text name (quotation_mark ∷ rest))
name_cut [] rest is = absurd (cc)
name_cut (b ∷ []) rest is =
    elim (cases_Bool (b == quotation_mark)) [
      | inl same ↦
          let found : Some [] ≡ Some rest = rw same at is in
          let e : [] ≡ rest = cc in
          ([], tt, ap (λ x. x ∷ []) (eqb-true b quotation_mark same) ∙ ap (λ t. quotation_mark ∷ t) e)
      | inr other ↦ let none : None ≡ Some rest = rw other at is in absurd (cc)
    ]
name_cut (b ∷ c ∷ text) rest is =
    elim (cases_Bool (b == quotation_mark)) [
      | inl same ↦
          let found : Some (c ∷ text) ≡ Some rest = rw same at is in
          let e : c ∷ text ≡ rest = cc in
          ([], tt, ap (λ x. x ∷ c ∷ text) (eqb-true b quotation_mark same) ∙ ap (λ t. quotation_mark ∷ t) e)
      | inr no_quote ↦ elim (cases_Bool (b == reverse_solidus)) [
        | inl escape ↦ elim (cases_Bool (is_text_byte c)) [
          | inl good ↦
              let later : rest_after_name text ≡ Some rest = rw (no_quote, escape, good) at is in
              let more = name_cut text rest later in
              (Escaped c ∷ more.0, (good, more.1), ap (λ x. x ∷ c ∷ text) (eqb-true b reverse_solidus escape) ∙ ap (λ t. reverse_solidus ∷ c ∷ t) more.2)
          | inr bad ↦ let none : None ≡ Some rest = rw (no_quote, escape, bad) at is in absurd (cc)
        ]
        | inr no_escape ↦ elim (cases_Bool (is_text_byte b)) [
          | inl good ↦
              let later : rest_after_name (c ∷ text) ≡ Some rest = rw (no_quote, no_escape, good) at is in
              let more = name_cut (c ∷ text) rest later in
              (Plain b ∷ more.0, (rw (good, no_quote, no_escape) refl, more.1), ap (λ t. b ∷ t) more.2)
          | inr bad ↦ let none : None ≡ Some rest = rw (no_quote, no_escape, bad) at is in absurd (cc)
        ]
      ]
    ]

-- a plain byte is passed
plain_passed : (b : ℕ) (text : List ℕ) → IsUnit (Plain b) → rest_after_name (b ∷ text) ≡ rest_after_name text
plain_passed b text good =
    let parts = and_parts (is_text_byte b) (not (b == quotation_mark) && not (b == reverse_solidus)) good in
    let others = and_parts (not (b == quotation_mark)) (not (b == reverse_solidus)) parts.1 in
    let no_quote = not-true (b == quotation_mark) others.0 in
    let no_escape = not-true (b == reverse_solidus) others.1 in
    one text no_quote no_escape parts.0 where
      one : (text : List ℕ) → (b == quotation_mark) ≡ false → (b == reverse_solidus) ≡ false → is_text_byte b ≡ true → rest_after_name (b ∷ text) ≡ rest_after_name text
      one [] q e t = rw q refl
      one (c ∷ text) q e t = rw (q, e, t) refl

pub name_read : (name : List NameUnit) (rest : List ℕ) → AreUnits name → rest_after_name (units_text name (quotation_mark ∷ rest)) ≡ Some rest
name_read [] [] good = refl
name_read [] (c ∷ rest) good = refl
name_read (Plain b ∷ name) rest good =
    plain_passed b (units_text name (quotation_mark ∷ rest)) good.0 ∙ name_read name rest good.1
name_read (Escaped b ∷ name) rest good = rw good.0 (name_read name rest good.1)

-- ---- the whole

pub json_to : (window rest : List ℕ) → rest_after_colon window ≡ Some rest → SniffsJson window
json_to window rest is = object (rest_after_byte left_curly_bracket window) refl is where
  member : (text name colons : List ℕ) → rest_after_byte left_curly_bracket window ≡ Some text → rest_after_byte quotation_mark text ≡ Some name
      → rest_after_name name ≡ Some colons → rest_after_byte colon colons ≡ Some rest → SniffsJson window
  member text name colons one two three four =
      let first = byte_cut left_curly_bracket window text one in
      let second = byte_cut quotation_mark text name two in
      let third = name_cut name colons three in
      let fourth = byte_cut colon colons rest four in
      record {
        before_brace = first.0;
        before_name = second.0;
        before_colon = fourth.0;
        spaces = (first.1, second.1, fourth.1);
        name = third.0;
        good = third.1;
        rest = rest;
        cut = first.2 ∙ ap (λ t. first.0 ++ (left_curly_bracket ∷ t))
            (second.2 ∙ ap (λ t. second.0 ++ (quotation_mark ∷ t)) (third.2 ∙ ap (λ t. units_text third.0 (quotation_mark ∷ t)) fourth.2));
      }

  named : (text name : List ℕ) (o : Option (List ℕ)) → rest_after_byte left_curly_bracket window ≡ Some text → rest_after_byte quotation_mark text ≡ Some name
      → rest_after_name name ≡ o → option_and_then (rest_after_byte colon) o ≡ Some rest → SniffsJson window
  named text name None one two three lie = absurd (cc)
  named text name (Some colons) one two three four = member text name colons one two three four

  opened : (text : List ℕ) (o : Option (List ℕ)) → rest_after_byte left_curly_bracket window ≡ Some text → rest_after_byte quotation_mark text ≡ o
      → option_and_then (rest_after_byte colon) (option_and_then rest_after_name o) ≡ Some rest → SniffsJson window
  opened text None one two lie = absurd (cc)
  opened text (Some name) one two more = named text name (rest_after_name name) one two refl more

  object : (o : Option (List ℕ)) → rest_after_byte left_curly_bracket window ≡ o
      → option_and_then (rest_after_byte colon) (option_and_then rest_after_name (option_and_then (rest_after_byte quotation_mark) o)) ≡ Some rest → SniffsJson window
  object None one lie = absurd (cc)
  object (Some text) one more = opened text (rest_after_byte quotation_mark text) one refl more

pub json_from : (window : List ℕ) (h : SniffsJson window) → rest_after_colon window ≡ Some h.rest
json_from window h =
    ap rest_after_colon h.cut
    ∙ rw (byte_read left_curly_bracket h.before_brace (h.before_name ++ (quotation_mark ∷ units_text h.name (quotation_mark ∷ (h.before_colon ++ (colon ∷ h.rest))))) h.spaces.0 refl)
    (rw (byte_read quotation_mark h.before_name (units_text h.name (quotation_mark ∷ (h.before_colon ++ (colon ∷ h.rest)))) h.spaces.1 refl)
    (rw (name_read h.name (h.before_colon ++ (colon ∷ h.rest)) h.good) (byte_read colon h.before_colon h.rest h.spaces.2 refl)))

-- what was read tells whether the window sniffs as JSON
pub json_tells : {X : Type 0} (now : X → List ℕ) (window : List ℕ) (read : Option X)
    → MatchOption read (rest_after_colon window ≡ None) (λ rest. rest_after_colon window ≡ Some (now rest))
    → (is_some read ≡ true → SniffsJson window) × (SniffsJson window → is_some read ≡ true)
json_tells now window None is = (λ lie. absurd (cc), λ h. let found = json_from window h in absurd (cc))
json_tells now window (Some rest) is = (λ so. json_to window (now rest) is, λ h. refl)
