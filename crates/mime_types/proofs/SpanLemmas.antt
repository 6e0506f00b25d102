-- A text has one longest prefix of a class.
use Rattle.std.proofs.Common.{◌≡◌, ℕ, zero, suc, ◌<◌, ◌≤◌, Bool, true, false, not, List, [], ◌∷◌, ◌++◌, length, take, drop, get_or, Option, Some, None, unwrap_or, refl, sym, ap, ◌∙◌, arith, drop_of_length-le}
use Rattle.std.proofs.Math.Seq.{drop-cons}
use Rattle.std.proofs.lemmas.List.{take-append-drop, take_all}
use Rattle.memchr.specs.Find.{IsFirstByte}
use Rattle.std.specs.List.{list_all}
use Rattle.std.proofs.lemmas.Bool.{and_parts, and_from}
use Rattle.mime_types.specs.Spans.{begins_outside, Spans}
use Rattle.mime_types.proofs.BoolLemmas.{not_from_never}

pub span_unique : (test : ℕ → Bool) (a b x y : List ℕ) → list_all test a ≡ true → list_all test b ≡ true
    → begins_outside test x ≡ true → begins_outside test y ≡ true → a ++ x ≡ b ++ y → (a ≡ b) × (x ≡ y)
span_unique test [] [] x y ina inb outx outy same = (refl, same)
span_unique test [] (c ∷ b) [] y ina inb outx outy same = absurd (cc)
span_unique test [] (c ∷ b) (d ∷ x) y ina inb outx outy same =
    let first : d ≡ c = cc in
    let inside : test c ≡ true = (and_parts (test c) (list_all test b) inb).0 in
    let outside : not (test d) ≡ true = outx in
    absurd (let lie : not (test c) ≡ true = ap (λ e. not (test e)) (sym first) ∙ outside in
    let lie' : not true ≡ true = ap not (sym inside) ∙ lie in cc)
span_unique test (c ∷ a) [] x [] ina inb outx outy same = absurd (cc)
span_unique test (c ∷ a) [] x (d ∷ y) ina inb outx outy same =
    let first : d ≡ c = cc in
    let inside : test c ≡ true = (and_parts (test c) (list_all test a) ina).0 in
    let outside : not (test d) ≡ true = outy in
    absurd (let lie : not (test c) ≡ true = ap (λ e. not (test e)) (sym first) ∙ outside in
    let lie' : not true ≡ true = ap not (sym inside) ∙ lie in cc)
span_unique test (c ∷ a) (d ∷ b) x y ina inb outx outy same =
    let first : c ≡ d = cc in
    let rest : a ++ x ≡ b ++ y = cc in
    let parts = span_unique test a b x y (and_parts (test c) (list_all test a) ina).1
    (and_parts (test d) (list_all test b) inb).1 outx outy rest in
    let prefixes : a ≡ b = parts.0 in
    (cc, parts.1)

-- each text has such a prefix
pub span_of : (test : ℕ → Bool) (text : List ℕ) → (prefix : List ℕ) × (back : List ℕ) × Spans test text prefix back
span_of test [] = ([], [], record { whole = refl; inside = refl; stops = refl })
span_of test (b ∷ text) =
    elim (test b) as (λ v. test b ≡ v → (prefix : List ℕ) × (back : List ℕ) × Spans test (b ∷ text) prefix back) [
      | true ↦ λ inside. let more = span_of test text in (
        b ∷ more.0,
        more.1,
        record {
          whole = ap (λ rest. b ∷ rest) more.2.whole;
          inside = and_from (test b) (list_all test more.0) inside more.2.inside;
          stops = more.2.stops;
        },
      )
      | false ↦ λ outside. ([], b ∷ text, record { whole = refl; inside = refl; stops = ap not outside })
    ] refl

-- the prefix of a text in which a test passes nowhere
pub prefix_fails : (test : ℕ → Bool) (n : ℕ) (text : List ℕ) → n ≤ length text
    → ((k : ℕ) → k < n → test (get_or text k 0) ≡ true → ⊥) → list_all (λ b. not (test b)) (take n text) ≡ true
prefix_fails test zero text within nowhere = refl
prefix_fails test (suc n) [] within nowhere = absurd (omega arith)
prefix_fails test (suc n) (b ∷ text) within nowhere =
    and_from (not (test b)) (list_all (λ b. not (test b)) (take n text)) (not_from_never (test b) (nowhere 0 (omega arith)))
    (prefix_fails test n text (omega arith) (λ k below. nowhere (suc k) (omega arith)))

-- the whole text, where the search finds none
pub all_fail : (test : ℕ → Bool) (text : List ℕ)
    → ((k : ℕ) → 0 ≤ k → k < length text → test (get_or text k 0) ≡ true → ⊥) → list_all (λ b. not (test b)) text ≡ true
all_fail test text nowhere =
    ap (list_all (λ b. not (test b))) (sym (take_all (length text) text (omega arith)))
    ∙ prefix_fails test (length text) text (omega arith) (λ k below. nowhere k (omega arith) below)

-- a search for the first byte of a class cuts the text where the class begins
pub first_byte_spans : (test : ℕ → Bool) (text : List ℕ) (place : Option ℕ) → IsFirstByte test text place
    → Spans (λ b. not (test b)) text (take (unwrap_or place (length text)) text) (drop (unwrap_or place (length text)) text)
first_byte_spans test text None found = record {
  whole = sym (take-append-drop (length text) text);
  inside = prefix_fails test (length text) text (omega arith) (λ k below. found k (omega arith) below);
  stops = ap (begins_outside (λ b. not (test b))) (drop_of_length-le text (omega arith));
}
first_byte_spans test text (Some place) found = record {
  whole = sym (take-append-drop place text);
  inside = prefix_fails test place text (omega (arith, found.0.high)) (λ k below. found.0.before k (omega arith) below);
  stops = ap (begins_outside (λ b. not (test b))) (drop-cons text place 0 found.0.high) ∙ ap (λ v. not (not v)) found.1;
}
