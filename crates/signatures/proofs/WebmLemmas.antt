-- The signature of WebM and its test.
use Rattle.std.proofs.Common.{◌≡◌, ◌≢◌, ℕ, zero, suc, ◌+◌, ◌≤◌, Bool, true, false, not, ◌==◌, nat_le, nat_eq, List, [], ◌∷◌, ◌++◌, drop, replicate, codes, Option, Some, None, slice_get, Decides, refl, sym, ap, ◌∙◌, inl, inr, arith}
use Rattle.std.specs.List.{starts_with}
use Rattle.std.proofs.lemmas.Bool.{and_parts, and_from, ne_eqb}
use Rattle.std.proofs.lemmas.Bool.Decides.{eqb_tells, Decides-eqb, Decides-and, Decides-like, Decides-not}
use Rattle.orb_bytes.specs.Ascii.{nul}
use Rattle.orb_bytes.specs.Bytes.{is_one_of}
use Rattle.orb_bytes.proofs.TrimLemmas.{without_leading-more, without_leading-stop}
use Rattle.signatures.specs.Patterns.{stands_at, some_below}
use Rattle.signatures.specs.Webm.{IsWebm, IsWebmDocType, ebml_header, doc_type, number_width, begins_padded, is_named_after, is_webm_doc_type, is_webm_offset, is_webm_window}
use Rattle.signatures.proofs.PlaceLemmas.{some_below-Decides}
use Rattle.signatures.proofs.Mp4Lemmas.{leb-Decides}

abbrev begins : List ℕ → List ℕ → Bool
begins text name = starts_with nat_eq text name

abbrev is_nul : ℕ → Bool
is_nul b = is_one_of (nul ∷ []) b

one_nul : (b : ℕ) → b ≡ nul → is_nul b ≡ true
one_nul b same = ap is_nul same

no_nul : (b : ℕ) → b ≢ nul → is_nul b ≡ false
no_nul b other = rw (ne_eqb nul b (λ same. other (sym same))) refl

-- NUL bytes before `webm`, at their number or skipped
padded_to : (text : List ℕ) → begins_padded text ≡ true
    → (zeros : ℕ) × (begins text (replicate zeros 0 ++ codes "webm") ≡ true)
padded_to [] is = absurd (cc)
padded_to (b ∷ text) is =
    elim (eqb_tells b 0) [
      | inl here ↦
          let more = padded_to text (ap (λ t. begins t (codes "webm")) (sym (without_leading-more is_nul b text (one_nul b here.1))) ∙ is) in
          (suc more.0, and_from (0 == b) (begins text (replicate more.0 0 ++ codes "webm")) ((Decides-eqb 0 b).1 (sym here.1)) more.1)
      | inr other ↦ (0, ap (λ t. begins t (codes "webm")) (sym (without_leading-stop is_nul b text (no_nul b other.1))) ∙ is)
    ]

padded_from : (count : ℕ) (text : List ℕ) → begins text (replicate count 0 ++ codes "webm") ≡ true → begins_padded text ≡ true
padded_from zero [] is = absurd (cc)
padded_from zero (b ∷ text) is =
    let first = (Decides-eqb 119 b).0 (and_parts (119 == b) (begins text (codes "ebm")) is).0 in
    ap (λ t. begins t (codes "webm")) (without_leading-stop is_nul b text (no_nul b (λ none. absurd (omega arith)))) ∙ is
padded_from (suc count) [] is = absurd (cc)
padded_from (suc count) (b ∷ text) is =
    let parts = and_parts (0 == b) (begins text (replicate count 0 ++ codes "webm")) is in
    ap (λ t. begins t (codes "webm")) (without_leading-more is_nul b text (one_nul b (sym ((Decides-eqb 0 b).0 parts.0))))
    ∙ padded_from count text parts.1

abbrev Named : Option ℕ → List ℕ → Type 0
Named number text = (first : ℕ) × (number ≡ Some first) × (first ≢ 0)
    × ((zeros : ℕ) × (stands_at (replicate zeros 0 ++ codes "webm") (2 + number_width first) text ≡ true))

named-Decides : (number : Option ℕ) (text : List ℕ) → Decides (is_named_after number text) (Named number text)
named-Decides None text = (λ is. absurd (cc), λ is. let lie = is.1 in absurd (cc))
named-Decides (Some first) text =
    Decides-like (is_named_after (Some first) text)
    (λ is. (first, refl, is.0, padded_to (drop (2 + number_width first) text) is.1))
    (λ is. let same : first ≡ is.0 = cc in (
      λ none. is.2 (sym same ∙ none),
      padded_from is.3.0 (drop (2 + number_width first) text)
          (ap (λ f. stands_at (replicate is.3.0 0 ++ codes "webm") (2 + number_width f) text) same ∙ is.3.1),
    ))
    (Decides-and (not (first == 0)) (begins_padded (drop (2 + number_width first) text))
    (Decides-not (first == 0) (Decides-eqb first 0)) (λ is. is, λ is. is))

pub doc_type-Decides : (text : List ℕ) → Decides (is_webm_doc_type text) (IsWebmDocType text)
doc_type-Decides text =
    Decides-like (is_webm_doc_type text)
    (λ is. record { element = is.0; first = is.1.0; number = is.1.1; nonzero = is.1.2; zeros = is.1.3.0; name = is.1.3.1 })
    (λ is. (is.element, (is.first, is.number, is.nonzero, (is.zeros, is.name))))
    (Decides-and (stands_at doc_type 0 text) (is_named_after (slice_get text 2) text) (λ is. is, λ is. is)
    (named-Decides (slice_get text 2) text))

pub offset-Decides : (window : List ℕ) (offset : ℕ)
    → Decides (is_webm_offset window offset) ((4 ≤ offset) × IsWebmDocType (drop offset window))
offset-Decides window offset =
    Decides-and (nat_le 4 offset) (is_webm_doc_type (drop offset window)) (leb-Decides 4 offset) (doc_type-Decides (drop offset window))

pub webm-Decides : (window : List ℕ) → Decides (is_webm_window window) (IsWebm window)
unfolding is_webm_window
webm-Decides window =
    Decides-like (is_webm_window window)
    (λ is. let facts = (offset-Decides window is.1.0).0 is.1.2 in
    record { header = is.0; offset = is.1.0; from = facts.0; below = is.1.1; named = facts.1 })
    (λ is. (is.header, (is.offset, is.below, (offset-Decides window is.offset).1 (is.from, is.named))))
    (Decides-and (stands_at ebml_header 0 window) (some_below 38 (is_webm_offset window)) (λ is. is, λ is. is)
    (some_below-Decides (is_webm_offset window) 38))

-- an offset from 4 on, by what stands there
pub is_webm_offset-from : (window : List ℕ) (offset : ℕ) → 4 ≤ offset → is_webm_doc_type (drop offset window) ≡ true
    → is_webm_offset window offset ≡ true
is_webm_offset-from window offset from is =
    and_from (nat_le 4 offset) (is_webm_doc_type (drop offset window)) ((leb-Decides 4 offset).1 from) is
