-- The truth value of each sniffer's definition.
use Rattle.std.proofs.Common.{◌≡◌, inl, inr, ℕ, zero, suc, ◌+◌, ◌<◌, true, false, nat_eq, List, [], ◌∷◌, ◌++◌, get_or, length, take, drop, codes, Option, None, Some, refl, sym, ap, ◌∙◌, arith, length-append, append_assoc, is_some}
use Rattle.std.specs.Prelude.{◌↔◌, IsTrue}
use Rattle.std.proofs.Math.Seq.{drop-append_seam, take-append_seam}
use Rattle.std.proofs.lemmas.List.{take-append-drop}
use Rattle.std.proofs.lemmas.Bool.{cases_Bool, and_parts, and_from, false≢true}
use Rattle.std.proofs.lemmas.Slice.Eq.{bytes_eq-Decides}
use Rattle.std.specs.List.{list_any, starts_with}
use Rattle.std.specs.Str.{str_to_ascii_lowercase}
use Rattle.memchr.specs.Find.{OccursAt}
use Rattle.memchr.proofs.lemmas.MatchLemmas.{OccursAt-split}
use Rattle.orb_bytes.specs.Bytes.{is_whitespace_byte, is_tag_terminating}
use Rattle.orb_bytes.specs.Fields.{same_name}
use Rattle.orb_bytes.specs.Trim.{without_leading}
use Rattle.corb_sniffers.specs.Breakers.{breakers, HasBreaker}
use Rattle.corb_sniffers.specs.Html.{tags, EndsFirst, BeginsWithTag, SniffsHtml}
use Rattle.corb_sniffers.specs.HtmlReading.{begins_ending, IsAfterComment, IsNoComment}
use Rattle.corb_sniffers.specs.Xml.{SniffsXml}
use Rattle.corb_sniffers.specs.Json.{SniffsJson}
use Rattle.corb_sniffers.specs.JsonReading.{rest_after_colon}
use Rattle.corb_sniffers.specs.Values.{has_breaker, sniffs_html, sniffs_xml, sniffs_json, begins_with_tag, after_end, after_comment, has_tag_within}
use Rattle.orb_bytes.proofs.TrimLemmas.{leading_of, without_leading-append}
use Rattle.corb_sniffers.proofs.SpaceLemmas.{leading_outside, leading_length}
use Rattle.corb_sniffers.proofs.TextLemmas.{any_listed, listed_any, breaker_stays, starts_to, starts_from}
use Rattle.corb_sniffers.proofs.CommentLemmas.{end, occurs_further}
use Rattle.corb_sniffers.proofs.HtmlLemmas.{spaces_alike, comment_alike, tag_first}
use Rattle.corb_sniffers.proofs.JsonLemmas.{json_to, json_from}

-- ---- breakers

pub breaker_value : (window : List ℕ) → IsTrue (has_breaker window) ↔ HasBreaker window
unfolding has_breaker
breaker_value window = (to, from) where
  to : list_any (starts_with nat_eq (without_leading is_whitespace_byte window)) breakers ≡ true → HasBreaker window
  to is =
      let text = without_leading is_whitespace_byte window in
      let found = any_listed (starts_with nat_eq text) breakers is in
      let begun = starts_to found.0 text found.2 in
      let cut = leading_of is_whitespace_byte window in
      record {
        spaces = cut.0;
        space = cut.1;
        rest = text;
        begins = record { breaker = found.0; listed = found.1; rest = begun.0; cut = begun.1 };
        cut = cut.2;
      }

  from : HasBreaker window → list_any (starts_with nat_eq (without_leading is_whitespace_byte window)) breakers ≡ true
  from h =
      let begins = h.begins in
      let same : without_leading is_whitespace_byte window ≡ begins.breaker ++ begins.rest =
      ap (without_leading is_whitespace_byte) h.cut ∙ without_leading-append is_whitespace_byte h.spaces h.rest h.space
      ∙ breaker_stays h.rest begins ∙ begins.cut in
      listed_any (starts_with nat_eq (without_leading is_whitespace_byte window)) breakers begins.breaker begins.listed
      (ap (λ t. starts_with nat_eq t begins.breaker) same ∙ starts_from begins.breaker begins.rest)

-- ---- XML

pub xml_value : (window : List ℕ) → IsTrue (sniffs_xml window) ↔ SniffsXml window
unfolding sniffs_xml
xml_value window = (to, from) where
  to : starts_with nat_eq (without_leading is_whitespace_byte window) (codes "<?xml") ≡ true → SniffsXml window
  to is =
      let cut = leading_of is_whitespace_byte window in
      let begun = starts_to (codes "<?xml") (without_leading is_whitespace_byte window) is in
      record { spaces = cut.0; space = cut.1; rest = begun.0; cut = cut.2 ∙ ap (λ t. cut.0 ++ t) begun.1 }

  from : SniffsXml window → starts_with nat_eq (without_leading is_whitespace_byte window) (codes "<?xml") ≡ true
  from h =
      ap (λ t. starts_with nat_eq t (codes "<?xml"))
      (ap (without_leading is_whitespace_byte) h.cut ∙ without_leading-append is_whitespace_byte h.spaces (codes "<?xml" ++ h.rest) h.space)
      ∙ starts_from (codes "<?xml") h.rest

-- ---- JSON

pub json_value : (window : List ℕ) → IsTrue (sniffs_json window) ↔ SniffsJson window
unfolding sniffs_json
json_value window = (to (rest_after_colon window) refl, λ h. ap is_some (json_from window h)) where
  to : (after : Option (List ℕ)) → rest_after_colon window ≡ after → is_some after ≡ true → SniffsJson window
  to None none is = absurd (cc)
  to (Some rest) found is = json_to window rest found

-- ---- HTML

ending_first : (text : List ℕ) → begins_ending text ≡ true → (b : ℕ) × (rest : List ℕ) × (text ≡ b ∷ rest) × (is_tag_terminating b ≡ true)
ending_first [] is = absurd (cc)
ending_first (b ∷ rest) is = (b, rest, refl, is)

same_length : (written tag : List ℕ) → str_to_ascii_lowercase written ≡ str_to_ascii_lowercase tag → length written ≡ length tag
same_length [] [] same = refl
same_length [] (c ∷ tag) same = absurd (cc)
same_length (w ∷ written) [] same = absurd (cc)
same_length (w ∷ written) (c ∷ tag) same =
    let others : str_to_ascii_lowercase written ≡ str_to_ascii_lowercase tag = cc in
    omega (arith, same_length written tag others)

tag_to : (text : List ℕ) → list_any (begins_with_tag text) tags ≡ true → BeginsWithTag text
tag_to text is =
    let found = any_listed (begins_with_tag text) tags is in
    let count = length found.0 in
    let parts = and_parts (same_name (take count text) found.0) (begins_ending (drop count text)) found.2 in
    let ending = ending_first (drop count text) parts.1 in
    record {
      tag = found.0;
      listed = found.1;
      written = take count text;
      same = parts.0;
      ending = ending.0;
      ends = ending.3;
      rest = ending.1;
      cut = sym (take-append-drop count text) ∙ ap (λ t. take count text ++ t) ending.2;
    }

tag_from : (text : List ℕ) → BeginsWithTag text → list_any (begins_with_tag text) tags ≡ true
tag_from text h =
    let after = h.ending ∷ h.rest in
    let long = same_length h.written h.tag ((bytes_eq-Decides (str_to_ascii_lowercase h.written) (str_to_ascii_lowercase h.tag)).0 h.same) in
    let taken : take (length h.tag) text ≡ h.written =
    ap (take (length h.tag)) h.cut ∙ ap (λ n. take n (h.written ++ after)) (sym long) ∙ take-append_seam h.written after in
    let dropped : drop (length h.tag) text ≡ after =
    ap (drop (length h.tag)) h.cut ∙ ap (λ n. drop n (h.written ++ after)) (sym long) ∙ drop-append_seam h.written after in
    listed_any (begins_with_tag text) tags h.tag h.listed
    (and_from (same_name (take (length h.tag) text) h.tag) (begins_ending (drop (length h.tag) text))
    (ap (λ t. same_name t h.tag) taken ∙ h.same) (ap begins_ending dropped ∙ h.ends))

pub tag_value : (text : List ℕ) → IsTrue (list_any (begins_with_tag text) tags) ↔ BeginsWithTag text
tag_value text = (tag_to text, tag_from text)

-- what is inside a comment, with one byte more in prefix
ends_first : (b : ℕ) (inside rest : List ℕ) → EndsFirst inside
    → starts_with nat_eq (b ∷ (inside ++ (end ++ rest))) end ≡ false → EndsFirst (b ∷ inside)
ends_first b inside rest first other zero below there =
    let further : OccursAt ((b ∷ (inside ++ end)) ++ rest) end 0 = occurs_further (b ∷ (inside ++ end)) rest 0 there in
    let here : OccursAt (b ∷ (inside ++ (end ++ rest))) end 0 = rw (append_assoc inside end rest) at further in
    let begins = OccursAt-split (b ∷ (inside ++ (end ++ rest))) end 0 here in
    false≢true (sym other ∙ ap (λ t. starts_with nat_eq t end) begins ∙ starts_from end (drop (0 + length end) (b ∷ (inside ++ (end ++ rest)))))
ends_first b inside rest first other (suc k) below there =
    let fits = there.fits in
    first k (omega (arith, below)) (record {
      fits = omega (arith, fits);
      reads = λ j within.
          let next : suc (k + j) ≡ suc k + j = omega arith in
          ap (λ n. get_or (b ∷ (inside ++ end)) n 0) next ∙ there.reads j within;
    })

-- a text up to its first `-->`, and after it
end_found : (text rest : List ℕ) → after_end text ≡ Some rest
    → (inside : List ℕ) × EndsFirst inside × (text ≡ inside ++ (end ++ rest))
end_found [] rest is = absurd (cc)
end_found (b ∷ text) rest is = elim (cases_Bool (starts_with nat_eq (b ∷ text) end)) [
  | inl here ↦
      let begun = starts_to end (b ∷ text) here in
      let found : Some (drop 3 (b ∷ text)) ≡ Some rest = rw here at is in
      let same : drop 3 (b ∷ text) ≡ rest = cc in
      ([], λ k lie. absurd (omega (arith, lie)), begun.1 ∙ ap (λ t. end ++ t) (sym (ap (drop 3) begun.1) ∙ same))
  | inr other ↦
      let later : after_end text ≡ Some rest = rw other at is in
      let more = end_found text rest later in
      let cut = ap (λ t. b ∷ t) more.2 in
      (b ∷ more.0, ends_first b more.0 rest more.1 (sym (ap (λ t. starts_with nat_eq t end) cut) ∙ other), cut)
]

no_end : (text : List ℕ) → after_end text ≡ None → (inside rest : List ℕ) → ¬ (text ≡ inside ++ (end ++ rest))
no_end [] none [] rest same = absurd (cc)
no_end [] none (c ∷ inside) rest same = absurd (cc)
no_end (b ∷ text) none inside rest same = elim (cases_Bool (starts_with nat_eq (b ∷ text) end)) [
  | inl here ↦ let found : Some (drop 3 (b ∷ text)) ≡ None = rw here at none in absurd (cc)
  | inr other ↦ let later : after_end text ≡ None = rw other at none in at_byte inside same other (no_end text later)
] where
  at_byte : (inside : List ℕ) → b ∷ text ≡ inside ++ (end ++ rest) → starts_with nat_eq (b ∷ text) end ≡ false
      → ((inner more : List ℕ) → ¬ (text ≡ inner ++ (end ++ more))) → ⊥
  at_byte [] same other later = false≢true (sym other ∙ ap (λ t. starts_with nat_eq t end) same ∙ starts_from end rest)
  at_byte (c ∷ inside) same other later =
      let others : text ≡ inside ++ (end ++ rest) = cc in later inside rest others

comment_found : (text rest : List ℕ) → after_comment text ≡ Some rest → IsAfterComment text rest
comment_found text rest is = elim (cases_Bool (starts_with nat_eq text (codes "<!--"))) [
  | inl begun ↦
      let found : after_end (drop 4 text) ≡ Some rest = rw begun at is in
      let ends = end_found (drop 4 text) rest found in
      let opened = starts_to (codes "<!--") text begun in
      let within : opened.0 ≡ drop 4 text = sym (ap (drop 4) opened.1) in
      record { inside = ends.0; first = ends.1; cut = opened.1 ∙ ap (λ t. codes "<!--" ++ t) (within ∙ ends.2) }
  | inr other ↦ let none : None ≡ Some rest = rw other at is in absurd (cc)
]

no_comment : (text : List ℕ) → after_comment text ≡ None → IsNoComment text
no_comment text none inside rest first cut =
    let begun : starts_with nat_eq text (codes "<!--") ≡ true =
    ap (λ t. starts_with nat_eq t (codes "<!--")) cut ∙ starts_from (codes "<!--") (inside ++ (end ++ rest)) in
    let no_more : after_end (drop 4 text) ≡ None = rw begun at none in
    no_end (drop 4 text) no_more inside rest (ap (drop 4) cut)

-- a text shorter than n
html_within : (n : ℕ) (text : List ℕ) → length text < n → IsTrue (has_tag_within n text) ↔ SniffsHtml text
html_within zero text below = absurd (omega (arith, below))
html_within (suc n) text below = by (λ after. html_within n after) (after_comment (without_leading is_whitespace_byte text)) refl where
  by : ((after : List ℕ) → length after < n → IsTrue (has_tag_within n after) ↔ SniffsHtml after)
      → (after : Option (List ℕ)) → after_comment (without_leading is_whitespace_byte text) ≡ after
      → IsTrue (has_tag_within (suc n) text) ↔ SniffsHtml text
  by within (Some after) found =
      let rest = without_leading is_whitespace_byte text in
      let spaces = spaces_alike text in
      let comment = comment_found rest after found in
      let alike = comment_alike comment.inside after comment.first in
      let whole = ap length comment.cut in
      let more = within after
      (omega (arith, below, whole, leading_length is_whitespace_byte text, length-append comment.inside (end ++ after))) in
      rw (has_tag_within, found) (λ is. spaces.1 (rw comment.cut (alike.1 (more.0 is))), λ h. more.1 (alike.0 (rw comment.cut at (spaces.0 h))))
  by within None none =
      let rest = without_leading is_whitespace_byte text in
      let spaces = spaces_alike text in
      rw (has_tag_within, none) (
        λ is. spaces.1 (record { pieces = []; good = tt; rest = rest; cut = refl; tag = tag_to rest is }),
        λ h. tag_from rest (tag_first rest (λ b others is. leading_outside is_whitespace_byte text b others is) (no_comment rest none) (spaces.0 h)),
      )

pub html_value : (window : List ℕ) → IsTrue (sniffs_html window) ↔ SniffsHtml window
unfolding sniffs_html
html_value window = html_within (length window + 1) window (omega arith)
