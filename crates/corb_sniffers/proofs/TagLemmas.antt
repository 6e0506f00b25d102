-- Tags in either case, and what they are not.
use Rattle.std.proofs.Common.{◌≡◌, ℕ, Bool, true, false, not, ◌&&◌, ◌||◌, ◌==◌, List, [], ◌∷◌, ◌++◌, length, drop, map, codes, bit_and, refl, sym, ap, ◌∙◌, inl, inr, eq-eqb, arith, if◌then◌else◌}
use Rattle.std.proofs.Math.Seq.{drop-append_seam}
use Rattle.std.proofs.lemmas.List.{map-append}
use Rattle.std.specs.Char.{to_ascii_lowercase, is_ascii_uppercase}
use Rattle.std.specs.Str.{str_to_ascii_lowercase}
use Rattle.std.specs.List.{list_all, list_any}
use Rattle.std.proofs.lemmas.Bool.{cases_Bool, and_parts, and_from, eqb-true, agree_below, agree_below_at}
use Rattle.std.proofs.lemmas.Bool.Decides.{nat_tests}
use Rattle.std.proofs.lemmas.Slice.Eq.{bytes_eq-Decides}
use Rattle.orb_bytes.specs.Bytes.{is_one_of, is_tag_terminating, is_whitespace_byte}
use Rattle.orb_bytes.specs.Rows.{begins_masked}
use Rattle.corb_sniffers.specs.Texts.{IsListed}
use Rattle.corb_sniffers.specs.Html.{tags, BeginsWithTag}
use Rattle.corb_sniffers.specs.HtmlReading.{begins_ending}
use Rattle.corb_sniffers.proofs.TextLemmas.{AreBytes, first_byte, other_bytes, any_listed, listed_any}

-- the mask of a tag's byte: a letter counts in either case
abbrev pub case_mask_of : ℕ → ℕ
case_mask_of c = if is_ascii_uppercase c then 0xdf else 0xff

abbrev pub case_mask : List ℕ → List ℕ
case_mask name = map case_mask_of name

-- the bytes that tags have
abbrev letters : List ℕ
letters = codes "<! 1ABCDEFHILMNOPRSTVY"

-- for each of them the mask takes just the bytes of the same letter
abbrev agrees : ℕ → Bool
agrees c = agree_below (λ b. bit_and b (case_mask_of c) == c) (λ b. to_ascii_lowercase b == to_ascii_lowercase c) 256

letters_agree : list_all agrees letters ≡ true
letters_agree = refl

letter_agrees : (c : ℕ) (cs : List ℕ) → list_all agrees cs ≡ true → is_one_of cs c ≡ true → agrees c ≡ true
letter_agrees c [] all is = absurd (cc)
letter_agrees c (d ∷ cs) all is =
    let parts = and_parts (agrees d) (list_all agrees cs) all in
    elim (cases_Bool (d == c)) [
      | inl same ↦ ap agrees (sym (eqb-true d c same)) ∙ parts.0
      | inr other ↦ let later : is_one_of cs c ≡ true = rw other at is in letter_agrees c cs parts.1 later
    ]

-- a text under a tag's masks is the tag in either case
abbrev pub AreLetters : List ℕ → Type 0
AreLetters name = list_all (is_one_of letters) name ≡ true

masked_to : (name text : List ℕ) → AreLetters name → AreBytes text → begins_masked name (case_mask name) text ≡ true
    → (written rest : List ℕ) × (text ≡ written ++ rest) × (length written ≡ length name)
    × (str_to_ascii_lowercase written ≡ str_to_ascii_lowercase name)
masked_to [] text known bytes is = ([], text, refl, refl, refl)
masked_to (c ∷ name) [] known bytes is = absurd (cc)
masked_to (c ∷ name) (t ∷ text) known bytes is =
    let parts = and_parts (bit_and t (case_mask_of c) == c) (begins_masked name (case_mask name) text) is in
    let letter = and_parts (is_one_of letters c) (list_all (is_one_of letters) name) known in
    let more = masked_to name text letter.1 (other_bytes t text bytes) parts.1 in
    let same = agree_below_at (λ b. bit_and b (case_mask_of c) == c) (λ b. to_ascii_lowercase b == to_ascii_lowercase c) 256 t
    (letter_agrees c letters letters_agree letter.0) (first_byte t text bytes) in
    let lower : to_ascii_lowercase t ≡ to_ascii_lowercase c = eqb-true _ _ (sym same ∙ parts.0) in
    (t ∷ more.0, more.1, ap (λ r. t ∷ r) more.2, omega (arith, more.3), ap (λ b. b ∷ str_to_ascii_lowercase more.0) lower ∙ ap (λ r. to_ascii_lowercase c ∷ r) more.4)

masked_from : (name written rest : List ℕ) → AreLetters name → AreBytes (written ++ rest)
    → str_to_ascii_lowercase written ≡ str_to_ascii_lowercase name
    → (begins_masked name (case_mask name) (written ++ rest) ≡ true) × (length written ≡ length name)
masked_from [] [] rest known bytes same = (refl, refl)
masked_from [] (w ∷ written) rest known bytes same = absurd (cc)
masked_from (c ∷ name) [] rest known bytes same = absurd (cc)
masked_from (c ∷ name) (w ∷ written) rest known bytes same =
    let letter = and_parts (is_one_of letters c) (list_all (is_one_of letters) name) known in
    let lower : to_ascii_lowercase w ≡ to_ascii_lowercase c = cc in
    let later : str_to_ascii_lowercase written ≡ str_to_ascii_lowercase name = cc in
    let more = masked_from name written rest letter.1 (other_bytes w (written ++ rest) bytes) later in
    let agree = agree_below_at (λ b. bit_and b (case_mask_of c) == c) (λ b. to_ascii_lowercase b == to_ascii_lowercase c) 256 w
    (letter_agrees c letters letters_agree letter.0) (first_byte w (written ++ rest) bytes) in (
      and_from (bit_and w (case_mask_of c) == c) (begins_masked name (case_mask name) (written ++ rest))
          (agree ∙ eq-eqb _ _ lower) more.0,
      omega (arith, more.1),
    )

-- ---- the list of tags

-- the text begins with a tag under its masks, and a byte that ends it
abbrev pub is_tag_at : List ℕ → List ℕ → Bool
is_tag_at text name = begins_masked name (case_mask name) text && begins_ending (drop (length name) text)

known_names : (names : List (List ℕ)) (name : List ℕ) → list_all (λ n. list_all (is_one_of letters) n) names ≡ true
    → IsListed names name → AreLetters name
known_names [] name all listed = absurd listed
known_names (other ∷ names) name all (inl same) =
    ap (λ n. list_all (is_one_of letters) n) same ∙ (and_parts (list_all (is_one_of letters) other) (list_all (λ n. list_all (is_one_of letters) n) names) all).0
known_names (other ∷ names) name all (inr later) =
    known_names names name (and_parts (list_all (is_one_of letters) other) (list_all (λ n. list_all (is_one_of letters) n) names) all).1 later

tag_letters : (name : List ℕ) → IsListed tags name → AreLetters name
tag_letters name listed = known_names tags name refl listed

ending_of : (text : List ℕ) → begins_ending text ≡ true → (b : ℕ) × (rest : List ℕ) × (text ≡ b ∷ rest) × (is_tag_terminating b ≡ true)
ending_of [] is = absurd (cc)
ending_of (b ∷ rest) is = (b, rest, refl, is)

pub tag_to : (text : List ℕ) → AreBytes text → list_any (is_tag_at text) tags ≡ true → BeginsWithTag text
tag_to text bytes is =
    let found = any_listed (is_tag_at text) tags is in
    let name = found.0 in
    let parts = and_parts (begins_masked name (case_mask name) text) (begins_ending (drop (length name) text)) found.2 in
    let cut = masked_to name text (tag_letters name found.1) bytes parts.0 in
    let rest_is : drop (length name) text ≡ cut.1 =
    ap (λ t. drop (length name) t) cut.2 ∙ ap (λ n. drop n (cut.0 ++ cut.1)) (sym cut.3) ∙ drop-append_seam cut.0 cut.1 in
    let ending = ending_of cut.1 (ap begins_ending (sym rest_is) ∙ parts.1) in
    record {
      tag = name;
      listed = found.1;
      written = cut.0;
      same = (bytes_eq-Decides (str_to_ascii_lowercase cut.0) (str_to_ascii_lowercase name)).1 cut.4;
      ending = ending.0;
      ends = ending.3;
      rest = ending.1;
      cut = cut.2 ∙ ap (λ t. cut.0 ++ t) ending.2;
    }

pub tag_from : (text : List ℕ) → AreBytes text → BeginsWithTag text → list_any (is_tag_at text) tags ≡ true
tag_from text bytes h =
    listed_any (is_tag_at text) tags h.tag h.listed
    (rw (h.cut) (both (masked_from h.tag h.written (h.ending ∷ h.rest) (tag_letters h.tag h.listed) (rw h.cut at bytes)
    ((bytes_eq-Decides (str_to_ascii_lowercase h.written) (str_to_ascii_lowercase h.tag)).0 h.same)))) where
      both : (begins_masked h.tag (case_mask h.tag) (h.written ++ (h.ending ∷ h.rest)) ≡ true) × (length h.written ≡ length h.tag)
          → is_tag_at (h.written ++ (h.ending ∷ h.rest)) h.tag ≡ true
      both facts =
          and_from (begins_masked h.tag (case_mask h.tag) (h.written ++ (h.ending ∷ h.rest))) (begins_ending (drop (length h.tag) (h.written ++ (h.ending ∷ h.rest)))) facts.0
          (ap (λ n. begins_ending (drop n (h.written ++ (h.ending ∷ h.rest)))) (sym facts.1)
          ∙ ap begins_ending (drop-append_seam h.written (h.ending ∷ h.rest)) ∙ h.ends)

-- ---- what a tag's first bytes are

-- in ASCII lowercase, what begins with a tag begins as one of the list
lower_of : (text : List ℕ) (h : BeginsWithTag text)
    → str_to_ascii_lowercase text ≡ str_to_ascii_lowercase h.tag ++ str_to_ascii_lowercase (h.ending ∷ h.rest)
lower_of text h =
    ap str_to_ascii_lowercase h.cut ∙ map-append to_ascii_lowercase h.written (h.ending ∷ h.rest)
    ∙ ap (λ t. t ++ str_to_ascii_lowercase (h.ending ∷ h.rest))
    ((bytes_eq-Decides (str_to_ascii_lowercase h.written) (str_to_ascii_lowercase h.tag)).0 h.same)

-- `<` and not the beginning of a comment
abbrev starts_apart : List ℕ → Bool
starts_apart [] = false
starts_apart (a ∷ []) = false
starts_apart (a ∷ b ∷ []) = to_ascii_lowercase a == 60 && not (to_ascii_lowercase b == 33)
starts_apart (a ∷ b ∷ c ∷ name) = to_ascii_lowercase a == 60 && (not (to_ascii_lowercase b == 33) || not (to_ascii_lowercase c == 45))

apart_from : (names : List (List ℕ)) (name : List ℕ) → list_all starts_apart names ≡ true → IsListed names name → starts_apart name ≡ true
apart_from [] name all listed = absurd listed
apart_from (other ∷ names) name all (inl same) = ap starts_apart same ∙ (and_parts (starts_apart other) (list_all starts_apart names) all).0
apart_from (other ∷ names) name all (inr later) = apart_from names name (and_parts (starts_apart other) (list_all starts_apart names) all).1 later

no_comment : (name rest more : List ℕ) → starts_apart name ≡ true
    → ¬ (60 ∷ 33 ∷ 45 ∷ 45 ∷ more ≡ str_to_ascii_lowercase name ++ rest)
no_comment [] rest more is same = absurd (cc)
no_comment (a ∷ []) rest more is same = absurd (cc)
no_comment (a ∷ b ∷ []) rest more is same =
    let second : to_ascii_lowercase b ≡ 33 = cc in
    let lie : (to_ascii_lowercase a == 60 && not (33 == 33)) ≡ true = rw second at is in
    let none = (and_parts (to_ascii_lowercase a == 60) false lie).1 in absurd (cc)
no_comment (a ∷ b ∷ c ∷ name) rest more is same =
    let second : to_ascii_lowercase b ≡ 33 = cc in
    let third : to_ascii_lowercase c ≡ 45 = cc in
    let lie : (to_ascii_lowercase a == 60 && (not (33 == 33) || not (45 == 45))) ≡ true = rw (second, third) at is in
    let none = (and_parts (to_ascii_lowercase a == 60) false lie).1 in absurd (cc)

opens : (name rest : List ℕ) (b : ℕ) (more : List ℕ) → starts_apart name ≡ true
    → b ∷ more ≡ str_to_ascii_lowercase name ++ rest → b ≡ 60
opens [] rest b more is same = absurd (cc)
opens (a ∷ []) rest b more is same = absurd (cc)
opens (a ∷ c ∷ []) rest b more is same =
    let first : b ≡ to_ascii_lowercase a = cc in first ∙ eqb-true _ 60 (and_parts (to_ascii_lowercase a == 60) _ is).0
opens (a ∷ c ∷ d ∷ name) rest b more is same =
    let first : b ≡ to_ascii_lowercase a = cc in first ∙ eqb-true _ 60 (and_parts (to_ascii_lowercase a == 60) _ is).0

pub tag_is_no_comment : (more : List ℕ) → ¬ BeginsWithTag (codes "<!--" ++ more)
tag_is_no_comment more h =
    no_comment h.tag (str_to_ascii_lowercase (h.ending ∷ h.rest)) (str_to_ascii_lowercase more) (apart_from tags h.tag refl h.listed)
    (lower_of (codes "<!--" ++ more) h)

no_space : (b : ℕ) → is_whitespace_byte b ≡ true → to_ascii_lowercase b ≡ 60 → ⊥
no_space b space is = grind (arith, nat_tests)

pub tag_is_no_space : (b : ℕ) (text : List ℕ) → is_whitespace_byte b ≡ true → ¬ BeginsWithTag (b ∷ text)
tag_is_no_space b text space h =
    no_space b space (opens h.tag (str_to_ascii_lowercase (h.ending ∷ h.rest)) (to_ascii_lowercase b) (str_to_ascii_lowercase text)
    (apart_from tags h.tag refl h.listed) (lower_of (b ∷ text) h))
