-- Texts that begin with one of a list.
use Rattle.std.proofs.Common.{◌≡◌, ℕ, suc, ◌+◌, ◌<◌, Bool, true, false, not, ◌==◌, List, [], ◌∷◌, ◌++◌, get_or, map, bit_and, refl, sym, ap, ◌∙◌, inl, inr, eq-eqb, arith}
use Rattle.std.specs.Prelude.{position, is_some, nat_eq}
use Rattle.std.specs.List.{list_all, list_any, position_from, starts_with}
use Rattle.std.proofs.lemmas.Bool.{cases_Bool, and_parts, and_from, or_cases, or_right, eqb-true, not-true}
use Rattle.std.proofs.lemmas.Nat.{and_mask}
use Rattle.std.proofs.lemmas.Iterator.Adapters.{position_from-zero}
use Rattle.orb_bytes.specs.Rows.{begins_masked}
use Rattle.orb_bytes.specs.Bytes.{is_whitespace_byte}
use Rattle.orb_bytes.specs.Trim.{without_leading}
use Rattle.orb_bytes.proofs.TrimLemmas.{without_leading-stop}
use Rattle.corb_sniffers.specs.Texts.{IsListed}
use Rattle.corb_sniffers.specs.Breakers.{breakers, BeginsWithBreaker}

-- each member is a byte
abbrev pub AreBytes : List ℕ → Type 0
AreBytes text = (k : ℕ) → get_or text k 0 < 256

pub first_byte : (b : ℕ) (text : List ℕ) → AreBytes (b ∷ text) → b < 256
first_byte b text bytes = bytes 0

pub other_bytes : (b : ℕ) (text : List ℕ) → AreBytes (b ∷ text) → AreBytes text
other_bytes b text bytes k = bytes (suc k)

-- ---- a test of one of a list

pub any_listed : (test : List ℕ → Bool) (names : List (List ℕ)) → list_any test names ≡ true
    → (name : List ℕ) × IsListed names name × (test name ≡ true)
any_listed test [] is = absurd (cc)
any_listed test (name ∷ names) is =
    elim (or_cases (test name) (list_any test names) is) [
      | inl here ↦ (name, inl refl, here)
      | inr later ↦ let more = any_listed test names later in (more.0, inr more.1, more.2)
    ]

pub listed_any : (test : List ℕ → Bool) (names : List (List ℕ)) (name : List ℕ) → IsListed names name → test name ≡ true
    → list_any test names ≡ true
listed_any test [] name listed is = absurd listed
listed_any test (other ∷ names) name (inl same) is = rw (ap test (sym same) ∙ is) refl
listed_any test (other ∷ names) name (inr later) is = or_right (test other) (list_any test names) (listed_any test names name later is)

-- an index is found exactly where some element passes
pub some_position : {X : Type 0} (test : X → Bool) (xs : List X) → is_some (position test xs) ≡ list_any test xs
some_position {X = X} test xs = ap is_some (position_from-zero test xs) ∙ from 0 xs where
  from : (n : ℕ) (xs : List X) → is_some (position_from test n xs) ≡ list_any test xs
  from n [] = refl
  from n (x ∷ xs) = elim (cases_Bool (test x)) [ inl is ↦ rw is refl | inr is ↦ rw is (from (n + 1) xs) ]

-- ---- a mask under which each bit counts

abbrev pub exact_mask : List ℕ → List ℕ
exact_mask name = map (λ _. 255) name

exact_byte : (b : ℕ) → b < 256 → bit_and b 255 ≡ b
exact_byte b byte = and_mask b 8 ∙ omega arith

pub exact_to : (name text : List ℕ) → AreBytes text → begins_masked name (exact_mask name) text ≡ true
    → (rest : List ℕ) × (text ≡ name ++ rest)
exact_to [] text bytes is = (text, refl)
exact_to (b ∷ name) [] bytes is = absurd (cc)
exact_to (b ∷ name) (t ∷ text) bytes is =
    let parts = and_parts (bit_and t 255 == b) (begins_masked name (exact_mask name) text) is in
    let more = exact_to name text (other_bytes t text bytes) parts.1 in
    let same : t ≡ b = sym (exact_byte t (first_byte t text bytes)) ∙ eqb-true (bit_and t 255) b parts.0 in
    (more.0, ap (λ b. b ∷ text) same ∙ ap (λ t. b ∷ t) more.1)

pub exact_from : (name rest : List ℕ) → AreBytes (name ++ rest) → begins_masked name (exact_mask name) (name ++ rest) ≡ true
exact_from [] rest bytes = refl
exact_from (b ∷ name) rest bytes =
    and_from (bit_and b 255 == b) (begins_masked name (exact_mask name) (name ++ rest))
    (eq-eqb (bit_and b 255) b (exact_byte b (first_byte b (name ++ rest) bytes)))
    (exact_from name rest (other_bytes b (name ++ rest) bytes))

-- ---- breakers

abbrev is_breaker_at : List ℕ → List ℕ → Bool
is_breaker_at text name = begins_masked name (exact_mask name) text

pub breaker_to : (text : List ℕ) → AreBytes text → list_any (is_breaker_at text) breakers ≡ true → BeginsWithBreaker text
breaker_to text bytes is =
    let found = any_listed (is_breaker_at text) breakers is in
    let cut = exact_to found.0 text bytes found.2 in
    record { breaker = found.0; listed = found.1; rest = cut.0; cut = cut.1 }

pub breaker_from : (text : List ℕ) → AreBytes text → BeginsWithBreaker text → list_any (is_breaker_at text) breakers ≡ true
breaker_from text bytes h =
    listed_any (is_breaker_at text) breakers h.breaker h.listed
    (ap (λ t. is_breaker_at t h.breaker) h.cut ∙ exact_from h.breaker h.rest (rw h.cut at bytes))

-- no breaker begins with white space
abbrev starts_outside : List ℕ → Bool
starts_outside [] = false
starts_outside (b ∷ name) = not (is_whitespace_byte b)

outside_from : (names : List (List ℕ)) (name : List ℕ) → list_all starts_outside names ≡ true → IsListed names name → starts_outside name ≡ true
outside_from [] name all listed = absurd listed
outside_from (other ∷ names) name all (inl same) = ap starts_outside same ∙ (and_parts (starts_outside other) (list_all starts_outside names) all).0
outside_from (other ∷ names) name all (inr later) = outside_from names name (and_parts (starts_outside other) (list_all starts_outside names) all).1 later

pub breaker_stays : (text : List ℕ) → BeginsWithBreaker text → without_leading is_whitespace_byte text ≡ text
breaker_stays text h = rw h.cut (stays h.breaker (outside_from breakers h.breaker refl h.listed)) where
  stays : (name : List ℕ) → starts_outside name ≡ true → without_leading is_whitespace_byte (name ++ h.rest) ≡ name ++ h.rest
  stays [] is = absurd (cc)
  stays (b ∷ name) is = without_leading-stop is_whitespace_byte b (name ++ h.rest) (not-true (is_whitespace_byte b) is)

-- ---- a text with which another begins

pub starts_to : (name text : List ℕ) → starts_with nat_eq text name ≡ true → (rest : List ℕ) × (text ≡ name ++ rest)
starts_to [] text is = (text, refl)
starts_to (n ∷ name) [] is = absurd (cc)
starts_to (n ∷ name) (b ∷ text) is =
    let parts = and_parts (n == b) (starts_with nat_eq text name) is in
    let more = starts_to name text parts.1 in
    (more.0, ap (λ x. x ∷ text) (sym (eqb-true n b parts.0)) ∙ ap (λ t. n ∷ t) more.1)

pub starts_from : (name rest : List ℕ) → starts_with nat_eq (name ++ rest) name ≡ true
starts_from [] [] = refl
starts_from [] (b ∷ rest) = refl
starts_from (n ∷ name) rest = and_from (n == n) (starts_with nat_eq (name ++ rest) name) (eq-eqb n n refl) (starts_from name rest)
