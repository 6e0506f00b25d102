-- Numbers in decimal: digits alone, so that nothing is trimmed of them, and no comma cuts them.
use Rattle.std.proofs.Common.{◌≡◌, ℕ, zero, suc, ◌+◌, ◌/◌, ◌%◌, ◌<◌, ◌≤◌, ◌^◌, ◌==◌, Bool, true, false, cond, nat_le, List, [], ◌∷◌, ◌++◌, length, reverse, Some, None, refl, sym, ap, ◌∙◌, arith, pow-suc}
use Rattle.std.specs.Prelude.{decimal}
use Rattle.std.specs.List.{list_all}
use Rattle.std.specs.Char.{is_ascii_digit}
use Rattle.std.proofs.lemmas.Bool.{and_parts, and_from}
use Rattle.std.proofs.lemmas.Bool.Decides.{nat_tests}
use Rattle.std.proofs.lemmas.List.{reverse-append, reverse-reverse, length-reverse}
use Rattle.std.specs.Fmt.{digit_glyph, digits_onto, digits}
use Rattle.std.proofs.lemmas.Fmt.{decimal_is_IsNumeral, length-decimal-le}
use Rattle.mime_types.proofs.TrailingLemmas.{list_all-reverse}
use Rattle.httparse.specs.Grammar.{is_ows, is_value_byte, skip_ows, trim_ows}
use Rattle.orb_bytes.specs.Ascii.{space, comma, quotation_mark}
use Rattle.orb_bytes.specs.Bytes.{is_http_whitespace, is_tab_or_space}
use Rattle.orb_bytes.specs.Trim.{trimmed, without_leading, without_trailing}
use Rattle.orb_bytes.specs.Decimal.{decimal_of}
use Rattle.header_values.specs.Cuts.{cuts_left, parts_of}
use Rattle.http_exchange.proofs.HeadTextLemmas.{all_pass}

-- some digits
pub record AreDigits (text : List ℕ) : Type 0 where
  pub some : 0 < length text
  pub digits : list_all is_ascii_digit text ≡ true

glyph_is_digit : (n : ℕ) → is_ascii_digit (digit_glyph false (n % 10)) ≡ true
glyph_is_digit n = grind (arith, nat_tests)

-- `decimal` writes at most the last 64 digits of a number, before those that were written
spelled : (k n : ℕ) (after : List ℕ) → list_all is_ascii_digit after ≡ true
    → list_all is_ascii_digit (digits_onto k 10 false n after) ≡ true
spelled zero n after are = are
spelled (suc k) n after are =
    let more = and_from _ _ (glyph_is_digit n) are in
    by (n / 10 == 0) more (spelled k (n / 10) (digit_glyph false (n % 10) ∷ after) more)
  where
    by : (t : Bool) → list_all is_ascii_digit (digit_glyph false (n % 10) ∷ after) ≡ true
        → list_all is_ascii_digit (digits_onto k 10 false (n / 10) (digit_glyph false (n % 10) ∷ after)) ≡ true
        → list_all is_ascii_digit (cond t (digit_glyph false (n % 10) ∷ after) (digits_onto k 10 false (n / 10) (digit_glyph false (n % 10) ∷ after))) ≡ true
    by true last further = last
    by false last further = further

spelled_long : (k n : ℕ) (after : List ℕ) → length after ≤ length (digits_onto k 10 false n after)
spelled_long zero n after = omega arith
spelled_long (suc k) n after = by (n / 10 == 0) (spelled_long k (n / 10) (digit_glyph false (n % 10) ∷ after))
  where
    by : (t : Bool) → suc (length after) ≤ length (digits_onto k 10 false (n / 10) (digit_glyph false (n % 10) ∷ after))
        → length after ≤ length (cond t (digit_glyph false (n % 10) ∷ after) (digits_onto k 10 false (n / 10) (digit_glyph false (n % 10) ∷ after)))
    by true further = omega arith
    by false further = omega (arith, further)

spelled_some : (n : ℕ) → 0 < length (digits_onto 64 10 false n [])
spelled_some n = by (n / 10 == 0)
  where
    by : (t : Bool) → 0 < length (cond t (digit_glyph false (n % 10) ∷ []) (digits_onto 63 10 false (n / 10) (digit_glyph false (n % 10) ∷ [])))
    by true = omega arith
    by false = omega (arith, spelled_long 63 (n / 10) (digit_glyph false (n % 10) ∷ []))

some_power : (j : ℕ) → 0 < 10 ^ j
some_power zero = omega arith
some_power (suc j) = omega (arith, pow-suc 10 j, some_power j)

-- a number of more than j digits
spelled_least : (j k n : ℕ) (after : List ℕ) → j < k → 10 ^ j ≤ n → length after + j < length (digits_onto k 10 false n after)
spelled_least j zero n after less large = absurd (omega (arith, less))
spelled_least zero (suc k) n after less large = by (n / 10 == 0)
  where
    by : (t : Bool) → length after + 0 < length (cond t (digit_glyph false (n % 10) ∷ after) (digits_onto k 10 false (n / 10) (digit_glyph false (n % 10) ∷ after)))
    by true = omega arith
    by false = omega (arith, spelled_long k (n / 10) (digit_glyph false (n % 10) ∷ after))
spelled_least (suc j) (suc k) n after less large =
    let fewer : 10 ^ j ≤ n / 10 = omega (arith, large, pow-suc 10 j) in
    let more : (n / 10 == 0) ≡ false = grind (arith, nat_tests, fewer, some_power j) in
    let further = spelled_least j k (n / 10) (digit_glyph false (n % 10) ∷ after) (omega (arith, less)) fewer in
    rw more (omega (arith, further))

pub decimal-digits : (n : ℕ) → AreDigits (decimal n)
unfolding digits
decimal-digits n = record { some = spelled_some n; digits = spelled 64 n [] refl }

all_digits : (n : ℕ) → list_all is_ascii_digit (decimal n) ≡ true
all_digits n = (decimal-digits n).digits

pub length-decimal-ge : (j n : ℕ) → j < 64 → 10 ^ j ≤ n → j < length (decimal n)
unfolding digits
length-decimal-ge j n few large = omega (arith, spelled_least j 64 n [] few large)

pub reverse-digits : (text : List ℕ) → AreDigits text → AreDigits (reverse text)
reverse-digits text are = record {
  some = omega (arith, length-reverse text, are.some);
  digits = list_all-reverse is_ascii_digit text are.digits;
}

-- a number of three digits is written with three
pub three_digits : (n : ℕ) → 100 ≤ n → n < 1000 → length (decimal n) ≡ 3
three_digits n large small =
    omega (arith, length-decimal-ge 2 n (omega arith) large, length-decimal-le 3 n (omega arith) small (omega (arith, small)))

-- they are read as the number that they write
pub decimal_of-decimal : (n : ℕ) → n < 10 ^ 19 → decimal_of (decimal n) ≡ Some n
decimal_of-decimal n small =
    let fits : n < 2 ^ 64 = omega arith in
    let some : nat_le 1 (length (decimal n)) ≡ true = grind (arith, nat_tests, (decimal-digits n).some) in
    let few : nat_le (length (decimal n)) 19 ≡ true = grind (arith, nat_tests, length-decimal-le 19 n (omega arith) small fits) in
    rw (some, few, all_digits n) (ap Some (decimal_is_IsNumeral n fits).1)

-- and a greater number isn't read
pub decimal_of-greater : (n : ℕ) → 10 ^ 19 ≤ n → decimal_of (decimal n) ≡ None
decimal_of-greater n large =
    let many : nat_le (length (decimal n)) 19 ≡ false = grind (arith, nat_tests, length-decimal-ge 19 n (omega arith) large) in
    let some : nat_le 1 (length (decimal n)) ≡ true = grind (arith, nat_tests, (decimal-digits n).some) in
    rw (some, many) refl

-- ---- what is no digit

pub digit_no_ows : (b : ℕ) → is_ascii_digit b ≡ true → is_ows b ≡ false
digit_no_ows b digit = grind (arith, nat_tests)

digit_no_tab : (b : ℕ) → is_ascii_digit b ≡ true → is_tab_or_space b ≡ false
digit_no_tab b digit = grind (arith, nat_tests)

digit_no_whitespace : (b : ℕ) → is_ascii_digit b ≡ true → is_http_whitespace b ≡ false
digit_no_whitespace b digit = grind (arith, nat_tests)

digit_no_comma : (b : ℕ) → is_ascii_digit b ≡ true → (b == comma) ≡ false
digit_no_comma b digit = grind (arith, nat_tests)

digit_no_quote : (b : ℕ) → is_ascii_digit b ≡ true → (b == quotation_mark) ≡ false
digit_no_quote b digit = grind (arith, nat_tests)

digit_is_value : (b : ℕ) → is_ascii_digit b ≡ true → is_value_byte b ≡ true
digit_is_value b digit = grind (arith, nat_tests)

-- each is a byte of a field's value
pub decimal-value : (n : ℕ) → list_all is_value_byte (decimal n) ≡ true
decimal-value n = all_pass is_ascii_digit is_value_byte (decimal n) digit_is_value (all_digits n)

-- ---- nothing is trimmed of them

skipped : (text rest : List ℕ) → AreDigits text → skip_ows (text ++ rest) ≡ text ++ rest
skipped [] rest are = absurd (omega (arith, are.some))
skipped (b ∷ text) rest are =
    let parts = and_parts (is_ascii_digit b) (list_all is_ascii_digit text) are.digits in
    rw (digit_no_ows b parts.0) refl

-- a value that begins with no white space and ends in digits
pub trim_ows-digits : (text digits : List ℕ) → skip_ows (text ++ digits) ≡ text ++ digits → AreDigits digits
    → trim_ows (space ∷ (text ++ digits)) ≡ text ++ digits
unfolding trim_ows
trim_ows-digits text digits begins are =
    let turned : reverse (text ++ digits) ≡ reverse digits ++ reverse text = reverse-append text digits in
    ap (λ l. reverse (skip_ows (reverse l))) begins
    ∙ ap (λ l. reverse (skip_ows l)) turned
    ∙ ap reverse (skipped (reverse digits) (reverse text) (reverse-digits digits are))
    ∙ ap reverse (sym turned)
    ∙ reverse-reverse (text ++ digits)

pub trim_ows-decimal : (n : ℕ) → trim_ows (space ∷ decimal n) ≡ decimal n
trim_ows-decimal n =
    trim_ows-digits [] (decimal n) (skipped-alone (decimal n) (decimal-digits n)) (decimal-digits n)
  where
    skipped-alone : (text : List ℕ) → AreDigits text → skip_ows text ≡ text
    skipped-alone [] are = refl
    skipped-alone (b ∷ text) are =
        let parts = and_parts (is_ascii_digit b) (list_all is_ascii_digit text) are.digits in
        rw (digit_no_ows b parts.0) refl

untrimmed : (test : ℕ → Bool) (text : List ℕ) → ((b : ℕ) → is_ascii_digit b ≡ true → test b ≡ false)
    → list_all is_ascii_digit text ≡ true → without_leading test text ≡ text
untrimmed test [] none are = refl
untrimmed test (b ∷ text) none are =
    let parts = and_parts (is_ascii_digit b) (list_all is_ascii_digit text) are in
    rw (none b parts.0) refl

trimmed-digits : (test : ℕ → Bool) (text : List ℕ) → ((b : ℕ) → is_ascii_digit b ≡ true → test b ≡ false)
    → list_all is_ascii_digit text ≡ true → trimmed test text ≡ text
trimmed-digits test text none are =
    ap (without_trailing test) (untrimmed test text none are)
    ∙ ap reverse (untrimmed test (reverse text) none (list_all-reverse is_ascii_digit text are))
    ∙ reverse-reverse text

pub trimmed-decimal : (n : ℕ) → trimmed is_http_whitespace (decimal n) ≡ decimal n
trimmed-decimal n = trimmed-digits is_http_whitespace (decimal n) digit_no_whitespace (all_digits n)

-- ---- and they are one part of a value

one_cut : (text : List ℕ) → list_all is_ascii_digit text ≡ true → cuts_left (Some text) ≡ text ∷ []
one_cut [] are = refl
one_cut (b ∷ text) are =
    let parts = and_parts (is_ascii_digit b) (list_all is_ascii_digit text) are in
    rw (digit_no_comma b parts.0, digit_no_quote b parts.0, one_cut text parts.1) refl

pub parts_of-decimal : (n : ℕ) → parts_of (decimal n) ≡ decimal n ∷ []
unfolding parts_of
parts_of-decimal n =
    rw (one_cut (decimal n) (all_digits n), trimmed-digits is_tab_or_space (decimal n) digit_no_tab (all_digits n)) refl
