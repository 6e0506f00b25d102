-- Numeric literals (ECMA-262 5.1, sections 7.8.3 and B.1.1).
--
--   DecimalLiteral    :: DecimalIntegerLiteral . DecimalDigits? ExponentPart?
--                      | . DecimalDigits ExponentPart? | DecimalIntegerLiteral ExponentPart?
--   DecimalIntegerLiteral :: 0 | NonZeroDigit DecimalDigits?
--   ExponentPart      :: (e | E) SignedInteger
--   SignedInteger     :: (+ | -)? DecimalDigits
--   HexIntegerLiteral :: 0 (x | X) HexDigit+
--   OctalIntegerLiteral :: 0 OctalDigit+
--
-- Each definition says which texts may stand after what was read of a literal.
use Rattle.std.specs.Prelude.{◌≡◌, ℕ, Bool, true, ◌||◌, List, [], ◌∷◌, ◌==◌, ◌⊎◌}
use Rattle.std.specs.Int.{is_in_range}
use Rattle.es5_lexer.specs.CodePoints.{plus_sign, hyphen_minus, full_stop, digit_zero, digit_one, digit_nine, capital_e, capital_x, small_e, small_x}
use Rattle.es5_lexer.specs.Characters.{is_digit, is_hex, is_octal}

-- NonZeroDigit
abbrev pub is_nonzero : ℕ → Bool
is_nonzero c = is_in_range digit_one digit_nine c

-- ExponentIndicator
abbrev pub is_exponent_mark : ℕ → Bool
is_exponent_mark c = (c == small_e) || (c == capital_e)

abbrev pub is_hex_mark : ℕ → Bool
is_hex_mark c = (c == small_x) || (c == capital_x)

abbrev pub is_sign : ℕ → Bool
is_sign c = (c == plus_sign) || (c == hyphen_minus)

-- zero or more digits
abbrev pub AreDigits : List ℕ → Type 0
AreDigits [] = Unit {0}
AreDigits (c ∷ u) = (is_digit c ≡ true) × AreDigits u

-- one or more
abbrev pub AreSomeDigits : List ℕ → Type 0
AreSomeDigits [] = ⊥
AreSomeDigits (c ∷ u) = (is_digit c ≡ true) × AreDigits u

-- SignedInteger
abbrev pub IsSignedInteger : List ℕ → Type 0
IsSignedInteger [] = ⊥
IsSignedInteger (c ∷ u) =
    ((is_sign c ≡ true) × AreSomeDigits u) ⊎ ((is_digit c ≡ true) × AreDigits u)

-- DecimalDigits? ExponentPart?
abbrev pub IsAfterPoint : List ℕ → Type 0
IsAfterPoint [] = Unit {0}
IsAfterPoint (c ∷ u) =
    ((is_digit c ≡ true) × IsAfterPoint u) ⊎ ((is_exponent_mark c ≡ true) × IsSignedInteger u)

-- DecimalDigits ExponentPart?
abbrev pub IsFraction : List ℕ → Type 0
IsFraction [] = ⊥
IsFraction (c ∷ u) = (is_digit c ≡ true) × IsAfterPoint u

-- after a digit of DecimalIntegerLiteral other than 0
abbrev pub IsAfterDigit : List ℕ → Type 0
IsAfterDigit [] = Unit {0}
IsAfterDigit (c ∷ u) =
    ((is_digit c ≡ true) × IsAfterDigit u)
    ⊎ (((c ≡ full_stop) × IsAfterPoint u) ⊎ ((is_exponent_mark c ≡ true) × IsSignedInteger u))

-- zero or more hexadecimal digits
abbrev pub AreHexDigits : List ℕ → Type 0
AreHexDigits [] = Unit {0}
AreHexDigits (c ∷ u) = (is_hex c ≡ true) × AreHexDigits u

-- one or more
abbrev pub AreSomeHexDigits : List ℕ → Type 0
AreSomeHexDigits [] = ⊥
AreSomeHexDigits (c ∷ u) = (is_hex c ≡ true) × AreHexDigits u

-- zero or more octal digits
abbrev pub AreOctalDigits : List ℕ → Type 0
AreOctalDigits [] = Unit {0}
AreOctalDigits (c ∷ u) = (is_octal c ≡ true) × AreOctalDigits u

-- after a first 0
abbrev pub IsAfterZero : List ℕ → Type 0
IsAfterZero [] = Unit {0}
IsAfterZero (c ∷ u) =
    ((is_octal c ≡ true) × AreOctalDigits u)
    ⊎ (((c ≡ full_stop) × IsAfterPoint u)
    ⊎ (((is_exponent_mark c ≡ true) × IsSignedInteger u) ⊎ ((is_hex_mark c ≡ true) × AreSomeHexDigits u)))

-- NumericLiteral
abbrev pub IsNumber : List ℕ → Type 0
IsNumber [] = ⊥
IsNumber (c ∷ u) =
    ((c ≡ digit_zero) × IsAfterZero u) ⊎ (((is_nonzero c ≡ true) × IsAfterDigit u) ⊎ ((c ≡ full_stop) × IsFraction u))
