-- String literals (ECMA-262 5.1, section 7.8.4).
--
--   StringLiteral    :: " DoubleStringCharacter* " | ' SingleStringCharacter* '
--   StringCharacter  :: a character other than the quote, \ and line terminators
--                     | \ EscapeSequence | LineContinuation
--   EscapeSequence   :: x HexDigit HexDigit | u HexDigit HexDigit HexDigit HexDigit
--                     | any other character that is no line terminator
--   LineContinuation :: \ LineTerminatorSequence
--
-- A digit may stand after `\` whatever follows it (B.1.2 has the octal ones, and this grammar also
-- takes 8 and 9). A CR and the LF after it are one LineTerminatorSequence; since no LF stands in a
-- string but after `\` or that CR, nothing need be said of a CR alone.
use Rattle.std.specs.Prelude.{◌≡◌, ℕ, zero, suc, Bool, true, ◌||◌, not, List, [], ◌∷◌, ◌==◌, ◌⊎◌}
use Rattle.es5_lexer.specs.CodePoints.{line_feed, carriage_return, quotation_mark, apostrophe, reverse_solidus, small_u, small_x}
use Rattle.es5_lexer.specs.Characters.{is_line_end, is_hex}
use Rattle.es5_lexer.specs.declared.places.Quote.{Quote}
use Rattle.es5_lexer.specs.declared.places.Quote.TheVariants.{Double, Single}

-- the character of a quote
abbrev pub quote_of : Quote → ℕ
quote_of Double = quotation_mark
quote_of Single = apostrophe

-- a character that stands for itself
abbrev pub is_plain : Quote → ℕ → Bool
is_plain q c = not ((c == quote_of q) || ((c == reverse_solidus) || is_line_end c))

-- a character after `\` that is the whole of an escape: a line terminator other than CR too
abbrev pub is_single_escape : ℕ → Bool
is_single_escape c = not ((c == small_x) || ((c == small_u) || (c == carriage_return)))

abbrev mutual
  -- what may stand after a whole character of a string, its closing quote included
  pub IsStringRest : Quote → List ℕ → Type 0
  IsStringRest q [] = ⊥
  IsStringRest q (c ∷ u) =
      ((c ≡ quote_of q) × (u ≡ []))
      ⊎ (((is_plain q c ≡ true) × IsStringRest q u) ⊎ ((c ≡ reverse_solidus) × IsAfterEscape q u))

  -- after a `\`
  pub IsAfterEscape : Quote → List ℕ → Type 0
  IsAfterEscape q [] = ⊥
  IsAfterEscape q (c ∷ u) =
      ((c ≡ small_x) × AreHexThen 1 q u)
      ⊎ (((c ≡ small_u) × AreHexThen 3 q u)
      ⊎ (((c ≡ carriage_return) × (IsStringRest q u ⊎ IsLfThen q u)) ⊎ ((is_single_escape c ≡ true) × IsStringRest q u)))

  -- the LF of a CR LF, and the rest
  pub IsLfThen : Quote → List ℕ → Type 0
  IsLfThen q [] = ⊥
  IsLfThen q (c ∷ u) = (c ≡ line_feed) × IsStringRest q u

  -- a hexadecimal digit and so many more, and the rest
  pub AreHexThen : ℕ → Quote → List ℕ → Type 0
  AreHexThen n q [] = ⊥
  AreHexThen zero q (c ∷ u) = (is_hex c ≡ true) × IsStringRest q u
  AreHexThen (suc n) q (c ∷ u) = (is_hex c ≡ true) × AreHexThen n q u

-- StringLiteral
abbrev pub IsString : List ℕ → Type 0
IsString [] = ⊥
IsString (c ∷ u) = ((c ≡ quotation_mark) × IsStringRest Double u) ⊎ ((c ≡ apostrophe) × IsStringRest Single u)
