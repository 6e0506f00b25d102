-- Regular expression literals (ECMA-262 5.1, section 7.8.5). What stands in them isn't read further.
--
--   RegularExpressionLiteral :: / RegularExpressionBody / RegularExpressionFlags
--   RegularExpressionBody    :: RegularExpressionFirstChar RegularExpressionChar*
--   RegularExpressionChar    :: a character other than line terminators, \, / and [
--                             | RegularExpressionBackslashSequence | RegularExpressionClass
--   RegularExpressionBackslashSequence :: \ a character that is no line terminator
--   RegularExpressionClass   :: [ RegularExpressionClassChar* ]
--   RegularExpressionFlags   :: IdentifierPart*
--
-- RegularExpressionFirstChar is a RegularExpressionChar other than `*`.
use Rattle.std.specs.Prelude.{◌≡◌, ℕ, Bool, true, ◌||◌, not, List, [], ◌∷◌, ◌==◌, ◌⊎◌}
use Rattle.es5_lexer.specs.CodePoints.{asterisk, solidus, left_square_bracket, reverse_solidus, right_square_bracket}
use Rattle.es5_lexer.specs.Characters.{is_line_end}
use Rattle.es5_lexer.specs.Names.{AreParts}

-- a character of a body that stands for itself: neither `/`, `\`, `[` nor a line terminator
abbrev pub is_body_char : ℕ → Bool
is_body_char c = not ((c == solidus) || ((c == reverse_solidus) || ((c == left_square_bracket) || is_line_end c)))

-- the same at the head of a body: not `*` either
abbrev pub is_first_char : ℕ → Bool
is_first_char c = not ((c == asterisk) || ((c == solidus) || ((c == reverse_solidus) || ((c == left_square_bracket) || is_line_end c))))

-- a character of a class: neither `]`, `\` nor a line terminator
abbrev pub is_class_char : ℕ → Bool
is_class_char c = not ((c == right_square_bracket) || ((c == reverse_solidus) || is_line_end c))

abbrev mutual
  -- what may stand after a whole character of a body: more of it, `/` and flags
  pub IsBodyRest : List ℕ → Type 0
  IsBodyRest [] = ⊥
  IsBodyRest (c ∷ u) =
      ((c ≡ solidus) × AreParts u)
      ⊎ (((is_body_char c ≡ true) × IsBodyRest u) ⊎ (((c ≡ reverse_solidus) × IsAfterBackslash u) ⊎ ((c ≡ left_square_bracket) × IsClassRest u)))

  -- after a `\`
  pub IsAfterBackslash : List ℕ → Type 0
  IsAfterBackslash [] = ⊥
  IsAfterBackslash (c ∷ u) = (not (is_line_end c) ≡ true) × IsBodyRest u

  -- in a class
  pub IsClassRest : List ℕ → Type 0
  IsClassRest [] = ⊥
  IsClassRest (c ∷ u) =
      ((c ≡ right_square_bracket) × IsBodyRest u) ⊎ (((is_class_char c ≡ true) × IsClassRest u) ⊎ ((c ≡ reverse_solidus) × IsAfterClassBackslash u))

  -- after a `\` in a class
  pub IsAfterClassBackslash : List ℕ → Type 0
  IsAfterClassBackslash [] = ⊥
  IsAfterClassBackslash (c ∷ u) = (not (is_line_end c) ≡ true) × IsClassRest u

-- RegularExpressionBody, `/` and flags
abbrev pub IsBody : List ℕ → Type 0
IsBody [] = ⊥
IsBody (c ∷ u) =
    ((is_first_char c ≡ true) × IsBodyRest u) ⊎ (((c ≡ reverse_solidus) × IsAfterBackslash u) ⊎ ((c ≡ left_square_bracket) × IsClassRest u))

-- RegularExpressionLiteral
abbrev pub IsPattern : List ℕ → Type 0
IsPattern [] = ⊥
IsPattern (c ∷ u) = (c ≡ solidus) × IsBody u
