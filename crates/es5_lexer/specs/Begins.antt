-- Which texts are the beginning of one that has tokens.
use Rattle.std.specs.Prelude.{◌≡◌, ℕ, Bool, true, false, ◌&&◌, ◌==◌, List, [], ◌∷◌, ◌++◌, ◌⊎◌}
use Rattle.es5_lexer.specs.CodePoints.{dollar_sign, reverse_solidus, small_u}
use Rattle.es5_lexer.specs.Characters.{is_hex}
use Rattle.es5_lexer.specs.Texts.{Mark, mark, chars, Lexes}
use Rattle.es5_lexer.specs.declared.tokens.Goal.{Goal}
use Rattle.es5_lexer.specs.declared.tokens.Lexeme.{Lexeme}

-- a text with tokens begins so
pub record IsPrefix (w : List Mark) : Type 0 where
  pub back : List Mark
  pub end : Goal
  pub tokens : List Lexeme
  pub lexes : Lexes (w ++ back) end tokens

-- what may stand after the `\` of an escape that isn't whole
abbrev pub is_open_escape : List ℕ → Bool
is_open_escape [] = true
is_open_escape (c ∷ []) = c == small_u
is_open_escape (c ∷ a ∷ []) = (c == small_u) && is_hex a
is_open_escape (c ∷ a ∷ b ∷ []) = (c == small_u) && (is_hex a && is_hex b)
is_open_escape (c ∷ a ∷ b ∷ d ∷ []) = (c == small_u) && (is_hex a && (is_hex b && is_hex d))
is_open_escape _ = false

-- the text ends in an escape that isn't whole, and with a `$` in its place, which keeps the goal
-- that came with the backslash, a text with tokens begins so: the class of a character that is
-- written by an escape is asked only once its four digits are there
pub record EndsInEscape (w : List Mark) : Type 0 where
  pub prefix : List Mark
  pub backslash : Mark
  pub digits : List Mark
  pub splits : w ≡ prefix ++ backslash ∷ digits
  pub is_backslash : backslash.character ≡ reverse_solidus
  pub is_open : is_open_escape (chars digits) ≡ true
  pub begins : IsPrefix (prefix ++ mark backslash.reading dollar_sign ∷ [])

-- characters, under the goals that came with them, begin a text with tokens
abbrev pub Begins : List Mark → Type 0
Begins w = IsPrefix w ⊎ EndsInEscape w
