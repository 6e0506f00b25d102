-- What a lexer that is fed characters has read.
use Rattle.std.specs.Prelude.{◌≡◌, ℕ, true, false, List, [], ◌∷◌, ◌++◌, ◌⊎◌}
use Rattle.es5_lexer.specs.CodePoints.{dollar_sign, reverse_solidus}
use Rattle.es5_lexer.specs.Texts.{Mark, mark, chars}
use Rattle.es5_lexer.specs.Cuts.{Cut, CutsFrom, lexemes_of}
use Rattle.es5_lexer.specs.Begins.{IsPrefix, is_open_escape}
use Rattle.es5_lexer.specs.Residuals.{GoesOn, own}
use Rattle.es5_lexer.specs.PlaceResiduals.{with_seen}
use Rattle.es5_lexer.specs.Letters.{HeardAt}
use Rattle.es5_lexer.specs.declared.tokens.Goal.{Goal}
use Rattle.es5_lexer.specs.declared.tokens.Lexeme.{Lexeme}
use Rattle.es5_lexer.specs.declared.places.Place.TheVariants.{Escape, Text, Pattern}
use Rattle.es5_lexer.specs.declared.places.Host.{Host}
use Rattle.es5_lexer.specs.declared.places.Seen.{Seen}
use Rattle.es5_lexer.specs.declared.places.Seen.TheVariants.{EscapeMark, EscapeLetter, OneDigit, TwoDigits, ThreeDigits}
use Rattle.es5_lexer.specs.declared.places.TextPlace.{TextPlace}
use Rattle.es5_lexer.specs.declared.places.TextPlace.TheVariants.{Chars, TextEscape, Hex}
use Rattle.es5_lexer.specs.declared.places.Left.TheVariants.{One, Two, Three, Four}
use Rattle.es5_lexer.specs.declared.places.PatternPlace.{PatternPlace}
use Rattle.es5_lexer.specs.declared.places.PatternPlace.TheVariants.{Body, BodyEscape, Class, ClassEscape}
use Rattle.es5_lexer.specs.declared.states.State.{State}
use Rattle.es5_lexer.specs.declared.states.State.TheVariants.{LineComment, BlockComment, Token}
use Rattle.es5_lexer.specs.declared.lexer.Lexer.{Lexer}

-- the residual of a lexer: a text goes on from its state exactly where the characters read and then
-- that text have tokens, and these are those given and then those of the residual
pub record Residual (value : Lexer) (read : List ℕ) (m : List Mark) (given : List Mark → List Cut) : Type 0 where
  pub goes : (w : List Mark) (end : Goal) (tokens : List Cut) → CutsFrom false (m ++ w) end tokens → GoesOn value.state (own value.state read) value.newline (given w) w end tokens
  pub comes : (w : List Mark) (end : Goal) (tokens : List Cut) → GoesOn value.state (own value.state read) value.newline (given w) w end tokens → CutsFrom false (m ++ w) end tokens

-- the characters end in an escape of which so much is seen, and begin a text with tokens where a `$`
-- stands in its place
pub record EscapeAt (seen : Seen) (m : List Mark) : Type 0 where
  pub before : List Mark
  pub backslash : Mark
  pub digits : List Mark
  pub splits : m ≡ before ++ backslash ∷ digits
  pub is_backslash : backslash.character ≡ reverse_solidus
  pub spells : chars digits ≡ with_seen seen []
  pub is_open : is_open_escape (with_seen seen []) ≡ true
  pub begins : IsPrefix (before ++ mark backslash.reading dollar_sign ∷ [])

-- where such an escape leaves a string
abbrev pub text_place : Seen → TextPlace
text_place EscapeMark = TextEscape
text_place EscapeLetter = Hex Four
text_place (OneDigit a) = Hex Three
text_place (TwoDigits a b) = Hex Two
text_place (ThreeDigits a b c) = Hex One

-- and a regular expression
abbrev pub InPattern : Seen → PatternPlace → Type 0
InPattern seen Body = Unit {0}
InPattern seen Class = Unit {0}
InPattern seen BodyEscape = seen ≡ EscapeMark
InPattern seen ClassEscape = seen ≡ EscapeMark
InPattern seen _ = ⊥

-- where it leaves a lexer: in an escape of a name or of flags, or in a string, a regular expression or
-- a comment, which a backslash may stand in
abbrev pub Within : Seen → State → Type 0
Within seen LineComment = Unit {0}
Within seen (BlockComment star) = Unit {0}
Within seen (Token (Escape host s)) = s ≡ seen
Within seen (Token (Text q p)) = (p ≡ Chars) ⊎ (p ≡ text_place seen)
Within seen (Token (Pattern p)) = InPattern seen p
Within seen _ = ⊥

-- the lexer has read the characters, each under the goal that came with it, and given the tokens
pub record HasRead (value : Lexer) (m : List Mark) (given : List Lexeme) : Type 0 where
  pub read : List ℕ
  pub cuts : List Mark → List Cut
  pub lexemes : (w : List Mark) → lexemes_of (cuts w) ≡ given
  pub heard : HeardAt value.letters value.state (own value.state read)
  pub residual : Residual value read m cuts
  pub escape : (host : Host) (seen : Seen) → value.state ≡ Token (Escape host seen) → EscapeAt seen m
  pub within : (seen : Seen) → EscapeAt seen m → Within seen value.state
