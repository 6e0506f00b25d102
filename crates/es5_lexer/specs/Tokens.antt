-- The texts of each token, and where one stands (ECMA-262 5.1, section 7).
use Rattle.std.specs.Prelude.{◌≡◌, ℕ, Bool, true, false, ◌||◌, not, List, [], ◌∷◌, ◌++◌, ◌==◌}
use Rattle.es5_lexer.specs.CodePoints.{asterisk, solidus, reverse_solidus}
use Rattle.es5_lexer.specs.Characters.{is_start, is_digit}
use Rattle.es5_lexer.specs.Suits.{is_div}
use Rattle.es5_lexer.specs.Names.{IsName, name_token}
use Rattle.es5_lexer.specs.Punctuators.{spelling, is_under}
use Rattle.es5_lexer.specs.Numbers.{IsNumber}
use Rattle.es5_lexer.specs.Strings.{IsString}
use Rattle.es5_lexer.specs.Patterns.{IsPattern}
use Rattle.es5_lexer.specs.declared.tokens.Goal.{Goal}
use Rattle.es5_lexer.specs.declared.tokens.Punct.TheVariants.{Slash}
use Rattle.es5_lexer.specs.declared.tokens.Token.{Token}
use Rattle.es5_lexer.specs.declared.tokens.Token.TheVariants.{Ident, Get, Set, Word as AWord, EscapedWord, Punct as APunct, Number, Text, Pattern}

-- the text is one of the token, a slash read by the goal
abbrev pub IsToken : Goal → Token → List ℕ → Type 0
IsToken g Number u = IsNumber u
IsToken g Text u = IsString u
IsToken g Pattern u = (is_div g ≡ false) × IsPattern u
IsToken g (APunct p) u = (u ≡ spelling p) × (is_under g p ≡ true)
IsToken g Ident u = IsName u × (name_token u ≡ Ident)
IsToken g Get u = IsName u × (name_token u ≡ Get)
IsToken g Set u = IsName u × (name_token u ≡ Set)
IsToken g (AWord w) u = IsName u × (name_token u ≡ AWord w)
IsToken g EscapedWord u = IsName u × (name_token u ≡ EscapedWord)

-- the character may not stand after the token: after a number no digit and nothing that begins a
-- name (7.8.3), after a division nothing that makes the slash begin a comment (7.4)
abbrev pub is_barred : Token → ℕ → Bool
is_barred Number c = is_digit c || (is_start c || (c == reverse_solidus))
is_barred (APunct Slash) c = (c == solidus) || (c == asterisk)
is_barred _ c = false

-- the token may stand before this
abbrev pub may_precede : Token → List ℕ → Bool
may_precede t [] = true
may_precede t (c ∷ rest) = not (is_barred t c)

-- the token of this text stands before the rest: no token is longer at its place
pub record Stands (g : Goal) (t : Token) (u rest : List ℕ) : Type 0 where
  pub is : IsToken g t u
  pub longest : (a b : List ℕ) (other : Token) → rest ≡ a ++ b → IsToken g other (u ++ a) → a ≡ []
  pub free : may_precede t rest ≡ true
