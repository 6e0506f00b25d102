-- Whether a goal reads the slash that comes next as a list of tokens has it: what the grammar of
-- programs says to a lexer, and what a lexer needs to know.
use Rattle.std.specs.Prelude.{◌≡◌, Bool, true, false, not, List, ◌∷◌, ◌++◌}
use Rattle.es5_lexer.specs.declared.tokens.Goal.{Goal}
use Rattle.es5_lexer.specs.declared.tokens.Goal.TheVariants.{Div, RegExp}
use Rattle.es5_lexer.specs.declared.tokens.Punct.TheVariants.{Slash, SlashAssign}
use Rattle.es5_lexer.specs.declared.tokens.Token.{Token}
use Rattle.es5_lexer.specs.declared.tokens.Token.TheVariants.{Punct as APunct, Pattern}
use Rattle.es5_lexer.specs.declared.tokens.Lexeme.{Lexeme}

-- the goal under which a slash is division
abbrev pub is_div : Goal → Bool
is_div Div = true
is_div RegExp = false

-- the token may be read under the goal: a goal counts where the token begins with a slash, alone
abbrev pub suits : Token → Goal → Bool
suits (APunct Slash) g = is_div g
suits (APunct SlashAssign) g = is_div g
suits Pattern g = not (is_div g)
suits _ g = true

-- the goal suits the first of the tokens that stands after those given
abbrev pub Suits : List Lexeme → Goal → List Lexeme → Type 0
Suits given goal tokens =
    (x : Lexeme) (others : List Lexeme) → tokens ≡ given ++ (x ∷ others) → suits x.token goal ≡ true
