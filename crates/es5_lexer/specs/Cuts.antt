-- The tokens of a text, each with how much of the text stands after it.
use Rattle.std.specs.Prelude.{◌≡◌, ℕ, Bool, false, List, [], ◌∷◌, length}
use Rattle.es5_lexer.specs.Texts.{Mark, chars, Item, blank, line, block, token, text, Fit, ended_by, ended_in}
use Rattle.es5_lexer.specs.declared.tokens.Goal.{Goal}
use Rattle.es5_lexer.specs.declared.tokens.Token.{Token}
use Rattle.es5_lexer.specs.declared.tokens.Lexeme.{Lexeme}

-- a token, and how many characters stand after it
pub record Cut : Type 0 where
  pub lexeme : Lexeme
  pub left : ℕ

abbrev pub cut : Token → Bool → List Mark → Cut
cut t newline rest = record { lexeme = record { token = t; newline = newline }; left = length rest }

-- those among the items, where a line has ended or hasn't since the last token before them
abbrev pub cuts : Bool → List Item → List Cut
cuts ended [] = []
cuts ended (blank m ∷ items) = cuts (ended_by ended m.character) items
cuts ended (line a b q ∷ items) = cuts ended items
cuts ended (block a b q ∷ items) = cuts (ended_in ended (chars q)) items
cuts ended (token t a q ∷ items) = cut t ended (text items []) ∷ cuts false items

-- the whole text is items, and these are their tokens
pub record CutsFrom (ended : Bool) (w : List Mark) (end : Goal) (tokens : List Cut) : Type 0 where
  pub items : List Item
  pub spells : w ≡ text items []
  pub fits : Fit items [] end
  pub gives : tokens ≡ cuts ended items

-- the tokens alone
abbrev pub lexemes_of : List Cut → List Lexeme
lexemes_of [] = []
lexemes_of (x ∷ tokens) = x.lexeme ∷ lexemes_of tokens

-- tokens that end where the rest begins
abbrev pub cuts_at : List Lexeme → List Mark → List Cut
cuts_at [] rest = []
cuts_at (x ∷ tokens) rest = record { lexeme = x; left = length rest } ∷ cuts_at tokens rest
