-- Which tokens a text has (ECMA-262 5.1, section 7).
--
-- A slash may be read in two ways, and which one the grammar of programs tells. So a text is
-- characters, each with the goal that came with it: a slash that begins a token is read by the goal
-- of the character after it, or by the goal that came with the end.
use Rattle.std.specs.Prelude.{◌≡◌, ℕ, Bool, true, false, if◌then◌else◌, List, [], ◌∷◌, ◌++◌}
use Rattle.std.specs.List.{list_any}
use Rattle.es5_lexer.specs.CodePoints.{asterisk, solidus}
use Rattle.es5_lexer.specs.Characters.{is_line_end}
use Rattle.es5_lexer.specs.Trivia.{is_blank, is_line_comment, EndsLine, IsBlockComment}
use Rattle.es5_lexer.specs.Tokens.{Stands}
use Rattle.es5_lexer.specs.declared.tokens.Goal.{Goal}
use Rattle.es5_lexer.specs.declared.tokens.Token.{Token}
use Rattle.es5_lexer.specs.declared.tokens.Lexeme.{Lexeme}

-- a character and the goal that came with it
pub record Mark : Type 0 where
  pub reading : Goal
  pub character : ℕ

abbrev pub mark : Goal → ℕ → Mark
mark g c = record { reading = g; character = c }

-- the characters
abbrev pub chars : List Mark → List ℕ
chars [] = []
chars (m ∷ w) = m.character ∷ chars w

-- the characters, each with the one goal
abbrev pub read_by : Goal → List ℕ → List Mark
read_by g [] = []
read_by g (c ∷ u) = mark g c ∷ read_by g u

-- the goal that comes first: of this text, or of the end
abbrev pub asked : List Mark → Goal → Goal
asked [] end = end
asked (m ∷ w) end = m.reading

-- InputElement: white space or a line terminator, the two comments, a token
pub data Item : Type 0 where
  blank : Mark → Item
  line : Mark → Mark → List Mark → Item
  block : Mark → Mark → List Mark → Item
  token : Token → Mark → List Mark → Item

-- the text of the items, before what follows them
abbrev pub text : List Item → List Mark → List Mark
text [] rest = rest
text (blank m ∷ items) rest = m ∷ text items rest
text (line a b q ∷ items) rest = a ∷ b ∷ (q ++ text items rest)
text (block a b q ∷ items) rest = a ∷ b ∷ (q ++ text items rest)
text (token t a q ∷ items) rest = a ∷ (q ++ text items rest)

-- each item is what it says, before what follows it
abbrev pub Fit : List Item → List Mark → Goal → Type 0
Fit [] rest end = Unit {0}
Fit (blank m ∷ items) rest end = (is_blank m.character ≡ true) × Fit items rest end
Fit (line a b q ∷ items) rest end =
    ((a.character ≡ solidus) × (b.character ≡ solidus) × (is_line_comment (chars q) ≡ true))
    × EndsLine (chars (text items rest))
    × Fit items rest end
Fit (block a b q ∷ items) rest end =
    ((a.character ≡ solidus) × (b.character ≡ asterisk) × IsBlockComment (chars q)) × Fit items rest end
Fit (token t a q ∷ items) rest end =
    Stands (asked (q ++ text items rest) end) t (a.character ∷ chars q) (chars (text items rest))
    × Fit items rest end

-- whether a line has ended since the last token, after one character more
abbrev pub ended_by : Bool → ℕ → Bool
ended_by ended c = if is_line_end c then true else ended

-- the same after the characters of a comment
abbrev pub ended_in : Bool → List ℕ → Bool
ended_in ended u = if list_any is_line_end u then true else ended

-- the tokens among the items, where a line has ended or hasn't since the last token before them
abbrev pub lexemes : Bool → List Item → List Lexeme
lexemes ended [] = []
lexemes ended (blank m ∷ items) = lexemes (ended_by ended m.character) items
lexemes ended (line a b q ∷ items) = lexemes ended items
lexemes ended (block a b q ∷ items) = lexemes (ended_in ended (chars q)) items
lexemes ended (token t a q ∷ items) = record { token = t; newline = ended } ∷ lexemes false items

-- the whole text is items, and these are their tokens
pub record LexesFrom (ended : Bool) (w : List Mark) (end : Goal) (tokens : List Lexeme) : Type 0 where
  pub items : List Item
  pub spells : w ≡ text items []
  pub fits : Fit items [] end
  pub gives : tokens ≡ lexemes ended items

-- the text has these tokens
abbrev pub Lexes : List Mark → Goal → List Lexeme → Type 0
Lexes w end tokens = LexesFrom false w end tokens

-- m and the rest after it make a text with tokens, of which these are the first and end within m
pub record EndWithin (m rest : List Mark) (end : Goal) (tokens : List Lexeme) : Type 0 where
  pub items : List Item
  pub gap : List Mark
  pub others : List Item
  pub splits : m ≡ text items gap
  pub spells : gap ++ rest ≡ text others []
  pub fits : Fit items (gap ++ rest) end
  pub further : Fit others [] end
  pub gives : tokens ≡ lexemes false items

-- each item is what it says, a slash read in either way
abbrev pub FitEither : List Item → List Mark → Type 0
FitEither [] rest = Unit {0}
FitEither (blank m ∷ items) rest = (is_blank m.character ≡ true) × FitEither items rest
FitEither (line a b q ∷ items) rest =
    ((a.character ≡ solidus) × (b.character ≡ solidus) × (is_line_comment (chars q) ≡ true))
    × EndsLine (chars (text items rest))
    × FitEither items rest
FitEither (block a b q ∷ items) rest =
    ((a.character ≡ solidus) × (b.character ≡ asterisk) × IsBlockComment (chars q)) × FitEither items rest
FitEither (token t a q ∷ items) rest =
    ((g : Goal) × Stands g t (a.character ∷ chars q) (chars (text items rest))) × FitEither items rest

-- the characters have these tokens, each slash read in either way
pub record LexesEither (u : List ℕ) (tokens : List Lexeme) : Type 0 where
  pub items : List Item
  pub spells : u ≡ chars (text items [])
  pub fits : FitEither items []
  pub gives : tokens ≡ lexemes false items

-- the characters have these tokens under some goals
pub record HasReading (u : List ℕ) (tokens : List Lexeme) : Type 0 where
  pub read : List Mark
  pub end : Goal
  pub spells : chars read ≡ u
  pub lexes : Lexes read end tokens

-- a token is among the items
abbrev pub has_token : List Item → Bool
has_token [] = false
has_token (blank m ∷ items) = has_token items
has_token (line a b q ∷ items) = has_token items
has_token (block a b q ∷ items) = has_token items
has_token (token t a q ∷ items) = true

-- whether a line has ended since the last token, after the items
abbrev pub ended_after : Bool → List Item → Bool
ended_after ended [] = ended
ended_after ended (blank m ∷ items) = ended_after (ended_by ended m.character) items
ended_after ended (line a b q ∷ items) = ended_after ended items
ended_after ended (block a b q ∷ items) = ended_after (ended_in ended (chars q)) items
ended_after ended (token t a q ∷ items) = ended_after false items

-- a text is trivia, the token and the rest, which need have no tokens; a slash is read by the goal
pub record IsNextToken (g : Goal) (u : List ℕ) (x : Lexeme) (rest : List ℕ) : Type 0 where
  pub trivia : List Item
  pub only : has_token trivia ≡ false
  pub token : List ℕ
  pub spells : read_by g u ≡ text trivia (read_by g (token ++ rest))
  pub fits : Fit trivia (read_by g (token ++ rest)) g
  pub stands : Stands g x.token token rest
  pub newline : x.newline ≡ ended_after false trivia
