-- What is kept of a name while it is read: no reserved word has more than ten letters, so eleven of a
-- name's letters, and whether one is written by an escape, tell its token.
use Rattle.std.specs.Prelude.{◌≡◌, ℕ, Bool, true, false, ◌||◌, ◌==◌, nat_lt, if◌then◌else◌, Option, Some, None, List, [], ◌∷◌, ◌++◌, length, map, take}
use Rattle.es5_lexer.specs.CodePoints.{reverse_solidus}
use Rattle.es5_lexer.specs.Characters.{escaped}
use Rattle.es5_lexer.specs.Names.{spelled, spelled_escape, is_escaped, word_of, token_by}
use Rattle.es5_lexer.specs.PlaceResiduals.{with_seen, PlaceResidual}
use Rattle.es5_lexer.specs.Residuals.{onto}
use Rattle.es5_lexer.specs.declared.tokens.Token.{Token as AToken}
use Rattle.es5_lexer.specs.declared.tokens.Token.TheVariants.{Punct, Number, Text, Pattern}
use Rattle.es5_lexer.specs.declared.tokens.Lexeme.{Lexeme}
use Rattle.es5_lexer.specs.declared.places.Kind.{Kind}
use Rattle.es5_lexer.specs.declared.places.Kind.TheVariants.{Name as AName, Punct as APunct, Number as ANumber, Text as AText, Pattern as APattern}
use Rattle.es5_lexer.specs.declared.places.Place.{Place}
use Rattle.es5_lexer.specs.declared.places.Place.TheVariants.{Name, Escape}
use Rattle.es5_lexer.specs.declared.places.Seen.TheVariants.{ThreeDigits}
use Rattle.es5_lexer.specs.declared.letters.Letters.{Letters}
use Rattle.es5_lexer.specs.declared.states.State.{State}
use Rattle.es5_lexer.specs.declared.states.State.TheVariants.{Token}

-- a letter as it is kept: one beyond ASCII stands in no word
abbrev pub kept_letter : ℕ → ℕ
kept_letter c = if nat_lt c 128 then c else 255

-- of what a name spells
abbrev pub kept : List ℕ → List ℕ
kept v = take 11 (map kept_letter v)

-- the letters with one more, where there is one and room is left
abbrev pub with_letter : List ℕ → Option ℕ → List ℕ
with_letter v None = v
with_letter v (Some c) = if nat_lt (length v) 11 then v ++ kept_letter c ∷ [] else v

-- the letter of a name that is whole with the character after the place
abbrev pub letter : Place → ℕ → Option ℕ
letter Name c = if c == reverse_solidus then None else Some c
letter (Escape host (ThreeDigits a b d)) c = escaped a b d c
letter _ c = None

-- an escape is whole with that character
abbrev pub ends_escape : Place → Bool
ends_escape (Escape host (ThreeDigits a b d)) = true
ends_escape _ = false

-- the token of a name of these letters
abbrev pub token_of_letters : Bool → List ℕ → AToken
token_of_letters escapes v = token_by escapes (word_of v) v

-- what the rest of a name spells
abbrev pub spelled_from : Place → List ℕ → List ℕ
spelled_from (Escape host seen) u = spelled_escape (with_seen seen u)
spelled_from _ u = spelled u

abbrev pub escaped_from : Place → List ℕ → Bool
escaped_from (Escape host seen) u = true
escaped_from _ u = is_escaped u

-- the letters are those of the characters read, where the name goes on by this text
pub record Spells (letters : List ℕ) (escapes : Bool) (place : Place) (read u : List ℕ) : Type 0 where
  pub same : kept (spelled (onto read u)) ≡ take 11 (letters ++ map kept_letter (spelled_from place u))
  pub marked : is_escaped (onto read u) ≡ (escapes || escaped_from place u)

-- the letters of the name at hand, where the place is in a name
abbrev pub Hears : List ℕ → Bool → Place → List ℕ → Type 0
Hears letters escapes place read =
    (u : List ℕ) → PlaceResidual place AName u → Spells letters escapes place read u

-- the same where a lexer stands
abbrev pub HeardAt : Letters → State → List ℕ → Type 0
HeardAt l (Token place) read = Hears l.letters.items l.escapes place read
HeardAt l _ read = Unit {0}

-- the token of the kind, a name by its letters
abbrev pub token_of_kind : Letters → Kind → AToken
token_of_kind l AName = token_of_letters l.escapes l.letters.items
token_of_kind l (APunct p) = Punct p
token_of_kind l ANumber = Number
token_of_kind l AText = Text
token_of_kind l APattern = Pattern

-- the token that has ended, if one has
abbrev pub given_lexemes : Letters → Option Kind → Bool → List Lexeme
given_lexemes l None newline = []
given_lexemes l (Some k) newline = record { token = token_of_kind l k; newline = newline } ∷ []
