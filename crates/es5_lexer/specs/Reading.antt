-- What the calls on a text compute: trivia at its beginning, and the longest token there. The files on
-- trivia and on the kinds of tokens say what these are; this says no more of them.
use Rattle.std.specs.Prelude.{◌≡◌, ℕ, Bool, true, false, ◌&&◌, ◌==◌, if◌then◌else◌, Option, Some, None, List, [], ◌∷◌, length, take, drop, ◌-◌}
use Rattle.es5_lexer.specs.CodePoints.{asterisk, solidus}
use Rattle.es5_lexer.specs.Characters.{is_line_end, is_space}
use Rattle.es5_lexer.specs.Names.{name_token}
use Rattle.es5_lexer.specs.Tokens.{may_precede}
use Rattle.es5_lexer.specs.Texts.{ended_by}
use Rattle.es5_lexer.specs.Places.{first, next, ended}
use Rattle.es5_lexer.specs.declared.tokens.Goal.{Goal}
use Rattle.es5_lexer.specs.declared.tokens.Token.{Token}
use Rattle.es5_lexer.specs.declared.tokens.Token.TheVariants.{Punct, Number, Text, Pattern}
use Rattle.es5_lexer.specs.declared.places.Kind.{Kind}
use Rattle.es5_lexer.specs.declared.places.Kind.TheVariants.{Name as AName, Punct as APunct, Number as ANumber, Text as AText, Pattern as APattern}
use Rattle.es5_lexer.specs.declared.places.Place.{Place}
use Rattle.es5_lexer.specs.declared.trivia.Trivium.{Trivium}
use Rattle.es5_lexer.specs.declared.longest.Longest.{Longest}

-- so many characters, the last ones of the text
abbrev pub last : ℕ → List ℕ → List ℕ
last count u = drop (length u - count) u

abbrev pub trivium_with : Bool → List ℕ → Option Trivium
trivium_with ends_line rest = Some (record { ends_line = ends_line; left = length rest })

-- after the rest of a line
abbrev pub past_line : List ℕ → List ℕ
past_line [] = []
past_line (c ∷ u) = if is_line_end c then c ∷ u else past_line u

-- a comment after `/*` and perhaps more of it, by whether a `*` stands before, and whether a line has
-- ended in it
abbrev pub block_comment : Bool → Bool → List ℕ → Option Trivium
block_comment star ended [] = None
block_comment star ended (c ∷ u) =
    if star && (c == solidus) then trivium_with ended u else block_comment (c == asterisk) (ended_by ended c) u

-- a comment after its first `/`
abbrev pub comment : List ℕ → Option Trivium
comment [] = None
comment (c ∷ u) =
    if c == solidus then trivium_with false (past_line u)
    else if c == asterisk then block_comment false false u else None

-- white space, a line terminator or a comment at the beginning
abbrev pub leading_trivium : List ℕ → Option Trivium
leading_trivium [] = None
leading_trivium (c ∷ u) =
    if is_line_end c then trivium_with true u
    else if is_space c then trivium_with false u
    else if c == solidus then comment u else None

-- the longest so far, after one character more
abbrev pub better : Option Kind → List ℕ → Option Longest → Option Longest
better (Some k) u best = Some (record { kind = k; left = length u })
better None u best = best

-- the longest, from a place on
abbrev pub longest_from : Place → Option Longest → List ℕ → Option Longest
longest_from s best [] = best
longest_from s best (c ∷ u) = longest_from (next s c) (better (ended (next s c)) u best) u

-- the longest token at the beginning
abbrev pub longest_token : Goal → List ℕ → Option Longest
longest_token g [] = None
longest_token g (c ∷ u) = longest_from (first g c) (better (ended (first g c)) u None) u

-- the token of a text of the kind
abbrev pub token_of : Kind → List ℕ → Token
token_of AName u = name_token u
token_of (APunct p) u = Punct p
token_of ANumber u = Number
token_of AText u = Text
token_of APattern u = Pattern

-- from the first text to the second there are only trivia, and a line has ended before and after
-- them or hasn't
pub data Passes : Bool → List ℕ → Bool → List ℕ → Type 0 where
  none : (ended : Bool) (u : List ℕ) → Passes ended u ended u
  one : (ended : Bool) (u : List ℕ) (t : Trivium) (flag : Bool) (rest : List ℕ) → leading_trivium u ≡ Some t → Passes (if t.ends_line then true else ended) (last t.left u) flag rest → Passes ended u flag rest

-- the token at the beginning, and how many characters stand after it
abbrev pub standing : List ℕ → Longest → Option (Token × ℕ)
standing u x =
    if may_precede (token_of x.kind (take (length u - x.left) u)) (last x.left u) then Some (token_of x.kind (take (length u - x.left) u), x.left) else None

abbrev pub token_at_from : List ℕ → Option Longest → Option (Token × ℕ)
token_at_from u None = None
token_at_from u (Some x) = standing u x

abbrev pub token_at : Goal → List ℕ → Option (Token × ℕ)
token_at g u = token_at_from u (longest_token g u)
