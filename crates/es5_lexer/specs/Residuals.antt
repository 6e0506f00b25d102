-- What may still come from each state of a lexer that is fed characters: its residual. A text goes on
-- from a state exactly where the characters fed and then that text have tokens.
use Rattle.std.specs.Prelude.{◌≡◌, ℕ, Bool, true, false, if◌then◌else◌, Option, Some, None, List, [], ◌∷◌, ◌++◌, ◌⊎◌, ◌&&◌, ◌==◌}
use Rattle.es5_lexer.specs.CodePoints.{asterisk, solidus}
use Rattle.es5_lexer.specs.Characters.{is_line_end}
use Rattle.es5_lexer.specs.Trivia.{is_blank, is_line_comment, EndsLine, IsCommentRest}
use Rattle.es5_lexer.specs.Tokens.{is_barred, may_precede}
use Rattle.es5_lexer.specs.Texts.{Mark, mark, chars, ended_in}
use Rattle.es5_lexer.specs.Cuts.{Cut, cut, CutsFrom, cuts_at}
use Rattle.es5_lexer.specs.Places.{first, next, ended, is_dead, past_slash}
use Rattle.es5_lexer.specs.PlaceResiduals.{PlaceResidual}
use Rattle.es5_lexer.specs.Reading.{token_of}
use Rattle.es5_lexer.specs.declared.tokens.Goal.{Goal}
use Rattle.es5_lexer.specs.declared.tokens.Lexeme.{Lexeme}
use Rattle.es5_lexer.specs.declared.places.Kind.{Kind}
use Rattle.es5_lexer.specs.declared.places.Place.{Place}
use Rattle.es5_lexer.specs.declared.places.Place.TheVariants.{Name, Escape}
use Rattle.es5_lexer.specs.declared.states.State.{State}
use Rattle.es5_lexer.specs.declared.states.State.TheVariants.{Start, Slash, LineComment, BlockComment, Token}

-- the characters of a token, the last one first, before those that follow them
abbrev pub onto : List ℕ → List ℕ → List ℕ
onto [] u = u
onto (c ∷ read) u = onto read (c ∷ u)

-- in a token: the rest of it, and then a text with tokens
pub record TokenFrom (place : Place) (read : List ℕ) (newline : Bool) (w : List Mark) (end : Goal) (tokens : List Cut) : Type 0 where
  pub kind : Kind
  pub before : List Mark
  pub after : List Mark
  pub others : List Cut
  pub spells : w ≡ before ++ after
  pub completes : PlaceResidual place kind (chars before)
  pub longest : (a b : List ℕ) (k : Kind) → chars after ≡ a ++ b → PlaceResidual place k (chars before ++ a) → a ≡ []
  pub free : may_precede (token_of kind (onto read (chars before))) (chars after) ≡ true
  pub further : CutsFrom false after end others
  pub gives : tokens ≡ cut (token_of kind (onto read (chars before))) newline after ∷ others

-- in a comment of one line
pub record LineFrom (newline : Bool) (w : List Mark) (end : Goal) (tokens : List Cut) : Type 0 where
  pub comment : List Mark
  pub after : List Mark
  pub spells : w ≡ comment ++ after
  pub is : is_line_comment (chars comment) ≡ true
  pub ends : EndsLine (chars after)
  pub further : CutsFrom newline after end tokens

-- in a comment of several lines, after a `*` or not
pub record BlockFrom (star newline : Bool) (w : List Mark) (end : Goal) (tokens : List Cut) : Type 0 where
  pub comment : List Mark
  pub after : List Mark
  pub spells : w ≡ comment ++ after
  pub is : IsCommentRest star (chars comment)
  pub further : CutsFrom (ended_in newline (chars comment)) after end tokens

-- the residual of a state: the slash that is kept comes first again
abbrev pub From : State → List ℕ → Bool → List Mark → Goal → List Cut → Type 0
From Start read newline w end tokens = CutsFrom newline w end tokens
From Slash read newline w end tokens = (g : Goal) × CutsFrom newline (mark g solidus ∷ w) end tokens
From LineComment read newline w end tokens = LineFrom newline w end tokens
From (BlockComment star) read newline w end tokens = BlockFrom star newline w end tokens
From (Token place) read newline w end tokens = TokenFrom place read newline w end tokens

-- the text goes on from the state, and has these tokens with those that were given
pub record GoesOn (s : State) (read : List ℕ) (newline : Bool) (given : List Cut) (w : List Mark) (end : Goal) (tokens : List Cut) : Type 0 where
  pub others : List Cut
  pub is : tokens ≡ given ++ others
  pub from : From s read newline w end others

-- the characters of the token at hand in a state
abbrev pub own : State → List ℕ → List ℕ
own Slash read = solidus ∷ []
own (Token place) read = read
own _ read = []

-- the same after a character, where a token has ended before it or none has
abbrev pub own_after : Option Kind → List ℕ → ℕ → List ℕ
own_after None read c = c ∷ read
own_after (Some k) read c = c ∷ []

-- the token that has ended
abbrev pub given_by : Option Kind → List ℕ → Bool → List Lexeme
given_by None read newline = []
given_by (Some k) read newline = record { token = token_of k (onto read []); newline = newline } ∷ []

-- a character leads from a state to a state: what goes on from the first by it goes on from the second
pub record Steps (s : State) (read : List ℕ) (newline : Bool) (g : Goal) (c : ℕ) (given : Option Kind) (t : State) (flag : Bool) : Type 0 where
  pub goes : (w : List Mark) (end : Goal) (tokens : List Cut) → From s (own s read) newline (mark g c ∷ w) end tokens → GoesOn t (own_after given (own s read) c) flag (cuts_at (given_by given (own s read) newline) (mark g c ∷ w)) w end tokens
  pub comes : (w : List Mark) (end : Goal) (tokens : List Cut) → GoesOn t (own_after given (own s read) c) flag (cuts_at (given_by given (own s read) newline) (mark g c ∷ w)) w end tokens → From s (own s read) newline (mark g c ∷ w) end tokens

-- the end of the text in a state: whether it has tokens, and the last of them
pub record Ends (s : State) (read : List ℕ) (newline : Bool) (g : Goal) (whole : Bool) (given : Option Kind) : Type 0 where
  pub goes : (tokens : List Cut) → From s (own s read) newline [] g tokens → (whole ≡ true) × (tokens ≡ cuts_at (given_by given (own s read) newline) [])
  pub comes : whole ≡ true → From s (own s read) newline [] g (cuts_at (given_by given (own s read) newline) [])

-- no text goes on from the state
abbrev pub is_dead_state : State → Bool
is_dead_state (Token p) = is_dead p
is_dead_state _ = false

-- where a character leads to that ends no token and is in none
abbrev pub LeadsStart : Goal → ℕ → State → Type 0
LeadsStart g c Start = is_blank c ≡ true
LeadsStart g c Slash = c ≡ solidus
LeadsStart g c (Token q) = q ≡ first g c
LeadsStart g c _ = ⊥

-- no token goes on by the character or may stand before it, and no text goes on
abbrev pub Dies : Place → ℕ → State → Type 0
Dies p c t =
    (is_dead (next p c) ≡ true)
    × (is_dead_state t ≡ true)
    × ((k : Kind) → ended p ≡ Some k → (u : List ℕ) → is_barred (token_of k u) c ≡ true)

-- where a character leads to in a token: it goes on, or has ended and may stand before the character
abbrev pub LeadsFrom : Place → Goal → ℕ → Option Kind → State → Type 0
LeadsFrom p g c None t = ((t ≡ Token (next p c)) × (is_dead (next p c) ≡ false)) ⊎ Dies p c t
LeadsFrom p g c (Some k) t =
    ((ended p ≡ Some k) × ((u : List ℕ) → is_barred (token_of k u) c ≡ false) × LeadsStart g c t) ⊎ Dies p c t

-- where a character leads to, and the token that has ended before it
abbrev pub Leads : State → Goal → ℕ → Option Kind → State → Type 0
Leads Start g c None t = LeadsStart g c t
Leads Slash g c None LineComment = c ≡ solidus
Leads Slash g c None (BlockComment star) = c ≡ asterisk
Leads Slash g c given t = LeadsFrom (past_slash g) g c given t
Leads LineComment g c None t = t ≡ (if is_line_end c then Start else LineComment)
Leads (BlockComment star) g c None t = t ≡ (if star && (c == solidus) then Start else BlockComment (c == asterisk))
Leads (Token p) g c given t = LeadsFrom p g c given t
Leads _ g c (Some k) t = ⊥

-- the token that ends with the text
abbrev pub EndsAs : State → Goal → Bool → Option Kind → Type 0
EndsAs (Token p) g whole given = whole ≡ true → given ≡ ended p
EndsAs Slash g whole given = whole ≡ true → given ≡ ended (past_slash g)
EndsAs _ g whole given = given ≡ None

-- a name stands at the state, or what may become one
abbrev pub is_name_place : Place → Bool
is_name_place Name = true
is_name_place (Escape host seen) = true
is_name_place _ = false

abbrev pub is_in_name : State → Bool
is_in_name (Token p) = is_name_place p
is_in_name _ = false
