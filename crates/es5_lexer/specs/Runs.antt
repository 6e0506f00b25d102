-- The characters that leave a lexer as it is.
use Rattle.std.specs.Prelude.{ℕ, Bool, false, not, ◌&&◌, ◌==◌, nat_lt, length}
use Rattle.std.specs.Char.{is_ascii}
use Rattle.es5_lexer.specs.CodePoints.{asterisk}
use Rattle.es5_lexer.specs.Characters.{is_line_end, is_space, is_part}
use Rattle.es5_lexer.specs.Strings.{is_plain}
use Rattle.es5_lexer.specs.declared.places.Place.TheVariants.{Name, Text}
use Rattle.es5_lexer.specs.declared.places.TextPlace.TheVariants.{Chars}
use Rattle.es5_lexer.specs.declared.states.State.{State}
use Rattle.es5_lexer.specs.declared.states.State.TheVariants.{Start, LineComment, BlockComment, Token}
use Rattle.es5_lexer.specs.declared.lexer.Lexer.{Lexer}

-- the character leaves the state as it is, where all letters that are kept of a name are there or aren't
abbrev pub stays_in : State → Bool → ℕ → Bool
stays_in Start full c = not (is_line_end c) && is_space c
stays_in LineComment full c = not (is_line_end c)
stays_in (BlockComment false) full c = not (is_line_end c) && not (c == asterisk)
stays_in (Token Name) full c = full && is_part c
stays_in (Token (Text q Chars)) full c = is_plain q c
stays_in s full c = false

-- it is an ASCII character too
abbrev pub stays : State → Bool → ℕ → Bool
stays s full c = is_ascii c && stays_in s full c

-- of a lexer
abbrev pub passes : Lexer → ℕ → Bool
passes lexer c = stays lexer.state (not (nat_lt (length lexer.letters.letters.items) 11)) c
