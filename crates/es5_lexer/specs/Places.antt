-- What the calls on places in a token compute: how a place goes on by a character, and what ends at
-- it. The files on the kinds of tokens say what a token is; this says no more of it.
use Rattle.std.specs.Prelude.{ℕ, Bool, true, false, ◌&&◌, ◌==◌, if◌then◌else◌, Option, Some, None}
use Rattle.es5_lexer.specs.CodePoints.{line_feed, carriage_return, exclamation_mark, quotation_mark, percent_sign, ampersand, apostrophe, left_parenthesis, right_parenthesis, asterisk, plus_sign, comma, hyphen_minus, full_stop, solidus, digit_zero, colon, semicolon, less_than_sign, equals_sign, greater_than_sign, question_mark, left_square_bracket, reverse_solidus, right_square_bracket, circumflex_accent, small_u, small_x, left_curly_bracket, vertical_line, right_curly_bracket, tilde}
use Rattle.es5_lexer.specs.Characters.{is_start, is_part, is_line_end, is_digit, is_hex, is_octal, is_escape_of}
use Rattle.es5_lexer.specs.Suits.{is_div}
use Rattle.es5_lexer.specs.Numbers.{is_nonzero, is_exponent_mark, is_hex_mark, is_sign}
use Rattle.es5_lexer.specs.Strings.{quote_of}
use Rattle.es5_lexer.specs.declared.tokens.Goal.{Goal}
use Rattle.es5_lexer.specs.declared.tokens.Punct.{Punct}
use Rattle.es5_lexer.specs.declared.tokens.Punct.TheVariants.{LeftBrace, RightBrace, LeftParen, RightParen, LeftBracket, RightBracket, Dot, Semicolon, Comma, Less, Greater, LessEqual, GreaterEqual, Equal, NotEqual, SameEqual, NotSame, Plus, Minus, Star, Percent, PlusPlus, MinusMinus, ShiftLeft, ShiftRight, ShiftRightZero, And, Or, Xor, Not, Tilde, AndAnd, OrOr, Question, Colon, Assign, PlusAssign, MinusAssign, StarAssign, PercentAssign, ShiftLeftAssign, ShiftRightAssign, ShiftRightZeroAssign, AndAssign, OrAssign, XorAssign, Slash, SlashAssign}
use Rattle.es5_lexer.specs.declared.places.Kind.{Kind}
use Rattle.es5_lexer.specs.declared.places.Kind.TheVariants.{Name as AName, Punct as APunct, Number as ANumber, Text as AText, Pattern as APattern}
use Rattle.es5_lexer.specs.declared.places.Place.{Place}
use Rattle.es5_lexer.specs.declared.places.Place.TheVariants.{Name, Escape, Mark, Number, Text, Pattern, Dead}
use Rattle.es5_lexer.specs.declared.places.Host.{Host}
use Rattle.es5_lexer.specs.declared.places.Host.TheVariants.{FirstChar, LaterChar, FlagChar}
use Rattle.es5_lexer.specs.declared.places.Seen.{Seen}
use Rattle.es5_lexer.specs.declared.places.Seen.TheVariants.{EscapeMark, EscapeLetter, OneDigit, TwoDigits, ThreeDigits}
use Rattle.es5_lexer.specs.declared.places.NumberPlace.{NumberPlace}
use Rattle.es5_lexer.specs.declared.places.NumberPlace.TheVariants.{Zero, Digit, Point, Exponent, Sign, ExponentDigit, HexMark, HexDigit, OctalDigit}
use Rattle.es5_lexer.specs.declared.places.Quote.{Quote}
use Rattle.es5_lexer.specs.declared.places.Quote.TheVariants.{Double, Single}
use Rattle.es5_lexer.specs.declared.places.TextPlace.{TextPlace}
use Rattle.es5_lexer.specs.declared.places.TextPlace.TheVariants.{Chars, TextEscape, Cr, Hex, End}
use Rattle.es5_lexer.specs.declared.places.Left.{Left}
use Rattle.es5_lexer.specs.declared.places.Left.TheVariants.{One, Two, Three, Four}
use Rattle.es5_lexer.specs.declared.places.PatternPlace.{PatternPlace}
use Rattle.es5_lexer.specs.declared.places.PatternPlace.TheVariants.{BodyStart, Body, BodyEscape, Class, ClassEscape, Flags}

-- the punctuator that is this character alone, division apart
abbrev pub mark : ℕ → Option Punct
mark c =
    if c == left_curly_bracket then Some LeftBrace
    else if c == right_curly_bracket then Some RightBrace
    else if c == left_parenthesis then Some LeftParen
    else if c == right_parenthesis then Some RightParen
    else if c == left_square_bracket then Some LeftBracket
    else if c == right_square_bracket then Some RightBracket
    else if c == full_stop then Some Dot
    else if c == semicolon then Some Semicolon
    else if c == comma then Some Comma
    else if c == less_than_sign then Some Less
    else if c == greater_than_sign then Some Greater
    else if c == plus_sign then Some Plus
    else if c == hyphen_minus then Some Minus
    else if c == asterisk then Some Star
    else if c == percent_sign then Some Percent
    else if c == ampersand then Some And
    else if c == vertical_line then Some Or
    else if c == circumflex_accent then Some Xor
    else if c == exclamation_mark then Some Not
    else if c == tilde then Some Tilde
    else if c == question_mark then Some Question
    else if c == colon then Some Colon
    else if c == equals_sign then Some Assign
    else None

-- the punctuator that `=` makes of this one
abbrev pub by_equals : Punct → Option Punct
by_equals Less = Some LessEqual
by_equals Greater = Some GreaterEqual
by_equals Assign = Some Equal
by_equals Not = Some NotEqual
by_equals Equal = Some SameEqual
by_equals NotEqual = Some NotSame
by_equals Plus = Some PlusAssign
by_equals Minus = Some MinusAssign
by_equals Star = Some StarAssign
by_equals Percent = Some PercentAssign
by_equals ShiftLeft = Some ShiftLeftAssign
by_equals ShiftRight = Some ShiftRightAssign
by_equals ShiftRightZero = Some ShiftRightZeroAssign
by_equals And = Some AndAssign
by_equals Or = Some OrAssign
by_equals Xor = Some XorAssign
by_equals Slash = Some SlashAssign
by_equals _ = None

-- the one that this character doubles, and what that makes
abbrev pub by_itself : Punct → ℕ → Option Punct
by_itself Less c = if c == less_than_sign then Some ShiftLeft else None
by_itself Greater c = if c == greater_than_sign then Some ShiftRight else None
by_itself ShiftRight c = if c == greater_than_sign then Some ShiftRightZero else None
by_itself Plus c = if c == plus_sign then Some PlusPlus else None
by_itself Minus c = if c == hyphen_minus then Some MinusMinus else None
by_itself And c = if c == ampersand then Some AndAnd else None
by_itself Or c = if c == vertical_line then Some OrOr else None
by_itself _ c = None

-- the punctuator that the character makes of this one
abbrev pub longer : Punct → ℕ → Option Punct
longer p c = if c == equals_sign then by_equals p else by_itself p c

-- the characters that a host takes
abbrev pub set_of : Host → ℕ → Bool
set_of FirstChar = is_start
set_of LaterChar = is_part
set_of FlagChar = is_part

-- after a whole character of it
abbrev pub after : Host → Place
after FirstChar = Name
after LaterChar = Name
after FlagChar = Pattern Flags

abbrev pub past_slash : Goal → Place
past_slash g = if is_div g then Mark Slash else Pattern BodyStart

abbrev pub after_mark : Option Punct → Place
after_mark (Some p) = Mark p
after_mark None = Dead

-- after the first character of a token
abbrev pub first : Goal → ℕ → Place
first g c =
    if is_start c then Name
    else if c == reverse_solidus then Escape FirstChar EscapeMark
    else if c == digit_zero then Number Zero
    else if is_nonzero c then Number Digit
    else if c == quotation_mark then Text Double Chars
    else if c == apostrophe then Text Single Chars
    else if c == solidus then past_slash g
    else after_mark (mark c)

abbrev pub next_in_parts : Host → ℕ → Place
next_in_parts host c = if is_part c then after host else if c == reverse_solidus then Escape host EscapeMark else Dead

abbrev pub next_in_escape : Host → Seen → ℕ → Place
next_in_escape host EscapeMark c = if c == small_u then Escape host EscapeLetter else Dead
next_in_escape host EscapeLetter c = if is_hex c then Escape host (OneDigit c) else Dead
next_in_escape host (OneDigit a) c = if is_hex c then Escape host (TwoDigits a c) else Dead
next_in_escape host (TwoDigits a b) c = if is_hex c then Escape host (ThreeDigits a b c) else Dead
next_in_escape host (ThreeDigits a b d) c = if is_escape_of (set_of host) a b d c then after host else Dead

abbrev pub is_dot : Punct → Bool
is_dot Dot = true
is_dot _ = false

abbrev pub next_by : Option Punct → Punct → ℕ → Place
next_by (Some q) p c = Mark q
next_by None p c = if is_dot p && is_digit c then Number Point else Dead

abbrev pub next_in_mark : Punct → ℕ → Place
next_in_mark p c = next_by (longer p c) p c

abbrev pub next_in_exponent : ℕ → Place
next_in_exponent c = if is_exponent_mark c then Number Exponent else Dead

abbrev pub next_in_whole : ℕ → Place
next_in_whole c = if c == full_stop then Number Point else next_in_exponent c

abbrev pub next_in_number : NumberPlace → ℕ → Place
next_in_number Zero c = if is_octal c then Number OctalDigit else if is_hex_mark c then Number HexMark else next_in_whole c
next_in_number Digit c = if is_digit c then Number Digit else next_in_whole c
next_in_number Point c = if is_digit c then Number Point else next_in_exponent c
next_in_number Exponent c = if is_sign c then Number Sign else if is_digit c then Number ExponentDigit else Dead
next_in_number Sign c = if is_digit c then Number ExponentDigit else Dead
next_in_number ExponentDigit c = if is_digit c then Number ExponentDigit else Dead
next_in_number HexMark c = if is_hex c then Number HexDigit else Dead
next_in_number HexDigit c = if is_hex c then Number HexDigit else Dead
next_in_number OctalDigit c = if is_octal c then Number OctalDigit else Dead

abbrev pub next_in_chars : Quote → ℕ → Place
next_in_chars q c =
    if c == quote_of q then Text q End
    else if c == reverse_solidus then Text q TextEscape
    else if is_line_end c then Dead else Text q Chars

abbrev pub after_text_escape : Quote → ℕ → Place
after_text_escape q c =
    if c == small_x then Text q (Hex Two)
    else if c == small_u then Text q (Hex Four)
    else if c == carriage_return then Text q Cr else Text q Chars

abbrev pub fewer : Left → TextPlace
fewer One = Chars
fewer Two = Hex One
fewer Three = Hex Two
fewer Four = Hex Three

abbrev pub next_in_text : Quote → TextPlace → ℕ → Place
next_in_text q Chars c = next_in_chars q c
next_in_text q TextEscape c = after_text_escape q c
next_in_text q Cr c = if c == line_feed then Text q Chars else next_in_chars q c
next_in_text q (Hex left) c = if is_hex c then Text q (fewer left) else Dead
next_in_text q End c = Dead

abbrev pub next_in_body : ℕ → Place
next_in_body c =
    if c == reverse_solidus then Pattern BodyEscape
    else if c == left_square_bracket then Pattern Class
    else if is_line_end c then Dead else Pattern Body

abbrev pub next_in_class : ℕ → Place
next_in_class c =
    if c == right_square_bracket then Pattern Body
    else if c == reverse_solidus then Pattern ClassEscape
    else if is_line_end c then Dead else Pattern Class

abbrev pub next_in_pattern : PatternPlace → ℕ → Place
next_in_pattern BodyStart c = if c == asterisk then Dead else if c == solidus then Dead else next_in_body c
next_in_pattern Body c = if c == solidus then Pattern Flags else next_in_body c
next_in_pattern BodyEscape c = if is_line_end c then Dead else Pattern Body
next_in_pattern Class c = next_in_class c
next_in_pattern ClassEscape c = if is_line_end c then Dead else Pattern Class
next_in_pattern Flags c = next_in_parts FlagChar c

-- after one character more
abbrev pub next : Place → ℕ → Place
next Name c = next_in_parts LaterChar c
next (Escape host seen) c = next_in_escape host seen c
next (Mark p) c = next_in_mark p c
next (Number place) c = next_in_number place c
next (Text q place) c = next_in_text q place c
next (Pattern place) c = next_in_pattern place c
next Dead c = Dead

abbrev pub ended_number : NumberPlace → Option Kind
ended_number Exponent = None
ended_number Sign = None
ended_number HexMark = None
ended_number _ = Some ANumber

abbrev pub ended_text : TextPlace → Option Kind
ended_text End = Some AText
ended_text _ = None

abbrev pub ended_pattern : PatternPlace → Option Kind
ended_pattern Flags = Some APattern
ended_pattern _ = None

-- the token that ends here
abbrev pub ended : Place → Option Kind
ended Name = Some AName
ended (Escape host seen) = None
ended (Mark p) = Some (APunct p)
ended (Number place) = ended_number place
ended (Text q place) = ended_text place
ended (Pattern place) = ended_pattern place
ended Dead = None

-- the token before an escape that doesn't go on
abbrev pub before_escape : Place → Option Kind
before_escape (Escape LaterChar seen) = Some AName
before_escape (Escape FlagChar seen) = Some APattern
before_escape _ = None

-- no token begins so
abbrev pub is_dead : Place → Bool
is_dead Dead = true
is_dead _ = false
