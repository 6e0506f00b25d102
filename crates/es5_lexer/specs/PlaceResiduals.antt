-- The residual of each place in a token: what may still come there, of a token of some kind.
use Rattle.std.specs.Prelude.{◌≡◌, ℕ, true, false, Some, List, [], ◌∷◌, ◌⊎◌}
use Rattle.es5_lexer.specs.CodePoints.{small_u}
use Rattle.es5_lexer.specs.Characters.{is_digit}
use Rattle.es5_lexer.specs.Suits.{is_div}
use Rattle.es5_lexer.specs.Names.{AreParts, AreEscaped, IsName}
use Rattle.es5_lexer.specs.Punctuators.{spelling, is_under}
use Rattle.es5_lexer.specs.Numbers.{AreDigits, AreSomeDigits, IsSignedInteger, IsAfterPoint, IsAfterDigit, IsAfterZero, AreHexDigits, AreSomeHexDigits, AreOctalDigits, IsNumber}
use Rattle.es5_lexer.specs.Strings.{IsStringRest, IsAfterEscape, IsLfThen, AreHexThen, IsString}
use Rattle.es5_lexer.specs.Patterns.{IsBodyRest, IsAfterBackslash, IsClassRest, IsAfterClassBackslash, IsBody, IsPattern}
use Rattle.es5_lexer.specs.Places.{set_of, longer}
use Rattle.es5_lexer.specs.declared.tokens.Goal.{Goal}
use Rattle.es5_lexer.specs.declared.tokens.Punct.{Punct}
use Rattle.es5_lexer.specs.declared.tokens.Punct.TheVariants.{Dot}
use Rattle.es5_lexer.specs.declared.places.Kind.{Kind}
use Rattle.es5_lexer.specs.declared.places.Kind.TheVariants.{Name as AName, Punct as APunct, Number as ANumber, Text as AText, Pattern as APattern}
use Rattle.es5_lexer.specs.declared.places.Place.{Place}
use Rattle.es5_lexer.specs.declared.places.Place.TheVariants.{Name, Escape, Mark, Number, Text, Pattern, Dead}
use Rattle.es5_lexer.specs.declared.places.Host.{Host}
use Rattle.es5_lexer.specs.declared.places.Host.TheVariants.{FirstChar, LaterChar, FlagChar}
use Rattle.es5_lexer.specs.declared.places.Seen.{Seen}
use Rattle.es5_lexer.specs.declared.places.Seen.TheVariants.{EscapeMark, EscapeLetter, OneDigit, TwoDigits, ThreeDigits}
use Rattle.es5_lexer.specs.declared.places.NumberPlace.{NumberPlace}
use Rattle.es5_lexer.specs.declared.places.NumberPlace.TheVariants.{Zero, Digit, Point, Exponent, Sign, ExponentDigit, HexMark, HexDigit, OctalDigit}
use Rattle.es5_lexer.specs.declared.places.Quote.{Quote}
use Rattle.es5_lexer.specs.declared.places.TextPlace.{TextPlace}
use Rattle.es5_lexer.specs.declared.places.TextPlace.TheVariants.{Chars, TextEscape, Cr, Hex, End}
use Rattle.es5_lexer.specs.declared.places.Left.{Left}
use Rattle.es5_lexer.specs.declared.places.Left.TheVariants.{One, Two, Three, Four}
use Rattle.es5_lexer.specs.declared.places.PatternPlace.{PatternPlace}
use Rattle.es5_lexer.specs.declared.places.PatternPlace.TheVariants.{BodyStart, Body, BodyEscape, Class, ClassEscape, Flags}

-- the text is one of a token of the kind
abbrev pub IsKind : Goal → Kind → List ℕ → Type 0
IsKind g AName u = IsName u
IsKind g (APunct p) u = (u ≡ spelling p) × (is_under g p ≡ true)
IsKind g ANumber u = IsNumber u
IsKind g AText u = IsString u
IsKind g APattern u = (is_div g ≡ false) × IsPattern u

-- what an escape is a part of
abbrev pub kind_in : Host → Kind
kind_in FirstChar = AName
kind_in LaterChar = AName
kind_in FlagChar = APattern

-- what was read of an escape after its `\`, before what follows
abbrev pub with_seen : Seen → List ℕ → List ℕ
with_seen EscapeMark u = u
with_seen EscapeLetter u = small_u ∷ u
with_seen (OneDigit a) u = small_u ∷ a ∷ u
with_seen (TwoDigits a b) u = small_u ∷ a ∷ b ∷ u
with_seen (ThreeDigits a b c) u = small_u ∷ a ∷ b ∷ c ∷ u

-- in an escape: its rest, and then name parts
abbrev pub EscapeResidual : Host → Seen → List ℕ → Type 0
EscapeResidual host seen u = AreEscaped (set_of host) (with_seen seen u)

-- after a whole punctuator: the rest of a longer one, or of a number that begins with a point
abbrev pub MarkResidual : Punct → Kind → List ℕ → Type 0
MarkResidual p k [] = k ≡ APunct p
MarkResidual p k (c ∷ u) =
    ((q : Punct) × (longer p c ≡ Some q) × MarkResidual q k u)
    ⊎ ((p ≡ Dot) × (is_digit c ≡ true) × (k ≡ ANumber) × IsAfterPoint u)

abbrev pub NumberResidual : NumberPlace → List ℕ → Type 0
NumberResidual Zero u = IsAfterZero u
NumberResidual Digit u = IsAfterDigit u
NumberResidual Point u = IsAfterPoint u
NumberResidual Exponent u = IsSignedInteger u
NumberResidual Sign u = AreSomeDigits u
NumberResidual ExponentDigit u = AreDigits u
NumberResidual HexMark u = AreSomeHexDigits u
NumberResidual HexDigit u = AreHexDigits u
NumberResidual OctalDigit u = AreOctalDigits u

-- how many digits are missing after the next one
abbrev pub further : Left → ℕ
further One = 0
further Two = 1
further Three = 2
further Four = 3

abbrev pub TextResidual : Quote → TextPlace → List ℕ → Type 0
TextResidual q Chars u = IsStringRest q u
TextResidual q TextEscape u = IsAfterEscape q u
TextResidual q Cr u = IsStringRest q u ⊎ IsLfThen q u
TextResidual q (Hex left) u = AreHexThen (further left) q u
TextResidual q End u = u ≡ []

abbrev pub PatternResidual : PatternPlace → List ℕ → Type 0
PatternResidual BodyStart u = IsBody u
PatternResidual Body u = IsBodyRest u
PatternResidual BodyEscape u = IsAfterBackslash u
PatternResidual Class u = IsClassRest u
PatternResidual ClassEscape u = IsAfterClassBackslash u
PatternResidual Flags u = AreParts u

-- the residual of a place: what completes a token of the kind there
abbrev pub PlaceResidual : Place → Kind → List ℕ → Type 0
PlaceResidual Name k u = (k ≡ AName) × AreParts u
PlaceResidual (Escape host seen) k u = (k ≡ kind_in host) × EscapeResidual host seen u
PlaceResidual (Mark p) k u = MarkResidual p k u
PlaceResidual (Number place) k u = (k ≡ ANumber) × NumberResidual place u
PlaceResidual (Text q place) k u = (k ≡ AText) × TextResidual q place u
PlaceResidual (Pattern place) k u = (k ≡ APattern) × PatternResidual place u
PlaceResidual Dead k u = ⊥
