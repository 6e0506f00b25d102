-- Escapes that aren't whole: where a lexer stands in them, and what `$` does in their place.
use Rattle.std.proofs.Common.{◌≡◌, ℕ, Bool, true, false, ◌&&◌, ◌||◌, ◌==◌, if◌then◌else◌, Option, Some, None, List, [], ◌∷◌, ◌⊎◌, inl, inr, refl, sym, ap, subst, ◌∙◌, IsTrue, arith}
use Rattle.std.proofs.lemmas.Bool.Decides.{nat_tests}
use Rattle.ucd_category.specs.GeneralCategory.{general_category}
use Rattle.ucd_category.specs.GeneralCategoryRows.{general_category_rows}
use Rattle.ucd_table.specs.Rows.{value_in}
use Rattle.text_stream.specs.Classes.{class_of, is_line_terminator}
use Rattle.text_stream.specs.declared.classes.CharClass.{CharClass}
use Rattle.text_stream.specs.declared.classes.CharClass.TheVariants.{LineEnd, Space, NameStart, NamePart, Other}
use Rattle.text_stream.proofs.ClassLemmas.{class_of-sets}
use Rattle.es5_lexer.specs.Characters.{is_line_end, is_start, is_part, is_hex, is_escape_of, is_line_end_class, is_part_class}
use Rattle.es5_lexer.specs.Tokens.{is_barred}
use Rattle.es5_lexer.specs.Strings.{quote_of}
use Rattle.es5_lexer.specs.Places.{set_of, is_dot, longer, next, next_by, next_in_parts, next_in_escape, next_in_chars, next_in_pattern, ended, is_dead}
use Rattle.es5_lexer.specs.PlaceResiduals.{PlaceResidual}
use Rattle.es5_lexer.specs.Reading.{token_of}
use Rattle.es5_lexer.specs.Residuals.{Leads, LeadsFrom, LeadsStart}
use Rattle.es5_lexer.specs.Lexing.{text_place, Within}
use Rattle.es5_lexer.specs.declared.tokens.Goal.{Goal}
use Rattle.es5_lexer.specs.declared.tokens.Punct.{Punct}
use Rattle.es5_lexer.specs.declared.tokens.Punct.TheVariants.{Dot, Less, Greater, ShiftRight, Plus, Minus, And, Or, Slash as TheSlash}
use Rattle.es5_lexer.specs.declared.places.Kind.{Kind}
use Rattle.es5_lexer.specs.declared.places.Kind.TheVariants.{Name as AName, Punct as APunct, Text as AText, Pattern as APattern}
use Rattle.es5_lexer.specs.declared.places.Place.{Place}
use Rattle.es5_lexer.specs.declared.places.Place.TheVariants.{Name, Escape, Mark as AtMark, Number, Text, Pattern, Dead}
use Rattle.es5_lexer.specs.declared.places.Host.{Host}
use Rattle.es5_lexer.specs.declared.places.Host.TheVariants.{FirstChar, LaterChar, FlagChar}
use Rattle.es5_lexer.specs.declared.places.Seen.{Seen}
use Rattle.es5_lexer.specs.declared.places.Seen.TheVariants.{EscapeMark, EscapeLetter, OneDigit, TwoDigits, ThreeDigits}
use Rattle.es5_lexer.specs.declared.places.NumberPlace.{NumberPlace}
use Rattle.es5_lexer.specs.declared.places.NumberPlace.TheVariants.{Zero, Digit, Point, Exponent, Sign, ExponentDigit, HexMark, HexDigit, OctalDigit}
use Rattle.es5_lexer.specs.declared.places.Quote.{Quote}
use Rattle.es5_lexer.specs.declared.places.Quote.TheVariants.{Double, Single}
use Rattle.es5_lexer.specs.declared.places.TextPlace.{TextPlace}
use Rattle.es5_lexer.specs.declared.places.TextPlace.TheVariants.{Chars, TextEscape, Cr, Hex, End}
use Rattle.es5_lexer.specs.declared.places.Left.{Left}
use Rattle.es5_lexer.specs.declared.places.Left.TheVariants.{One, Two, Three, Four}
use Rattle.es5_lexer.specs.declared.places.PatternPlace.TheVariants.{BodyStart, Body, BodyEscape, Class, ClassEscape, Flags}
use Rattle.es5_lexer.specs.declared.states.State.{State}
use Rattle.es5_lexer.specs.declared.states.State.TheVariants.{Start, Slash, LineComment, BlockComment, Token}
use Rattle.es5_lexer.proofs.Choices.{then_in, else_in, never}
use Rattle.es5_lexer.proofs.ClassLemmas.{backslash}
use Rattle.es5_lexer.proofs.PlaceLemmas.{goes, escape_open}
use Rattle.es5_lexer.proofs.TokenSteps.{first_backslash, backslash_no_blank, not_both}

-- the characters of escapes end no line

line_class : (k : CharClass) → is_line_end_class k ≡ true → k ≡ LineEnd
line_class LineEnd h = refl
line_class Space h = absurd cc
line_class NameStart h = absurd cc
line_class NamePart h = absurd cc
line_class Other h = absurd cc

not_line : (c : ℕ) → (IsTrue (is_line_terminator c) → ⊥) → (b : Bool) → is_line_end c ≡ b → is_line_end c ≡ false
not_line c h true e = absurd (h ((class_of-sets c).line_end.0 (line_class _ e)))
not_line c h false e = e

hex_no_line : (c : ℕ) → is_hex c ≡ true → is_line_end c ≡ false
hex_no_line c h = not_line c (λ t. absurd (clash c h t)) (is_line_end c) refl
  where
    clash : (n : ℕ) → is_hex n ≡ true → is_line_terminator n ≡ true → ⊥
    clash n x y = grind (arith, nat_tests)

-- a character of an escape after what is seen of it
abbrev pub Continues : Seen → ℕ → Type 0
Continues EscapeMark c = c ≡ 117
Continues EscapeLetter c = is_hex c ≡ true
Continues (OneDigit a) c = is_hex c ≡ true
Continues (TwoDigits a b) c = is_hex c ≡ true
Continues (ThreeDigits a b d) c = ⊥

abbrev pub next_seen : Seen → ℕ → Seen
next_seen EscapeMark c = EscapeLetter
next_seen EscapeLetter c = OneDigit c
next_seen (OneDigit a) c = TwoDigits a c
next_seen (TwoDigits a b) c = ThreeDigits a b c
next_seen (ThreeDigits a b d) c = ThreeDigits a b d

-- such a character stands for itself wherever a backslash may stand, but in names
record Plain (c : ℕ) : Type 0 where
  pub line : is_line_end c ≡ false
  pub double : (c == 34) ≡ false
  pub single : (c == 39) ≡ false
  pub slash : (c == 47) ≡ false
  pub opening : (c == 91) ≡ false
  pub backslash : (c == 92) ≡ false
  pub closing : (c == 93) ≡ false

hex_plain : (c : ℕ) → is_hex c ≡ true → Plain c
hex_plain c h = record {
  line = hex_no_line c h;
  double = grind (arith, nat_tests);
  single = grind (arith, nat_tests);
  slash = grind (arith, nat_tests);
  opening = grind (arith, nat_tests);
  backslash = grind (arith, nat_tests);
  closing = grind (arith, nat_tests);
}

letter_plain : (c : ℕ) → c ≡ 117 → Plain c
letter_plain c e = record {
  line = not_line c (λ t. absurd (clash c e t)) (is_line_end c) refl;
  double = grind (arith, nat_tests);
  single = grind (arith, nat_tests);
  slash = grind (arith, nat_tests);
  opening = grind (arith, nat_tests);
  backslash = grind (arith, nat_tests);
  closing = grind (arith, nat_tests);
}
  where
    clash : (n : ℕ) → n ≡ 117 → is_line_terminator n ≡ true → ⊥
    clash n x y = grind (arith, nat_tests)

digit_plain : (seen : Seen) (c : ℕ) → Continues seen c → Plain c
digit_plain EscapeMark c h = letter_plain c h
digit_plain EscapeLetter c h = hex_plain c h
digit_plain (OneDigit a) c h = hex_plain c h
digit_plain (TwoDigits a b) c h = hex_plain c h
digit_plain (ThreeDigits a b d) c h = absurd h

-- a token that hasn't ended and goes on
goes_to : (p q : Place) (g : Goal) (c : ℕ) (k : Option Kind) (t : State) → next p c ≡ q → is_dead q ≡ false → ended p ≡ None → LeadsFrom p g c k t → t ≡ Token q
goes_to p q g c None t e live none (inl h) = h.0 ∙ ap (λ (x : Place). Token x) e
goes_to p q g c None t e live none (inr h) = never (is_dead (next p c)) h.0 (ap is_dead e ∙ live)
goes_to p q g c (Some k) t e live none (inl h) = absurd cc
goes_to p q g c (Some k) t e live none (inr h) = never (is_dead (next p c)) h.0 (ap is_dead e ∙ live)

-- one character of the escape more

escape_next : (host : Host) (seen : Seen) (c : ℕ) → Continues seen c → next (Escape host seen) c ≡ Escape host (next_seen seen c)
escape_next host EscapeMark c h = then_in (λ (p : Place). p ≡ Escape host EscapeLetter) (c == 117) _ _ (ap (λ (x : ℕ). x == 117) h) refl
escape_next host EscapeLetter c h = then_in (λ (p : Place). p ≡ Escape host (OneDigit c)) (is_hex c) _ _ h refl
escape_next host (OneDigit a) c h = then_in (λ (p : Place). p ≡ Escape host (TwoDigits a c)) (is_hex c) _ _ h refl
escape_next host (TwoDigits a b) c h = then_in (λ (p : Place). p ≡ Escape host (ThreeDigits a b c)) (is_hex c) _ _ h refl
escape_next host (ThreeDigits a b d) c h = absurd h

no_quote : (q : Quote) (c : ℕ) → Plain c → (c == quote_of q) ≡ false
no_quote Double c p = p.double
no_quote Single c p = p.single

chars_next : (q : Quote) (c : ℕ) → Plain c → next_in_chars q c ≡ Text q Chars
chars_next q c p =
    else_in (λ (x : Place). x ≡ Text q Chars) (c == quote_of q) _ _ (no_quote q c p)
    (else_in (λ (x : Place). x ≡ Text q Chars) (c == 92) _ _ p.backslash
    (else_in (λ (x : Place). x ≡ Text q Chars) (is_line_end c) _ _ p.line refl))

text_next : (q : Quote) (seen : Seen) (c : ℕ) → Continues seen c → next (Text q (text_place seen)) c ≡ Text q (text_place (next_seen seen c))
text_next q EscapeMark c h =
    else_in (λ (x : Place). x ≡ Text q (Hex Four)) (c == 120) _ _ (ap (λ (x : ℕ). x == 120) h)
    (then_in (λ (x : Place). x ≡ Text q (Hex Four)) (c == 117) _ _ (ap (λ (x : ℕ). x == 117) h) refl)
text_next q EscapeLetter c h = then_in (λ (x : Place). x ≡ Text q (Hex Three)) (is_hex c) _ _ h refl
text_next q (OneDigit a) c h = then_in (λ (x : Place). x ≡ Text q (Hex Two)) (is_hex c) _ _ h refl
text_next q (TwoDigits a b) c h = then_in (λ (x : Place). x ≡ Text q (Hex One)) (is_hex c) _ _ h refl
text_next q (ThreeDigits a b d) c h = absurd h

text_open : (q : Quote) (seen : Seen) → ended (Text q (text_place seen)) ≡ None
text_open q EscapeMark = refl
text_open q EscapeLetter = refl
text_open q (OneDigit a) = refl
text_open q (TwoDigits a b) = refl
text_open q (ThreeDigits a b d) = refl

body_next : (c : ℕ) → Plain c → next_in_pattern Body c ≡ Pattern Body
body_next c p =
    else_in (λ (x : Place). x ≡ Pattern Body) (c == 47) _ _ p.slash
    (else_in (λ (x : Place). x ≡ Pattern Body) (c == 92) _ _ p.backslash
    (else_in (λ (x : Place). x ≡ Pattern Body) (c == 91) _ _ p.opening
    (else_in (λ (x : Place). x ≡ Pattern Body) (is_line_end c) _ _ p.line refl)))

class_next : (c : ℕ) → Plain c → next_in_pattern Class c ≡ Pattern Class
class_next c p =
    else_in (λ (x : Place). x ≡ Pattern Class) (c == 93) _ _ p.closing
    (else_in (λ (x : Place). x ≡ Pattern Class) (c == 92) _ _ p.backslash
    (else_in (λ (x : Place). x ≡ Pattern Class) (is_line_end c) _ _ p.line refl))

pub as_within : (seen : Seen) (t s : State) → t ≡ s → Within seen s → Within seen t
as_within seen t s e h = subst (Within seen) (sym e) h

pub digit_step : (seen : Seen) (c : ℕ) (s : State) (g : Goal) (k : Option Kind) (t : State) → Continues seen c → Within seen s → Leads s g c k t → Within (next_seen seen c) t
digit_step seen c (Token (Escape host x)) g k t d w l =
    let e : next (Escape host x) c ≡ Escape host (next_seen seen c) = ap (λ (y : Seen). next (Escape host y) c) w ∙ escape_next host seen c d in
    as_within _ t _ (goes_to (Escape host x) (Escape host (next_seen seen c)) g c k t e refl refl l) refl
digit_step seen c (Token (Text q x)) g k t d (inl w) l =
    let e : next (Text q x) c ≡ Text q Chars = ap (λ (y : TextPlace). next (Text q y) c) w ∙ chars_next q c (digit_plain seen c d) in
    as_within _ t _ (goes_to (Text q x) (Text q Chars) g c k t e refl (ap (λ (y : TextPlace). ended (Text q y)) w) l) (inl refl)
digit_step seen c (Token (Text q x)) g k t d (inr w) l =
    let e : next (Text q x) c ≡ Text q (text_place (next_seen seen c)) = ap (λ (y : TextPlace). next (Text q y) c) w ∙ text_next q seen c d in
    as_within _ t _ (goes_to (Text q x) (Text q (text_place (next_seen seen c))) g c k t e refl (ap (λ (y : TextPlace). ended (Text q y)) w ∙ text_open q seen) l) (inr refl)
digit_step seen c (Token (Pattern Body)) g k t d w l =
    as_within _ t _ (goes_to (Pattern Body) (Pattern Body) g c k t (body_next c (digit_plain seen c d)) refl refl l) tt
digit_step seen c (Token (Pattern Class)) g k t d w l =
    as_within _ t _ (goes_to (Pattern Class) (Pattern Class) g c k t (class_next c (digit_plain seen c d)) refl refl l) tt
digit_step seen c (Token (Pattern BodyEscape)) g k t d w l =
    as_within _ t _ (goes_to (Pattern BodyEscape) (Pattern Body) g c k t (else_in (λ (x : Place). x ≡ Pattern Body) (is_line_end c) _ _ (digit_plain seen c d).line refl) refl refl l) tt
digit_step seen c (Token (Pattern ClassEscape)) g k t d w l =
    as_within _ t _ (goes_to (Pattern ClassEscape) (Pattern Class) g c k t (else_in (λ (x : Place). x ≡ Pattern Class) (is_line_end c) _ _ (digit_plain seen c d).line refl) refl refl l) tt
digit_step seen c LineComment g None t d w l =
    as_within _ t LineComment (l ∙ else_in (λ (x : State). x ≡ LineComment) (is_line_end c) _ _ (digit_plain seen c d).line refl) tt
digit_step seen c LineComment g (Some k) t d w l = absurd l
digit_step seen c (BlockComment star) g None t d w l =
    as_within _ t (BlockComment (c == 42)) (l ∙ else_in (λ (x : State). x ≡ BlockComment (c == 42)) (star && (c == 47)) _ _ (no_close star (c == 47) (digit_plain seen c d).slash) refl) tt
  where
    no_close : (a b : Bool) → b ≡ false → (a && b) ≡ false
    no_close true b h = h
    no_close false b h = refl
digit_step seen c (BlockComment star) g (Some k) t d w l = absurd l
digit_step seen c Start g k t d w l = absurd w
digit_step seen c Slash g k t d w l = absurd w
digit_step seen c (Token Name) g k t d w l = absurd w
digit_step seen c (Token (AtMark p)) g k t d w l = absurd w
digit_step seen c (Token (Number p)) g k t d w l = absurd w
digit_step seen c (Token (Pattern BodyStart)) g k t d w l = absurd w
digit_step seen c (Token (Pattern Flags)) g k t d w l = absurd w
digit_step seen c (Token Dead) g k t d w l = absurd w

-- where a `$` goes on, a backslash begins an escape or is a character

pub start_dollar : is_start 36 ≡ true
unfolding class_of general_category general_category_rows value_in
start_dollar = refl

pub part_dollar : is_part 36 ≡ true
unfolding class_of general_category general_category_rows value_in
part_dollar = refl

pub line_backslash : is_line_end 92 ≡ false
line_backslash = ap is_line_end_class backslash

no_longer_dollar : (p : Punct) → longer p 36 ≡ None
no_longer_dollar Less = refl
no_longer_dollar Greater = refl
no_longer_dollar ShiftRight = refl
no_longer_dollar Plus = refl
no_longer_dollar Minus = refl
no_longer_dollar And = refl
no_longer_dollar Or = refl
no_longer_dollar _ = refl

no_longer_backslash : (p : Punct) → longer p 92 ≡ None
no_longer_backslash Less = refl
no_longer_backslash Greater = refl
no_longer_backslash ShiftRight = refl
no_longer_backslash Plus = refl
no_longer_backslash Minus = refl
no_longer_backslash And = refl
no_longer_backslash Or = refl
no_longer_backslash _ = refl

nothing_next : (p : Punct) (c : ℕ) (b : Bool) → b ≡ false → is_dead (if b then Number Point else Dead) ≡ true
nothing_next p c true e = absurd cc
nothing_next p c false e = refl

dot_no : (p : Punct) (d : Bool) → d ≡ false → (is_dot p && d) ≡ false
dot_no Dot d e = e
dot_no _ d e = refl

pub mark_dollar : (p : Punct) → is_dead (next (AtMark p) 36) ≡ true
mark_dollar p =
    ap (λ (o : Option Punct). is_dead (next_by o p 36)) (no_longer_dollar p) ∙ nothing_next p 36 (is_dot p && false) (dot_no p false refl)

mark_backslash : (p : Punct) → is_dead (next (AtMark p) 92) ≡ true
mark_backslash p =
    ap (λ (o : Option Punct). is_dead (next_by o p 92)) (no_longer_backslash p) ∙ nothing_next p 92 (is_dot p && false) (dot_no p false refl)

number_dollar : (p : NumberPlace) → next (Number p) 36 ≡ Dead
number_dollar Zero = refl
number_dollar Digit = refl
number_dollar Point = refl
number_dollar Exponent = refl
number_dollar Sign = refl
number_dollar ExponentDigit = refl
number_dollar HexMark = refl
number_dollar HexDigit = refl
number_dollar OctalDigit = refl

mark_free : (p : Punct) → is_barred (token_of (APunct p) []) 92 ≡ false
mark_free TheSlash = refl
mark_free _ = refl

-- a `$` goes on with the token, or stands after it
pub data Takes (p : Place) (c : ℕ) : Type 0 where
  on : (k : Kind) (u : List ℕ) → PlaceResidual p k (c ∷ u) → Takes p c
  after_it : (k : Kind) (u : List ℕ) → PlaceResidual p k [] → is_barred (token_of k u) c ≡ false → Takes p c

-- a backslash goes on with it to where an escape leaves it, or stands after it
pub data Opens (p : Place) : Type 0 where
  in_it : (q : Place) → next p 92 ≡ q → is_dead q ≡ false → ((k : Kind) → ended p ≡ Some k → (k ≡ AName) ⊎ (k ≡ APattern)) → Within EscapeMark (Token q) → Opens p
  after_it : is_dead (next p 92) ≡ true → (k : Kind) → ended p ≡ Some k → is_barred (token_of k []) 92 ≡ false → Opens p

part_backslash : is_part 92 ≡ false
part_backslash = ap is_part_class backslash

parts_backslash : (host : Host) → next_in_parts host 92 ≡ Escape host EscapeMark
parts_backslash host = else_in (λ (x : Place). x ≡ Escape host EscapeMark) (is_part 92) _ _ part_backslash refl

no_digits : (host : Host) (seen : Seen) → Takes (Escape host seen) 36 → ⊥
no_digits host seen (after_it k u r _) = escape_open host seen r.1
no_digits host seen (on k u r) = dead_rest (next_in_escape host seen 36) (escape_dollar host seen) k u (goes (Escape host seen) k 36 u r)
  where
    dead_rest : (p : Place) → p ≡ Dead → (l : Kind) (v : List ℕ) → PlaceResidual p l v → ⊥
    dead_rest p e l v x = subst (λ (y : Place). PlaceResidual y l v) e x

    last_dollar : (h : Host) (a b d : ℕ) → is_escape_of (set_of h) a b d 36 ≡ false
    last_dollar h a b d = by_hex (is_hex a && is_hex b) (is_hex d) _
      where
        by_hex : (x y z : Bool) → ((x && (y && false)) && z) ≡ false
        by_hex true true z = refl
        by_hex true false z = refl
        by_hex false y z = refl

    escape_dollar : (h : Host) (s : Seen) → next_in_escape h s 36 ≡ Dead
    escape_dollar h EscapeMark = refl
    escape_dollar h EscapeLetter = refl
    escape_dollar h (OneDigit a) = refl
    escape_dollar h (TwoDigits a b) = refl
    escape_dollar h (ThreeDigits a b d) = else_in (λ (x : Place). x ≡ Dead) (is_escape_of (set_of h) a b d 36) _ _ (last_dollar h a b d) refl

no_number : (p : NumberPlace) → Takes (Number p) 36 → ⊥
no_number p (on k u r) = subst (λ (y : Place). PlaceResidual y k u) (number_dollar p) (goes (Number p) k 36 u r)
no_number p (after_it k u r f) =
    never (is_start 36) start_dollar (second (is_start 36) (subst (λ (x : Kind). is_barred (token_of x u) 36 ≡ false) r.0 f))
  where
    second : (a : Bool) → (false || (a || false)) ≡ false → a ≡ false
    second true h = absurd cc
    second false h = refl

text_backslash : (q : Quote) → next_in_chars q 92 ≡ Text q TextEscape
text_backslash Double = refl
text_backslash Single = refl

hex_dollar : (q : Quote) (l : Left) → Takes (Text q (Hex l)) 36 → ⊥
hex_dollar q l (on k u r) = goes (Text q (Hex l)) k 36 u r
hex_dollar q One (after_it k u r f) = r.1
hex_dollar q Two (after_it k u r f) = r.1
hex_dollar q Three (after_it k u r f) = r.1
hex_dollar q Four (after_it k u r f) = r.1

not_ended : (p : Place) → ended p ≡ None → (k : Kind) → ended p ≡ Some k → (k ≡ AName) ⊎ (k ≡ APattern)
not_ended p e k f = absurd cc

is_name_kind : (k : Kind) → Some AName ≡ Some k → (k ≡ AName) ⊎ (k ≡ APattern)
is_name_kind k e = let same : k ≡ AName = cc in inl same

is_pattern_kind : (k : Kind) → Some APattern ≡ Some k → (k ≡ AName) ⊎ (k ≡ APattern)
is_pattern_kind k e = let same : k ≡ APattern = cc in inr same

pub opens : (p : Place) → Takes p 36 → Opens p
opens Name h = in_it (Escape LaterChar EscapeMark) (parts_backslash LaterChar) refl is_name_kind refl
opens (Escape host seen) h = absurd (no_digits host seen h)
opens (AtMark p) h = after_it (mark_backslash p) (APunct p) refl (mark_free p)
opens (Number p) h = absurd (no_number p h)
opens (Text q Chars) h = in_it (Text q TextEscape) (text_backslash q) refl (not_ended (Text q Chars) refl) (inr refl)
opens (Text q TextEscape) h = in_it (Text q Chars) refl refl (not_ended (Text q TextEscape) refl) (inl refl)
opens (Text q Cr) h = in_it (Text q TextEscape) (text_backslash q) refl (not_ended (Text q Cr) refl) (inr refl)
opens (Text q (Hex l)) h = absurd (hex_dollar q l h)
opens (Text q End) h = after_it refl AText refl refl
opens (Pattern BodyStart) h = in_it (Pattern BodyEscape) refl refl (not_ended (Pattern BodyStart) refl) refl
opens (Pattern Body) h = in_it (Pattern BodyEscape) refl refl (not_ended (Pattern Body) refl) refl
opens (Pattern BodyEscape) h =
    in_it (Pattern Body) (else_in (λ (x : Place). x ≡ Pattern Body) (is_line_end 92) _ _ line_backslash refl) refl (not_ended (Pattern BodyEscape) refl) tt
opens (Pattern Class) h = in_it (Pattern ClassEscape) refl refl (not_ended (Pattern Class) refl) refl
opens (Pattern ClassEscape) h =
    in_it (Pattern Class) (else_in (λ (x : Place). x ≡ Pattern Class) (is_line_end 92) _ _ line_backslash refl) refl (not_ended (Pattern ClassEscape) refl) tt
opens (Pattern Flags) h = in_it (Escape FlagChar EscapeMark) (parts_backslash FlagChar) refl is_pattern_kind refl
opens Dead (on k u r) = absurd r
opens Dead (after_it k u r f) = absurd r

-- where a backslash leads to

pub start_backslash : (g : Goal) (c : ℕ) (t : State) → c ≡ 92 → LeadsStart g c t → Within EscapeMark t
start_backslash g c Start e l = absurd (backslash_no_blank c e l)
start_backslash g c Slash e l = absurd (not_both c e l)
start_backslash g c LineComment e l = absurd l
start_backslash g c (BlockComment star) e l = absurd l
start_backslash g c (Token q) e l =
    as_within EscapeMark (Token q) (Token (Escape FirstChar EscapeMark)) (ap (λ (x : Place). Token x) (l ∙ first_backslash g c e)) refl

pub place_backslash : (p : Place) (g : Goal) (c : ℕ) (k : Option Kind) (t : State) → c ≡ 92 → Opens p → LeadsFrom p g c k t → Within EscapeMark t
place_backslash p g c None t e (in_it q n live kinds w) (inl h) =
    as_within EscapeMark t (Token q) (h.0 ∙ ap (λ (x : ℕ). Token (next p x)) e ∙ ap (λ (x : Place). Token x) n) w
place_backslash p g c None t e (in_it q n live kinds w) (inr h) =
    never (is_dead (next p c)) h.0 (ap (λ (x : ℕ). is_dead (next p x)) e ∙ ap is_dead n ∙ live)
place_backslash p g c (Some k) t e (in_it q n live kinds w) (inl h) = start_backslash g c t e h.2
place_backslash p g c (Some k) t e (in_it q n live kinds w) (inr h) =
    never (is_dead (next p c)) h.0 (ap (λ (x : ℕ). is_dead (next p x)) e ∙ ap is_dead n ∙ live)
place_backslash p g c None t e (after_it dead j f free) (inl h) =
    never (is_dead (next p c)) (ap (λ (x : ℕ). is_dead (next p x)) e ∙ dead) h.1
place_backslash p g c None t e (after_it dead j f free) (inr h) =
    never (is_barred (token_of j []) c) (h.2 j f []) (ap (λ (x : ℕ). is_barred (token_of j []) x) e ∙ free)
place_backslash p g c (Some k) t e (after_it dead j f free) (inl h) = start_backslash g c t e h.2
place_backslash p g c (Some k) t e (after_it dead j f free) (inr h) =
    never (is_barred (token_of j []) c) (h.2 j f []) (ap (λ (x : ℕ). is_barred (token_of j []) x) e ∙ free)
