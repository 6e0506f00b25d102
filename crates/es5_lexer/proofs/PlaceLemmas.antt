-- A character before what may come at a place is a step to the place after it, and back.
use Rattle.std.proofs.Common.{◌≡◌, ℕ, Bool, true, false, ◌&&◌, ◌||◌, not, ◌==◌, if◌then◌else◌, Option, Some, None, List, [], ◌∷◌, ◌⊎◌, inl, inr, refl, sym, ap, subst, ◌∙◌, arith}
use Rattle.std.proofs.lemmas.Bool.Decides.{nat_tests}
use Rattle.es5_lexer.specs.Characters.{is_part, is_line_end, is_digit, is_hex, is_octal, is_escape_of, is_part_class, is_line_end_class}
use Rattle.es5_lexer.specs.Names.{AreParts, AreEscaped}
use Rattle.es5_lexer.specs.Numbers.{is_exponent_mark, is_hex_mark, is_sign}
use Rattle.es5_lexer.specs.Strings.{quote_of, IsStringRest, IsAfterEscape}
use Rattle.es5_lexer.specs.Patterns.{IsBody, IsBodyRest, IsClassRest}
use Rattle.es5_lexer.specs.Places.{set_of, after, is_dot, longer, next, next_by, next_in_parts, next_in_escape, next_in_number, next_in_exponent, next_in_chars, after_text_escape, next_in_text, next_in_body, next_in_pattern, ended}
use Rattle.es5_lexer.specs.PlaceResiduals.{kind_in, EscapeResidual, MarkResidual, NumberResidual, TextResidual, PatternResidual, PlaceResidual}
use Rattle.es5_lexer.specs.declared.tokens.Punct.{Punct}
use Rattle.es5_lexer.specs.declared.tokens.Punct.TheVariants.{Dot}
use Rattle.es5_lexer.specs.declared.places.Kind.{Kind}
use Rattle.es5_lexer.specs.declared.places.Kind.TheVariants.{Number as ANumber, Text as AText, Pattern as APattern}
use Rattle.es5_lexer.specs.declared.places.Place.{Place}
use Rattle.es5_lexer.specs.declared.places.Place.TheVariants.{Name, Escape, Mark, Number, Text, Pattern, Dead}
use Rattle.es5_lexer.specs.declared.places.Host.{Host}
use Rattle.es5_lexer.specs.declared.places.Host.TheVariants.{FirstChar, LaterChar, FlagChar}
use Rattle.es5_lexer.specs.declared.places.Seen.{Seen}
use Rattle.es5_lexer.specs.declared.places.Seen.TheVariants.{EscapeMark, EscapeLetter, OneDigit, TwoDigits, ThreeDigits}
use Rattle.es5_lexer.specs.declared.places.NumberPlace.{NumberPlace}
use Rattle.es5_lexer.specs.declared.places.NumberPlace.TheVariants.{Zero, Digit, Point, Exponent, Sign, ExponentDigit, HexMark, HexDigit, OctalDigit}
use Rattle.es5_lexer.specs.declared.places.Quote.{Quote}
use Rattle.es5_lexer.specs.declared.places.Quote.TheVariants.{Double, Single}
use Rattle.es5_lexer.specs.declared.places.TextPlace.{TextPlace}
use Rattle.es5_lexer.specs.declared.places.TextPlace.TheVariants.{Chars, TextEscape, Cr, Hex, End}
use Rattle.es5_lexer.specs.declared.places.Left.TheVariants.{One, Two, Three, Four}
use Rattle.es5_lexer.specs.declared.places.PatternPlace.{PatternPlace}
use Rattle.es5_lexer.specs.declared.places.PatternPlace.TheVariants.{BodyStart, Body, BodyEscape, Class, ClassEscape, Flags}
use Rattle.es5_lexer.proofs.Choices.{split, then_in, else_in, is_same, test_same, or_cases, not_or, not_true, true_not, or_not, and_left, and_right, never}
use Rattle.es5_lexer.proofs.ClassLemmas.{backslash, line_feed}

-- what may come, as a family of places
abbrev At : Kind → List ℕ → Place → Type 0
At k u s = PlaceResidual s k u

-- names

after_host : (host : Host) (k : Kind) (u : List ℕ) → k ≡ kind_in host → AreParts u → PlaceResidual (after host) k u
after_host FirstChar k u e p = (e, p)
after_host LaterChar k u e p = (e, p)
after_host FlagChar k u e p = (e, p)

host_after : (host : Host) (k : Kind) (u : List ℕ) → PlaceResidual (after host) k u → (k ≡ kind_in host) × AreParts u
host_after FirstChar k u h = (h.0, h.1)
host_after LaterChar k u h = (h.0, h.1)
host_after FlagChar k u h = (h.0, h.1)

parts_go : (host : Host) (k : Kind) (c : ℕ) (u : List ℕ) → is_part ≡ set_of host → k ≡ kind_in host → AreParts (c ∷ u) → PlaceResidual (next_in_parts host c) k u
parts_go host k c u same e (inl (h, p)) =
    then_in (At k u) (is_part c) _ _ h (after_host host k u e p)
parts_go host k c u same e (inr (h, p)) =
    else_in (At k u) (is_part c) _ _ (ap is_part h ∙ ap is_part_class backslash)
    (then_in (At k u) (c == 92) _ _ (test_same c 92 h) (e, subst (λ (f : ℕ → Bool). AreEscaped f u) same p))

parts_come : (host : Host) (k : Kind) (c : ℕ) (u : List ℕ) → is_part ≡ set_of host → PlaceResidual (next_in_parts host c) k u → (k ≡ kind_in host) × AreParts (c ∷ u)
parts_come host k c u same h =
    elim (split (At k u) (is_part c) _ _ h) [
      | inl (t, r) ↦ let b = host_after host k u r in (b.0, inl (t, b.1))
      | inr (_, r) ↦ elim (split (At k u) (c == 92) _ _ r) [
        | inl (t, (e, p)) ↦ (e, inr (is_same c 92 t, subst (λ (f : ℕ → Bool). AreEscaped f u) (sym same) p))
        | inr (_, z) ↦ absurd z
      ]
    ]

-- the digits of an escape, one by one

pub mark_is : (set : ℕ → Bool) (x : ℕ) (u : List ℕ) → AreEscaped set (x ∷ u) → x ≡ 117
mark_is set x [] h = absurd h
mark_is set x (a ∷ []) h = absurd h
mark_is set x (a ∷ b ∷ []) h = absurd h
mark_is set x (a ∷ b ∷ c ∷ []) h = absurd h
mark_is set x (a ∷ b ∷ c ∷ d ∷ u) h = h.0

pub first_hex : (set : ℕ → Bool) (a : ℕ) (u : List ℕ) → AreEscaped set (117 ∷ a ∷ u) → is_hex a ≡ true
first_hex set a [] h = absurd h
first_hex set a (b ∷ []) h = absurd h
first_hex set a (b ∷ c ∷ []) h = absurd h
first_hex set a (b ∷ c ∷ d ∷ u) h =
    and_left (is_hex a) (is_hex b) (and_left (is_hex a && is_hex b) (is_hex c && is_hex d) (and_left _ _ h.1))

pub second_hex : (set : ℕ → Bool) (a b : ℕ) (u : List ℕ) → AreEscaped set (117 ∷ a ∷ b ∷ u) → is_hex b ≡ true
second_hex set a b [] h = absurd h
second_hex set a b (c ∷ []) h = absurd h
second_hex set a b (c ∷ d ∷ u) h =
    and_right (is_hex a) (is_hex b) (and_left (is_hex a && is_hex b) (is_hex c && is_hex d) (and_left _ _ h.1))

pub third_hex : (set : ℕ → Bool) (a b c : ℕ) (u : List ℕ) → AreEscaped set (117 ∷ a ∷ b ∷ c ∷ u) → is_hex c ≡ true
third_hex set a b c [] h = absurd h
third_hex set a b c (d ∷ u) h =
    and_left (is_hex c) (is_hex d) (and_right (is_hex a && is_hex b) (is_hex c && is_hex d) (and_left _ _ h.1))

escape_goes : (host : Host) (seen : Seen) (k : Kind) (c : ℕ) (u : List ℕ) → k ≡ kind_in host → EscapeResidual host seen (c ∷ u) → PlaceResidual (next_in_escape host seen c) k u
escape_goes host EscapeMark k c u e h =
    let m = mark_is (set_of host) c u h in
    then_in (At k u) (c == 117) _ _ (test_same c 117 m) (e, subst (λ (x : ℕ). AreEscaped (set_of host) (x ∷ u)) m h)
escape_goes host EscapeLetter k c u e h = then_in (At k u) (is_hex c) _ _ (first_hex (set_of host) c u h) (e, h)
escape_goes host (OneDigit a) k c u e h = then_in (At k u) (is_hex c) _ _ (second_hex (set_of host) a c u h) (e, h)
escape_goes host (TwoDigits a b) k c u e h = then_in (At k u) (is_hex c) _ _ (third_hex (set_of host) a b c u h) (e, h)
escape_goes host (ThreeDigits a b d) k c u e h =
    then_in (At k u) (is_escape_of (set_of host) a b d c) _ _ h.1 (after_host host k u e h.2)

escape_comes : (host : Host) (seen : Seen) (k : Kind) (c : ℕ) (u : List ℕ) → PlaceResidual (next_in_escape host seen c) k u → (k ≡ kind_in host) × EscapeResidual host seen (c ∷ u)
escape_comes host EscapeMark k c u h =
    elim (split (At k u) (c == 117) _ _ h) [
      | inl (t, (e, r)) ↦ (e, subst (λ (x : ℕ). AreEscaped (set_of host) (x ∷ u)) (sym (is_same c 117 t)) r)
      | inr (_, z) ↦ absurd z
    ]
escape_comes host EscapeLetter k c u h =
    elim (split (At k u) (is_hex c) _ _ h) [ inl (t, (e, r)) ↦ (e, r) | inr (_, z) ↦ absurd z ]
escape_comes host (OneDigit a) k c u h =
    elim (split (At k u) (is_hex c) _ _ h) [ inl (t, (e, r)) ↦ (e, r) | inr (_, z) ↦ absurd z ]
escape_comes host (TwoDigits a b) k c u h =
    elim (split (At k u) (is_hex c) _ _ h) [ inl (t, (e, r)) ↦ (e, r) | inr (_, z) ↦ absurd z ]
escape_comes host (ThreeDigits a b d) k c u h =
    elim (split (At k u) (is_escape_of (set_of host) a b d c) _ _ h) [
      | inl (t, r) ↦ let b = host_after host k u r in (b.0, (refl, t, b.1))
      | inr (_, z) ↦ absurd z
    ]

-- punctuators

choice : (o : Option Punct) (b : Bool) → (if b then o else o) ≡ o
choice o true = refl
choice o false = refl

mark_goes : (p : Punct) (k : Kind) (c : ℕ) (u : List ℕ) → MarkResidual p k (c ∷ u) → PlaceResidual (next_by (longer p c) p c) k u
mark_goes p k c u (inl (q, e, h)) = subst (λ (o : Option Punct). PlaceResidual (next_by o p c) k u) (sym e) h
mark_goes p k c u (inr (dot, d, e, h)) =
    subst (λ (q : Punct). PlaceResidual (next_by (longer q c) q c) k u) (sym dot)
    (subst (λ (o : Option Punct). PlaceResidual (next_by o Dot c) k u) (sym (choice None (c == 61)))
    (then_in (At k u) (is_digit c) _ _ d (e, h)))

pub dot_is : (p : Punct) → is_dot p ≡ true → p ≡ Dot
dot_is Dot h = refl
dot_is _ h = absurd cc

mark_comes : (p : Punct) (k : Kind) (c : ℕ) (u : List ℕ) (o : Option Punct) → longer p c ≡ o → PlaceResidual (next_by o p c) k u → MarkResidual p k (c ∷ u)
mark_comes p k c u (Some q) e h = inl (q, e, h)
mark_comes p k c u None e h =
    elim (split (At k u) (is_dot p && is_digit c) _ _ h) [
      | inl (t, (f, r)) ↦ inr (dot_is p (and_left _ _ t), and_right (is_dot p) (is_digit c) t, f, r)
      | inr (_, z) ↦ absurd z
    ]

-- numbers

exponent_marks : (c : ℕ) → is_exponent_mark c ≡ true → (c ≡ 101) ⊎ (c ≡ 69)
exponent_marks c h =
    elim (or_cases (c == 101) (c == 69) h) [ inl t ↦ inl (is_same c 101 t) | inr t ↦ inr (is_same c 69 t) ]

hex_marks : (c : ℕ) → is_hex_mark c ≡ true → (c ≡ 120) ⊎ (c ≡ 88)
hex_marks c h =
    elim (or_cases (c == 120) (c == 88) h) [ inl t ↦ inl (is_same c 120 t) | inr t ↦ inr (is_same c 88 t) ]

digit_no_sign : (c : ℕ) → is_digit c ≡ true → is_sign c ≡ false
digit_no_sign c h = grind (arith, nat_tests)

-- at a character that is known
known : (place : NumberPlace) (k : Kind) (c n : ℕ) (u : List ℕ) → c ≡ n → PlaceResidual (next_in_number place n) k u → PlaceResidual (next_in_number place c) k u
known place k c n u e h = subst (λ (x : ℕ). PlaceResidual (next_in_number place x) k u) (sym e) h

exponent_goes : (place : NumberPlace) (k : Kind) (c : ℕ) (u : List ℕ) → is_exponent_mark c ≡ true → PlaceResidual (next_in_number place 101) k u → PlaceResidual (next_in_number place 69) k u → PlaceResidual (next_in_number place c) k u
exponent_goes place k c u m low high =
    elim (exponent_marks c m) [ inl e ↦ known place k c 101 u e low | inr e ↦ known place k c 69 u e high ]

number_goes : (place : NumberPlace) (k : Kind) (c : ℕ) (u : List ℕ) → k ≡ ANumber → NumberResidual place (c ∷ u) → PlaceResidual (next_in_number place c) k u
number_goes Zero k c u e (inl (o, h)) = then_in (At k u) (is_octal c) _ _ o (e, h)
number_goes Zero k c u e (inr (inl (p, h))) = known Zero k c 46 u p (e, h)
number_goes Zero k c u e (inr (inr (inl (m, h)))) = exponent_goes Zero k c u m (e, h) (e, h)
number_goes Zero k c u e (inr (inr (inr (m, h)))) =
    elim (hex_marks c m) [ inl x ↦ known Zero k c 120 u x (e, h) | inr x ↦ known Zero k c 88 u x (e, h) ]
number_goes Digit k c u e (inl (d, h)) = then_in (At k u) (is_digit c) _ _ d (e, h)
number_goes Digit k c u e (inr (inl (p, h))) = known Digit k c 46 u p (e, h)
number_goes Digit k c u e (inr (inr (m, h))) = exponent_goes Digit k c u m (e, h) (e, h)
number_goes Point k c u e (inl (d, h)) = then_in (At k u) (is_digit c) _ _ d (e, h)
number_goes Point k c u e (inr (m, h)) = exponent_goes Point k c u m (e, h) (e, h)
number_goes Exponent k c u e (inl (s, h)) = then_in (At k u) (is_sign c) _ _ s (e, h)
number_goes Exponent k c u e (inr (d, h)) =
    else_in (At k u) (is_sign c) _ _ (digit_no_sign c d) (then_in (At k u) (is_digit c) _ _ d (e, h))
number_goes Sign k c u e (d, h) = then_in (At k u) (is_digit c) _ _ d (e, h)
number_goes ExponentDigit k c u e (d, h) = then_in (At k u) (is_digit c) _ _ d (e, h)
number_goes HexMark k c u e (d, h) = then_in (At k u) (is_hex c) _ _ d (e, h)
number_goes HexDigit k c u e (d, h) = then_in (At k u) (is_hex c) _ _ d (e, h)
number_goes OctalDigit k c u e (d, h) = then_in (At k u) (is_octal c) _ _ d (e, h)

exponent_comes : (k : Kind) (c : ℕ) (u : List ℕ) → PlaceResidual (next_in_exponent c) k u → (k ≡ ANumber) × ((is_exponent_mark c ≡ true) × NumberResidual Exponent u)
exponent_comes k c u h =
    elim (split (At k u) (is_exponent_mark c) _ _ h) [ inl (t, (e, r)) ↦ (e, (t, r)) | inr (_, z) ↦ absurd z ]

number_comes : (place : NumberPlace) (k : Kind) (c : ℕ) (u : List ℕ) → PlaceResidual (next_in_number place c) k u → (k ≡ ANumber) × NumberResidual place (c ∷ u)
number_comes Zero k c u h =
    elim (split (At k u) (is_octal c) _ _ h) [
      | inl (t, (e, r)) ↦ (e, inl (t, r))
      | inr (_, g) ↦ elim (split (At k u) (is_hex_mark c) _ _ g) [
        | inl (t, (e, r)) ↦ (e, inr (inr (inr (t, r))))
        | inr (_, f) ↦ elim (split (At k u) (c == 46) _ _ f) [
          | inl (t, (e, r)) ↦ (e, inr (inl (is_same c 46 t, r)))
          | inr (_, x) ↦ let m = exponent_comes k c u x in (m.0, inr (inr (inl m.1)))
        ]
      ]
    ]
number_comes Digit k c u h =
    elim (split (At k u) (is_digit c) _ _ h) [
      | inl (t, (e, r)) ↦ (e, inl (t, r))
      | inr (_, f) ↦ elim (split (At k u) (c == 46) _ _ f) [
        | inl (t, (e, r)) ↦ (e, inr (inl (is_same c 46 t, r)))
        | inr (_, x) ↦ let m = exponent_comes k c u x in (m.0, inr (inr m.1))
      ]
    ]
number_comes Point k c u h =
    elim (split (At k u) (is_digit c) _ _ h) [
      | inl (t, (e, r)) ↦ (e, inl (t, r))
      | inr (_, x) ↦ let m = exponent_comes k c u x in (m.0, inr m.1)
    ]
number_comes Exponent k c u h =
    elim (split (At k u) (is_sign c) _ _ h) [
      | inl (t, (e, r)) ↦ (e, inl (t, r))
      | inr (_, f) ↦ elim (split (At k u) (is_digit c) _ _ f) [
        | inl (t, (e, r)) ↦ (e, inr (t, r))
        | inr (_, z) ↦ absurd z
      ]
    ]
number_comes Sign k c u h =
    elim (split (At k u) (is_digit c) _ _ h) [ inl (t, (e, r)) ↦ (e, (t, r)) | inr (_, z) ↦ absurd z ]
number_comes ExponentDigit k c u h =
    elim (split (At k u) (is_digit c) _ _ h) [ inl (t, (e, r)) ↦ (e, (t, r)) | inr (_, z) ↦ absurd z ]
number_comes HexMark k c u h =
    elim (split (At k u) (is_hex c) _ _ h) [ inl (t, (e, r)) ↦ (e, (t, r)) | inr (_, z) ↦ absurd z ]
number_comes HexDigit k c u h =
    elim (split (At k u) (is_hex c) _ _ h) [ inl (t, (e, r)) ↦ (e, (t, r)) | inr (_, z) ↦ absurd z ]
number_comes OctalDigit k c u h =
    elim (split (At k u) (is_octal c) _ _ h) [ inl (t, (e, r)) ↦ (e, (t, r)) | inr (_, z) ↦ absurd z ]

-- strings

quote_other : (q : Quote) → (92 == quote_of q) ≡ false
quote_other Double = refl
quote_other Single = refl

quote_no_lf : (q : Quote) → 10 ≡ quote_of q → ⊥
quote_no_lf Double e = absurd cc
quote_no_lf Single e = absurd cc

chars_go : (q : Quote) (k : Kind) (c : ℕ) (u : List ℕ) → k ≡ AText → IsStringRest q (c ∷ u) → PlaceResidual (next_in_chars q c) k u
chars_go q k c u e (inl (s, h)) = then_in (At k u) (c == quote_of q) _ _ (test_same c (quote_of q) s) (e, h)
chars_go q k c u e (inr (inl (p, h))) =
    let a = not_or (c == quote_of q) ((c == 92) || is_line_end c) p in
    let b = not_or (c == 92) (is_line_end c) a.1 in
    else_in (At k u) (c == quote_of q) _ _ a.0
    (else_in (At k u) (c == 92) _ _ b.0 (else_in (At k u) (is_line_end c) _ _ (not_true (is_line_end c) b.1) (e, h)))
chars_go q k c u e (inr (inr (s, h))) =
    subst (λ (x : ℕ). PlaceResidual (next_in_chars q x) k u) (sym s)
    (else_in (At k u) (92 == quote_of q) _ _ (quote_other q) (e, h))

chars_come : (q : Quote) (k : Kind) (c : ℕ) (u : List ℕ) → PlaceResidual (next_in_chars q c) k u → (k ≡ AText) × IsStringRest q (c ∷ u)
chars_come q k c u h =
    elim (split (At k u) (c == quote_of q) _ _ h) [
      | inl (t, (e, r)) ↦ (e, inl (is_same c (quote_of q) t, r))
      | inr (n, g) ↦ elim (split (At k u) (c == 92) _ _ g) [
        | inl (t, (e, r)) ↦ (e, inr (inr (is_same c 92 t, r)))
        | inr (m, f) ↦ elim (split (At k u) (is_line_end c) _ _ f) [
          | inl (_, z) ↦ absurd z
          | inr (l, (e, r)) ↦ (e, inr (inl (or_not _ _ n (or_not _ _ m (true_not _ l)), r)))
        ]
      ]
    ]

text_escape_goes : (q : Quote) (k : Kind) (c : ℕ) (u : List ℕ) → k ≡ AText → IsAfterEscape q (c ∷ u) → PlaceResidual (after_text_escape q c) k u
text_escape_goes q k c u e (inl (s, h)) = subst (λ (x : ℕ). PlaceResidual (after_text_escape q x) k u) (sym s) (e, h)
text_escape_goes q k c u e (inr (inl (s, h))) =
    subst (λ (x : ℕ). PlaceResidual (after_text_escape q x) k u) (sym s) (e, h)
text_escape_goes q k c u e (inr (inr (inl (s, h)))) =
    subst (λ (x : ℕ). PlaceResidual (after_text_escape q x) k u) (sym s) (e, h)
text_escape_goes q k c u e (inr (inr (inr (p, h)))) =
    let a = not_or (c == 120) ((c == 117) || (c == 13)) p in
    let b = not_or (c == 117) (c == 13) a.1 in
    else_in (At k u) (c == 120) _ _ a.0
    (else_in (At k u) (c == 117) _ _ b.0 (else_in (At k u) (c == 13) _ _ (not_true (c == 13) b.1) (e, h)))

text_escape_comes : (q : Quote) (k : Kind) (c : ℕ) (u : List ℕ) → PlaceResidual (after_text_escape q c) k u → (k ≡ AText) × IsAfterEscape q (c ∷ u)
text_escape_comes q k c u h =
    elim (split (At k u) (c == 120) _ _ h) [
      | inl (t, (e, r)) ↦ (e, inl (is_same c 120 t, r))
      | inr (n, g) ↦ elim (split (At k u) (c == 117) _ _ g) [
        | inl (t, (e, r)) ↦ (e, inr (inl (is_same c 117 t, r)))
        | inr (m, f) ↦ elim (split (At k u) (c == 13) _ _ f) [
          | inl (t, (e, r)) ↦ (e, inr (inr (inl (is_same c 13 t, r))))
          | inr (l, (e, r)) ↦ (e, inr (inr (inr (or_not _ _ n (or_not _ _ m (true_not _ l)), r))))
        ]
      ]
    ]

-- no string goes on by a LF
no_lf : (q : Quote) (u : List ℕ) → IsStringRest q (10 ∷ u) → ⊥
no_lf q u (inl (s, h)) = quote_no_lf q s
no_lf q u (inr (inl (p, h))) =
    let a = not_or (10 == quote_of q) ((10 == 92) || is_line_end 10) p in
    never (is_line_end 10) (ap is_line_end_class line_feed) (not_true (is_line_end 10) a.1)
no_lf q u (inr (inr (s, h))) = absurd cc

cr_goes : (q : Quote) (k : Kind) (c : ℕ) (u : List ℕ) (b : Bool) → (c == 10) ≡ b → k ≡ AText → IsStringRest q (c ∷ u) → PlaceResidual (if b then Text q Chars else next_in_chars q c) k u
cr_goes q k c u true t e h = absurd (no_lf q u (subst (λ (x : ℕ). IsStringRest q (x ∷ u)) (is_same c 10 t) h))
cr_goes q k c u false t e h = chars_go q k c u e h

text_goes : (q : Quote) (place : TextPlace) (k : Kind) (c : ℕ) (u : List ℕ) → k ≡ AText → TextResidual q place (c ∷ u) → PlaceResidual (next_in_text q place c) k u
text_goes q Chars k c u e h = chars_go q k c u e h
text_goes q TextEscape k c u e h = text_escape_goes q k c u e h
text_goes q Cr k c u e (inl h) = cr_goes q k c u (c == 10) refl e h
text_goes q Cr k c u e (inr (s, h)) = then_in (At k u) (c == 10) _ _ (test_same c 10 s) (e, h)
text_goes q (Hex One) k c u e (d, h) = then_in (At k u) (is_hex c) _ _ d (e, h)
text_goes q (Hex Two) k c u e (d, h) = then_in (At k u) (is_hex c) _ _ d (e, h)
text_goes q (Hex Three) k c u e (d, h) = then_in (At k u) (is_hex c) _ _ d (e, h)
text_goes q (Hex Four) k c u e (d, h) = then_in (At k u) (is_hex c) _ _ d (e, h)
text_goes q End k c u e h = absurd cc

text_comes : (q : Quote) (place : TextPlace) (k : Kind) (c : ℕ) (u : List ℕ) → PlaceResidual (next_in_text q place c) k u → (k ≡ AText) × TextResidual q place (c ∷ u)
text_comes q Chars k c u h = chars_come q k c u h
text_comes q TextEscape k c u h = text_escape_comes q k c u h
text_comes q Cr k c u h =
    elim (split (At k u) (c == 10) _ _ h) [
      | inl (t, (e, r)) ↦ (e, inr (is_same c 10 t, r))
      | inr (_, g) ↦ let r = chars_come q k c u g in (r.0, inl r.1)
    ]
text_comes q (Hex One) k c u h =
    elim (split (At k u) (is_hex c) _ _ h) [ inl (t, (e, r)) ↦ (e, (t, r)) | inr (_, z) ↦ absurd z ]
text_comes q (Hex Two) k c u h =
    elim (split (At k u) (is_hex c) _ _ h) [ inl (t, (e, r)) ↦ (e, (t, r)) | inr (_, z) ↦ absurd z ]
text_comes q (Hex Three) k c u h =
    elim (split (At k u) (is_hex c) _ _ h) [ inl (t, (e, r)) ↦ (e, (t, r)) | inr (_, z) ↦ absurd z ]
text_comes q (Hex Four) k c u h =
    elim (split (At k u) (is_hex c) _ _ h) [ inl (t, (e, r)) ↦ (e, (t, r)) | inr (_, z) ↦ absurd z ]
text_comes q End k c u h = absurd h

-- regular expressions

-- the tests of a character of a body, `/` apart
body_char : (k : Kind) (c : ℕ) (u : List ℕ) → not ((c == 92) || ((c == 91) || is_line_end c)) ≡ true → PlaceResidual (Pattern Body) k u → PlaceResidual (next_in_body c) k u
body_char k c u p h =
    let a = not_or (c == 92) ((c == 91) || is_line_end c) p in
    let b = not_or (c == 91) (is_line_end c) a.1 in
    else_in (At k u) (c == 92) _ _ a.0
    (else_in (At k u) (c == 91) _ _ b.0 (else_in (At k u) (is_line_end c) _ _ (not_true (is_line_end c) b.1) h))

pattern_at : (place : PatternPlace) (k : Kind) (c n : ℕ) (u : List ℕ) → c ≡ n → PlaceResidual (next_in_pattern place n) k u → PlaceResidual (next_in_pattern place c) k u
pattern_at place k c n u e h = subst (λ (x : ℕ). PlaceResidual (next_in_pattern place x) k u) (sym e) h

pattern_goes : (place : PatternPlace) (k : Kind) (c : ℕ) (u : List ℕ) → k ≡ APattern → PatternResidual place (c ∷ u) → PlaceResidual (next_in_pattern place c) k u
pattern_goes BodyStart k c u e (inl (p, h)) =
    let a = not_or (c == 42) ((c == 47) || ((c == 92) || ((c == 91) || is_line_end c))) p in
    let b = not_or (c == 47) ((c == 92) || ((c == 91) || is_line_end c)) a.1 in
    else_in (At k u) (c == 42) _ _ a.0 (else_in (At k u) (c == 47) _ _ b.0 (body_char k c u b.1 (e, h)))
pattern_goes BodyStart k c u e (inr (inl (s, h))) = pattern_at BodyStart k c 92 u s (e, h)
pattern_goes BodyStart k c u e (inr (inr (s, h))) = pattern_at BodyStart k c 91 u s (e, h)
pattern_goes Body k c u e (inl (s, h)) = then_in (At k u) (c == 47) _ _ (test_same c 47 s) (e, h)
pattern_goes Body k c u e (inr (inl (p, h))) =
    let b = not_or (c == 47) ((c == 92) || ((c == 91) || is_line_end c)) p in
    else_in (At k u) (c == 47) _ _ b.0 (body_char k c u b.1 (e, h))
pattern_goes Body k c u e (inr (inr (inl (s, h)))) = pattern_at Body k c 92 u s (e, h)
pattern_goes Body k c u e (inr (inr (inr (s, h)))) = pattern_at Body k c 91 u s (e, h)
pattern_goes BodyEscape k c u e (p, h) = else_in (At k u) (is_line_end c) _ _ (not_true (is_line_end c) p) (e, h)
pattern_goes Class k c u e (inl (s, h)) = then_in (At k u) (c == 93) _ _ (test_same c 93 s) (e, h)
pattern_goes Class k c u e (inr (inl (p, h))) =
    let a = not_or (c == 93) ((c == 92) || is_line_end c) p in
    let b = not_or (c == 92) (is_line_end c) a.1 in
    else_in (At k u) (c == 93) _ _ a.0
    (else_in (At k u) (c == 92) _ _ b.0 (else_in (At k u) (is_line_end c) _ _ (not_true (is_line_end c) b.1) (e, h)))
pattern_goes Class k c u e (inr (inr (s, h))) = pattern_at Class k c 92 u s (e, h)
pattern_goes ClassEscape k c u e (p, h) = else_in (At k u) (is_line_end c) _ _ (not_true (is_line_end c) p) (e, h)
pattern_goes Flags k c u e h = parts_go FlagChar k c u refl e h

-- the ways of a character of a body, `/` apart
body_comes : (k : Kind) (c : ℕ) (u : List ℕ) → PlaceResidual (next_in_body c) k u → (k ≡ APattern) × (((not ((c == 92) || ((c == 91) || is_line_end c)) ≡ true) × IsBodyRest u) ⊎ (((c ≡ 92) × PatternResidual BodyEscape u) ⊎ ((c ≡ 91) × IsClassRest u)))
body_comes k c u h =
    elim (split (At k u) (c == 92) _ _ h) [
      | inl (t, (e, r)) ↦ (e, inr (inl (is_same c 92 t, r)))
      | inr (n, g) ↦ elim (split (At k u) (c == 91) _ _ g) [
        | inl (t, (e, r)) ↦ (e, inr (inr (is_same c 91 t, r)))
        | inr (m, f) ↦ elim (split (At k u) (is_line_end c) _ _ f) [
          | inl (_, z) ↦ absurd z
          | inr (l, (e, r)) ↦ (e, inl (or_not _ _ n (or_not _ _ m (true_not _ l)), r))
        ]
      ]
    ]

start_of : (c : ℕ) (u : List ℕ) → (c == 42) ≡ false → (c == 47) ≡ false → (((not ((c == 92) || ((c == 91) || is_line_end c)) ≡ true) × IsBodyRest u) ⊎ (((c ≡ 92) × PatternResidual BodyEscape u) ⊎ ((c ≡ 91) × IsClassRest u))) → IsBody (c ∷ u)
start_of c u n m (inl (p, h)) = inl (or_not _ _ n (or_not _ _ m p), h)
start_of c u n m (inr h) = inr h

body_of : (c : ℕ) (u : List ℕ) → (c == 47) ≡ false → (((not ((c == 92) || ((c == 91) || is_line_end c)) ≡ true) × IsBodyRest u) ⊎ (((c ≡ 92) × PatternResidual BodyEscape u) ⊎ ((c ≡ 91) × IsClassRest u))) → IsBodyRest (c ∷ u)
body_of c u m (inl (p, h)) = inr (inl (or_not _ _ m p, h))
body_of c u m (inr h) = inr (inr h)

pattern_comes : (place : PatternPlace) (k : Kind) (c : ℕ) (u : List ℕ) → PlaceResidual (next_in_pattern place c) k u → (k ≡ APattern) × PatternResidual place (c ∷ u)
pattern_comes BodyStart k c u h =
    elim (split (At k u) (c == 42) _ _ h) [
      | inl (_, z) ↦ absurd z
      | inr (n, g) ↦ elim (split (At k u) (c == 47) _ _ g) [
        | inl (_, z) ↦ absurd z
        | inr (m, f) ↦ let r = body_comes k c u f in (r.0, start_of c u n m r.1)
      ]
    ]
pattern_comes Body k c u h =
    elim (split (At k u) (c == 47) _ _ h) [
      | inl (t, (e, r)) ↦ (e, inl (is_same c 47 t, r))
      | inr (m, f) ↦ let r = body_comes k c u f in (r.0, body_of c u m r.1)
    ]
pattern_comes BodyEscape k c u h =
    elim (split (At k u) (is_line_end c) _ _ h) [
      | inl (_, z) ↦ absurd z
      | inr (l, (e, r)) ↦ (e, (true_not _ l, r))
    ]
pattern_comes Class k c u h =
    elim (split (At k u) (c == 93) _ _ h) [
      | inl (t, (e, r)) ↦ (e, inl (is_same c 93 t, r))
      | inr (n, g) ↦ elim (split (At k u) (c == 92) _ _ g) [
        | inl (t, (e, r)) ↦ (e, inr (inr (is_same c 92 t, r)))
        | inr (m, f) ↦ elim (split (At k u) (is_line_end c) _ _ f) [
          | inl (_, z) ↦ absurd z
          | inr (l, (e, r)) ↦ (e, inr (inl (or_not _ _ n (or_not _ _ m (true_not _ l)), r)))
        ]
      ]
    ]
pattern_comes ClassEscape k c u h =
    elim (split (At k u) (is_line_end c) _ _ h) [
      | inl (_, z) ↦ absurd z
      | inr (l, (e, r)) ↦ (e, (true_not _ l, r))
    ]
pattern_comes Flags k c u h = parts_come FlagChar k c u refl h

-- all places

pub goes : (s : Place) (k : Kind) (c : ℕ) (u : List ℕ) → PlaceResidual s k (c ∷ u) → PlaceResidual (next s c) k u
goes Name k c u (e, h) = parts_go LaterChar k c u refl e h
goes (Escape host seen) k c u (e, h) = escape_goes host seen k c u e h
goes (Mark p) k c u h = mark_goes p k c u h
goes (Number place) k c u (e, h) = number_goes place k c u e h
goes (Text q place) k c u (e, h) = text_goes q place k c u e h
goes (Pattern place) k c u (e, h) = pattern_goes place k c u e h
goes Dead k c u h = h

pub comes : (s : Place) (k : Kind) (c : ℕ) (u : List ℕ) → PlaceResidual (next s c) k u → PlaceResidual s k (c ∷ u)
comes Name k c u h = let r = parts_come LaterChar k c u refl h in (r.0, r.1)
comes (Escape host seen) k c u h = let r = escape_comes host seen k c u h in (r.0, r.1)
comes (Mark p) k c u h = mark_comes p k c u (longer p c) refl h
comes (Number place) k c u h = let r = number_comes place k c u h in (r.0, r.1)
comes (Text q place) k c u h = let r = text_comes q place k c u h in (r.0, r.1)
comes (Pattern place) k c u h = let r = pattern_comes place k c u h in (r.0, r.1)
comes Dead k c u h = h

-- a token is whole where nothing need come

number_ends : (place : NumberPlace) (k : Kind) → k ≡ ANumber → NumberResidual place [] → ended (Number place) ≡ Some k
number_ends Zero k e h = ap Some (sym e)
number_ends Digit k e h = ap Some (sym e)
number_ends Point k e h = ap Some (sym e)
number_ends Exponent k e h = absurd h
number_ends Sign k e h = absurd h
number_ends ExponentDigit k e h = ap Some (sym e)
number_ends HexMark k e h = absurd h
number_ends HexDigit k e h = ap Some (sym e)
number_ends OctalDigit k e h = ap Some (sym e)

pub escape_open : (host : Host) (seen : Seen) → EscapeResidual host seen [] → ⊥
escape_open host EscapeMark h = h
escape_open host EscapeLetter h = h
escape_open host (OneDigit a) h = h
escape_open host (TwoDigits a b) h = h
escape_open host (ThreeDigits a b c) h = h

text_ends : (q : Quote) (place : TextPlace) (k : Kind) → k ≡ AText → TextResidual q place [] → ended (Text q place) ≡ Some k
text_ends q Chars k e h = absurd h
text_ends q TextEscape k e h = absurd h
text_ends q Cr k e (inl h) = absurd h
text_ends q Cr k e (inr h) = absurd h
text_ends q (Hex One) k e h = absurd h
text_ends q (Hex Two) k e h = absurd h
text_ends q (Hex Three) k e h = absurd h
text_ends q (Hex Four) k e h = absurd h
text_ends q End k e h = ap Some (sym e)

pattern_ends : (place : PatternPlace) (k : Kind) → k ≡ APattern → PatternResidual place [] → ended (Pattern place) ≡ Some k
pattern_ends BodyStart k e h = absurd h
pattern_ends Body k e h = absurd h
pattern_ends BodyEscape k e h = absurd h
pattern_ends Class k e h = absurd h
pattern_ends ClassEscape k e h = absurd h
pattern_ends Flags k e h = ap Some (sym e)

pub ends_here : (s : Place) (k : Kind) → PlaceResidual s k [] → ended s ≡ Some k
ends_here Name k (e, h) = ap Some (sym e)
ends_here (Escape host seen) k (e, h) = absurd (escape_open host seen h)
ends_here (Mark p) k h = ap Some (sym h)
ends_here (Number place) k (e, h) = number_ends place k e h
ends_here (Text q place) k (e, h) = text_ends q place k e h
ends_here (Pattern place) k (e, h) = pattern_ends place k e h
ends_here Dead k h = absurd h

some_same : (k l : Kind) → Some k ≡ Some l → l ≡ k
some_same k l e = cc

number_whole : (place : NumberPlace) (k : Kind) → ended (Number place) ≡ Some k → (k ≡ ANumber) × NumberResidual place []
number_whole Zero k h = (some_same _ _ h, tt)
number_whole Digit k h = (some_same _ _ h, tt)
number_whole Point k h = (some_same _ _ h, tt)
number_whole Exponent k h = absurd cc
number_whole Sign k h = absurd cc
number_whole ExponentDigit k h = (some_same _ _ h, tt)
number_whole HexMark k h = absurd cc
number_whole HexDigit k h = (some_same _ _ h, tt)
number_whole OctalDigit k h = (some_same _ _ h, tt)

text_whole : (q : Quote) (place : TextPlace) (k : Kind) → ended (Text q place) ≡ Some k → (k ≡ AText) × TextResidual q place []
text_whole q Chars k h = absurd cc
text_whole q TextEscape k h = absurd cc
text_whole q Cr k h = absurd cc
text_whole q (Hex left) k h = absurd cc
text_whole q End k h = (some_same _ _ h, refl)

pattern_whole : (place : PatternPlace) (k : Kind) → ended (Pattern place) ≡ Some k → (k ≡ APattern) × PatternResidual place []
pattern_whole BodyStart k h = absurd cc
pattern_whole Body k h = absurd cc
pattern_whole BodyEscape k h = absurd cc
pattern_whole Class k h = absurd cc
pattern_whole ClassEscape k h = absurd cc
pattern_whole Flags k h = (some_same _ _ h, tt)

pub ended_rest : (s : Place) (k : Kind) → ended s ≡ Some k → PlaceResidual s k []
ended_rest Name k h = (some_same _ _ h, tt)
ended_rest (Escape host seen) k h = absurd cc
ended_rest (Mark p) k h = some_same _ _ h
ended_rest (Number place) k h = let r = number_whole place k h in (r.0, r.1)
ended_rest (Text q place) k h = let r = text_whole q place k h in (r.0, r.1)
ended_rest (Pattern place) k h = let r = pattern_whole place k h in (r.0, r.1)
ended_rest Dead k h = absurd cc
