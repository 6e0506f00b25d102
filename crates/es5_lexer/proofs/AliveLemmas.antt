-- A lexer is dead exactly where the characters read don't begin a text with tokens.
use Rattle.std.proofs.Common.{◌≡◌, ℕ, Bool, true, false, ◌&&◌, ◌||◌, not, ◌==◌, if◌then◌else◌, Option, Some, None, List, [], ◌∷◌, ◌++◌, ◌⊎◌, inl, inr, ◌↔◌, refl, sym, ap, subst, ◌∙◌, append_assoc, IsTrue}
use Rattle.es5_lexer.specs.Characters.{is_start, is_part, is_digit, is_hex, is_octal, is_line_end, is_escape_of, is_line_end_class}
use Rattle.es5_lexer.specs.Numbers.{is_nonzero, is_exponent_mark, is_hex_mark, is_sign}
use Rattle.es5_lexer.specs.Strings.{quote_of, IsStringRest}
use Rattle.es5_lexer.specs.Tokens.{is_barred}
use Rattle.es5_lexer.specs.Begins.{IsPrefix, is_open_escape, EndsInEscape, Begins}
use Rattle.es5_lexer.specs.Suits.{is_div}
use Rattle.es5_lexer.specs.Texts.{Mark, mark, chars, read_by, ended_in}
use Rattle.es5_lexer.specs.Cuts.{Cut, cut, CutsFrom, lexemes_of}
use Rattle.es5_lexer.specs.Places.{set_of, after, is_dot, longer, first, past_slash, after_mark, mark as punct_of, next, next_by, next_in_parts, next_in_escape, ended, is_dead}
use Rattle.es5_lexer.specs.PlaceResiduals.{with_seen, PlaceResidual}
use Rattle.es5_lexer.specs.Reading.{token_of}
use Rattle.es5_lexer.specs.Residuals.{onto, TokenFrom, From, own, Leads, LeadsFrom, is_dead_state}
use Rattle.es5_lexer.specs.Lexing.{EscapeAt, Within, HasRead}
use Rattle.es5_lexer.specs.declared.tokens.Goal.{Goal}
use Rattle.es5_lexer.specs.declared.tokens.Goal.TheVariants.{Div}
use Rattle.es5_lexer.specs.declared.tokens.Token.TheVariants.{Punct as TPunct}
use Rattle.es5_lexer.specs.declared.tokens.Punct.{Punct}
use Rattle.es5_lexer.specs.declared.tokens.Punct.TheVariants.{Slash as TheSlash}
use Rattle.es5_lexer.specs.declared.tokens.Lexeme.{Lexeme}
use Rattle.es5_lexer.specs.declared.lexer.Lexer.{Lexer}
use Rattle.es5_lexer.specs.declared.places.Kind.{Kind}
use Rattle.es5_lexer.specs.declared.places.Kind.TheVariants.{Name as AName, Punct as APunct, Number as ANumber, Text as AText, Pattern as APattern}
use Rattle.es5_lexer.specs.declared.places.Place.{Place}
use Rattle.es5_lexer.specs.declared.places.Place.TheVariants.{Name, Escape, Mark as AtMark, Number, Text, Pattern, Dead}
use Rattle.es5_lexer.specs.declared.places.Host.{Host}
use Rattle.es5_lexer.specs.declared.places.Host.TheVariants.{FirstChar, LaterChar, FlagChar}
use Rattle.es5_lexer.specs.declared.places.Seen.{Seen}
use Rattle.es5_lexer.specs.declared.places.Seen.TheVariants.{EscapeMark, EscapeLetter, OneDigit, TwoDigits, ThreeDigits}
use Rattle.es5_lexer.specs.declared.places.NumberPlace.{NumberPlace}
use Rattle.es5_lexer.specs.declared.places.NumberPlace.TheVariants.{Zero, Digit, Point, Exponent, Sign, ExponentDigit, HexMark, HexDigit, OctalDigit}
use Rattle.es5_lexer.specs.declared.places.Quote.{Quote}
use Rattle.es5_lexer.specs.declared.places.Quote.TheVariants.{Double, Single}
use Rattle.es5_lexer.specs.declared.places.TextPlace.{TextPlace}
use Rattle.es5_lexer.specs.declared.places.TextPlace.TheVariants.{Chars, TextEscape, Cr, Hex, End}
use Rattle.es5_lexer.specs.declared.places.Left.TheVariants.{One, Two, Three, Four}
use Rattle.es5_lexer.specs.declared.places.PatternPlace.TheVariants.{BodyStart, Body, BodyEscape, Class, ClassEscape, Flags}
use Rattle.es5_lexer.specs.declared.states.State.{State}
use Rattle.es5_lexer.specs.declared.states.State.TheVariants.{Start, Slash, LineComment, BlockComment, Token}
use Rattle.es5_lexer.proofs.CutLemmas.{going, coming}
use Rattle.es5_lexer.proofs.Choices.{split, then_in, else_in, is_same, never, and_left, and_right, and_both, not_true, true_not}
use Rattle.es5_lexer.proofs.ClassLemmas.{slash}
use Rattle.es5_lexer.proofs.PlaceLemmas.{comes, ended_rest}
use Rattle.es5_lexer.proofs.TriviaLemmas.{chars-append, chars-read_by}
use Rattle.es5_lexer.proofs.TokenLemmas.{name_unbarred}
use Rattle.es5_lexer.proofs.OpenLemmas.{opened, token_first}
use Rattle.es5_lexer.proofs.TokenSteps.{of_ended, prepend, way, none_longer, dead_from}
use Rattle.es5_lexer.proofs.SlashLemmas.{first_slash, token_begins, last_token, empty_lexes}
use Rattle.es5_lexer.proofs.EscapeSteps.{Continues, next_seen, Takes, on, after_it, opens, start_backslash, place_backslash, as_within, line_backslash, start_dollar, part_dollar, mark_dollar}

-- nothing goes on from a dead state
pub dead_state : (s : State) (read : List ℕ) (f : Bool) (w : List Mark) (end : Goal) (tokens : List Cut) → is_dead_state s ≡ true → From s read f w end tokens → ⊥
dead_state (Token p) read f w end tokens e h = dead_from p read f w end tokens e h
dead_state Start read f w end tokens e h = absurd cc
dead_state Slash read f w end tokens e h = absurd cc
dead_state LineComment read f w end tokens e h = absurd cc
dead_state (BlockComment star) read f w end tokens e h = absurd cc

-- the last member of a list

snoc_view : {A : Type 0} (w : List A) → (w ≡ []) ⊎ ((v : List A) × (x : A) × (w ≡ v ++ x ∷ []))
snoc_view [] = inl refl
snoc_view {A} (c ∷ w) = by_rest (snoc_view w)
  where
    by_rest : ((w ≡ []) ⊎ ((v : List A) × (x : A) × (w ≡ v ++ x ∷ []))) → (c ∷ w ≡ []) ⊎ ((v : List A) × (x : A) × (c ∷ w ≡ v ++ x ∷ []))
    by_rest (inl e) = inr ([], c, ap (λ (u : List A). c ∷ u) e)
    by_rest (inr (v, x, e)) = inr (c ∷ v, x, ap (λ (u : List A). c ∷ u) e)

no_snoc : {A : Type 0} (v : List A) (x : A) → v ++ x ∷ [] ≡ [] → ⊥
no_snoc [] x e = absurd cc
no_snoc (c ∷ v) x e = absurd cc

snoc_same : {A : Type 0} (v w : List A) (x y : A) → v ++ x ∷ [] ≡ w ++ y ∷ [] → (v ≡ w) × (x ≡ y)
snoc_same [] [] x y e = let same : x ≡ y = cc in (refl, same)
snoc_same [] (d ∷ w) x y e = let tail : w ++ y ∷ [] ≡ [] = cc in absurd (no_snoc w y tail)
snoc_same (c ∷ v) [] x y e = let tail : v ++ x ∷ [] ≡ [] = cc in absurd (no_snoc v x tail)
snoc_same {A} (c ∷ v) (d ∷ w) x y e =
    let head : c ≡ d = cc in let tail : v ++ x ∷ [] ≡ w ++ y ∷ [] = cc in
    let r = snoc_same v w x y tail in
    (ap (λ (u : List A). c ∷ u) r.0 ∙ ap (λ (z : A). z ∷ w) head, r.1)

-- a backslash where a `$` would go on

takes_of : (p : Place) (read : List ℕ) (f : Bool) (g : Goal) (w : List Mark) (end : Goal) (tokens : List Cut) → TokenFrom p read f (mark g 36 ∷ w) end tokens → Takes p 36
takes_of p read f g w end tokens h =
    elim (way p read f g 36 w end tokens h) [
      | inl t ↦ on t.kind (chars t.before) (comes p t.kind 36 (chars t.before) t.completes)
      | inr e ↦ after_it e.kind (onto read []) e.completes (not_true _ e.free)
    ]

slash_backslash : (r : Goal) (c : ℕ) (k : Option Kind) (t : State) → c ≡ 92 → Takes (past_slash r) 36 → Leads Slash r c k t → Within EscapeMark t
slash_backslash r c (Some k) t e h l = place_backslash (past_slash r) r c (Some k) t e (opens (past_slash r) h) l
slash_backslash r c None LineComment e h l = tt
slash_backslash r c None (BlockComment star) e h l = tt
slash_backslash r c None Start e h l = place_backslash (past_slash r) r c None Start e (opens (past_slash r) h) l
slash_backslash r c None Slash e h l = place_backslash (past_slash r) r c None Slash e (opens (past_slash r) h) l
slash_backslash r c None (Token q) e h l = place_backslash (past_slash r) r c None (Token q) e (opens (past_slash r) h) l

pub backslash_step : (s : State) (read : List ℕ) (f : Bool) (r : Goal) (c : ℕ) (k : Option Kind) (t : State) (w : List Mark) (end : Goal) (tokens : List Cut) → From s (own s read) f (mark r 36 ∷ w) end tokens → c ≡ 92 → Leads s r c k t → Within EscapeMark t
backslash_step Start read f r c None t w end tokens h e l = start_backslash r c t e l
backslash_step Start read f r c (Some k) t w end tokens h e l = absurd l
backslash_step Slash read f r c k t w end tokens h e l =
    slash_backslash r c k t e (takes_of (past_slash r) (47 ∷ []) f r w end tokens (token_begins f r 36 w end tokens refl refl (opened f h.0 47 (mark r 36 ∷ w) end tokens h.1))) l
backslash_step LineComment read f r c None t w end tokens h e l =
    as_within EscapeMark t LineComment (l ∙ else_in (λ (x : State). x ≡ LineComment) (is_line_end c) _ _ (ap is_line_end e ∙ line_backslash) refl) tt
backslash_step LineComment read f r c (Some k) t w end tokens h e l = absurd l
backslash_step (BlockComment star) read f r c None t w end tokens h e l =
    as_within EscapeMark t (BlockComment (c == 42)) (l ∙ else_in (λ (x : State). x ≡ BlockComment (c == 42)) (star && (c == 47)) _ _ (no_close star (c == 47) (ap (λ (x : ℕ). x == 47) e)) refl) tt
  where
    no_close : (a b : Bool) → b ≡ false → (a && b) ≡ false
    no_close true b i = i
    no_close false b i = refl
backslash_step (BlockComment star) read f r c (Some k) t w end tokens h e l = absurd l
backslash_step (Token p) read f r c k t w end tokens h e l =
    place_backslash p r c k t e (opens p (takes_of p read f r w end tokens h)) l

-- the escapes that a text ends in, by one character more

pub within_step : (m : List Mark) (g : Goal) (c : ℕ) (t : State) → (IsPrefix (m ++ mark g 36 ∷ []) → c ≡ 92 → Within EscapeMark t) → ((seen : Seen) → EscapeAt seen m → Continues seen c → Within (next_seen seen c) t) → (later : Seen) → EscapeAt later (m ++ mark g c ∷ []) → Within later t
within_step m g c t base step later h = by_digits (snoc_view h.digits)
  where
    no_digits : (s : Seen) → [] ≡ with_seen s [] → Within EscapeMark t → Within s t
    no_digits EscapeMark e w = w
    no_digits EscapeLetter e w = absurd cc
    no_digits (OneDigit a) e w = absurd cc
    no_digits (TwoDigits a b) e w = absurd cc
    no_digits (ThreeDigits a b d) e w = absurd cc

    earlier : (s : Seen) (v : List Mark) → m ≡ h.before ++ h.backslash ∷ v → chars v ≡ with_seen s [] → is_open_escape (with_seen s []) ≡ true → EscapeAt s m
    earlier s v e i o = record {
      before = h.before;
      backslash = h.backslash;
      digits = v;
      splits = e;
      is_backslash = h.is_backslash;
      spells = i;
      is_open = o;
      begins = h.begins;
    }

    by_seen : (s : Seen) (v : List Mark) → m ≡ h.before ++ h.backslash ∷ v → chars v ++ c ∷ [] ≡ with_seen s [] → is_open_escape (with_seen s []) ≡ true → Within s t
    by_seen EscapeMark v e i o = absurd (no_snoc (chars v) c i)
    by_seen EscapeLetter v e i o =
        let r = snoc_same (chars v) [] c 117 i in step EscapeMark (earlier EscapeMark v e r.0 refl) r.1
    by_seen (OneDigit a) v e i o =
        let r = snoc_same (chars v) (117 ∷ []) c a i in
        subst (λ (x : ℕ). Within (OneDigit x) t) r.1 (step EscapeLetter (earlier EscapeLetter v e r.0 refl) (ap is_hex r.1 ∙ o))
    by_seen (TwoDigits a b) v e i o =
        let r = snoc_same (chars v) (117 ∷ a ∷ []) c b i in
        subst (λ (x : ℕ). Within (TwoDigits a x) t) r.1
        (step (OneDigit a) (earlier (OneDigit a) v e r.0 (and_left (is_hex a) (is_hex b) o)) (ap is_hex r.1 ∙ and_right (is_hex a) (is_hex b) o))
    by_seen (ThreeDigits a b d) v e i o =
        let r = snoc_same (chars v) (117 ∷ a ∷ b ∷ []) c d i in
        let tail = and_right (is_hex a) (is_hex b && is_hex d) o in
        subst (λ (x : ℕ). Within (ThreeDigits a b x) t) r.1
        (step (TwoDigits a b) (earlier (TwoDigits a b) v e r.0 (and_both (is_hex a) (is_hex b) (and_left (is_hex a) (is_hex b && is_hex d) o) (and_left (is_hex b) (is_hex d) tail))) (ap is_hex r.1 ∙ and_right (is_hex b) (is_hex d) tail))

    by_digits : (h.digits ≡ []) ⊎ ((v : List Mark) × (x : Mark) × (h.digits ≡ v ++ x ∷ [])) → Within later t
    by_digits (inl none) =
        let r = snoc_same m h.before (mark g c) h.backslash (h.splits ∙ ap (λ (u : List Mark). h.before ++ h.backslash ∷ u) none) in
        let goals : h.backslash.reading ≡ g = ap (λ (x : Mark). x.reading) (sym r.1) in
        no_digits later (ap chars (sym none) ∙ h.spells)
        (base (subst (λ (x : Goal). IsPrefix (m ++ mark x 36 ∷ [])) goals (subst (λ (u : List Mark). IsPrefix (u ++ mark h.backslash.reading 36 ∷ [])) (sym r.0) h.begins))
        (ap (λ (x : Mark). x.character) r.1 ∙ h.is_backslash))
    by_digits (inr (v, x, e)) =
        let whole : m ++ mark g c ∷ [] ≡ (h.before ++ h.backslash ∷ v) ++ x ∷ [] = h.splits ∙ ap (λ (u : List Mark). h.before ++ h.backslash ∷ u) e ∙ sym (append_assoc h.before (h.backslash ∷ v) (x ∷ [])) in
        let r = snoc_same m (h.before ++ h.backslash ∷ v) (mark g c) x whole in
        let last : c ≡ x.character = ap (λ (y : Mark). y.character) r.1 in
        by_seen later v r.0
        (ap (λ (y : ℕ). chars v ++ y ∷ []) last ∙ sym (chars-append v (x ∷ [])) ∙ ap chars (sym e) ∙ h.spells) h.is_open

-- where a lexer comes into an escape

-- an escape goes on
escape_on : (m : List Mark) (seen : Seen) (g : Goal) (c : ℕ) → EscapeAt seen m → Continues seen c → EscapeAt (next_seen seen c) (m ++ mark g c ∷ [])
escape_on m seen g c h d = record {
  before = h.before;
  backslash = h.backslash;
  digits = h.digits ++ mark g c ∷ [];
  splits = ap (λ (u : List Mark). u ++ mark g c ∷ []) h.splits ∙ append_assoc h.before (h.backslash ∷ h.digits) (mark g c ∷ []);
  is_backslash = h.is_backslash;
  spells = chars-append h.digits (mark g c ∷ []) ∙ ap (λ (u : List ℕ). u ++ c ∷ []) h.spells ∙ more seen d;
  is_open = still seen d h.is_open;
  begins = h.begins;
}
  where
    more : (s : Seen) → Continues s c → with_seen s [] ++ c ∷ [] ≡ with_seen (next_seen s c) []
    more EscapeMark e = ap (λ (x : ℕ). x ∷ []) e
    more EscapeLetter e = refl
    more (OneDigit a) e = refl
    more (TwoDigits a b) e = refl
    more (ThreeDigits a b x) e = absurd e

    still : (s : Seen) → Continues s c → is_open_escape (with_seen s []) ≡ true → is_open_escape (with_seen (next_seen s c) []) ≡ true
    still EscapeMark e o = refl
    still EscapeLetter e o = e
    still (OneDigit a) e o = and_both (is_hex a) (is_hex c) o e
    still (TwoDigits a b) e o =
        and_both (is_hex a) (is_hex b && is_hex c) (and_left (is_hex a) (is_hex b) o) (and_both (is_hex b) (is_hex c) (and_right (is_hex a) (is_hex b) o) e)
    still (ThreeDigits a b x) e o = absurd e

-- an escape begins
escape_new : (m : List Mark) (g : Goal) (c : ℕ) → c ≡ 92 → IsPrefix (m ++ mark g 36 ∷ []) → EscapeAt EscapeMark (m ++ mark g c ∷ [])
escape_new m g c e h = record {
  before = m;
  backslash = mark g c;
  digits = [];
  splits = refl;
  is_backslash = e;
  spells = refl;
  is_open = refl;
  begins = h;
}

-- the places that lead into an escape
data Origin (p : Place) (c : ℕ) (later : Seen) : Type 0 where
  from_escape : (host : Host) (seen : Seen) → p ≡ Escape host seen → Continues seen c → later ≡ next_seen seen c → Origin p c later
  from_whole : (k : Kind) → ended p ≡ Some k → is_barred (token_of k []) 92 ≡ false → c ≡ 92 → later ≡ EscapeMark → Origin p c later

is_escape : Place → Bool
is_escape (Escape host seen) = true
is_escape _ = false

neither : (b : Bool) (x y : Place) → is_escape x ≡ false → is_escape y ≡ false → is_escape (if b then x else y) ≡ false
neither true x y e f = e
neither false x y e f = f

no_escape : (x : Place) (host : Host) (seen : Seen) → is_escape x ≡ false → x ≡ Escape host seen → ⊥
unfolding is_escape
no_escape x host seen n e = never (is_escape x) (ap is_escape e) n

exponent_no : (c : ℕ) → is_escape (if is_exponent_mark c then Number Exponent else Dead) ≡ false
unfolding is_escape
exponent_no c = neither (is_exponent_mark c) _ _ refl refl

whole_no : (c : ℕ) → is_escape (if c == 46 then Number Point else (if is_exponent_mark c then Number Exponent else Dead)) ≡ false
unfolding is_escape
whole_no c = neither (c == 46) _ _ refl (exponent_no c)

number_no : (p : NumberPlace) (c : ℕ) → is_escape (next (Number p) c) ≡ false
unfolding is_escape
number_no Zero c = neither (is_octal c) _ _ refl (neither (is_hex_mark c) _ _ refl (whole_no c))
number_no Digit c = neither (is_digit c) _ _ refl (whole_no c)
number_no Point c = neither (is_digit c) _ _ refl (exponent_no c)
number_no Exponent c = neither (is_sign c) _ _ refl (neither (is_digit c) _ _ refl refl)
number_no Sign c = neither (is_digit c) _ _ refl refl
number_no ExponentDigit c = neither (is_digit c) _ _ refl refl
number_no HexMark c = neither (is_hex c) _ _ refl refl
number_no HexDigit c = neither (is_hex c) _ _ refl refl
number_no OctalDigit c = neither (is_octal c) _ _ refl refl

chars_no : (q : Quote) (c : ℕ) → is_escape (next (Text q Chars) c) ≡ false
unfolding is_escape
chars_no q c = neither (c == quote_of q) _ _ refl (neither (c == 92) _ _ refl (neither (is_line_end c) _ _ refl refl))

text_no : (q : Quote) (p : TextPlace) (c : ℕ) → is_escape (next (Text q p) c) ≡ false
unfolding is_escape
text_no q Chars c = chars_no q c
text_no q TextEscape c = neither (c == 120) _ _ refl (neither (c == 117) _ _ refl (neither (c == 13) _ _ refl refl))
text_no q Cr c = neither (c == 10) _ _ refl (chars_no q c)
text_no q (Hex l) c = neither (is_hex c) _ _ refl refl
text_no q End c = refl

body_no : (c : ℕ) → is_escape (if c == 92 then Pattern BodyEscape else if c == 91 then Pattern Class else if is_line_end c then Dead else Pattern Body) ≡ false
unfolding is_escape
body_no c = neither (c == 92) _ _ refl (neither (c == 91) _ _ refl (neither (is_line_end c) _ _ refl refl))

mark_no : (p : Punct) (c : ℕ) (o : Option Punct) → is_escape (next_by o p c) ≡ false
unfolding is_escape
mark_no p c (Some q) = refl
mark_no p c None = neither (is_dot p && is_digit c) _ _ refl refl

parts_origin : (p : Place) (h : Host) (k : Kind) (c : ℕ) (host : Host) (later : Seen) → is_escape (after h) ≡ false → ended p ≡ Some k → is_barred (token_of k []) 92 ≡ false → next_in_parts h c ≡ Escape host later → Origin p c later
parts_origin p h k c host later n w f e =
    elim (split (λ (x : Place). x ≡ Escape host later) (is_part c) _ _ e) [
      | inl (_, i) ↦ absurd (no_escape (after h) host later n i)
      | inr (_, i) ↦ elim (split (λ (x : Place). x ≡ Escape host later) (c == 92) _ _ i) [
        | inl (t, j) ↦ let same : later ≡ EscapeMark = cc in from_whole k w f (is_same c 92 t) same
        | inr (_, j) ↦ absurd cc
      ]
    ]

digit_origin : (h : Host) (seen : Seen) (c : ℕ) (b : Bool) (host : Host) (later : Seen) → (b ≡ true → Continues seen c) → (if b then Escape h (next_seen seen c) else Dead) ≡ Escape host later → Origin (Escape h seen) c later
digit_origin h seen c true host later d e = let same : later ≡ next_seen seen c = cc in from_escape h seen refl (d refl) same
digit_origin h seen c false host later d e = absurd cc

after_no : (h : Host) → is_escape (after h) ≡ false
unfolding is_escape
after_no FirstChar = refl
after_no LaterChar = refl
after_no FlagChar = refl

escape_origin : (h : Host) (seen : Seen) (c : ℕ) (host : Host) (later : Seen) → next_in_escape h seen c ≡ Escape host later → Origin (Escape h seen) c later
unfolding is_escape
escape_origin h EscapeMark c host later e = digit_origin h EscapeMark c (c == 117) host later (λ t. is_same c 117 t) e
escape_origin h EscapeLetter c host later e = digit_origin h EscapeLetter c (is_hex c) host later (λ t. t) e
escape_origin h (OneDigit a) c host later e = digit_origin h (OneDigit a) c (is_hex c) host later (λ t. t) e
escape_origin h (TwoDigits a b) c host later e = digit_origin h (TwoDigits a b) c (is_hex c) host later (λ t. t) e
escape_origin h (ThreeDigits a b d) c host later e =
    absurd (no_escape _ host later (neither (is_escape_of (set_of h) a b d c) (after h) Dead (after_no h) refl) e)

origin : (p : Place) (c : ℕ) (host : Host) (later : Seen) → next p c ≡ Escape host later → Origin p c later
unfolding is_escape
origin Name c host later e = parts_origin Name LaterChar AName c host later refl refl (sym (name_unbarred [] 92)) e
origin (Escape h seen) c host later e = escape_origin h seen c host later e
origin (AtMark p) c host later e = absurd (no_escape _ host later (mark_no p c (longer p c)) e)
origin (Number p) c host later e = absurd (no_escape _ host later (number_no p c) e)
origin (Text q p) c host later e = absurd (no_escape _ host later (text_no q p c) e)
origin (Pattern BodyStart) c host later e =
    absurd (no_escape _ host later (neither (c == 42) _ _ refl (neither (c == 47) _ _ refl (body_no c))) e)
origin (Pattern Body) c host later e = absurd (no_escape _ host later (neither (c == 47) _ _ refl (body_no c)) e)
origin (Pattern BodyEscape) c host later e = absurd (no_escape _ host later (neither (is_line_end c) _ _ refl refl) e)
origin (Pattern Class) c host later e =
    absurd (no_escape _ host later (neither (c == 93) _ _ refl (neither (c == 92) _ _ refl (neither (is_line_end c) _ _ refl refl))) e)
origin (Pattern ClassEscape) c host later e = absurd (no_escape _ host later (neither (is_line_end c) _ _ refl refl) e)
origin (Pattern Flags) c host later e = parts_origin (Pattern Flags) FlagChar APattern c host later refl refl refl e
origin Dead c host later e = absurd cc

first_escape : (g : Goal) (c : ℕ) (host : Host) (later : Seen) → Escape host later ≡ first g c → (c ≡ 92) × (later ≡ EscapeMark)
unfolding is_escape
first_escape g c host later e =
    elim (split (λ (x : Place). Escape host later ≡ x) (is_start c) _ _ e) [
      | inl (_, i) ↦ absurd (no_escape Name host later refl (sym i))
      | inr (_, i) ↦ elim (split (λ (x : Place). Escape host later ≡ x) (c == 92) _ _ i) [
        | inl (t, j) ↦ let same : later ≡ EscapeMark = cc in (is_same c 92 t, same)
        | inr (_, j) ↦ absurd (no_escape _ host later (others (is_div g) (punct_of c)) (sym j))
      ]
    ]
  where
    by_mark : (o : Option Punct) → is_escape (after_mark o) ≡ false
    by_mark (Some p) = refl
    by_mark None = refl

    others : (b : Bool) (o : Option Punct) → is_escape (if c == 48 then Number Zero else if is_nonzero c then Number Digit else if c == 34 then Text Double Chars else if c == 39 then Text Single Chars else if c == 47 then (if b then AtMark TheSlash else Pattern BodyStart) else after_mark o) ≡ false
    others b o = neither (c == 48) _ _ refl (neither (is_nonzero c) _ _ refl (neither (c == 34) _ _ refl (neither (c == 39) _ _ refl (neither (c == 47) _ _ (neither b _ _ refl refl) (by_mark o)))))

-- a `$` where a backslash begins an escape

first_dollar : (g : Goal) (c : ℕ) → c ≡ 36 → first g c ≡ Name
first_dollar g c e = then_in (λ (x : Place). x ≡ Name) (is_start c) _ _ (ap is_start e ∙ start_dollar) refl

dollar_lexes : (f : Bool) (g : Goal) (c : ℕ) → c ≡ 36 → (tokens : List Cut) × CutsFrom f (mark g c ∷ []) g tokens
dollar_lexes f g c e =
    (_, token_first f g c [] g _ (subst (λ (x : Place). TokenFrom x (c ∷ []) f [] g (cut (token_of AName (c ∷ [])) f [] ∷ [])) (sym (first_dollar g c e)) ((last_token Name (c ∷ []) f g AName refl).comes refl)))

-- after a whole token
ends_dollar : (p : Place) (read : List ℕ) (f : Bool) (g : Goal) (k : Kind) → ended p ≡ Some k → is_dead (next p 36) ≡ true → is_barred (token_of k (onto read [])) 36 ≡ false → (tokens : List Cut) × TokenFrom p read f (mark g 36 ∷ []) g tokens
ends_dollar p read f g k e dead free =
    let d = dollar_lexes false g 36 refl in (
      _,
      of_ended p read f (mark g 36 ∷ []) g _ (record {
        kind = k;
        others = d.0;
        completes = ended_rest p k e;
        longest = none_longer p 36 [] dead;
        free = true_not _ free;
        further = d.1;
        gives = refl;
      }),
    )

-- in a name or in flags
part_goes : (p : Place) (read : List ℕ) (f : Bool) (g : Goal) (k : Kind) → ended p ≡ Some k → next p 36 ≡ p → (tokens : List Cut) × TokenFrom p read f (mark g 36 ∷ []) g tokens
part_goes p read f g k e same =
    (_, prepend p read f g 36 [] g _ (subst (λ (x : Place). TokenFrom x (36 ∷ read) f [] g (cut (token_of k (onto read (36 ∷ []))) f [] ∷ [])) (sym same) ((last_token p (36 ∷ read) f g k e).comes refl)))

mark_dollar_free : (p : Punct) → is_barred (TPunct p) 36 ≡ false
mark_dollar_free TheSlash = refl
mark_dollar_free _ = refl

kind_same : (k l : Kind) → Some k ≡ Some l → l ≡ k
kind_same k l e = cc

number_barred : (p : NumberPlace) (k : Kind) → ended (Number p) ≡ Some k → is_barred (token_of k []) 92 ≡ false → ⊥
number_barred p k e f = by_rest (ended_rest (Number p) k e)
  where
    second : (a : Bool) → (false || (a || true)) ≡ false → ⊥
    second true h = absurd cc
    second false h = absurd cc

    by_rest : PlaceResidual (Number p) k [] → ⊥
    by_rest r = second (is_start 92) (subst (λ (x : Kind). is_barred (token_of x []) 92 ≡ false) r.0 f)

dollar : (p : Place) (read : List ℕ) (f : Bool) (g : Goal) (k : Kind) → ended p ≡ Some k → is_barred (token_of k []) 92 ≡ false → (tokens : List Cut) × TokenFrom p read f (mark g 36 ∷ []) g tokens
dollar Name read f g k e free = part_goes Name read f g k e (then_in (λ (x : Place). x ≡ Name) (is_part 36) _ _ part_dollar refl)
dollar (Escape host seen) read f g k e free = absurd cc
dollar (AtMark p) read f g k e free =
    ends_dollar (AtMark p) read f g k e (mark_dollar p) (subst (λ (x : Kind). is_barred (token_of x (onto read [])) 36 ≡ false) (sym (kind_same (APunct p) k e)) (mark_dollar_free p))
dollar (Number p) read f g k e free = absurd (number_barred p k e free)
dollar (Text q End) read f g k e free =
    ends_dollar (Text q End) read f g k e refl (subst (λ (x : Kind). is_barred (token_of x (onto read [])) 36 ≡ false) (sym (kind_same AText k e)) refl)
dollar (Text q Chars) read f g k e free = absurd cc
dollar (Text q TextEscape) read f g k e free = absurd cc
dollar (Text q Cr) read f g k e free = absurd cc
dollar (Text q (Hex l)) read f g k e free = absurd cc
dollar (Pattern BodyStart) read f g k e free = absurd cc
dollar (Pattern Body) read f g k e free = absurd cc
dollar (Pattern BodyEscape) read f g k e free = absurd cc
dollar (Pattern Class) read f g k e free = absurd cc
dollar (Pattern ClassEscape) read f g k e free = absurd cc
dollar (Pattern Flags) read f g k e free =
    part_goes (Pattern Flags) read f g k e (then_in (λ (x : Place). x ≡ Pattern Flags) (is_part 36) _ _ part_dollar refl)
dollar Dead read f g k e free = absurd cc

-- what a step says of the escape that a text ends in then
pub record Source (s : State) (read : List ℕ) (f : Bool) (m : List Mark) (g : Goal) : Type 0 where
  pub dollar : (tokens : List Cut) → From s (own s read) f (mark g 36 ∷ []) g tokens → IsPrefix (m ++ mark g 36 ∷ [])
  pub escape : (host : Host) (seen : Seen) → s ≡ Token (Escape host seen) → EscapeAt seen m

by_whole : (m : List Mark) (g : Goal) (c : ℕ) (later : Seen) → c ≡ 92 → later ≡ EscapeMark → IsPrefix (m ++ mark g 36 ∷ []) → EscapeAt later (m ++ mark g c ∷ [])
by_whole m g c later e same prefix =
    subst (λ (x : Seen). EscapeAt x (m ++ mark g c ∷ [])) (sym same) (escape_new m g c e prefix)

-- in a token, or after a slash as in one
by_place : (p : Place) (m : List Mark) (g : Goal) (c : ℕ) (k : Option Kind) (host : Host) (later : Seen) → ((j : Kind) → ended p ≡ Some j → is_barred (token_of j []) 92 ≡ false → IsPrefix (m ++ mark g 36 ∷ [])) → ((h : Host) (seen : Seen) → p ≡ Escape h seen → EscapeAt seen m) → LeadsFrom p g c k (Token (Escape host later)) → EscapeAt later (m ++ mark g c ∷ [])
by_place p m g c None host later prefix before (inl (e, _)) = by_origin (origin p c host later same)
  where
    token_same : (x y : Place) → Token x ≡ Token y → y ≡ x
    token_same x y i = cc

    same : next p c ≡ Escape host later
    same = token_same (Escape host later) (next p c) e

    by_origin : Origin p c later → EscapeAt later (m ++ mark g c ∷ [])
    by_origin (from_escape h seen i d j) =
        subst (λ (x : Seen). EscapeAt x (m ++ mark g c ∷ [])) (sym j) (escape_on m seen g c (before h seen i) d)
    by_origin (from_whole j i free l n) = by_whole m g c later l n (prefix j i free)
by_place p m g c None host later prefix before (inr d) = absurd (no_dead d.1)
  where
    no_dead : false ≡ true → ⊥
    no_dead h = absurd cc
by_place p m g c (Some k) host later prefix before (inl (e, free, l)) =
    let r = first_escape g c host later l in
    by_whole m g c later r.0 r.1 (prefix k e (ap (λ (x : ℕ). is_barred (token_of k []) x) (sym r.0) ∙ free []))
by_place p m g c (Some k) host later prefix before (inr d) = absurd (no_dead d.1)
  where
    no_dead : false ≡ true → ⊥
    no_dead h = absurd cc

slash_no_escape : (g : Goal) (host : Host) (seen : Seen) → past_slash g ≡ Escape host seen → ⊥
unfolding is_escape
slash_no_escape g host seen e = no_escape (past_slash g) host seen (neither (is_div g) _ _ refl refl) e

is_token : State → Bool
is_token (Token q) = true
is_token _ = false

no_token : (b : Bool) (s : State) (p : Place) → is_token s ≡ false → Token p ≡ (if b then Start else s) → ⊥
unfolding is_token
no_token true s p n e = absurd cc
no_token false s p n e = never (is_token s) (ap is_token (sym e)) n

slash_prefix : (read : List ℕ) (f : Bool) (m : List Mark) (g : Goal) → Source Slash read f m g → (j : Kind) → ended (past_slash g) ≡ Some j → is_barred (token_of j []) 92 ≡ false → IsPrefix (m ++ mark g 36 ∷ [])
slash_prefix read f m g h j e free =
    let d = dollar (past_slash g) (47 ∷ []) f g j e free in
    h.dollar d.0 (g, token_first f g 47 (mark g 36 ∷ []) g d.0 (subst (λ (x : Place). TokenFrom x (47 ∷ []) f (mark g 36 ∷ []) g d.0) (sym (first_slash g)) d.1))

pub escape_step : (s : State) (read : List ℕ) (f : Bool) (m : List Mark) (g : Goal) (c : ℕ) (k : Option Kind) (host : Host) (later : Seen) → Source s read f m g → Leads s g c k (Token (Escape host later)) → EscapeAt later (m ++ mark g c ∷ [])
unfolding is_token
escape_step Start read f m g c None host later h l =
    let r = first_escape g c host later l in
    let d = dollar_lexes f g 36 refl in
    by_whole m g c later r.0 r.1 (h.dollar d.0 d.1)
escape_step Start read f m g c (Some k) host later h l = absurd l
escape_step Slash read f m g c None host later h l =
    by_place (past_slash g) m g c None host later (slash_prefix read f m g h) (λ x seen e. absurd (slash_no_escape g x seen e)) l
escape_step Slash read f m g c (Some k) host later h l =
    by_place (past_slash g) m g c (Some k) host later (slash_prefix read f m g h) (λ x seen e. absurd (slash_no_escape g x seen e)) l
escape_step LineComment read f m g c None host later h l = absurd (no_token (is_line_end c) LineComment _ refl l)
escape_step LineComment read f m g c (Some k) host later h l = absurd l
escape_step (BlockComment star) read f m g c None host later h l =
    absurd (no_token (star && (c == 47)) (BlockComment (c == 42)) _ refl l)
escape_step (BlockComment star) read f m g c (Some k) host later h l = absurd l
escape_step (Token p) read f m g c k host later h l =
    by_place p m g c k host later
    (λ j e free. let d = dollar p read f g j e free in h.dollar d.0 d.1)
    (λ x seen e. h.escape x seen (ap (λ (y : Place). Token y) e)) l

-- from where a lexer is alive a text goes on, or it is in an escape

data Alive (p : Place) : Type 0 where
  completes : (k : Kind) (u : List ℕ) → PlaceResidual p k u → Alive p
  escapes : (host : Host) (seen : Seen) → p ≡ Escape host seen → Alive p

closed : (q : Quote) → IsStringRest q (quote_of q ∷ [])
closed q = inl (refl, refl)

slash_line : not (is_line_end 47) ≡ true
slash_line = ap (λ (b : Bool). not b) (ap is_line_end_class slash)

alive : (p : Place) → is_dead p ≡ false → Alive p
alive Name e = completes AName [] (refl, tt)
alive (Escape host seen) e = escapes host seen refl
alive (AtMark p) e = completes (APunct p) [] refl
alive (Number Zero) e = completes ANumber [] (refl, tt)
alive (Number Digit) e = completes ANumber [] (refl, tt)
alive (Number Point) e = completes ANumber [] (refl, tt)
alive (Number Exponent) e = completes ANumber (48 ∷ []) (refl, inr (refl, tt))
alive (Number Sign) e = completes ANumber (48 ∷ []) (refl, (refl, tt))
alive (Number ExponentDigit) e = completes ANumber [] (refl, tt)
alive (Number HexMark) e = completes ANumber (48 ∷ []) (refl, (refl, tt))
alive (Number HexDigit) e = completes ANumber [] (refl, tt)
alive (Number OctalDigit) e = completes ANumber [] (refl, tt)
alive (Text q Chars) e = completes AText (quote_of q ∷ []) (refl, closed q)
alive (Text q TextEscape) e = completes AText (48 ∷ quote_of q ∷ []) (refl, inr (inr (inr (refl, closed q))))
alive (Text q Cr) e = completes AText (quote_of q ∷ []) (refl, inl (closed q))
alive (Text q (Hex One)) e = completes AText (48 ∷ quote_of q ∷ []) (refl, (refl, closed q))
alive (Text q (Hex Two)) e = completes AText (48 ∷ 48 ∷ quote_of q ∷ []) (refl, (refl, (refl, closed q)))
alive (Text q (Hex Three)) e =
    completes AText (48 ∷ 48 ∷ 48 ∷ quote_of q ∷ []) (refl, (refl, (refl, (refl, closed q))))
alive (Text q (Hex Four)) e =
    completes AText (48 ∷ 48 ∷ 48 ∷ 48 ∷ quote_of q ∷ []) (refl, (refl, (refl, (refl, (refl, closed q)))))
alive (Text q End) e = completes AText [] (refl, refl)
alive (Pattern BodyStart) e =
    completes APattern (91 ∷ 93 ∷ 47 ∷ []) (refl, inr (inr (refl, inl (refl, inl (refl, tt)))))
alive (Pattern Body) e = completes APattern (47 ∷ []) (refl, inl (refl, tt))
alive (Pattern BodyEscape) e = completes APattern (47 ∷ 47 ∷ []) (refl, (slash_line, inl (refl, tt)))
alive (Pattern Class) e = completes APattern (93 ∷ 47 ∷ []) (refl, inl (refl, inl (refl, tt)))
alive (Pattern ClassEscape) e =
    completes APattern (47 ∷ 93 ∷ 47 ∷ []) (refl, (slash_line, inl (refl, inl (refl, tt))))
alive (Pattern Flags) e = completes APattern [] (refl, tt)
alive Dead e = absurd cc

-- what is whole at the end
whole_token : (p : Place) (read : List ℕ) (f : Bool) (k : Kind) (u : List ℕ) → PlaceResidual p k u → TokenFrom p read f (read_by Div u) Div (cut (token_of k (onto read (chars (read_by Div u)))) f [] ∷ [])
whole_token p read f k u h = record {
  kind = k;
  before = read_by Div u;
  after = [];
  others = [];
  spells = sym (append-none (read_by Div u));
  completes = subst (λ (v : List ℕ). PlaceResidual p k v) (sym (chars-read_by Div u)) h;
  longest = λ a b l e r. none_before a b e;
  free = refl;
  further = empty_lexes false Div;
  gives = refl;
}
  where
    none_before : (a b : List ℕ) → [] ≡ a ++ b → a ≡ []
    none_before [] b e = refl
    none_before (c ∷ a) b e = absurd cc

    append-none : (w : List Mark) → w ++ [] ≡ w
    append-none [] = refl
    append-none (x ∷ w) = ap (λ (v : List Mark). x ∷ v) (append-none w)

-- a lexer that isn't dead
ends_in_escape : (seen : Seen) (m : List Mark) → EscapeAt seen m → EndsInEscape m
ends_in_escape seen m h = record {
  prefix = h.before;
  backslash = h.backslash;
  digits = h.digits;
  splits = h.splits;
  is_backslash = h.is_backslash;
  is_open = ap is_open_escape h.spells ∙ h.is_open;
  begins = h.begins;
}

-- what a state says of the texts that go on from it
record Continuing (s : State) (read : List ℕ) (f : Bool) (m : List Mark) : Type 0 where
  pub prefix : (w : List Mark) (end : Goal) (tokens : List Cut) → From s (own s read) f w end tokens → IsPrefix m
  pub escape : (host : Host) (seen : Seen) → s ≡ Token (Escape host seen) → EscapeAt seen m

begins_at : (s : State) (read : List ℕ) (f : Bool) (m : List Mark) → Continuing s read f m → is_dead_state s ≡ false → Begins m
begins_at Start read f m h e = inl (h.prefix [] Div [] (empty_lexes f Div))
begins_at Slash read f m h e =
    let t = (last_token (past_slash Div) (47 ∷ []) f Div (APunct TheSlash) refl).comes refl in
    inl (h.prefix [] Div _ (Div, token_first f Div 47 [] Div _ (subst (λ (x : Place). TokenFrom x (47 ∷ []) f [] Div (cut (TPunct TheSlash) f [] ∷ [])) (sym (first_slash Div)) t)))
begins_at LineComment read f m h e =
    inl (h.prefix [] Div [] (record { comment = []; after = []; spells = refl; is = refl; ends = tt; further = empty_lexes f Div }))
begins_at (BlockComment star) read f m h e =
    inl (h.prefix (mark Div 42 ∷ mark Div 47 ∷ []) Div [] (record {
      comment = mark Div 42 ∷ mark Div 47 ∷ [];
      after = [];
      spells = refl;
      is = inr (no_slash star, inl (refl, refl));
      further = empty_lexes (ended_in f (42 ∷ 47 ∷ [])) Div;
    }))
  where
    no_slash : (b : Bool) → (b && false) ≡ false
    no_slash true = refl
    no_slash false = refl
begins_at (Token p) read f m h e = by_alive (alive p e)
  where
    by_alive : Alive p → Begins m
    by_alive (completes k u r) = inl (h.prefix (read_by Div u) Div _ (whole_token p read f k u r))
    by_alive (escapes host seen i) =
        inr (ends_in_escape seen m (h.escape host seen (ap (λ (x : Place). Token x) i)))

pub alive_begins : (v : Lexer) (m : List Mark) (given : List Lexeme) → HasRead v m given → is_dead_state v.state ≡ false → Begins m
alive_begins v m given h e = begins_at v.state h.read v.newline m (record {
  prefix = λ w end tokens x. record {
    back = w;
    end = end;
    tokens = given ++ lexemes_of tokens;
    lexes = coming v m given h w end tokens x;
  };
  escape = h.escape;
}) e

-- a lexer that is

seen_of : (u : List ℕ) → is_open_escape u ≡ true → (seen : Seen) × (u ≡ with_seen seen [])
seen_of [] o = (EscapeMark, refl)
seen_of (c ∷ []) o = (EscapeLetter, ap (λ (x : ℕ). x ∷ []) (is_same c 117 o))
seen_of (c ∷ a ∷ []) o = (OneDigit a, ap (λ (x : ℕ). x ∷ a ∷ []) (is_same c 117 (and_left _ _ o)))
seen_of (c ∷ a ∷ b ∷ []) o = (TwoDigits a b, ap (λ (x : ℕ). x ∷ a ∷ b ∷ []) (is_same c 117 (and_left _ _ o)))
seen_of (c ∷ a ∷ b ∷ d ∷ []) o =
    (ThreeDigits a b d, ap (λ (x : ℕ). x ∷ a ∷ b ∷ d ∷ []) (is_same c 117 (and_left _ _ o)))
seen_of (c ∷ a ∷ b ∷ d ∷ e ∷ u) o = absurd cc

no_within : (seen : Seen) (s : State) → is_dead_state s ≡ true → Within seen s → ⊥
no_within seen (Token Dead) e w = w
no_within seen (Token Name) e w = w
no_within seen (Token (AtMark p)) e w = w
no_within seen (Token (Number p)) e w = w
no_within seen (Token (Escape host x)) e w = absurd cc
no_within seen (Token (Text q p)) e w = absurd cc
no_within seen (Token (Pattern p)) e w = absurd cc
no_within seen Start e w = w
no_within seen Slash e w = w
no_within seen LineComment e w = absurd cc
no_within seen (BlockComment star) e w = absurd cc

pub dead_begins : (v : Lexer) (m : List Mark) (given : List Lexeme) → HasRead v m given → is_dead_state v.state ≡ true → Begins m → ⊥
dead_begins v m given h e (inl x) =
    let y = going v m given h x.back x.end x.tokens x.lexes in
    dead_state v.state (own v.state h.read) v.newline x.back x.end y.others e y.from
dead_begins v m given h e (inr x) =
    let s = seen_of (chars x.digits) x.is_open in
    no_within s.0 v.state e
    (h.within s.0 (record {
      before = x.prefix;
      backslash = x.backslash;
      digits = x.digits;
      splits = x.splits;
      is_backslash = x.is_backslash;
      spells = s.1;
      is_open = ap is_open_escape (sym s.1) ∙ x.is_open;
      begins = x.begins;
    }))

pub dead_exactly : (v : Lexer) (m : List Mark) (given : List Lexeme) (b : Bool) → b ≡ is_dead_state v.state → HasRead v m given → IsTrue b ↔ (Begins m → ⊥)
dead_exactly v m given b e h =
    (λ t. dead_begins v m given h (sym e ∙ t), λ none. by_state (is_dead_state v.state) refl none)
  where
    by_state : (d : Bool) → is_dead_state v.state ≡ d → (Begins m → ⊥) → b ≡ true
    by_state true i none = e ∙ i
    by_state false i none = absurd (none (alive_begins v m given h i))
