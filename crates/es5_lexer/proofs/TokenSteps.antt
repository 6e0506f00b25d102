-- The steps of a lexer in a token: it goes on by a character, or it has ended before it.
use Rattle.std.proofs.Common.{◌≡◌, ℕ, Bool, true, false, ◌&&◌, ◌||◌, ◌==◌, Option, Some, None, List, [], ◌∷◌, ◌++◌, ◌⊎◌, inl, inr, refl, sym, ap, subst, ◌∙◌}
use Rattle.ucd_category.specs.GeneralCategory.{general_category}
use Rattle.ucd_category.specs.GeneralCategoryRows.{general_category_rows}
use Rattle.ucd_table.specs.Rows.{value_in}
use Rattle.text_stream.specs.Classes.{class_of}
use Rattle.text_stream.specs.declared.classes.CharClass.{CharClass}
use Rattle.text_stream.specs.declared.classes.CharClass.TheVariants.{LineEnd, Space, NameStart, NamePart, Other}
use Rattle.es5_lexer.specs.Characters.{is_start, is_part, is_digit, is_hex, is_octal, is_character, code_of, is_start_class, is_part_class}
use Rattle.es5_lexer.specs.Characters.{is_escape_of}
use Rattle.es5_lexer.specs.Names.{AreEscaped}
use Rattle.es5_lexer.specs.Numbers.{is_exponent_mark, is_hex_mark}
use Rattle.es5_lexer.specs.Trivia.{is_blank}
use Rattle.es5_lexer.specs.Tokens.{is_barred, may_precede}
use Rattle.es5_lexer.specs.Texts.{Mark, mark, chars, asked}
use Rattle.es5_lexer.specs.Cuts.{Cut, cut, CutsFrom}
use Rattle.es5_lexer.specs.Places.{is_dot, longer, first, next, next_by, next_in_exponent, ended, is_dead}
use Rattle.es5_lexer.specs.PlaceResiduals.{NumberResidual, PlaceResidual}
use Rattle.es5_lexer.specs.Reading.{token_of}
use Rattle.es5_lexer.specs.Residuals.{onto, TokenFrom, GoesOn, Steps}
use Rattle.es5_lexer.specs.declared.tokens.Goal.{Goal}
use Rattle.es5_lexer.specs.declared.tokens.Punct.{Punct}
use Rattle.es5_lexer.specs.declared.places.Kind.{Kind}
use Rattle.es5_lexer.specs.declared.places.Kind.TheVariants.{Name as AName, Punct as APunct, Number as ANumber, Pattern as APattern}
use Rattle.es5_lexer.specs.declared.places.Place.{Place}
use Rattle.es5_lexer.specs.declared.places.Place.TheVariants.{Name, Escape, Mark as AtMark, Number, Text, Pattern, Dead}
use Rattle.es5_lexer.specs.declared.places.Host.TheVariants.{FirstChar}
use Rattle.es5_lexer.specs.declared.places.Seen.TheVariants.{EscapeMark}
use Rattle.es5_lexer.specs.declared.places.NumberPlace.{NumberPlace}
use Rattle.es5_lexer.specs.declared.places.NumberPlace.TheVariants.{Zero, Digit, Point, Exponent, Sign, ExponentDigit, HexMark, HexDigit, OctalDigit}
use Rattle.es5_lexer.specs.declared.places.TextPlace.TheVariants.{Chars, TextEscape, Cr, Hex, End}
use Rattle.es5_lexer.specs.declared.places.Left.TheVariants.{One, Two, Three, Four}
use Rattle.es5_lexer.specs.declared.places.PatternPlace.TheVariants.{BodyStart, Body, BodyEscape, Class, ClassEscape, Flags}
use Rattle.es5_lexer.specs.declared.states.State.{State}
use Rattle.es5_lexer.specs.declared.states.State.TheVariants.{Start, Token}
use Rattle.es5_lexer.proofs.Choices.{split, else_in, is_same, never, or_cases, and_left, and_right, and_both, not_true, true_not}
use Rattle.es5_lexer.proofs.ClassLemmas.{backslash}
use Rattle.es5_lexer.proofs.PlaceLemmas.{dot_is, escape_open, goes, comes, ends_here, ended_rest}
use Rattle.es5_lexer.proofs.TriviaLemmas.{chars-append}
use Rattle.es5_lexer.proofs.OpenLemmas.{Opened, a_blank, a_line, a_block, a_token, opened}
use Rattle.es5_lexer.proofs.StepLemmas.{quiet}

-- the token at hand goes on by the character

pub prepend : (s : Place) (read : List ℕ) (f : Bool) (g : Goal) (c : ℕ) (w : List Mark) (end : Goal) (tokens : List Cut) → TokenFrom (next s c) (c ∷ read) f w end tokens → TokenFrom s read f (mark g c ∷ w) end tokens
prepend s read f g c w end tokens h = record {
  kind = h.kind;
  before = mark g c ∷ h.before;
  after = h.after;
  others = h.others;
  spells = ap (λ (v : List Mark). mark g c ∷ v) h.spells;
  completes = comes s h.kind c (chars h.before) h.completes;
  longest = λ a b k e r. h.longest a b k e (goes s k c (chars h.before ++ a) r);
  free = h.free;
  further = h.further;
  gives = h.gives;
}

-- it has ended before the text
pub record Ended (s : Place) (read : List ℕ) (f : Bool) (w : List Mark) (end : Goal) (tokens : List Cut) : Type 0 where
  pub kind : Kind
  pub others : List Cut
  pub completes : PlaceResidual s kind []
  pub longest : (a b : List ℕ) (k : Kind) → chars w ≡ a ++ b → PlaceResidual s k a → a ≡ []
  pub free : may_precede (token_of kind (onto read [])) (chars w) ≡ true
  pub further : CutsFrom false w end others
  pub gives : tokens ≡ cut (token_of kind (onto read [])) f w ∷ others

pub of_ended : (s : Place) (read : List ℕ) (f : Bool) (w : List Mark) (end : Goal) (tokens : List Cut) → Ended s read f w end tokens → TokenFrom s read f w end tokens
of_ended s read f w end tokens h = record {
  kind = h.kind;
  before = [];
  after = w;
  others = h.others;
  spells = refl;
  completes = h.completes;
  longest = h.longest;
  free = h.free;
  further = h.further;
  gives = h.gives;
}

pub way : (s : Place) (read : List ℕ) (f : Bool) (g : Goal) (c : ℕ) (w : List Mark) (end : Goal) (tokens : List Cut) → TokenFrom s read f (mark g c ∷ w) end tokens → TokenFrom (next s c) (c ∷ read) f w end tokens ⊎ Ended s read f (mark g c ∷ w) end tokens
way s read f g c w end tokens h =
    by_before h.kind h.before h.after h.others h.spells h.completes h.longest h.free h.further h.gives
  where
    by_mark : (k : Kind) (m : Mark) (p r : List Mark) (others : List Cut) → m.character ≡ c → w ≡ p ++ r → PlaceResidual s k (m.character ∷ chars p) → ((a b : List ℕ) (l : Kind) → chars r ≡ a ++ b → PlaceResidual s l (m.character ∷ (chars p ++ a)) → a ≡ []) → may_precede (token_of k (onto read (m.character ∷ chars p))) (chars r) ≡ true → CutsFrom false r end others → tokens ≡ cut (token_of k (onto read (m.character ∷ chars p))) f r ∷ others → TokenFrom (next s c) (c ∷ read) f w end tokens
    by_mark k m p r others same tail rest longest free further gives = record {
      kind = k;
      before = p;
      after = r;
      others = others;
      spells = tail;
      completes = goes s k c (chars p) (subst (λ (x : ℕ). PlaceResidual s k (x ∷ chars p)) same rest);
      longest = λ a b l e i. longest a b l e (subst (λ (x : ℕ). PlaceResidual s l (x ∷ (chars p ++ a))) (sym same) (comes s l c (chars p ++ a) i));
      free = subst (λ (x : ℕ). may_precede (token_of k (onto read (x ∷ chars p))) (chars r) ≡ true) same free;
      further = further;
      gives = subst (λ (x : ℕ). tokens ≡ cut (token_of k (onto read (x ∷ chars p))) f r ∷ others) same gives;
    }

    by_before : (k : Kind) (p r : List Mark) (others : List Cut) → mark g c ∷ w ≡ p ++ r → PlaceResidual s k (chars p) → ((a b : List ℕ) (l : Kind) → chars r ≡ a ++ b → PlaceResidual s l (chars p ++ a) → a ≡ []) → may_precede (token_of k (onto read (chars p))) (chars r) ≡ true → CutsFrom false r end others → tokens ≡ cut (token_of k (onto read (chars p))) f r ∷ others → TokenFrom (next s c) (c ∷ read) f w end tokens ⊎ Ended s read f (mark g c ∷ w) end tokens
    by_before k [] r others e rest longest free further gives = inr (record {
      kind = k;
      others = others;
      completes = rest;
      longest = λ a b l h i. longest a b l (ap chars (sym e) ∙ h) i;
      free = subst (λ (v : List Mark). may_precede (token_of k (onto read [])) (chars v) ≡ true) (sym e) free;
      further = subst (λ (v : List Mark). CutsFrom false v end others) (sym e) further;
      gives = gives ∙ ap (λ (v : List Mark). cut (token_of k (onto read [])) f v ∷ others) (sym e);
    })
    by_before k (m ∷ p) r others e rest longest free further gives =
        let head : mark g c ≡ m = cc in let tail : w ≡ p ++ r = cc in
        inl (by_mark k m p r others (ap (λ (x : Mark). x.character) (sym head)) tail rest longest free further gives)

-- a whole token that goes on by a character: a longer one is whole with it, or it is barred after this
-- one, or it begins an escape
abbrev pub Further : Place → ℕ → Kind → Type 0
Further s c k =
    ((l : Kind) × PlaceResidual s l (c ∷ []))
    ⊎ (((u : List ℕ) → is_barred (token_of k u) c ≡ true) ⊎ ((c ≡ 92) × ((u : List ℕ) → AreEscaped is_part u → (l : Kind) × PlaceResidual s l (c ∷ u))))

start_barred : (c : ℕ) → is_start c ≡ true → (is_digit c || (is_start c || (c == 92))) ≡ true
start_barred c e = second (is_digit c) (is_start c) (c == 92) e
  where
    second : (a b d : Bool) → b ≡ true → (a || (b || d)) ≡ true
    second true b d h = refl
    second false true d h = refl
    second false false d h = absurd cc

start_e : is_start 101 ≡ true
unfolding class_of general_category general_category_rows value_in
start_e = refl

start_big_e : is_start 69 ≡ true
unfolding class_of general_category general_category_rows value_in
start_big_e = refl

start_x : is_start 120 ≡ true
unfolding class_of general_category general_category_rows value_in
start_x = refl

start_big_x : is_start 88 ≡ true
unfolding class_of general_category general_category_rows value_in
start_big_x = refl

-- the marks of exponents and of hexadecimal numbers begin names
one_of_two : (c m n : ℕ) → is_start m ≡ true → is_start n ≡ true → ((c == m) || (c == n)) ≡ true → is_start c ≡ true
one_of_two c m n e f h =
    elim (or_cases (c == m) (c == n) h) [
      | inl t ↦ ap is_start (is_same c m t) ∙ e
      | inr t ↦ ap is_start (is_same c n t) ∙ f
    ]

exponent_further : (place : NumberPlace) (c : ℕ) → is_dead (next_in_exponent c) ≡ false → Further (Number place) c ANumber
exponent_further place c h =
    elim (split (λ (x : Place). is_dead x ≡ false) (is_exponent_mark c) _ _ h) [
      | inl (t, _) ↦ inr (inl (λ u. start_barred c (one_of_two c 101 69 start_e start_big_e t)))
      | inr (_, z) ↦ absurd cc
    ]

number_further : (place : NumberPlace) (c : ℕ) → NumberResidual place [] → is_dead (next (Number place) c) ≡ false → Further (Number place) c ANumber
number_further Zero c r h =
    elim (split (λ (x : Place). is_dead x ≡ false) (is_octal c) _ _ h) [
      | inl (t, _) ↦ inl (ANumber, (refl, inl (t, tt)))
      | inr (_, i) ↦ elim (split (λ (x : Place). is_dead x ≡ false) (is_hex_mark c) _ _ i) [
        | inl (t, _) ↦ inr (inl (λ u. start_barred c (one_of_two c 120 88 start_x start_big_x t)))
        | inr (_, j) ↦ elim (split (λ (x : Place). is_dead x ≡ false) (c == 46) _ _ j) [
          | inl (t, _) ↦ inl (ANumber, (refl, inr (inl (is_same c 46 t, tt))))
          | inr (_, k) ↦ exponent_further Zero c k
        ]
      ]
    ]
number_further Digit c r h =
    elim (split (λ (x : Place). is_dead x ≡ false) (is_digit c) _ _ h) [
      | inl (t, _) ↦ inl (ANumber, (refl, inl (t, tt)))
      | inr (_, j) ↦ elim (split (λ (x : Place). is_dead x ≡ false) (c == 46) _ _ j) [
        | inl (t, _) ↦ inl (ANumber, (refl, inr (inl (is_same c 46 t, tt))))
        | inr (_, k) ↦ exponent_further Digit c k
      ]
    ]
number_further Point c r h =
    elim (split (λ (x : Place). is_dead x ≡ false) (is_digit c) _ _ h) [
      | inl (t, _) ↦ inl (ANumber, (refl, inl (t, tt)))
      | inr (_, k) ↦ exponent_further Point c k
    ]
number_further Exponent c r h = absurd r
number_further Sign c r h = absurd r
number_further ExponentDigit c r h =
    elim (split (λ (x : Place). is_dead x ≡ false) (is_digit c) _ _ h) [ inl (t, _) ↦ inl (ANumber, (refl, (t, tt))) | inr (_, k) ↦ absurd cc ]
number_further HexMark c r h = absurd r
number_further HexDigit c r h =
    elim (split (λ (x : Place). is_dead x ≡ false) (is_hex c) _ _ h) [ inl (t, _) ↦ inl (ANumber, (refl, (t, tt))) | inr (_, k) ↦ absurd cc ]
number_further OctalDigit c r h =
    elim (split (λ (x : Place). is_dead x ≡ false) (is_octal c) _ _ h) [ inl (t, _) ↦ inl (ANumber, (refl, (t, tt))) | inr (_, k) ↦ absurd cc ]

mark_further : (p : Punct) (c : ℕ) (o : Option Punct) → longer p c ≡ o → is_dead (next_by o p c) ≡ false → Further (AtMark p) c (APunct p)
mark_further p c (Some q) e h = inl (APunct q, inl (q, e, refl))
mark_further p c None e h =
    elim (split (λ (x : Place). is_dead x ≡ false) (is_dot p && is_digit c) _ _ h) [
      | inl (t, _) ↦ inl (ANumber, inr (dot_is p (and_left _ _ t), and_right (is_dot p) (is_digit c) t, refl, tt))
      | inr (_, k) ↦ absurd cc
    ]

further : (s : Place) (c : ℕ) (k : Kind) → PlaceResidual s k [] → is_dead (next s c) ≡ false → Further s c k
further Name c k r h =
    elim (split (λ (x : Place). is_dead x ≡ false) (is_part c) _ _ h) [
      | inl (t, _) ↦ inl (AName, (refl, inl (t, tt)))
      | inr (_, i) ↦ elim (split (λ (x : Place). is_dead x ≡ false) (c == 92) _ _ i) [
        | inl (t, _) ↦ inr (inr (is_same c 92 t, λ u e. (AName, (refl, inr (is_same c 92 t, e)))))
        | inr (_, j) ↦ absurd cc
      ]
    ]
further (Escape host seen) c k r h = absurd (escape_open host seen r.1)
further (AtMark p) c k r h =
    subst (λ (x : Kind). Further (AtMark p) c x) (sym r) (mark_further p c (longer p c) refl h)
further (Number place) c k r h = subst (λ (x : Kind). Further (Number place) c x) (sym r.0) (number_further place c r.1 h)
further (Text q Chars) c k r h = absurd r.1
further (Text q TextEscape) c k r h = absurd r.1
further (Text q Cr) c k (_, inl r) h = absurd r
further (Text q Cr) c k (_, inr r) h = absurd r
further (Text q (Hex One)) c k r h = absurd r.1
further (Text q (Hex Two)) c k r h = absurd r.1
further (Text q (Hex Three)) c k r h = absurd r.1
further (Text q (Hex Four)) c k r h = absurd r.1
further (Text q End) c k r h = absurd cc
further (Pattern BodyStart) c k r h = absurd r.1
further (Pattern Body) c k r h = absurd r.1
further (Pattern BodyEscape) c k r h = absurd r.1
further (Pattern Class) c k r h = absurd r.1
further (Pattern ClassEscape) c k r h = absurd r.1
further (Pattern Flags) c k r h =
    elim (split (λ (x : Place). is_dead x ≡ false) (is_part c) _ _ h) [
      | inl (t, _) ↦ inl (APattern, (refl, inl (t, tt)))
      | inr (_, i) ↦ elim (split (λ (x : Place). is_dead x ≡ false) (c == 92) _ _ i) [
        | inl (t, _) ↦ inr (inr (is_same c 92 t, λ u e. (APattern, (refl, inr (is_same c 92 t, e)))))
        | inr (_, j) ↦ absurd cc
      ]
    ]
further Dead c k r h = absurd r

-- what an escape may write at the start of a name it may write later in one too

start_part : (k : CharClass) → is_start_class k ≡ true → is_part_class k ≡ true
start_part LineEnd h = absurd cc
start_part Space h = absurd cc
start_part NameStart h = refl
start_part NamePart h = absurd cc
start_part Other h = absurd cc

digits_part : (a b c d : ℕ) → is_escape_of is_start a b c d ≡ true → is_escape_of is_part a b c d ≡ true
digits_part a b c d h =
    let n = code_of a b c d in
    let tail = and_right ((is_hex a && is_hex b) && (is_hex c && is_hex d)) (is_character n && is_start n) h in
    and_both _ _ (and_left _ _ h) (and_both _ _ (and_left (is_character n) (is_start n) tail) (start_part (class_of n) (and_right (is_character n) (is_start n) tail)))

pub escape_part : (u : List ℕ) → AreEscaped is_start u → AreEscaped is_part u
escape_part [] h = h
escape_part (x ∷ []) h = h
escape_part (x ∷ a ∷ []) h = h
escape_part (x ∷ a ∷ b ∷ []) h = h
escape_part (x ∷ a ∷ b ∷ c ∷ []) h = h
escape_part (x ∷ a ∷ b ∷ c ∷ d ∷ u) h = (h.0, digits_part a b c d h.1, h.2)

-- after a backslash no token stands but a name that begins with an escape

pub first_backslash : (g : Goal) (c : ℕ) → c ≡ 92 → first g c ≡ Escape FirstChar EscapeMark
first_backslash g c e =
    let known : first g 92 ≡ Escape FirstChar EscapeMark = else_in (λ (x : Place). x ≡ Escape FirstChar EscapeMark) (is_start 92) _ _ (ap is_start_class backslash) refl in
    subst (λ (x : ℕ). first g x ≡ Escape FirstChar EscapeMark) (sym e) known

pub backslash_no_blank : (c : ℕ) → c ≡ 92 → is_blank c ≡ true → ⊥
unfolding class_of general_category general_category_rows value_in
backslash_no_blank c e b =
    let none : is_blank 92 ≡ false = refl in
    never (is_blank c) b (ap is_blank e ∙ none)

pub not_both : (c : ℕ) → c ≡ 92 → c ≡ 47 → ⊥
not_both c e k = absurd cc

no_cons : (c : ℕ) (u : List ℕ) → c ∷ u ≡ [] → ⊥
no_cons c u e = absurd cc

-- a token that has ended doesn't go on
pub must_go : (s : Place) (read : List ℕ) (f : Bool) (g : Goal) (c : ℕ) (w : List Mark) (end : Goal) (tokens : List Cut) → is_dead (next s c) ≡ false → Ended s read f (mark g c ∷ w) end tokens → ⊥
must_go s read f g c w end tokens live h = by_way (further s c h.kind h.completes live)
  where
    by_escape : c ≡ 92 → ((u : List ℕ) → AreEscaped is_part u → (l : Kind) × PlaceResidual s l (c ∷ u)) → Opened false c w end h.others → ⊥
    by_escape e goes_on (a_blank b _) = backslash_no_blank c e b
    by_escape e goes_on (a_line d v k _ _ _) = not_both c e k
    by_escape e goes_on (a_block d v k _ _ _) = not_both c e k
    by_escape e goes_on (a_token t) =
        let known = subst (λ (x : Place). PlaceResidual x t.kind (chars t.before)) (first_backslash (asked w end) c e) t.completes in
        let more = goes_on (chars t.before) (escape_part (chars t.before) known.1) in
        let spells : c ∷ chars w ≡ (c ∷ chars t.before) ++ chars t.after = ap (λ (u : List ℕ). c ∷ u) (ap chars t.spells ∙ chars-append t.before t.after) in
        no_cons c (chars t.before) (h.longest (c ∷ chars t.before) (chars t.after) more.0 spells more.1)

    by_way : Further s c h.kind → ⊥
    by_way (inl (l, r)) = no_cons c [] (h.longest (c ∷ []) (chars w) l refl r)
    by_way (inr (inl b)) =
        never (is_barred (token_of h.kind (onto read [])) c) (b (onto read [])) (not_true _ h.free)
    by_way (inr (inr (e, goes_on))) = by_escape e goes_on (opened false g c w end h.others h.further)

-- nothing goes on from where no token begins
pub dead_from : (s : Place) (read : List ℕ) (f : Bool) (w : List Mark) (end : Goal) (tokens : List Cut) → is_dead s ≡ true → TokenFrom s read f w end tokens → ⊥
dead_from Dead read f w end tokens e h = h.completes
dead_from _ read f w end tokens e h = absurd cc

pub token_step : (s : Place) (read : List ℕ) (f : Bool) (g : Goal) (c : ℕ) → is_dead (next s c) ≡ false → Steps (Token s) read f g c None (Token (next s c)) f
token_step s read f g c live =
    quiet (Token s) read f g c (Token (next s c)) f
    (λ w end tokens h. elim (way s read f g c w end tokens h) [ inl t ↦ t | inr e ↦ absurd (must_go s read f g c w end tokens live e) ])
    (λ w end tokens h. prepend s read f g c w end tokens h)

-- the token of its place
same_kind : (s : Place) (k l : Kind) → ended s ≡ Some k → PlaceResidual s l [] → l ≡ k
same_kind s k l e r = let f = ends_here s l r in cc

pub none_longer : (s : Place) (c : ℕ) (u : List ℕ) → is_dead (next s c) ≡ true → (a b : List ℕ) (l : Kind) → c ∷ u ≡ a ++ b → PlaceResidual s l a → a ≡ []
none_longer s c u dead [] b l e r = refl
none_longer s c u dead (d ∷ a) b l e r =
    let head : d ≡ c = cc in
    absurd (no_rest (next s c) dead (goes s l c a (subst (λ (x : ℕ). PlaceResidual s l (x ∷ a)) head r)))
  where
    no_rest : (p : Place) → is_dead p ≡ true → PlaceResidual p l a → ⊥
    no_rest Dead h x = x
    no_rest _ h x = absurd cc

pub end_step : (s : Place) (read : List ℕ) (f : Bool) (g : Goal) (c : ℕ) (k : Kind) (t : State) (flag : Bool) → is_dead (next s c) ≡ true → ended s ≡ Some k → ((u : List ℕ) → is_barred (token_of k u) c ≡ false) → Steps Start [] false g c None t flag → Steps (Token s) read f g c (Some k) t flag
end_step s read f g c k t flag dead e unbarred begins = record {
  goes = λ w end tokens h. elim (way s read f g c w end tokens h) [
    | inl x ↦ absurd (dead_from (next s c) (c ∷ read) f w end tokens dead x)
    | inr x ↦ given w end tokens x
  ];
  comes = λ w end tokens h.
      let l = begins.comes w end h.others (record { others = h.others; is = refl; from = h.from }) in
      of_ended s read f (mark g c ∷ w) end tokens (record {
        kind = k;
        others = h.others;
        completes = ended_rest s k e;
        longest = none_longer s c (chars w) dead;
        free = true_not _ (unbarred (onto read []));
        further = l;
        gives = h.is;
      });
}
  where
    given : (w : List Mark) (end : Goal) (tokens : List Cut) → Ended s read f (mark g c ∷ w) end tokens → GoesOn t (c ∷ []) flag (cut (token_of k (onto read [])) f (mark g c ∷ w) ∷ []) w end tokens
    given w end tokens x =
        let y = begins.goes w end x.others x.further in
        record {
          others = y.others;
          is = x.gives ∙ ap (λ (z : Kind). cut (token_of z (onto read [])) f (mark g c ∷ w) ∷ x.others) (same_kind s k x.kind e x.completes) ∙ ap (λ (z : List Cut). cut (token_of k (onto read [])) f (mark g c ∷ w) ∷ z) y.is;
          from = y.from;
        }

-- no text goes on
dead_steps : (s : Place) (read : List ℕ) (f : Bool) (g : Goal) (c : ℕ) (given : Option Kind) → ((w : List Mark) (end : Goal) (tokens : List Cut) → TokenFrom s read f (mark g c ∷ w) end tokens → ⊥) → Steps (Token s) read f g c given (Token Dead) false
dead_steps s read f g c given none = record {
  goes = λ w end tokens h. absurd (none w end tokens h);
  comes = λ w end tokens h. absurd h.from.completes;
}

pub barred_step : (s : Place) (read : List ℕ) (f : Bool) (g : Goal) (c : ℕ) (k : Kind) → is_dead (next s c) ≡ true → ended s ≡ Some k → ((u : List ℕ) → is_barred (token_of k u) c ≡ true) → Steps (Token s) read f g c None (Token Dead) false
barred_step s read f g c k dead e barred =
    dead_steps s read f g c None (λ w end tokens h. elim (way s read f g c w end tokens h) [
      | inl x ↦ dead_from (next s c) (c ∷ read) f w end tokens dead x
      | inr x ↦ never (is_barred (token_of x.kind (onto read [])) c) (ap (λ (z : Kind). is_barred (token_of z (onto read [])) c) (same_kind s k x.kind e x.completes) ∙ barred (onto read [])) (not_true _ x.free)
    ])

pub open_step : (s : Place) (read : List ℕ) (f : Bool) (g : Goal) (c : ℕ) (given : Option Kind) → is_dead (next s c) ≡ true → ended s ≡ None → Steps (Token s) read f g c given (Token Dead) false
open_step s read f g c given dead e =
    dead_steps s read f g c given (λ w end tokens h. elim (way s read f g c w end tokens h) [
      | inl x ↦ dead_from (next s c) (c ∷ read) f w end tokens dead x
      | inr x ↦ let y = ends_here s x.kind x.completes in absurd cc
    ])
