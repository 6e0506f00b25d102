-- The letters kept of a name follow it, and tell its token.
use Rattle.std.proofs.Common.{◌≡◌, ℕ, zero, suc, ◌≤◌, Bool, true, false, ◌&&◌, ◌||◌, ◌==◌, nat_lt, nat_eq, bytes_eq, codes, if◌then◌else◌, is_some, Option, Some, None, List, [], ◌∷◌, ◌++◌, length, map, take, inl, inr, refl, sym, ap, subst, ◌∙◌, append_assoc, arith}
use Rattle.std.proofs.lemmas.List.{take-append-le}
use Rattle.std.proofs.lemmas.Bool.Decides.{nat_tests}
use Rattle.es5_lexer.specs.Characters.{is_line_end, is_part, is_start, is_hex, escaped, is_escape_of, is_part_class, is_start_class}
use Rattle.es5_lexer.specs.Names.{AreParts, IsName, spelled, spelled_escape, spelled_with, is_escaped, reserved_words, word_in, word_of, ident_of, token_by, name_token}
use Rattle.es5_lexer.specs.Places.{set_of, first, next, is_dead, past_slash}
use Rattle.es5_lexer.specs.PlaceResiduals.{IsKind, kind_in, with_seen, EscapeResidual, MarkResidual, PlaceResidual}
use Rattle.es5_lexer.specs.Residuals.{onto, own, own_after, Leads, LeadsFrom, LeadsStart, is_dead_state, is_name_place, is_in_name}
use Rattle.es5_lexer.specs.Letters.{kept_letter, kept, with_letter, letter, ends_escape, token_of_letters, spelled_from, escaped_from, Spells, Hears, HeardAt}
use Rattle.es5_lexer.specs.declared.tokens.Goal.{Goal}
use Rattle.es5_lexer.specs.declared.tokens.Word.{Word}
use Rattle.es5_lexer.specs.Suits.{is_div}
use Rattle.es5_lexer.specs.declared.tokens.Punct.{Punct}
use Rattle.es5_lexer.specs.declared.tokens.Punct.TheVariants.{Slash as TheSlash}
use Rattle.es5_lexer.specs.declared.tokens.Token.TheVariants.{Ident, Get, Set}
use Rattle.es5_lexer.specs.declared.letters.Letters.{Letters}
use Rattle.es5_lexer.specs.declared.places.Kind.{Kind}
use Rattle.es5_lexer.specs.declared.places.Kind.TheVariants.{Name as AName}
use Rattle.es5_lexer.specs.declared.places.Host.{Host}
use Rattle.es5_lexer.specs.declared.places.Host.TheVariants.{FirstChar, LaterChar, FlagChar}
use Rattle.es5_lexer.specs.declared.places.Seen.{Seen}
use Rattle.es5_lexer.specs.declared.places.Seen.TheVariants.{EscapeMark, EscapeLetter, OneDigit, TwoDigits, ThreeDigits}
use Rattle.es5_lexer.specs.declared.places.Place.{Place}
use Rattle.es5_lexer.specs.declared.places.Place.TheVariants.{Name, Escape, Mark as AtMark, Number, Text, Pattern, Dead}
use Rattle.es5_lexer.specs.declared.places.PatternPlace.TheVariants.{BodyStart}
use Rattle.es5_lexer.specs.declared.states.State.{State}
use Rattle.es5_lexer.specs.declared.states.State.TheVariants.{Start, Slash, LineComment, BlockComment, Token}
use Rattle.es5_lexer.proofs.Choices.{then_in, else_in, is_same, test_same, never, and_left, and_right}
use Rattle.es5_lexer.proofs.ClassLemmas.{backslash}
use Rattle.es5_lexer.proofs.EscapeLemmas.{escaped-none}
use Rattle.es5_lexer.proofs.PlaceLemmas.{goes, comes, escape_open, mark_is, first_hex, second_hex, third_hex}
use Rattle.es5_lexer.proofs.FirstLemmas.{first_goes, first_comes}
use Rattle.es5_lexer.proofs.ListLemmas.{append-none}
use Rattle.es5_lexer.proofs.TokenSteps.{first_backslash}

-- names stand at the places of names alone

mark_no_name : (p : Punct) (u : List ℕ) → MarkResidual p AName u → ⊥
mark_no_name p [] h = absurd cc
mark_no_name p (c ∷ u) (inl (q, e, h)) = mark_no_name q u h
mark_no_name p (c ∷ u) (inr (_, _, e, _)) = absurd cc

pub no_name : (p : Place) (u : List ℕ) → is_name_place p ≡ false → PlaceResidual p AName u → ⊥
no_name Name u e h = absurd cc
no_name (Escape host seen) u e h = absurd cc
no_name (AtMark p) u e h = mark_no_name p u h
no_name (Number place) u e (k, h) = absurd cc
no_name (Text q place) u e (k, h) = absurd cc
no_name (Pattern place) u e (k, h) = absurd cc
no_name Dead u e h = h

pub heard_outside : (l : Letters) (t : State) (read : List ℕ) → is_in_name t ≡ false → HeardAt l t read
heard_outside l (Token p) read e = λ u h. absurd (no_name p u e h)
heard_outside l Start read e = tt
heard_outside l Slash read e = tt
heard_outside l LineComment read e = tt
heard_outside l (BlockComment star) read e = tt

-- a letter more

before : Option ℕ → List ℕ → List ℕ
before None v = v
before (Some c) v = c ∷ v

keep_letter : (l : List ℕ) (o : Option ℕ) (v : List ℕ) → take 11 (l ++ map kept_letter (before o v)) ≡ take 11 (with_letter l o ++ map kept_letter v)
unfolding before
keep_letter l None v = refl
keep_letter l (Some c) v = by_room (nat_lt (length l) 11) refl
  where
    w : List ℕ
    w = map kept_letter v

    by_room : (b : Bool) → nat_lt (length l) 11 ≡ b → take 11 (l ++ (kept_letter c ∷ map kept_letter v)) ≡ take 11 ((if b then l ++ kept_letter c ∷ [] else l) ++ map kept_letter v)
    by_room true e = ap (λ (x : List ℕ). take 11 x) (sym (append_assoc l (kept_letter c ∷ []) (map kept_letter v)))
    by_room false e =
        let full : 11 ≤ length l = grind (arith, nat_tests) in
        take-append-le 11 l (kept_letter c ∷ map kept_letter v) full ∙ sym (take-append-le 11 l (map kept_letter v) full)

-- what a name spells from a place on, by one character
record Letter (s : Place) (c : ℕ) (u : List ℕ) : Type 0 where
  pub spells : spelled_from s (c ∷ u) ≡ before (letter s c) (spelled_from (next s c) u)
  pub marks : escaped_from s (c ∷ u) ≡ (ends_escape s || escaped_from (next s c) u)

part_no_backslash : (c : ℕ) (b : Bool) → (c == 92) ≡ b → is_part c ≡ true → (c == 92) ≡ false
part_no_backslash c true e h = never (is_part c) h (ap is_part (is_same c 92 e) ∙ ap is_part_class backslash)
part_no_backslash c false e h = e

name_letter : (c : ℕ) (u : List ℕ) → AreParts (c ∷ u) → Letter Name c u
unfolding before
name_letter c u (inl (p, _)) =
    let n = part_no_backslash c (c == 92) refl p in
    record {
      spells =
          then_in (λ (t : Place). spelled (c ∷ u) ≡ before (letter Name c) (spelled_from t u)) (is_part c) _ _ p
          (else_in (λ (o : Option ℕ). spelled (c ∷ u) ≡ before o (spelled u)) (c == 92) _ _ n
          (else_in (λ (v : List ℕ). v ≡ c ∷ spelled u) (c == 92) _ _ n refl));
      marks = then_in (λ (t : Place). is_escaped (c ∷ u) ≡ escaped_from t u) (is_part c) _ _ p (ap (λ (b : Bool). b || is_escaped u) n);
    }
name_letter c u (inr (e, _)) =
    let t = test_same c 92 e in
    let n : is_part c ≡ false = ap is_part e ∙ ap is_part_class backslash in
    record {
      spells =
          else_in (λ (q : Place). spelled (c ∷ u) ≡ before (letter Name c) (spelled_from q u)) (is_part c) _ _ n
          (then_in (λ (q : Place). spelled (c ∷ u) ≡ before (letter Name c) (spelled_from q u)) (c == 92) _ _ t
          (then_in (λ (o : Option ℕ). spelled (c ∷ u) ≡ before o (spelled_escape u)) (c == 92) _ _ t
          (then_in (λ (v : List ℕ). v ≡ spelled_escape u) (c == 92) _ _ t refl)));
      marks =
          else_in (λ (q : Place). is_escaped (c ∷ u) ≡ escaped_from q u) (is_part c) _ _ n
          (then_in (λ (q : Place). is_escaped (c ∷ u) ≡ escaped_from q u) (c == 92) _ _ t (ap (λ (b : Bool). b || is_escaped u) t));
    }

last_letter : (host : Host) (a b d c : ℕ) (u : List ℕ) (o : Option ℕ) → AName ≡ kind_in host → is_escape_of (set_of host) a b d c ≡ true → escaped a b d c ≡ o → Letter (Escape host (ThreeDigits a b d)) c u
unfolding before
last_letter host a b d c u None k e f = never (is_escape_of (set_of host) a b d c) e (sym (escaped-none (set_of host) a b d c f))
last_letter FlagChar a b d c u (Some n) k e f = absurd cc
last_letter FirstChar a b d c u (Some n) k e f = record {
  spells =
      then_in (λ (t : Place). spelled_with (escaped a b d c) (spelled u) ≡ before (escaped a b d c) (spelled_from t u)) (is_escape_of is_start a b d c) _ _ e
      (subst (λ (o : Option ℕ). spelled_with o (spelled u) ≡ before o (spelled u)) (sym f) refl);
  marks = refl;
}
last_letter LaterChar a b d c u (Some n) k e f = record {
  spells =
      then_in (λ (t : Place). spelled_with (escaped a b d c) (spelled u) ≡ before (escaped a b d c) (spelled_from t u)) (is_escape_of is_part a b d c) _ _ e
      (subst (λ (o : Option ℕ). spelled_with o (spelled u) ≡ before o (spelled u)) (sym f) refl);
  marks = refl;
}

-- a digit of an escape, not the last one
digit_letter : (host : Host) (seen later : Seen) (c : ℕ) (u : List ℕ) (b : Bool) → b ≡ true → spelled_escape (with_seen seen (c ∷ u)) ≡ spelled_escape (with_seen later u) → (spelled_escape (with_seen seen (c ∷ u)) ≡ spelled_from (if b then Escape host later else Dead) u) × (true ≡ escaped_from (if b then Escape host later else Dead) u)
digit_letter host seen later c u true e f = (f, refl)
digit_letter host seen later c u false e f = absurd cc

escape_letter : (host : Host) (seen : Seen) (c : ℕ) (u : List ℕ) → AName ≡ kind_in host → EscapeResidual host seen (c ∷ u) → Letter (Escape host seen) c u
unfolding before
escape_letter host EscapeMark c u k h =
    let e = mark_is (set_of host) c u h in
    let d = digit_letter host EscapeMark EscapeLetter c u (c == 117) (test_same c 117 e) (ap (λ (x : ℕ). spelled_escape (x ∷ u)) e) in
    record { spells = d.0; marks = d.1 }
escape_letter host EscapeLetter c u k h =
    let d = digit_letter host EscapeLetter (OneDigit c) c u (is_hex c) (first_hex (set_of host) c u h) refl in
    record { spells = d.0; marks = d.1 }
escape_letter host (OneDigit a) c u k h =
    let d = digit_letter host (OneDigit a) (TwoDigits a c) c u (is_hex c) (second_hex (set_of host) a c u h) refl in
    record { spells = d.0; marks = d.1 }
escape_letter host (TwoDigits a b) c u k h =
    let d = digit_letter host (TwoDigits a b) (ThreeDigits a b c) c u (is_hex c) (third_hex (set_of host) a b c u h) refl in
    record { spells = d.0; marks = d.1 }
escape_letter host (ThreeDigits a b d) c u k h = last_letter host a b d c u (escaped a b d c) k h.1 refl

letter_of : (s : Place) (c : ℕ) (u : List ℕ) → PlaceResidual s AName (c ∷ u) → Letter s c u
letter_of Name c u h = name_letter c u h.1
letter_of (Escape host seen) c u h = escape_letter host seen c u h.0 h.1
letter_of (AtMark p) c u h = absurd (mark_no_name p (c ∷ u) h)
letter_of (Number place) c u (k, h) = absurd cc
letter_of (Text q place) c u (k, h) = absurd cc
letter_of (Pattern place) c u (k, h) = absurd cc
letter_of Dead c u h = absurd h

or_assoc : (a b c : Bool) → (a || (b || c)) ≡ ((a || b) || c)
or_assoc true b c = refl
or_assoc false b c = refl

-- the letters kept go on with the name

pub goes_on : (l : List ℕ) (e : Bool) (s : Place) (read : List ℕ) (c : ℕ) (m : List ℕ) (f : Bool) → m ≡ with_letter l (letter s c) → f ≡ (e || ends_escape s) → Hears l e s read → Hears m f (next s c) (c ∷ read)
goes_on l e s read c m f same marked h u r =
    let rest = comes s AName c u r in
    let x = letter_of s c u rest in
    let y = h (c ∷ u) rest in
    record {
      same = y.same ∙ ap (λ (v : List ℕ). take 11 (l ++ map kept_letter v)) x.spells ∙ keep_letter l (letter s c) (spelled_from (next s c) u) ∙ ap (λ (v : List ℕ). take 11 (v ++ map kept_letter (spelled_from (next s c) u))) (sym same);
      marked = y.marked ∙ ap (λ (b : Bool). e || b) x.marks ∙ or_assoc e (ends_escape s) (escaped_from (next s c) u) ∙ ap (λ (b : Bool). b || escaped_from (next s c) u) (sym marked);
    }

-- and begin with it
begun : (l : List ℕ) (e : Bool) (g : Goal) (c : ℕ) (u : List ℕ) → l ≡ with_letter [] (letter Name c) → e ≡ false → IsKind g AName (c ∷ u) → Spells l e (first g c) (c ∷ []) u
unfolding before
begun l e g c u same marked (inl (s, _)) =
    let n = start_no_backslash c (c == 92) refl s in
    then_in (λ (t : Place). Spells l e t (c ∷ []) u) (is_start c) _ _ s
    (record {
      same = ap kept (else_in (λ (v : List ℕ). v ≡ before (Some c) (spelled u)) (c == 92) _ _ n refl) ∙ keep_letter [] (Some c) (spelled u) ∙ ap (λ (v : List ℕ). take 11 (v ++ map kept_letter (spelled u))) (sym (same ∙ else_in (λ (o : Option ℕ). with_letter [] o ≡ with_letter [] (Some c)) (c == 92) _ _ n refl));
      marked = ap (λ (b : Bool). b || is_escaped u) n ∙ ap (λ (b : Bool). b || is_escaped u) (sym marked);
    })
  where
    start_no_backslash : (d : ℕ) (b : Bool) → (d == 92) ≡ b → is_start d ≡ true → (d == 92) ≡ false
    start_no_backslash d true f h = never (is_start d) h (ap is_start (is_same d 92 f) ∙ ap is_start_class backslash)
    start_no_backslash d false f h = f
begun l e g c u same marked (inr (b, _)) =
    let t = test_same c 92 b in
    subst (λ (p : Place). Spells l e p (c ∷ []) u) (sym (first_backslash g c b))
    (record {
      same = ap kept (then_in (λ (v : List ℕ). v ≡ spelled_escape u) (c == 92) _ _ t refl) ∙ ap (λ (v : List ℕ). take 11 (v ++ map kept_letter (spelled_escape u))) (sym (same ∙ then_in (λ (o : Option ℕ). with_letter [] o ≡ []) (c == 92) _ _ t refl));
      marked = ap (λ (x : Bool). x || is_escaped u) t ∙ ap (λ (x : Bool). x || true) (sym marked);
    })

pub begins : (l : List ℕ) (e : Bool) (g : Goal) (c : ℕ) → l ≡ with_letter [] (letter Name c) → e ≡ false → Hears l e (first g c) (c ∷ [])
begins l e g c same marked u r = begun l e g c u same marked (first_comes g AName c u r)

-- the token that the letters tell

-- a spelling of at most so many letters, all ASCII
fits : ℕ → List ℕ → Bool
fits n [] = true
fits zero (x ∷ w) = false
fits (suc n) (x ∷ w) = nat_lt x 128 && fits n w

bytes_take : (n : ℕ) (w v : List ℕ) → fits n w ≡ true → bytes_eq w (take (suc n) v) ≡ bytes_eq w v
unfolding fits
bytes_take n [] [] h = refl
bytes_take n [] (c ∷ v) h = refl
bytes_take zero (x ∷ w) v h = absurd cc
bytes_take (suc n) (x ∷ w) [] h = refl
bytes_take (suc n) (x ∷ w) (c ∷ v) h =
    ap (λ (b : Bool). nat_eq x c && b) (bytes_take n w v (and_right (nat_lt x 128) (fits n w) h))

same_letter : (x c : ℕ) (b : Bool) → nat_lt c 128 ≡ b → nat_lt x 128 ≡ true → nat_eq x (if b then c else 255) ≡ nat_eq x c
same_letter x c true e h = refl
same_letter x c false e h =
    let a : nat_eq x 255 ≡ false = grind (arith, nat_tests) in
    let b : nat_eq x c ≡ false = grind (arith, nat_tests) in
    a ∙ sym b

bytes_map : (n : ℕ) (w v : List ℕ) → fits n w ≡ true → bytes_eq w (map kept_letter v) ≡ bytes_eq w v
unfolding fits
bytes_map n [] [] h = refl
bytes_map n [] (c ∷ v) h = refl
bytes_map zero (x ∷ w) v h = absurd cc
bytes_map (suc n) (x ∷ w) [] h = refl
bytes_map (suc n) (x ∷ w) (c ∷ v) h =
    ap (λ (b : Bool). b && bytes_eq w (map kept_letter v)) (same_letter x c (nat_lt c 128) refl (and_left (nat_lt x 128) (fits n w) h))
    ∙ ap (λ (b : Bool). nat_eq x c && b) (bytes_map n w v (and_right (nat_lt x 128) (fits n w) h))

bytes_kept : (w v : List ℕ) → fits 10 w ≡ true → bytes_eq w (kept v) ≡ bytes_eq w v
bytes_kept w v h = bytes_take 10 w (map kept_letter v) h ∙ bytes_map 10 w v h

-- equal tests of the reserved words, and of `get` and `set`
record Alike (v w : List ℕ) : Type 0 where
  pub test : (x : List ℕ) → fits 10 x ≡ true → bytes_eq x v ≡ bytes_eq x w

all_fit : List (List ℕ × Word) → Bool
all_fit [] = true
all_fit (w ∷ words) = fits 10 w.0 && all_fit words

word_alike : (words : List (List ℕ × Word)) (v w : List ℕ) → all_fit words ≡ true → Alike v w → word_in words v ≡ word_in words w
unfolding all_fit
word_alike [] v w h a = refl
word_alike (x ∷ words) v w h a =
    ap (λ (b : Bool). if b then Some x.1 else word_in words v) (a.test x.0 (and_left (fits 10 x.0) (all_fit words) h))
    ∙ ap (λ (o : Option Word). if bytes_eq x.0 w then Some x.1 else o) (word_alike words v w (and_right (fits 10 x.0) (all_fit words) h) a)

words_fit : all_fit reserved_words ≡ true
unfolding all_fit fits reserved_words
words_fit = refl

get_fits : fits 10 (codes "get") ≡ true
unfolding fits
get_fits = refl

set_fits : fits 10 (codes "set") ≡ true
unfolding fits
set_fits = refl

ident_alike : (v w : List ℕ) → Alike v w → ident_of v ≡ ident_of w
ident_alike v w a =
    ap (λ (b : Bool). if b then Get else if bytes_eq (codes "set") v then Set else Ident) (a.test (codes "get") get_fits)
    ∙ ap (λ (b : Bool). if bytes_eq (codes "get") w then Get else if b then Set else Ident) (a.test (codes "set") set_fits)

by_alike : (b : Bool) (o : Option Word) (v w : List ℕ) → Alike v w → token_by b o v ≡ token_by b o w
by_alike false (Some x) v w a = refl
by_alike true (Some x) v w a = refl
by_alike false None v w a = ident_alike v w a
by_alike true None v w a = refl

token_alike : (b : Bool) (v w : List ℕ) → Alike v w → token_of_letters b v ≡ token_of_letters b w
token_alike b v w a =
    by_alike b (word_of v) v w a ∙ ap (λ (o : Option Word). token_by b o w) (word_alike reserved_words v w words_fit a)

or_none : (b : Bool) → (b || false) ≡ b
or_none true = refl
or_none false = refl

pub heard_token : (l : List ℕ) (e : Bool) (p : Place) (read : List ℕ) → Hears l e p read → PlaceResidual p AName [] → token_of_letters e l ≡ name_token (onto read [])
heard_token l e Name read h r =
    let s = h [] r in
    let v : List ℕ = onto read [] in
    let letters : kept (spelled (onto read [])) ≡ take 11 l = s.same ∙ ap (take 11) (append-none l) in
    let alike : Alike l (spelled (onto read [])) = record { test = λ x f. sym (bytes_take 10 x l f) ∙ ap (bytes_eq x) (sym letters) ∙ bytes_kept x (spelled (onto read [])) f } in
    token_alike e l (spelled (onto read [])) alike
    ∙ ap (λ (b : Bool). token_of_letters b (spelled (onto read []))) (sym (or_none e) ∙ sym s.marked)
heard_token l e (Escape host seen) read h r = absurd (escape_open host seen r.1)
heard_token l e (AtMark p) read h r = absurd (mark_no_name p [] r)
heard_token l e (Number place) read h (k, r) = absurd cc
heard_token l e (Text q place) read h (k, r) = absurd cc
heard_token l e (Pattern place) read h (k, r) = absurd cc
heard_token l e Dead read h r = absurd r

-- along the steps of a lexer

dead_no_name : (p : Place) (u : List ℕ) → is_dead p ≡ true → PlaceResidual p AName u → ⊥
dead_no_name Dead u e h = h
dead_no_name _ u e h = absurd cc

-- the letters of l and one more, by the character after the place
pub record Reads (old new : Letters) (s : Place) (c : ℕ) : Type 0 where
  pub letters : new.letters.items ≡ with_letter old.letters.items (letter s c)
  pub escapes : new.escapes ≡ (old.escapes || ends_escape s)

-- where no token begins none is heard
heard_dead : (l : Letters) (t : State) (read : List ℕ) → is_dead_state t ≡ true → HeardAt l t read
heard_dead l (Token p) read e = λ u r. absurd (dead_no_name p u e r)
heard_dead l Start read e = tt
heard_dead l Slash read e = tt
heard_dead l LineComment read e = tt
heard_dead l (BlockComment star) read e = tt

follow_on : (old new : Letters) (s : Place) (g : Goal) (c : ℕ) (t : State) (read : List ℕ) → Reads old new s c → LeadsFrom s g c None t → Hears old.letters.items old.escapes s read → HeardAt new t (c ∷ read)
follow_on old new s g c t read x (inl e) h =
    subst (λ (u : State). HeardAt new u (c ∷ read)) (sym e.0) (goes_on old.letters.items old.escapes s read c new.letters.items new.escapes x.letters x.escapes h)
follow_on old new s g c t read x (inr d) h = heard_dead new t (c ∷ read) d.1

-- the letters of a name that begins
pub record Begins (new : Letters) (c : ℕ) : Type 0 where
  pub letters : new.letters.items ≡ with_letter [] (letter Name c)
  pub escapes : new.escapes ≡ false

begins_at : (new : Letters) (g : Goal) (c : ℕ) (q : Place) → Begins new c → q ≡ first g c → Hears new.letters.items new.escapes q (c ∷ [])
begins_at new g c q x e =
    subst (λ (p : Place). Hears new.letters.items new.escapes p (c ∷ [])) (sym e) (begins new.letters.items new.escapes g c x.letters x.escapes)

starts_at : (new : Letters) (g : Goal) (c : ℕ) (t : State) → Begins new c → LeadsStart g c t → HeardAt new t (c ∷ [])
starts_at new g c (Token q) x e = begins_at new g c q x e
starts_at new g c Start x e = tt
starts_at new g c Slash x e = tt
starts_at new g c LineComment x e = absurd e
starts_at new g c (BlockComment star) x e = absurd e

after_token : (new : Letters) (s : Place) (g : Goal) (c : ℕ) (k : Kind) (t : State) → Begins new c → LeadsFrom s g c (Some k) t → HeardAt new t (c ∷ [])
after_token new s g c k t x (inl e) = starts_at new g c t x e.2
after_token new s g c k t x (inr d) = heard_dead new t (c ∷ []) d.1

-- no name begins with a slash
pub slash_no_name : (g : Goal) (u : List ℕ) → PlaceResidual (past_slash g) AName u → ⊥
slash_no_name g u r = by_half (is_div g) r
  where
    by_half : (b : Bool) → PlaceResidual (if b then AtMark TheSlash else Pattern BodyStart) AName u → ⊥
    by_half true h = mark_no_name TheSlash u h
    by_half false (k, h) = absurd cc

by_slash : (new : Letters) (g : Goal) (c : ℕ) (t : State) → LeadsFrom (past_slash g) g c None t → HeardAt new t (c ∷ 47 ∷ [])
by_slash new g c t (inl e) =
    subst (λ (u : State). HeardAt new u (c ∷ 47 ∷ [])) (sym e.0) (λ u r. absurd (slash_no_name g (c ∷ u) (comes (past_slash g) AName c u r)))
by_slash new g c t (inr d) = heard_dead new t (c ∷ 47 ∷ []) d.1

after_slash : (new : Letters) (g : Goal) (c : ℕ) (given : Option Kind) (t : State) → Begins new c → Leads Slash g c given t → HeardAt new t (own_after given (47 ∷ []) c)
after_slash new g c (Some k) t x e = after_token new (past_slash g) g c k t x e
after_slash new g c None (Token q) x e = by_slash new g c (Token q) e
after_slash new g c None Start x e = tt
after_slash new g c None Slash x e = tt
after_slash new g c None LineComment x e = tt
after_slash new g c None (BlockComment star) x e = tt

-- in a comment no name is heard
in_comment : (l : Letters) (t s : State) (b : Bool) (read : List ℕ) → is_in_name s ≡ false → t ≡ (if b then Start else s) → HeardAt l t read
in_comment l t s true read n e = subst (λ (u : State). HeardAt l u read) (sym e) tt
in_comment l t s false read n e = subst (λ (u : State). HeardAt l u read) (sym e) (heard_outside l s read n)

between_tokens : (new : Letters) (g : Goal) (c : ℕ) (given : Option Kind) (t : State) → Begins new c → Leads Start g c given t → HeardAt new t (own_after given [] c)
between_tokens new g c None t x e = starts_at new g c t x e
between_tokens new g c (Some k) t x e = absurd e

after_line : (new : Letters) (g : Goal) (c : ℕ) (given : Option Kind) (t : State) → Leads LineComment g c given t → HeardAt new t (own_after given [] c)
after_line new g c None t e = in_comment new t LineComment (is_line_end c) (c ∷ []) refl e
after_line new g c (Some k) t e = absurd e

after_block : (new : Letters) (star : Bool) (g : Goal) (c : ℕ) (given : Option Kind) (t : State) → Leads (BlockComment star) g c given t → HeardAt new t (own_after given [] c)
after_block new star g c None t e = in_comment new t (BlockComment (c == 42)) (star && (c == 47)) (c ∷ []) refl e
after_block new star g c (Some k) t e = absurd e

-- a token has ended or was none
abbrev pub Anew : State → Option Kind → Type 0
Anew (Token p) None = ⊥
Anew s given = Unit {0}

pub follow_anew : (new : Letters) (s : State) (g : Goal) (c : ℕ) (given : Option Kind) (t : State) (read : List ℕ) → Anew s given → Begins new c → Leads s g c given t → HeardAt new t (own_after given (own s read) c)
follow_anew new (Token p) g c None t read a x e = absurd a
follow_anew new (Token p) g c (Some k) t read a x e = after_token new p g c k t x e
follow_anew new Slash g c given t read a x e = after_slash new g c given t x e
follow_anew new Start g c given t read a x e = between_tokens new g c given t x e
follow_anew new LineComment g c given t read a x e = after_line new g c given t e
follow_anew new (BlockComment star) g c given t read a x e = after_block new star g c given t e

pub anew_some : (s : State) (o : Option Kind) → is_some o ≡ true → Anew s o
anew_some s None e = absurd cc
anew_some (Token p) (Some k) e = tt
anew_some Start (Some k) e = tt
anew_some Slash (Some k) e = tt
anew_some LineComment (Some k) e = tt
anew_some (BlockComment star) (Some k) e = tt

pub anew_outside : (s : State) (o : Option Kind) → ((p : Place) → s ≡ Token p → ⊥) → Anew s o
anew_outside (Token p) o h = absurd (h p refl)
anew_outside Start o h = tt
anew_outside Slash o h = tt
anew_outside LineComment o h = tt
anew_outside (BlockComment star) o h = tt

pub follow_in : (old new : Letters) (b : State) (s : Place) (g : Goal) (c : ℕ) (given : Option Kind) (t : State) (read : List ℕ) → b ≡ Token s → is_some given ≡ false → Reads old new s c → Leads b g c given t → HeardAt old b (own b read) → HeardAt new t (own_after given (own b read) c)
follow_in old new b s g c (Some k) t read e n x = absurd cc
follow_in old new b s g c None t read e n x =
    subst (λ (d : State). Leads d g c None t → HeardAt old d (own d read) → HeardAt new t (own_after None (own d read) c)) (sym e)
    (λ leads heard. follow_on old new s g c t read x leads heard)

-- a whole name, a character at a time

-- what is left of a name after the characters read
pub record NameFrom (l : Letters) (place : Place) (rest text : List ℕ) : Type 0 where
  pub read : List ℕ
  pub hears : Hears l.letters.items l.escapes place read
  pub whole : onto read rest ≡ text
  pub completes : PlaceResidual place AName rest

pub name_begins : (l : Letters) (g : Goal) (c : ℕ) (q : Place) (u : List ℕ) → Begins l c → q ≡ first g c → IsName (c ∷ u) → NameFrom l q u (c ∷ u)
name_begins l g c q u x e h = record {
  read = c ∷ [];
  hears = begins_at l g c q x e;
  whole = refl;
  completes = subst (λ (p : Place). PlaceResidual p AName u) (sym e) (first_goes g AName c u h);
}

pub name_goes : (l m : Letters) (p q : Place) (c : ℕ) (u text : List ℕ) → NameFrom l p (c ∷ u) text → Reads l m p c → q ≡ next p c → NameFrom m q u text
name_goes l m p q c u text h x e = record {
  read = c ∷ h.read;
  hears = subst (λ (y : Place). Hears m.letters.items m.escapes y (c ∷ h.read)) (sym e) (goes_on l.letters.items l.escapes p h.read c m.letters.items m.escapes x.letters x.escapes h.hears);
  whole = h.whole;
  completes = subst (λ (y : Place). PlaceResidual y AName u) (sym e) (goes p AName c u h.completes);
}

pub name_ends : (l : Letters) (p : Place) (text : List ℕ) → NameFrom l p [] text → token_of_letters l.escapes l.letters.items ≡ name_token text
name_ends l p text h =
    heard_token l.letters.items l.escapes p h.read h.hears h.completes ∙ ap name_token h.whole
