-- What a lexer has read, along its calls.
use Rattle.std.proofs.Common.{◌≡◌, ℕ, Bool, true, false, ◌==◌, if◌then◌else◌, Option, Some, None, List, [], ◌∷◌, ◌++◌, ◌⊎◌, inl, inr, refl, sym, ap, subst, ◌∙◌, append_assoc}
use Rattle.std.proofs.Common.{IsTrue}
use Rattle.es5_lexer.specs.Trivia.{is_line_comment, EndsLine, IsCommentRest}
use Rattle.es5_lexer.specs.Texts.{Mark, mark, chars, ended_in, Lexes}
use Rattle.es5_lexer.specs.Cuts.{Cut, CutsFrom, lexemes_of, cuts_at}
use Rattle.es5_lexer.specs.Suits.{is_div, suits, Suits}
use Rattle.es5_lexer.specs.Places.{next, ended, past_slash}
use Rattle.es5_lexer.specs.PlaceResiduals.{MarkResidual, PlaceResidual}
use Rattle.es5_lexer.specs.Reading.{token_of}
use Rattle.es5_lexer.specs.Residuals.{onto, TokenFrom, LineFrom, BlockFrom, From, GoesOn, own, own_after, given_by, Steps, Ends, EndsAs, Leads, LeadsFrom, is_dead_state}
use Rattle.es5_lexer.specs.Letters.{Hears, HeardAt, token_of_kind, given_lexemes}
use Rattle.es5_lexer.specs.Begins.{IsPrefix}
use Rattle.es5_lexer.specs.Lexing.{Residual, Within, HasRead}
use Rattle.es5_lexer.specs.declared.tokens.Goal.{Goal}
use Rattle.es5_lexer.specs.declared.tokens.Token.{Token as AToken}
use Rattle.es5_lexer.specs.declared.tokens.Lexeme.{Lexeme}
use Rattle.es5_lexer.specs.declared.tokens.Punct.{Punct}
use Rattle.es5_lexer.specs.declared.tokens.Punct.TheVariants.{Slash as TheSlash, SlashAssign}
use Rattle.es5_lexer.specs.declared.letters.Letters.{Letters}
use Rattle.es5_lexer.specs.declared.lexer.Lexer.{Lexer}
use Rattle.es5_lexer.specs.declared.places.Kind.{Kind}
use Rattle.es5_lexer.specs.declared.places.Kind.TheVariants.{Name as AName, Punct as APunct, Number as ANumber, Text as AText, Pattern as APattern}
use Rattle.es5_lexer.specs.declared.places.Place.{Place}
use Rattle.es5_lexer.specs.declared.places.Place.TheVariants.{Mark as AtMark, Pattern}
use Rattle.es5_lexer.specs.declared.places.Seen.TheVariants.{EscapeMark}
use Rattle.es5_lexer.specs.declared.places.PatternPlace.TheVariants.{BodyStart}
use Rattle.es5_lexer.specs.declared.states.State.{State}
use Rattle.es5_lexer.specs.declared.states.State.TheVariants.{Start, Slash, LineComment, BlockComment, Token}
use Rattle.es5_lexer.proofs.Choices.{split, not_true}
use Rattle.es5_lexer.proofs.PlaceLemmas.{ended_rest}
use Rattle.es5_lexer.proofs.CutLemmas.{lexemes-append, lexemes-at, going, coming}
use Rattle.es5_lexer.proofs.OpenLemmas.{Opened, a_blank, a_line, a_block, a_token, opened, line_first, block_first, token_first, reread, slash_no_blank}
use Rattle.es5_lexer.proofs.TokenSteps.{Ended, of_ended, prepend, way}
use Rattle.es5_lexer.proofs.EscapeSteps.{digit_step}
use Rattle.es5_lexer.proofs.AliveLemmas.{dead_state, Source, escape_step, within_step, backslash_step}
use Rattle.es5_lexer.proofs.SlashLemmas.{first_slash, nothing, no_tokens, empty_lexes}
use Rattle.es5_lexer.proofs.LetterLemmas.{slash_no_name, heard_token}

append-nothing : (m : List Mark) → m ++ [] ≡ m
append-nothing [] = refl
append-nothing (x ∷ m) = ap (λ (w : List Mark). x ∷ w) (append-nothing m)

at_end : (m : List Mark) (end : Goal) (tokens : List Lexeme) → Lexes m end tokens → Lexes (m ++ []) end tokens
at_end m end tokens h = subst (λ (w : List Mark). Lexes w end tokens) (sym (append-nothing m)) h

-- the residual doesn't ask for what isn't a state's own

pub own_from : (s : State) (read : List ℕ) (f : Bool) (w : List Mark) (end : Goal) (tokens : List Cut) → From s read f w end tokens → From s (own s read) f w end tokens
own_from Start read f w end tokens h = h
own_from Slash read f w end tokens h = h
own_from LineComment read f w end tokens h = h
own_from (BlockComment star) read f w end tokens h = h
own_from (Token p) read f w end tokens h = h

pub from_own : (s : State) (read : List ℕ) (f : Bool) (w : List Mark) (end : Goal) (tokens : List Cut) → From s (own s read) f w end tokens → From s read f w end tokens
from_own Start read f w end tokens h = h
from_own Slash read f w end tokens h = h
from_own LineComment read f w end tokens h = h
from_own (BlockComment star) read f w end tokens h = h
from_own (Token p) read f w end tokens h = h

-- the tokens given are those of the step, or no text goes on
abbrev pub Gives : Option Kind → List ℕ → Bool → List Lexeme → State → Type 0
Gives k read f items t = (items ≡ given_by k read f) ⊎ (is_dead_state t ≡ true)

-- one step more

-- the tokens given, where the last ones end before a character
abbrev with_items : (List Mark → List Cut) → List Lexeme → Goal → ℕ → List Mark → List Cut
with_items gone items g c w = gone (mark g c ∷ w) ++ cuts_at items (mark g c ∷ w)

more_goes : (v u : Lexer) (read : List ℕ) (m : List Mark) (gone : List Mark → List Cut) (items : List Lexeme) (g : Goal) (c : ℕ) (k : Option Kind) → Residual v read m gone → Steps v.state read v.newline g c k u.state u.newline → Gives k (own v.state read) v.newline items u.state → (w : List Mark) (end : Goal) (tokens : List Cut) → CutsFrom false ((m ++ mark g c ∷ []) ++ w) end tokens → GoesOn u.state (own u.state (own_after k (own v.state read) c)) u.newline (with_items gone items g c w) w end tokens
more_goes v u read m gone items g c k r s gives w end tokens h =
    let x = r.goes (mark g c ∷ w) end tokens (subst (λ (y : List Mark). CutsFrom false y end tokens) (append_assoc m (mark g c ∷ []) w) h) in
    let y = s.goes w end x.others x.from in
    by_gives x.others y.others x.is y.is y.from gives
  where
    by_gives : (others rest : List Cut) → tokens ≡ gone (mark g c ∷ w) ++ others → others ≡ cuts_at (given_by k (own v.state read) v.newline) (mark g c ∷ w) ++ rest → From u.state (own_after k (own v.state read) c) u.newline w end rest → Gives k (own v.state read) v.newline items u.state → GoesOn u.state (own u.state (own_after k (own v.state read) c)) u.newline (with_items gone items g c w) w end tokens
    by_gives others rest e f from (inl i) = record {
      others = rest;
      is = e ∙ ap (λ (z : List Cut). gone (mark g c ∷ w) ++ z) (f ∙ ap (λ (z : List Lexeme). cuts_at z (mark g c ∷ w) ++ rest) (sym i)) ∙ sym (append_assoc (gone (mark g c ∷ w)) (cuts_at items (mark g c ∷ w)) rest);
      from = own_from u.state (own_after k (own v.state read) c) u.newline w end rest from;
    }
    by_gives others rest e f from (inr d) = absurd (dead_state u.state _ u.newline w end rest d from)

more_comes : (v u : Lexer) (read : List ℕ) (m : List Mark) (gone : List Mark → List Cut) (items : List Lexeme) (g : Goal) (c : ℕ) (k : Option Kind) → Residual v read m gone → Steps v.state read v.newline g c k u.state u.newline → Gives k (own v.state read) v.newline items u.state → (w : List Mark) (end : Goal) (tokens : List Cut) → GoesOn u.state (own u.state (own_after k (own v.state read) c)) u.newline (with_items gone items g c w) w end tokens → CutsFrom false ((m ++ mark g c ∷ []) ++ w) end tokens
more_comes v u read m gone items g c k r s gives w end tokens h = by_gives gives
  where
    from : From u.state (own_after k (own v.state read) c) u.newline w end h.others
    from = from_own u.state (own_after k (own v.state read) c) u.newline w end h.others h.from

    by_gives : Gives k (own v.state read) v.newline items u.state → CutsFrom false ((m ++ mark g c ∷ []) ++ w) end tokens
    by_gives (inl i) =
        let here : List Cut = cuts_at (given_by k (own v.state read) v.newline) (mark g c ∷ w) in
        let y = s.comes w end (here ++ h.others) (record { others = h.others; is = refl; from = from }) in
        subst (λ (z : List Mark). CutsFrom false z end tokens) (sym (append_assoc m (mark g c ∷ []) w))
        (r.comes (mark g c ∷ w) end tokens (record {
          others = here ++ h.others;
          is = h.is ∙ append_assoc (gone (mark g c ∷ w)) (cuts_at items (mark g c ∷ w)) h.others ∙ ap (λ (z : List Lexeme). gone (mark g c ∷ w) ++ (cuts_at z (mark g c ∷ w) ++ h.others)) i;
          from = y;
        }))
    by_gives (inr d) = absurd (dead_state u.state _ u.newline w end h.others d from)

-- the token by its letters is the token by its characters

kind_same : (l : Letters) (k : Kind) (p : Place) (read : List ℕ) → Hears l.letters.items l.escapes p read → ended p ≡ Some k → token_of_kind l k ≡ token_of k (onto read [])
kind_same l AName p read h e = heard_token l.letters.items l.escapes p read h (ended_rest p AName e)
kind_same l (APunct q) p read h e = refl
kind_same l ANumber p read h e = refl
kind_same l AText p read h e = refl
kind_same l APattern p read h e = refl

given_same : (l : Letters) (k : Kind) (p : Place) (read : List ℕ) (f : Bool) → Hears l.letters.items l.escapes p read → ended p ≡ Some k → given_lexemes l (Some k) f ≡ given_by (Some k) read f
given_same l k p read f h e =
    ap (λ (t : AToken). record { token = t; newline = f } ∷ []) (kind_same l k p read h e)

-- the letters don't matter after a slash
slash_hears : (l : Letters) (g : Goal) → Hears l.letters.items l.escapes (past_slash g) (47 ∷ [])
slash_hears l g u r = absurd (slash_no_name g u r)

from_place : (l : Letters) (p : Place) (g : Goal) (c : ℕ) (k : Option Kind) (t : State) (read : List ℕ) (f : Bool) → Hears l.letters.items l.escapes p read → LeadsFrom p g c k t → Gives k read f (given_lexemes l k f) t
from_place l p g c None t read f h e = inl refl
from_place l p g c (Some k) t read f h (inl e) = inl (given_same l k p read f h e.0)
from_place l p g c (Some k) t read f h (inr d) = inr d.1

gives_of : (l : Letters) (s : State) (g : Goal) (c : ℕ) (k : Option Kind) (t : State) (read : List ℕ) (f : Bool) → HeardAt l s (own s read) → Leads s g c k t → Gives k (own s read) f (given_lexemes l k f) t
gives_of l s g c None t read f h e = inl refl
gives_of l (Token p) g c (Some k) t read f h e = from_place l p g c (Some k) t read f h e
gives_of l Slash g c (Some k) t read f h e = from_place l (past_slash g) g c (Some k) t (47 ∷ []) f (slash_hears l g) e
gives_of l Start g c (Some k) t read f h e = absurd e
gives_of l LineComment g c (Some k) t read f h e = absurd e
gives_of l (BlockComment star) g c (Some k) t read f h e = absurd e

-- what a step says of the lexer after it
own_heard : (l : Letters) (t : State) (read : List ℕ) → HeardAt l t read → HeardAt l t (own t read)
own_heard l (Token p) read h = h
own_heard l Start read h = h
own_heard l Slash read h = h
own_heard l LineComment read h = h
own_heard l (BlockComment star) read h = h

-- a `$` that goes on from the lexer
source : (v : Lexer) (m : List Mark) (given : List Lexeme) (g : Goal) (h : HasRead v m given) → Source v.state h.read v.newline m g
source v m given g h = record {
  dollar = λ tokens x. record {
    back = [];
    end = g;
    tokens = given ++ lexemes_of tokens;
    lexes = at_end (m ++ mark g 36 ∷ []) g (given ++ lexemes_of tokens) (coming v m given h (mark g 36 ∷ []) g tokens x);
  };
  escape = h.escape;
}

base : (v u : Lexer) (m : List Mark) (given : List Lexeme) (g : Goal) (c : ℕ) (k : Option Kind) → HasRead v m given → Leads v.state g c k u.state → IsPrefix (m ++ mark g 36 ∷ []) → c ≡ 92 → Within EscapeMark u.state
base v u m given g c k h leads x e =
    let y = going v m given h (mark g 36 ∷ x.back) x.end x.tokens (subst (λ (z : List Mark). Lexes z x.end x.tokens) (append_assoc m (mark g 36 ∷ []) x.back) x.lexes) in
    backslash_step v.state h.read v.newline g c k u.state x.back x.end y.others y.from e leads

pub reads_on : (v u : Lexer) (m : List Mark) (given items : List Lexeme) (g : Goal) (c : ℕ) (k : Option Kind) → HasRead v m given → ((read : List ℕ) → Steps v.state read v.newline g c k u.state u.newline) → Leads v.state g c k u.state → items ≡ given_lexemes v.letters k v.newline → ((goal : Goal) (read : List ℕ) → Leads v.state goal c k u.state → HeardAt v.letters v.state (own v.state read) → HeardAt u.letters u.state (own_after k (own v.state read) c)) → HasRead u (m ++ mark g c ∷ []) (given ++ items)
reads_on v u m given items g c k h steps leads e heard =
    let s = steps h.read in
    let gives : Gives k (own v.state h.read) v.newline items u.state = subst (λ (x : List Lexeme). Gives k (own v.state h.read) v.newline x u.state) (sym e) (gives_of v.letters v.state g c k u.state h.read v.newline h.heard leads) in
    record {
      read = own_after k (own v.state h.read) c;
      heard = own_heard u.letters u.state (own_after k (own v.state h.read) c) (heard g h.read leads h.heard);
      cuts = with_items h.cuts items g c;
      lexemes = λ w. lexemes-append (h.cuts (mark g c ∷ w)) (cuts_at items (mark g c ∷ w)) ∙ ap (λ (z : List Lexeme). z ++ lexemes_of (cuts_at items (mark g c ∷ w))) (h.lexemes (mark g c ∷ w)) ∙ ap (λ (z : List Lexeme). given ++ z) (lexemes-at items (mark g c ∷ w));
      residual = record {
        goes = λ w end tokens x. more_goes v u h.read m h.cuts items g c k h.residual s gives w end tokens x;
        comes = λ w end tokens x. more_comes v u h.read m h.cuts items g c k h.residual s gives w end tokens x;
      };
      escape = λ host later i. escape_step v.state h.read v.newline m g c k host later (source v m given g h) (subst (λ (x : State). Leads v.state g c k x) i leads);
      within = within_step m g c u.state (base v u m given g c k h leads) (λ seen a d. digit_step seen c v.state g k u.state d (h.within seen a) leads);
    }

-- another goal with the next character

-- the rest of a comment or of a token whose first character came with another goal
pub line_change : (f : Bool) (g h : Goal) (c : ℕ) (w : List Mark) (end : Goal) (tokens : List Cut) → LineFrom f (mark g c ∷ w) end tokens → LineFrom f (mark h c ∷ w) end tokens
line_change f g h c w end tokens x = by_comment x.comment x.after x.spells x.is x.ends x.further
  where
    by_comment : (q r : List Mark) → mark g c ∷ w ≡ q ++ r → is_line_comment (chars q) ≡ true → EndsLine (chars r) → CutsFrom f r end tokens → LineFrom f (mark h c ∷ w) end tokens
    by_comment [] r e i k l = record {
      comment = [];
      after = mark h c ∷ w;
      spells = refl;
      is = i;
      ends = subst (λ (v : List Mark). EndsLine (chars v)) (sym e) k;
      further = reread f g h c w end tokens (subst (λ (v : List Mark). CutsFrom f v end tokens) (sym e) l);
    }
    by_comment (n ∷ q) r e i k l =
        let head : mark g c ≡ n = cc in let tail : w ≡ q ++ r = cc in
        let same : n.character ≡ c = ap (λ (y : Mark). y.character) (sym head) in
        record {
          comment = mark h c ∷ q;
          after = r;
          spells = ap (λ (v : List Mark). mark h c ∷ v) tail;
          is = subst (λ (y : ℕ). is_line_comment (y ∷ chars q) ≡ true) same i;
          ends = k;
          further = l;
        }

pub block_change : (star f : Bool) (g h : Goal) (c : ℕ) (w : List Mark) (end : Goal) (tokens : List Cut) → BlockFrom star f (mark g c ∷ w) end tokens → BlockFrom star f (mark h c ∷ w) end tokens
block_change star f g h c w end tokens x = by_comment x.comment x.after x.spells x.is x.further
  where
    by_comment : (q r : List Mark) → mark g c ∷ w ≡ q ++ r → IsCommentRest star (chars q) → CutsFrom (ended_in f (chars q)) r end tokens → BlockFrom star f (mark h c ∷ w) end tokens
    by_comment [] r e i l = absurd i
    by_comment (n ∷ q) r e i l =
        let head : mark g c ≡ n = cc in let tail : w ≡ q ++ r = cc in
        let same : n.character ≡ c = ap (λ (y : Mark). y.character) (sym head) in
        record {
          comment = mark h c ∷ q;
          after = r;
          spells = ap (λ (v : List Mark). mark h c ∷ v) tail;
          is = subst (λ (y : ℕ). IsCommentRest star (y ∷ chars q)) same i;
          further = subst (λ (y : ℕ). CutsFrom (ended_in f (y ∷ chars q)) r end tokens) same l;
        }

pub token_change : (p : Place) (read : List ℕ) (f : Bool) (g h : Goal) (c : ℕ) (w : List Mark) (end : Goal) (tokens : List Cut) → TokenFrom p read f (mark g c ∷ w) end tokens → TokenFrom p read f (mark h c ∷ w) end tokens
token_change p read f g h c w end tokens x = by_way (way p read f g c w end tokens x)
  where
    by_way : TokenFrom (next p c) (c ∷ read) f w end tokens ⊎ Ended p read f (mark g c ∷ w) end tokens → TokenFrom p read f (mark h c ∷ w) end tokens
    by_way (inl t) = prepend p read f h c w end tokens t
    by_way (inr e) = of_ended p read f (mark h c ∷ w) end tokens (record {
      kind = e.kind;
      others = e.others;
      completes = e.completes;
      longest = e.longest;
      free = e.free;
      further = reread false g h c w end e.others e.further;
      gives = e.gives;
    })

-- the goal that suits a token that begins with a slash is its own

slash_marks : (k : Kind) (u : List ℕ) → MarkResidual TheSlash k u → (k ≡ APunct TheSlash) ⊎ (k ≡ APunct SlashAssign)
slash_marks k [] h = inl h
slash_marks k (c ∷ u) (inr (e, _, _, _)) = absurd cc
slash_marks k (c ∷ u) (inl (q, e, h)) =
    elim (split (λ (o : Option Punct). o ≡ Some q) (c == 61) _ _ e) [
      | inl (_, f) ↦ let same : q ≡ SlashAssign = cc in inr (assign u (subst (λ (x : Punct). MarkResidual x k u) same h))
      | inr (_, f) ↦ absurd cc
    ]
  where
    assign : (v : List ℕ) → MarkResidual SlashAssign k v → k ≡ APunct SlashAssign
    assign [] i = i
    assign (d ∷ v) (inr (f, _, _, _)) = absurd cc
    assign (d ∷ v) (inl (r, f, i)) =
        elim (split (λ (o : Option Punct). o ≡ Some r) (d == 61) _ _ f) [ inl (_, x) ↦ absurd cc | inr (_, x) ↦ absurd cc ]

slash_half : (other goal : Goal) (k : Kind) (u v : List ℕ) → PlaceResidual (past_slash other) k u → suits (token_of k v) goal ≡ true → is_div goal ≡ is_div other
slash_half other goal k u v r s =
    elim (split (λ (p : Place). PlaceResidual p k u) (is_div other) _ _ r) [
      | inl (d, h) ↦ by_mark d (slash_marks k u h)
      | inr (d, (e, _)) ↦ not_true (is_div goal) (subst (λ (x : Kind). suits (token_of x v) goal ≡ true) e s) ∙ sym d
    ]
  where
    by_mark : is_div other ≡ true → (k ≡ APunct TheSlash) ⊎ (k ≡ APunct SlashAssign) → is_div goal ≡ is_div other
    by_mark d (inl e) = subst (λ (x : Kind). suits (token_of x v) goal ≡ true) e s ∙ sym d
    by_mark d (inr e) = subst (λ (x : Kind). suits (token_of x v) goal ≡ true) e s ∙ sym d

same_slash : (g h : Goal) → is_div g ≡ is_div h → past_slash g ≡ past_slash h
same_slash g h e = ap (λ (b : Bool). if b then AtMark TheSlash else Pattern BodyStart) e

-- the goal suits the first of the tokens
abbrev pub Fitting : Goal → List Cut → Type 0
Fitting goal tokens = (x : Cut) (others : List Cut) → tokens ≡ x ∷ others → suits x.lexeme.token goal ≡ true

slash_change : (f : Bool) (other goal : Goal) (c : ℕ) (w : List Mark) (end : Goal) (tokens : List Cut) → Fitting goal tokens → (g : Goal) × CutsFrom f (mark g 47 ∷ mark other c ∷ w) end tokens → (g : Goal) × CutsFrom f (mark g 47 ∷ mark goal c ∷ w) end tokens
slash_change f other goal c w end tokens fits (g, l) = (g, by_first (opened f g 47 (mark other c ∷ w) end tokens l))
  where
    by_first : Opened f 47 (mark other c ∷ w) end tokens → CutsFrom f (mark g 47 ∷ mark goal c ∷ w) end tokens
    by_first (a_blank b _) = absurd (slash_no_blank 47 refl b)
    by_first (a_line d v _ e s x) =
        let head : mark other c ≡ d = cc in let tail : w ≡ v = cc in
        line_first f g (mark goal c) w end tokens (ap (λ (y : Mark). y.character) head ∙ s) (subst (λ (y : List Mark). LineFrom f y end tokens) (sym tail) x)
    by_first (a_block d v _ e s x) =
        let head : mark other c ≡ d = cc in let tail : w ≡ v = cc in
        block_first f g (mark goal c) w end tokens (ap (λ (y : Mark). y.character) head ∙ s) (subst (λ (y : List Mark). BlockFrom false f y end tokens) (sym tail) x)
    by_first (a_token t) =
        let at : TokenFrom (past_slash other) (47 ∷ []) f (mark other c ∷ w) end tokens = subst (λ (p : Place). TokenFrom p (47 ∷ []) f (mark other c ∷ w) end tokens) (first_slash other) t in
        let half = slash_half other goal at.kind (chars at.before) _ at.completes (fits _ at.others at.gives) in
        token_first f g 47 (mark goal c ∷ w) end tokens
        (subst (λ (p : Place). TokenFrom p (47 ∷ []) f (mark goal c ∷ w) end tokens) (sym (first_slash goal ∙ same_slash goal other half))
        (token_change (past_slash other) (47 ∷ []) f other goal c w end tokens at))

pub change : (s : State) (read : List ℕ) (f : Bool) (other goal : Goal) (c : ℕ) (w : List Mark) (end : Goal) (tokens : List Cut) → Fitting goal tokens → From s read f (mark other c ∷ w) end tokens → From s read f (mark goal c ∷ w) end tokens
change Start read f other goal c w end tokens fits h = reread f other goal c w end tokens h
change Slash read f other goal c w end tokens fits h = slash_change f other goal c w end tokens fits h
change LineComment read f other goal c w end tokens fits h = line_change f other goal c w end tokens h
change (BlockComment star) read f other goal c w end tokens fits h = block_change star f other goal c w end tokens h
change (Token p) read f other goal c w end tokens fits h = token_change p read f other goal c w end tokens h

pub asks_char : (v : Lexer) (m : List Mark) (given : List Lexeme) (goal : Goal) (c : ℕ) → HasRead v m given → (other : Goal) (w : List Mark) (end : Goal) (tokens : List Lexeme) → Lexes (m ++ mark other c ∷ w) end tokens → Suits given goal tokens → Lexes (m ++ mark goal c ∷ w) end tokens
asks_char v m given goal c h other w end tokens l suited =
    let x = going v m given h (mark other c ∷ w) end tokens l in
    subst (λ (z : List Lexeme). Lexes (m ++ mark goal c ∷ w) end z) (sym x.is)
    (coming v m given h (mark goal c ∷ w) end x.others
    (change v.state (own v.state h.read) v.newline other goal c w end x.others (λ y others e. suited y.lexeme (lexemes_of others) (x.is ∙ ap (λ (z : List Cut). given ++ lexemes_of z) e)) x.from))

-- another goal at the end

end_change : (f : Bool) (g h : Goal) (tokens : List Cut) → CutsFrom f [] g tokens → CutsFrom f [] h tokens
end_change f g h tokens l = subst (λ (x : List Cut). CutsFrom f [] h x) (sym (no_tokens f g tokens l)) (empty_lexes f h)

after_change : (f : Bool) (g h : Goal) (before after : List Mark) (tokens : List Cut) → [] ≡ before ++ after → CutsFrom f after g tokens → CutsFrom f after h tokens
after_change f g h before after tokens e l =
    let none = (nothing before after e).1 in
    subst (λ (v : List Mark). CutsFrom f v h tokens) (sym none) (end_change f g h tokens (subst (λ (v : List Mark). CutsFrom f v g tokens) none l))

token_end_change : (p : Place) (read : List ℕ) (f : Bool) (g h : Goal) (tokens : List Cut) → TokenFrom p read f [] g tokens → TokenFrom p read f [] h tokens
token_end_change p read f g h tokens x = record {
  kind = x.kind;
  before = x.before;
  after = x.after;
  others = x.others;
  spells = x.spells;
  completes = x.completes;
  longest = x.longest;
  free = x.free;
  further = after_change false g h x.before x.after x.others x.spells x.further;
  gives = x.gives;
}

slash_end_change : (f : Bool) (other goal : Goal) (tokens : List Cut) → Fitting goal tokens → (g : Goal) × CutsFrom f (mark g 47 ∷ []) other tokens → (g : Goal) × CutsFrom f (mark g 47 ∷ []) goal tokens
slash_end_change f other goal tokens fits (g, l) = (g, by_first (opened f g 47 [] other tokens l))
  where
    by_first : Opened f 47 [] other tokens → CutsFrom f (mark g 47 ∷ []) goal tokens
    by_first (a_blank b _) = absurd (slash_no_blank 47 refl b)
    by_first (a_line d v _ e s x) = absurd cc
    by_first (a_block d v _ e s x) = absurd cc
    by_first (a_token t) =
        let at : TokenFrom (past_slash other) (47 ∷ []) f [] other tokens = subst (λ (p : Place). TokenFrom p (47 ∷ []) f [] other tokens) (first_slash other) t in
        let half = slash_half other goal at.kind (chars at.before) _ at.completes (fits _ at.others at.gives) in
        token_first f g 47 [] goal tokens
        (subst (λ (p : Place). TokenFrom p (47 ∷ []) f [] goal tokens) (sym (first_slash goal ∙ same_slash goal other half))
        (token_end_change (past_slash other) (47 ∷ []) f other goal tokens at))

pub change_end : (s : State) (read : List ℕ) (f : Bool) (other goal : Goal) (tokens : List Cut) → Fitting goal tokens → From s read f [] other tokens → From s read f [] goal tokens
change_end Start read f other goal tokens fits h = end_change f other goal tokens h
change_end Slash read f other goal tokens fits h = slash_end_change f other goal tokens fits h
change_end LineComment read f other goal tokens fits h = record {
  comment = h.comment;
  after = h.after;
  spells = h.spells;
  is = h.is;
  ends = h.ends;
  further = after_change f other goal h.comment h.after tokens h.spells h.further;
}
change_end (BlockComment star) read f other goal tokens fits h = record {
  comment = h.comment;
  after = h.after;
  spells = h.spells;
  is = h.is;
  further = after_change (ended_in f (chars h.comment)) other goal h.comment h.after tokens h.spells h.further;
}
change_end (Token p) read f other goal tokens fits h = token_end_change p read f other goal tokens h

-- the ends of texts

of_end : (m : List Mark) (end : Goal) (tokens : List Lexeme) → Lexes (m ++ []) end tokens → Lexes m end tokens
of_end m end tokens h = subst (λ (w : List Mark). Lexes w end tokens) (append-nothing m) h

pub asks_end : (v : Lexer) (m : List Mark) (given : List Lexeme) (goal : Goal) → HasRead v m given → (other : Goal) (tokens : List Lexeme) → Lexes m other tokens → Suits given goal tokens → Lexes m goal tokens
asks_end v m given goal h other tokens l suited =
    let x = going v m given h [] other tokens (at_end m other tokens l) in
    of_end m goal tokens (subst (λ (z : List Lexeme). Lexes (m ++ []) goal z) (sym x.is)
    (coming v m given h [] goal x.others
    (change_end v.state (own v.state h.read) v.newline other goal x.others (λ y others e. suited y.lexeme (lexemes_of others) (x.is ∙ ap (λ (z : List Cut). given ++ lexemes_of z) e)) x.from)))

-- the last token by its letters
last_by_place : (l : Letters) (p : Place) (read : List ℕ) (f : Bool) (k : Option Kind) → Hears l.letters.items l.escapes p read → k ≡ ended p → given_lexemes l k f ≡ given_by k read f
last_by_place l p read f None h e = refl
last_by_place l p read f (Some k) h e = given_same l k p read f h (sym e)

last_same : (l : Letters) (s : State) (g : Goal) (whole : Bool) (k : Option Kind) (read : List ℕ) (f : Bool) → HeardAt l s (own s read) → EndsAs s g whole k → whole ≡ true → given_lexemes l k f ≡ given_by k (own s read) f
last_same l (Token p) g whole k read f h e w = last_by_place l p read f k h (e w)
last_same l Slash g whole k read f h e w = last_by_place l (past_slash g) (47 ∷ []) f k (slash_hears l g) (e w)
last_same l Start g whole k read f h e w = ap (λ (o : Option Kind). given_lexemes l o f) e ∙ sym (ap (λ (o : Option Kind). given_by o [] f) e)
last_same l LineComment g whole k read f h e w = ap (λ (o : Option Kind). given_lexemes l o f) e ∙ sym (ap (λ (o : Option Kind). given_by o [] f) e)
last_same l (BlockComment star) g whole k read f h e w = ap (λ (o : Option Kind). given_lexemes l o f) e ∙ sym (ap (λ (o : Option Kind). given_by o [] f) e)

pub end_gives : (v : Lexer) (m : List Mark) (given items : List Lexeme) (goal : Goal) (whole : Bool) (k : Option Kind) → ((read : List ℕ) (newline : Bool) → Ends v.state read newline goal whole k) → EndsAs v.state goal whole k → items ≡ given_lexemes v.letters k v.newline → HasRead v m given → whole ≡ true → Lexes m goal (given ++ items)
end_gives v m given items goal whole k ends kind e h w =
    let x = (ends h.read v.newline).comes w in
    let same = e ∙ last_same v.letters v.state goal whole k h.read v.newline h.heard kind w in
    let last : List Lexeme = given_by k (own v.state h.read) v.newline in
    of_end m goal (given ++ items) (subst (λ (z : List Lexeme). Lexes (m ++ []) goal (given ++ z)) (lexemes-at last [] ∙ sym same)
    (coming v m given h [] goal (cuts_at last []) x))

pub end_exact : (v : Lexer) (m : List Mark) (given items tokens : List Lexeme) (goal : Goal) (whole : Bool) (k : Option Kind) → ((read : List ℕ) (newline : Bool) → Ends v.state read newline goal whole k) → EndsAs v.state goal whole k → items ≡ given_lexemes v.letters k v.newline → HasRead v m given → Lexes m goal tokens → IsTrue whole × (tokens ≡ given ++ items)
end_exact v m given items tokens goal whole k ends kind e h l =
    let x = going v m given h [] goal tokens (at_end m goal tokens l) in
    let y = (ends h.read v.newline).goes x.others x.from in
    let same = e ∙ last_same v.letters v.state goal whole k h.read v.newline h.heard kind y.0 in
    let last : List Lexeme = given_by k (own v.state h.read) v.newline in
    (y.0, x.is ∙ ap (λ (z : List Lexeme). given ++ z) (ap lexemes_of y.1 ∙ lexemes-at last [] ∙ sym same))

-- a new lexer has read nothing

no_escape : (a : List Mark) (x : Mark) (b : List Mark) → [] ≡ a ++ x ∷ b → ⊥
no_escape [] x b e = absurd cc
no_escape (y ∷ a) x b e = absurd cc

pub new_reads : (v : Lexer) → v.state ≡ Start → v.newline ≡ false → HasRead v [] []
new_reads v s n = record {
  read = [];
  cuts = λ w. [];
  lexemes = λ w. refl;
  heard = subst (λ (x : State). HeardAt v.letters x (own x [])) (sym s) tt;
  residual = record {
    goes = λ w end tokens h. record { others = tokens; is = refl; from = at_start w end tokens h };
    comes = λ w end tokens h. subst (λ (x : List Cut). CutsFrom false w end x) (sym h.is) (of_start w end h.others h.from);
  };
  escape = λ host seen e. absurd cc;
  within = λ seen h. absurd (no_escape h.before h.backslash h.digits h.splits);
}
  where
    at_start : (w : List Mark) (end : Goal) (tokens : List Cut) → CutsFrom false w end tokens → From v.state (own v.state []) v.newline w end tokens
    at_start w end tokens h =
        subst (λ (x : State). From x (own x []) v.newline w end tokens) (sym s) (subst (λ (x : Bool). CutsFrom x w end tokens) (sym n) h)

    of_start : (w : List Mark) (end : Goal) (tokens : List Cut) → From v.state (own v.state []) v.newline w end tokens → CutsFrom false w end tokens
    of_start w end tokens h =
        subst (λ (x : Bool). CutsFrom x w end tokens) n (subst (λ (x : State). From x (own x []) v.newline w end tokens) s h)

-- laws

pub stays : (v : Lexer) (m : List Mark) (given : List Lexeme) → HasRead v m given → (w : List Mark) (end : Goal) (tokens : List Lexeme) → Lexes (m ++ w) end tokens → (others : List Lexeme) × (tokens ≡ given ++ others)
stays v m given h w end tokens l = let x = going v m given h w end tokens l in (lexemes_of x.others, x.is)
