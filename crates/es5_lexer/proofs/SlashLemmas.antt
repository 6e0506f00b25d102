-- The slash that is kept: a comment, a division or a regular expression; and the ends of texts.
use Rattle.std.proofs.Common.{◌≡◌, ℕ, Bool, true, false, ◌==◌, is_some, Option, Some, None, List, [], ◌∷◌, ◌++◌, ◌⊎◌, inl, inr, refl, sym, ap, subst, ◌∙◌}
use Rattle.es5_lexer.specs.Characters.{is_start, is_start_class}
use Rattle.es5_lexer.specs.Patterns.{IsBody}
use Rattle.es5_lexer.specs.Trivia.{IsCommentRest}
use Rattle.es5_lexer.specs.Tokens.{may_precede}
use Rattle.es5_lexer.specs.Texts.{Mark, mark, chars, Item, blank, line, block, token, text}
use Rattle.es5_lexer.specs.Cuts.{Cut, cut, cuts, CutsFrom, cuts_at}
use Rattle.es5_lexer.specs.Suits.{is_div}
use Rattle.es5_lexer.specs.Places.{first, past_slash, ended}
use Rattle.es5_lexer.specs.PlaceResiduals.{PlaceResidual}
use Rattle.es5_lexer.specs.Reading.{token_of}
use Rattle.es5_lexer.specs.Residuals.{onto, TokenFrom, LineFrom, BlockFrom, given_by, Steps, Ends}
use Rattle.es5_lexer.specs.declared.tokens.Goal.{Goal}
use Rattle.es5_lexer.specs.declared.tokens.Punct.{Punct}
use Rattle.es5_lexer.specs.declared.tokens.Punct.TheVariants.{Slash as TheSlash}
use Rattle.es5_lexer.specs.declared.places.Kind.{Kind}
use Rattle.es5_lexer.specs.declared.places.Place.{Place}
use Rattle.es5_lexer.specs.declared.places.Place.TheVariants.{Mark as AtMark, Pattern}
use Rattle.es5_lexer.specs.declared.places.PatternPlace.TheVariants.{BodyStart}
use Rattle.es5_lexer.specs.declared.states.State.{State}
use Rattle.es5_lexer.specs.declared.states.State.TheVariants.{Start, Slash, LineComment, BlockComment, Token}
use Rattle.es5_lexer.proofs.Choices.{split, else_in, is_same, never, not_or, not_true}
use Rattle.es5_lexer.proofs.ClassLemmas.{slash}
use Rattle.es5_lexer.proofs.PlaceLemmas.{ends_here, ended_rest}
use Rattle.es5_lexer.proofs.TriviaLemmas.{chars-append}
use Rattle.es5_lexer.proofs.OpenLemmas.{Opened, a_blank, a_line, a_block, a_token, opened, line_first, block_first, token_first, slash_no_blank}
use Rattle.es5_lexer.proofs.StepLemmas.{quiet}

pub first_slash : (g : Goal) → first g 47 ≡ past_slash g
first_slash g = else_in (λ (x : Place). x ≡ past_slash g) (is_start 47) _ _ (ap is_start_class slash) refl

-- after a slash that begins a token stands none that makes it begin a comment

record NoComment (c : ℕ) : Type 0 where
  pub line : (c == 47) ≡ false
  pub block : (c == 42) ≡ false

division_no : (k : Kind) (c : ℕ) (u r : List ℕ) (v : List ℕ) → c ∷ v ≡ u ++ r → PlaceResidual (AtMark TheSlash) k u → may_precede (token_of k (47 ∷ u)) r ≡ true → NoComment c
division_no k c [] [] v e h f = absurd cc
division_no k c [] (d ∷ r) v e h f =
    let head : d ≡ c = cc in
    let free = subst (λ (x : Kind). may_precede (token_of x (47 ∷ [])) (d ∷ r) ≡ true) h f in
    let b = not_or (d == 47) (d == 42) free in
    record { line = ap (λ (x : ℕ). x == 47) (sym head) ∙ b.0; block = ap (λ (x : ℕ). x == 42) (sym head) ∙ not_true _ b.1 }
division_no k c (d ∷ u) r v e (inl (q, l, h)) f =
    let head : d ≡ c = cc in
    elim (split (λ (o : Option Punct). o ≡ Some q) (d == 61) _ _ l) [
      | inl (t, _) ↦ let same : c ≡ 61 = sym head ∙ is_same d 61 t in
          record { line = ap (λ (x : ℕ). x == 47) same; block = ap (λ (x : ℕ). x == 42) same }
      | inr (_, z) ↦ absurd cc
    ]
division_no k c (d ∷ u) r v e (inr (dot, _, _, _)) f = absurd cc

body_no : (c : ℕ) (u : List ℕ) → IsBody (c ∷ u) → NoComment c
body_no c u (inl (p, h)) =
    let a = not_or (c == 42) _ p in let b = not_or (c == 47) _ a.1 in record { line = b.0; block = a.0 }
body_no c u (inr (inl (e, h))) = record { line = ap (λ (x : ℕ). x == 47) e; block = ap (λ (x : ℕ). x == 42) e }
body_no c u (inr (inr (e, h))) = record { line = ap (λ (x : ℕ). x == 47) e; block = ap (λ (x : ℕ). x == 42) e }

pattern_no : (k : Kind) (c : ℕ) (u r v : List ℕ) → c ∷ v ≡ u ++ r → PlaceResidual (Pattern BodyStart) k u → NoComment c
pattern_no k c [] r v e h = absurd h.1
pattern_no k c (d ∷ u) r v e h = let head : d ≡ c = cc in subst NoComment head (body_no d u h.1)

slash_no : (g : Goal) (f : Bool) (c : ℕ) (h : Goal) (w : List Mark) (end : Goal) (tokens : List Cut) → TokenFrom (past_slash g) (47 ∷ []) f (mark h c ∷ w) end tokens → NoComment c
slash_no g f c h w end tokens t = by_goal (split (λ (x : Place). PlaceResidual x t.kind (chars t.before)) (is_div g) _ _ t.completes)
  where
    spells : c ∷ chars w ≡ chars t.before ++ chars t.after
    spells = ap chars t.spells ∙ chars-append t.before t.after

    by_goal : ((is_div g ≡ true) × PlaceResidual (AtMark TheSlash) t.kind (chars t.before)) ⊎ ((is_div g ≡ false) × PlaceResidual (Pattern BodyStart) t.kind (chars t.before)) → NoComment c
    by_goal (inl (_, r)) = division_no t.kind c (chars t.before) (chars t.after) (chars w) spells r t.free
    by_goal (inr (_, r)) = pattern_no t.kind c (chars t.before) (chars t.after) (chars w) spells r

-- a comment begins

line_begins : (f : Bool) (g : Goal) (c : ℕ) (w : List Mark) (end : Goal) (tokens : List Cut) → (c == 47) ≡ true → Opened f 47 (mark g c ∷ w) end tokens → LineFrom f w end tokens
line_begins f g c w end tokens e (a_blank b _) = absurd (slash_no_blank 47 refl b)
line_begins f g c w end tokens e (a_line d v _ spells _ l) =
    let tail : w ≡ v = cc in subst (λ (x : List Mark). LineFrom f x end tokens) (sym tail) l
line_begins f g c w end tokens e (a_block d v _ spells s l) =
    let head : mark g c ≡ d = cc in
    never (c == 47) e (ap (λ (x : Mark). x.character == 47) head ∙ ap (λ (x : ℕ). x == 47) s)
line_begins f g c w end tokens e (a_token t) =
    never (c == 47) e (slash_no g f c g w end tokens (subst (λ (x : Place). TokenFrom x (47 ∷ []) f (mark g c ∷ w) end tokens) (first_slash g) t)).line

pub comment_line_step : (read : List ℕ) (f : Bool) (g : Goal) (c : ℕ) → (c == 47) ≡ true → Steps Slash read f g c None LineComment f
comment_line_step read f g c e =
    quiet Slash read f g c LineComment f
    (λ w end tokens h. line_begins f g c w end tokens e (opened f h.0 47 (mark g c ∷ w) end tokens h.1))
    (λ w end tokens h. (g, line_first f g (mark g c) w end tokens (is_same c 47 e) h))

block_begins : (f : Bool) (g : Goal) (c : ℕ) (w : List Mark) (end : Goal) (tokens : List Cut) → (c == 42) ≡ true → Opened f 47 (mark g c ∷ w) end tokens → BlockFrom false f w end tokens
block_begins f g c w end tokens e (a_blank b _) = absurd (slash_no_blank 47 refl b)
block_begins f g c w end tokens e (a_line d v _ spells s l) =
    let head : mark g c ≡ d = cc in
    never (c == 42) e (ap (λ (x : Mark). x.character == 42) head ∙ ap (λ (x : ℕ). x == 42) s)
block_begins f g c w end tokens e (a_block d v _ spells _ l) =
    let tail : w ≡ v = cc in subst (λ (x : List Mark). BlockFrom false f x end tokens) (sym tail) l
block_begins f g c w end tokens e (a_token t) =
    never (c == 42) e (slash_no g f c g w end tokens (subst (λ (x : Place). TokenFrom x (47 ∷ []) f (mark g c ∷ w) end tokens) (first_slash g) t)).block

pub comment_block_step : (read : List ℕ) (f : Bool) (g : Goal) (c : ℕ) → (c == 42) ≡ true → Steps Slash read f g c None (BlockComment false) f
comment_block_step read f g c e =
    quiet Slash read f g c (BlockComment false) f
    (λ w end tokens h. block_begins f g c w end tokens e (opened f h.0 47 (mark g c ∷ w) end tokens h.1))
    (λ w end tokens h. (g, block_first f g (mark g c) w end tokens (is_same c 42 e) h))

-- else the slash begins a token

pub token_begins : (f : Bool) (g : Goal) (c : ℕ) (w : List Mark) (end : Goal) (tokens : List Cut) → (c == 47) ≡ false → (c == 42) ≡ false → Opened f 47 (mark g c ∷ w) end tokens → TokenFrom (past_slash g) (47 ∷ []) f (mark g c ∷ w) end tokens
token_begins f g c w end tokens l b (a_blank x _) = absurd (slash_no_blank 47 refl x)
token_begins f g c w end tokens l b (a_line d v _ spells s _) =
    let head : mark g c ≡ d = cc in
    never (c == 47) (ap (λ (x : Mark). x.character == 47) head ∙ ap (λ (x : ℕ). x == 47) s) l
token_begins f g c w end tokens l b (a_block d v _ spells s _) =
    let head : mark g c ≡ d = cc in
    never (c == 42) (ap (λ (x : Mark). x.character == 42) head ∙ ap (λ (x : ℕ). x == 42) s) b
token_begins f g c w end tokens l b (a_token t) =
    subst (λ (x : Place). TokenFrom x (47 ∷ []) f (mark g c ∷ w) end tokens) (first_slash g) t

pub slash_token_step : (read : List ℕ) (f : Bool) (g : Goal) (c : ℕ) (given : Option Kind) (t : State) (flag : Bool) → (c == 47) ≡ false → (c == 42) ≡ false → Steps (Token (past_slash g)) (47 ∷ []) f g c given t flag → Steps Slash read f g c given t flag
slash_token_step read f g c given t flag l b h = record {
  goes = λ w end tokens x. h.goes w end tokens (token_begins f g c w end tokens l b (opened f x.0 47 (mark g c ∷ w) end tokens x.1));
  comes = λ w end tokens x. (g, token_first f g 47 (mark g c ∷ w) end tokens (subst (λ (y : Place). TokenFrom y (47 ∷ []) f (mark g c ∷ w) end tokens) (sym (first_slash g)) (h.comes w end tokens x)));
}

-- ends

pub nothing : (a b : List Mark) → [] ≡ a ++ b → (a ≡ []) × (b ≡ [])
nothing [] b e = (refl, sym e)
nothing (m ∷ a) b e = absurd cc

no_items : (items : List Item) → [] ≡ text items [] → items ≡ []
no_items [] e = refl
no_items (blank m ∷ items) e = absurd cc
no_items (line a b q ∷ items) e = absurd cc
no_items (block a b q ∷ items) e = absurd cc
no_items (token t a q ∷ items) e = absurd cc

pub no_tokens : (f : Bool) (g : Goal) (tokens : List Cut) → CutsFrom f [] g tokens → tokens ≡ []
no_tokens f g tokens h = h.gives ∙ ap (cuts f) (no_items h.items h.spells)

pub empty_lexes : (f : Bool) (g : Goal) → CutsFrom f [] g []
empty_lexes f g = record { items = []; spells = refl; fits = tt; gives = refl }

pub start_end : (read : List ℕ) (f : Bool) (g : Goal) → Ends Start read f g true None
start_end read f g = record { goes = λ tokens h. (refl, no_tokens f g tokens h); comes = λ e. empty_lexes f g }

pub line_end : (read : List ℕ) (f : Bool) (g : Goal) → Ends LineComment read f g true None
line_end read f g = record {
  goes = λ tokens h.
      let n = nothing h.comment h.after h.spells in
      (refl, no_tokens f g tokens (subst (λ (v : List Mark). CutsFrom f v g tokens) n.1 h.further));
  comes = λ e. record { comment = []; after = []; spells = refl; is = refl; ends = tt; further = empty_lexes f g };
}

pub block_end : (star : Bool) (read : List ℕ) (f : Bool) (g : Goal) → Ends (BlockComment star) read f g false None
block_end star read f g = record {
  goes = λ tokens h.
      let n = nothing h.comment h.after h.spells in
      absurd (subst (λ (v : List Mark). IsCommentRest star (chars v)) n.0 h.is);
  comes = λ e. absurd cc;
}

-- at the end of a token
pub last_token : (s : Place) (read : List ℕ) (f : Bool) (g : Goal) (k : Kind) → ended s ≡ Some k → Ends (Token s) read f g true (Some k)
last_token s read f g k e = record {
  goes = λ tokens h.
      let n = nothing h.before h.after h.spells in
      let rest = subst (λ (v : List Mark). PlaceResidual s h.kind (chars v)) n.0 h.completes in
      let ends = ends_here s h.kind rest in
      let same : h.kind ≡ k = cc in
      let none : h.others ≡ [] = no_tokens false g h.others (subst (λ (v : List Mark). CutsFrom false v g h.others) n.1 h.further) in (
        refl,
        h.gives
            ∙ ap (λ (v : List Mark). cut (token_of h.kind (onto read (chars h.before))) f v ∷ h.others) n.1
            ∙ ap (λ (v : List Mark). cut (token_of h.kind (onto read (chars v))) f [] ∷ h.others) n.0
            ∙ ap (λ (z : Kind). cut (token_of z (onto read [])) f [] ∷ h.others) same
            ∙ ap (λ (z : List Cut). cut (token_of k (onto read [])) f [] ∷ z) none,
      );
  comes = λ _. record {
    kind = k;
    before = [];
    after = [];
    others = [];
    spells = refl;
    completes = ended_rest s k e;
    longest = λ a b l h r. none_before a b h;
    free = refl;
    further = empty_lexes false g;
    gives = refl;
  };
}
  where
    none_before : (a b : List ℕ) → [] ≡ a ++ b → a ≡ []
    none_before [] b h = refl
    none_before (c ∷ a) b h = absurd cc

no_last : (s : Place) (read : List ℕ) (f : Bool) (g : Goal) (given : Option Kind) → ended s ≡ None → Ends (Token s) read f g false given
no_last s read f g given e = record {
  goes = λ tokens h.
      let n = nothing h.before h.after h.spells in
      let rest = subst (λ (v : List Mark). PlaceResidual s h.kind (chars v)) n.0 h.completes in
      let ends = ends_here s h.kind rest in
      absurd cc;
  comes = λ h. absurd cc;
}

pub token_end : (s : Place) (read : List ℕ) (f : Bool) (g : Goal) (whole : Bool) (given : Option Kind) → whole ≡ is_some (ended s) → (whole ≡ true → given ≡ ended s) → Ends (Token s) read f g whole given
token_end s read f g whole given e same = by_ended (ended s) refl
  where
    by_ended : (o : Option Kind) → ended s ≡ o → Ends (Token s) read f g whole given
    by_ended (Some k) h =
        let w : whole ≡ true = e ∙ ap is_some h in
        subst (λ (x : Bool). Ends (Token s) read f g x given) (sym w)
        (subst (λ (x : Option Kind). Ends (Token s) read f g true x) (sym (same w ∙ h)) (last_token s read f g k h))
    by_ended None h =
        subst (λ (x : Bool). Ends (Token s) read f g x given) (sym (e ∙ ap is_some h)) (no_last s read f g given h)

pub slash_end : (read : List ℕ) (f : Bool) (g : Goal) (whole : Bool) (given : Option Kind) → Ends (Token (past_slash g)) (47 ∷ []) f g whole given → Ends Slash read f g whole given
slash_end read f g whole given h = record {
  goes = λ tokens x. h.goes tokens (by_first tokens (opened f x.0 47 [] g tokens x.1));
  comes = λ e. (g, token_first f g 47 [] g (cuts_at (given_by given (47 ∷ []) f) []) (subst (λ (y : Place). TokenFrom y (47 ∷ []) f [] g (cuts_at (given_by given (47 ∷ []) f) [])) (sym (first_slash g)) (h.comes e)));
}
  where
    by_first : (tokens : List Cut) → Opened f 47 [] g tokens → TokenFrom (past_slash g) (47 ∷ []) f [] g tokens
    by_first tokens (a_blank b _) = absurd (slash_no_blank 47 refl b)
    by_first tokens (a_line d v _ e _ _) = absurd cc
    by_first tokens (a_block d v _ e _ _) = absurd cc
    by_first tokens (a_token t) = subst (λ (y : Place). TokenFrom y (47 ∷ []) f [] g tokens) (first_slash g) t
