-- What comes first in a text with tokens: the goal that came with the first character doesn't matter.
use Rattle.std.proofs.Common.{◌≡◌, ℕ, Bool, true, false, ◌||◌, ◌==◌, if◌then◌else◌, None, List, [], ◌∷◌, ◌++◌, refl, sym, ap, subst, ◌∙◌}
use Rattle.es5_lexer.specs.Characters.{is_line_end, is_space, is_line_end_class, is_space_class, is_start}
use Rattle.es5_lexer.specs.Trivia.{is_blank, EndsLine}
use Rattle.es5_lexer.specs.Numbers.{is_nonzero}
use Rattle.es5_lexer.specs.Tokens.{may_precede, Stands}
use Rattle.es5_lexer.specs.Texts.{Mark, mark, chars, asked, Item, blank, line, block, token, text, Fit, ended_by}
use Rattle.es5_lexer.specs.Cuts.{Cut, cut, cuts, CutsFrom}
use Rattle.es5_lexer.specs.Reading.{trivium_with, comment, leading_trivium, token_of}
use Rattle.es5_lexer.specs.Places.{mark as punct_of, past_slash, after_mark, first}
use Rattle.es5_lexer.specs.PlaceResiduals.{PlaceResidual}
use Rattle.es5_lexer.specs.Residuals.{TokenFrom, LineFrom, BlockFrom}
use Rattle.es5_lexer.specs.declared.tokens.Goal.{Goal}
use Rattle.es5_lexer.specs.declared.tokens.Token.{Token as AToken}
use Rattle.es5_lexer.specs.declared.places.Kind.{Kind}
use Rattle.es5_lexer.specs.declared.places.Place.{Place}
use Rattle.es5_lexer.specs.declared.places.Place.TheVariants.{Name, Escape, Number, Text}
use Rattle.es5_lexer.specs.declared.places.Host.TheVariants.{FirstChar}
use Rattle.es5_lexer.specs.declared.places.Seen.TheVariants.{EscapeMark}
use Rattle.es5_lexer.specs.declared.places.NumberPlace.TheVariants.{Zero, Digit}
use Rattle.es5_lexer.specs.declared.places.Quote.TheVariants.{Double, Single}
use Rattle.es5_lexer.specs.declared.places.TextPlace.TheVariants.{Chars}
use Rattle.es5_lexer.proofs.Choices.{else_in, never}
use Rattle.es5_lexer.proofs.ClassLemmas.{slash}
use Rattle.es5_lexer.proofs.FirstLemmas.{first_goes, first_comes}
use Rattle.es5_lexer.proofs.TokenLemmas.{token_kind, kind_token, no_trivium}

-- what the first character begins, before the text w
pub data Opened (f : Bool) (c : ℕ) (w : List Mark) (end : Goal) (tokens : List Cut) : Type 0 where
  a_blank : is_blank c ≡ true → CutsFrom (ended_by f c) w end tokens → Opened f c w end tokens
  a_line : (d : Mark) (v : List Mark) → c ≡ 47 → w ≡ d ∷ v → d.character ≡ 47 → LineFrom f v end tokens → Opened f c w end tokens
  a_block : (d : Mark) (v : List Mark) → c ≡ 47 → w ≡ d ∷ v → d.character ≡ 42 → BlockFrom false f v end tokens → Opened f c w end tokens
  a_token : TokenFrom (first (asked w end) c) (c ∷ []) f w end tokens → Opened f c w end tokens

-- a token at the beginning
token_opened : (f : Bool) (c : ℕ) (t : AToken) (q rest : List Mark) (end : Goal) (others tokens : List Cut) → Stands (asked (q ++ rest) end) t (c ∷ chars q) (chars rest) → CutsFrom false rest end others → tokens ≡ cut t f rest ∷ others → TokenFrom (first (asked (q ++ rest) end) c) (c ∷ []) f (q ++ rest) end tokens
token_opened f c t q rest end others tokens s l e =
    let g : Goal = asked (q ++ rest) end in
    let k = token_kind g t (c ∷ chars q) s.is in
    record {
      kind = k.kind;
      before = q;
      after = rest;
      others = others;
      spells = refl;
      completes = first_goes g k.kind c (chars q) k.is;
      longest = λ a b m h r. s.longest a b (token_of m (c ∷ (chars q ++ a))) h (kind_token g m (c ∷ (chars q ++ a)) (first_comes g m c (chars q ++ a) r));
      free = subst (λ (x : AToken). may_precede x (chars rest) ≡ true) (sym k.gives) s.free;
      further = l;
      gives = e ∙ ap (λ (x : AToken). cut x f rest ∷ others) (sym k.gives);
    }

by_items : (f : Bool) (g : Goal) (c : ℕ) (w : List Mark) (end : Goal) (tokens : List Cut) (items : List Item) → mark g c ∷ w ≡ text items [] → Fit items [] end → tokens ≡ cuts f items → Opened f c w end tokens
by_items f g c w end tokens [] e h k = absurd cc
by_items f g c w end tokens (blank m ∷ items) e h k =
    let head : mark g c ≡ m = cc in let tail : w ≡ text items [] = cc in
    let same : m.character ≡ c = ap (λ (x : Mark). x.character) (sym head) in
    a_blank (ap is_blank (sym same) ∙ h.0)
    (record { items = items; spells = tail; fits = h.1; gives = k ∙ ap (λ (x : ℕ). cuts (ended_by f x) items) same })
by_items f g c w end tokens (line a b q ∷ items) e h k =
    let head : mark g c ≡ a = cc in let tail : w ≡ b ∷ (q ++ text items []) = cc in
    a_line b (q ++ text items []) (ap (λ (x : Mark). x.character) head ∙ h.0.0) tail h.0.1
    (record { comment = q; after = text items []; spells = refl; is = h.0.2; ends = h.1; further = record { items = items; spells = refl; fits = h.2; gives = k } })
by_items f g c w end tokens (block a b q ∷ items) e h k =
    let head : mark g c ≡ a = cc in let tail : w ≡ b ∷ (q ++ text items []) = cc in
    a_block b (q ++ text items []) (ap (λ (x : Mark). x.character) head ∙ h.0.0) tail h.0.1
    (record { comment = q; after = text items []; spells = refl; is = h.0.2; further = record { items = items; spells = refl; fits = h.1; gives = k } })
by_items f g c w end tokens (token t a q ∷ items) e h k =
    let head : mark g c ≡ a = cc in let tail : w ≡ q ++ text items [] = cc in
    let same : a.character ≡ c = ap (λ (x : Mark). x.character) (sym head) in
    a_token (subst (λ (v : List Mark). TokenFrom (first (asked v end) c) (c ∷ []) f v end tokens) (sym tail)
    (token_opened f c t q (text items []) end (cuts false items) tokens
    (subst (λ (x : ℕ). Stands (asked (q ++ text items []) end) t (x ∷ chars q) (chars (text items []))) same h.0)
    (record { items = items; spells = refl; fits = h.1; gives = refl }) k))

pub opened : (f : Bool) (g : Goal) (c : ℕ) (w : List Mark) (end : Goal) (tokens : List Cut) → CutsFrom f (mark g c ∷ w) end tokens → Opened f c w end tokens
opened f g c w end tokens h = by_items f g c w end tokens h.items h.spells h.fits h.gives

-- and back, under any goal

pub blank_first : (f : Bool) (g : Goal) (c : ℕ) (w : List Mark) (end : Goal) (tokens : List Cut) → is_blank c ≡ true → CutsFrom (ended_by f c) w end tokens → CutsFrom f (mark g c ∷ w) end tokens
blank_first f g c w end tokens b l = record {
  items = blank (mark g c) ∷ l.items;
  spells = ap (λ (v : List Mark). mark g c ∷ v) l.spells;
  fits = (b, l.fits);
  gives = l.gives;
}

pub line_first : (f : Bool) (g : Goal) (d : Mark) (v : List Mark) (end : Goal) (tokens : List Cut) → d.character ≡ 47 → LineFrom f v end tokens → CutsFrom f (mark g 47 ∷ d ∷ v) end tokens
line_first f g d v end tokens e l = record {
  items = line (mark g 47) d l.comment ∷ l.further.items;
  spells = ap (λ (u : List Mark). mark g 47 ∷ d ∷ u) (l.spells ∙ ap (λ (u : List Mark). l.comment ++ u) l.further.spells);
  fits = ((refl, e, l.is), subst (λ (u : List Mark). EndsLine (chars u)) l.further.spells l.ends, l.further.fits);
  gives = l.further.gives;
}

pub block_first : (f : Bool) (g : Goal) (d : Mark) (v : List Mark) (end : Goal) (tokens : List Cut) → d.character ≡ 42 → BlockFrom false f v end tokens → CutsFrom f (mark g 47 ∷ d ∷ v) end tokens
block_first f g d v end tokens e l = record {
  items = block (mark g 47) d l.comment ∷ l.further.items;
  spells = ap (λ (u : List Mark). mark g 47 ∷ d ∷ u) (l.spells ∙ ap (λ (u : List Mark). l.comment ++ u) l.further.spells);
  fits = ((refl, e, l.is), l.further.fits);
  gives = l.further.gives;
}

stands_from : (g : Goal) (c : ℕ) (k : Kind) (u r : List ℕ) → PlaceResidual (first g c) k u → ((a b : List ℕ) (l : Kind) → r ≡ a ++ b → PlaceResidual (first g c) l (u ++ a) → a ≡ []) → may_precede (token_of k (c ∷ u)) r ≡ true → Stands g (token_of k (c ∷ u)) (c ∷ u) r
stands_from g c k u r h longest free = record {
  is = kind_token g k (c ∷ u) (first_comes g k c u h);
  longest = λ a b t e i. let l = token_kind g t (c ∷ (u ++ a)) i in longest a b l.kind e (first_goes g l.kind c (u ++ a) l.is);
  free = free;
}

pub token_first : (f : Bool) (g : Goal) (c : ℕ) (w : List Mark) (end : Goal) (tokens : List Cut) → TokenFrom (first (asked w end) c) (c ∷ []) f w end tokens → CutsFrom f (mark g c ∷ w) end tokens
token_first f g c w end tokens h =
    let spells : w ≡ h.before ++ text h.further.items [] = h.spells ∙ ap (λ (v : List Mark). h.before ++ v) h.further.spells in
    record {
      items = token (token_of h.kind (c ∷ chars h.before)) (mark g c) h.before ∷ h.further.items;
      spells = ap (λ (v : List Mark). mark g c ∷ v) spells;
      fits = (
        subst (λ (v : List Mark). Stands (asked v end) (token_of h.kind (c ∷ chars h.before)) (c ∷ chars h.before) (chars (text h.further.items []))) spells
            (subst (λ (v : List Mark). Stands (asked w end) (token_of h.kind (c ∷ chars h.before)) (c ∷ chars h.before) (chars v)) h.further.spells
            (stands_from (asked w end) c h.kind (chars h.before) (chars h.after) h.completes h.longest h.free)),
        h.further.fits,
      );
      gives = h.gives
          ∙ ap (λ (x : List Cut). cut (token_of h.kind (c ∷ chars h.before)) f h.after ∷ x) h.further.gives
          ∙ ap (λ (v : List Mark). cut (token_of h.kind (c ∷ chars h.before)) f v ∷ cuts false h.further.items) h.further.spells;
    }

close : (f : Bool) (h : Goal) (c : ℕ) (w : List Mark) (end : Goal) (tokens : List Cut) → Opened f c w end tokens → CutsFrom f (mark h c ∷ w) end tokens
close f h c w end tokens (a_blank b l) = blank_first f h c w end tokens b l
close f h c w end tokens (a_line d v e spells s l) =
    subst (λ (x : ℕ). CutsFrom f (mark h x ∷ w) end tokens) (sym e)
    (subst (λ (x : List Mark). CutsFrom f (mark h 47 ∷ x) end tokens) (sym spells) (line_first f h d v end tokens s l))
close f h c w end tokens (a_block d v e spells s l) =
    subst (λ (x : ℕ). CutsFrom f (mark h x ∷ w) end tokens) (sym e)
    (subst (λ (x : List Mark). CutsFrom f (mark h 47 ∷ x) end tokens) (sym spells) (block_first f h d v end tokens s l))
close f h c w end tokens (a_token t) = token_first f h c w end tokens t

-- the first character may have come with another goal
pub reread : (f : Bool) (g h : Goal) (c : ℕ) (w : List Mark) (end : Goal) (tokens : List Cut) → CutsFrom f (mark g c ∷ w) end tokens → CutsFrom f (mark h c ∷ w) end tokens
reread f g h c w end tokens l = close f h c w end tokens (opened f g c w end tokens l)

-- no token begins with white space or a line terminator

blank_found : (c : ℕ) (u : List ℕ) → is_blank c ≡ true → leading_trivium (c ∷ u) ≡ None → ⊥
blank_found c u b e = by_test (is_line_end c) (is_space c) b e
  where
    by_test : (a s : Bool) → (a || s) ≡ true → (if a then trivium_with true u else if s then trivium_with false u else if c == 47 then comment u else None) ≡ None → ⊥
    by_test true s h k = absurd cc
    by_test false true h k = absurd cc
    by_test false false h k = absurd cc

pub no_blank : (g : Goal) (f : Bool) (c : ℕ) (w : List Mark) (end : Goal) (tokens : List Cut) → is_blank c ≡ true → TokenFrom (first g c) (c ∷ []) f w end tokens → ⊥
no_blank g f c w end tokens b t =
    blank_found c (chars t.before ++ chars t.after) b
    (no_trivium g t.kind c (chars t.before) (chars t.after) (first_comes g t.kind c (chars t.before) t.completes) t.free)

-- nor is a slash either of them
pub slash_no_blank : (c : ℕ) → c ≡ 47 → is_blank c ≡ true → ⊥
slash_no_blank c e b =
    let none : is_blank c ≡ false = ap is_blank e ∙ both (is_line_end 47) (is_space 47) (ap is_line_end_class slash) (ap is_space_class slash) in
    never (is_blank c) b none
  where
    both : (a s : Bool) → a ≡ false → s ≡ false → (a || s) ≡ false
    both true s h k = absurd cc
    both false s h k = k

-- only a slash asks for the goal
pub first_same : (g h : Goal) (c : ℕ) → (c == 47) ≡ false → first g c ≡ first h c
first_same g h c e =
    ap (λ (x : Place). if is_start c then Name else if c == 92 then Escape FirstChar EscapeMark else if c == 48 then Number Zero else if is_nonzero c then Number Digit else if c == 34 then Text Double Chars else if c == 39 then Text Single Chars else x)
    (else_in (λ (x : Place). x ≡ (if c == 47 then past_slash h else after_mark (punct_of c))) (c == 47) _ _ e
    (else_in (λ (x : Place). after_mark (punct_of c) ≡ x) (c == 47) _ _ e refl))
