-- The steps of a lexer between tokens and in comments.
use Rattle.std.proofs.Common.{◌≡◌, ℕ, Bool, true, false, ◌&&◌, ◌||◌, ◌==◌, None, List, [], ◌∷◌, ◌++◌, ◌⊎◌, inl, inr, refl, sym, ap, subst, ◌∙◌}
use Rattle.es5_lexer.specs.Characters.{is_line_end, is_space}
use Rattle.es5_lexer.specs.Trivia.{is_blank, is_line_comment, EndsLine, IsCommentRest}
use Rattle.es5_lexer.specs.Texts.{Mark, mark, chars, asked, ended_by, ended_in}
use Rattle.es5_lexer.specs.Cuts.{Cut, CutsFrom}
use Rattle.es5_lexer.specs.Places.{first}
use Rattle.es5_lexer.specs.Residuals.{TokenFrom, LineFrom, BlockFrom, From, own, Steps}
use Rattle.es5_lexer.specs.declared.tokens.Goal.{Goal}
use Rattle.es5_lexer.specs.declared.places.Place.{Place}
use Rattle.es5_lexer.specs.declared.states.State.{State}
use Rattle.es5_lexer.specs.declared.states.State.TheVariants.{Start, Slash, LineComment, BlockComment, Token}
use Rattle.es5_lexer.specs.declared.states.Step.{Step}
use Rattle.es5_lexer.proofs.Choices.{then_in, else_in, is_same, never, or_not, not_or, and_right}
use Rattle.es5_lexer.proofs.TriviaLemmas.{ended_in-more, ended_in-slash, blank_by, blank_or}
use Rattle.es5_lexer.proofs.OpenLemmas.{a_blank, a_line, a_block, a_token, Opened, opened, blank_first, token_first, reread, no_blank, slash_no_blank, first_same}

-- a step by which no token has ended
pub quiet : (s : State) (read : List ℕ) (f : Bool) (g : Goal) (c : ℕ) (t : State) (flag : Bool) → ((w : List Mark) (end : Goal) (tokens : List Cut) → From s (own s read) f (mark g c ∷ w) end tokens → From t (c ∷ own s read) flag w end tokens) → ((w : List Mark) (end : Goal) (tokens : List Cut) → From t (c ∷ own s read) flag w end tokens → From s (own s read) f (mark g c ∷ w) end tokens) → Steps s read f g c None t flag
quiet s read f g c t flag goes comes = record {
  goes = λ w end tokens h. record { others = tokens; is = refl; from = goes w end tokens h };
  comes = λ w end tokens h. comes w end tokens (subst (λ (x : List Cut). From t (c ∷ own s read) flag w end x) (sym h.is) h.from);
}

-- a line ends, or white space stands there

line_is_blank : (c : ℕ) → is_line_end c ≡ true → is_blank c ≡ true
line_is_blank c e = blank_by (is_line_end c) (is_space c) e

blank_goes : (f : Bool) (g : Goal) (c : ℕ) (w : List Mark) (end : Goal) (tokens : List Cut) → is_blank c ≡ true → CutsFrom f (mark g c ∷ w) end tokens → CutsFrom (ended_by f c) w end tokens
blank_goes f g c w end tokens b h = by_first (opened f g c w end tokens h)
  where
    by_first : Opened f c w end tokens → CutsFrom (ended_by f c) w end tokens
    by_first (a_blank _ l) = l
    by_first (a_line d v e _ _ _) = absurd (slash_no_blank c e b)
    by_first (a_block d v e _ _ _) = absurd (slash_no_blank c e b)
    by_first (a_token t) = absurd (no_blank _ f c w end tokens b t)

line_flag : (f : Bool) (c : ℕ) → is_line_end c ≡ true → ended_by f c ≡ true
line_flag f c e = then_in (λ (x : Bool). x ≡ true) (is_line_end c) true f e refl

kept_flag : (f : Bool) (c : ℕ) → is_line_end c ≡ false → ended_by f c ≡ f
kept_flag f c e = else_in (λ (x : Bool). x ≡ f) (is_line_end c) true f e refl

line_goes : (f : Bool) (g : Goal) (c : ℕ) (w : List Mark) (end : Goal) (tokens : List Cut) → is_line_end c ≡ true → CutsFrom f (mark g c ∷ w) end tokens → CutsFrom true w end tokens
line_goes f g c w end tokens e h =
    subst (λ (x : Bool). CutsFrom x w end tokens) (line_flag f c e) (blank_goes f g c w end tokens (line_is_blank c e) h)

line_comes : (f : Bool) (g : Goal) (c : ℕ) (w : List Mark) (end : Goal) (tokens : List Cut) → is_line_end c ≡ true → CutsFrom true w end tokens → CutsFrom f (mark g c ∷ w) end tokens
line_comes f g c w end tokens e h =
    blank_first f g c w end tokens (line_is_blank c e) (subst (λ (x : Bool). CutsFrom x w end tokens) (sym (line_flag f c e)) h)

pub line_step : (read : List ℕ) (f : Bool) (g : Goal) (c : ℕ) → is_line_end c ≡ true → Steps Start read f g c None Start true
line_step read f g c e =
    quiet Start read f g c Start true (λ w end tokens h. line_goes f g c w end tokens e h) (λ w end tokens h. line_comes f g c w end tokens e h)

pub space_step : (read : List ℕ) (f : Bool) (g : Goal) (c : ℕ) → is_line_end c ≡ false → is_space c ≡ true → Steps Start read f g c None Start f
space_step read f g c l s =
    let b : is_blank c ≡ true = blank_or (is_line_end c) (is_space c) s in
    quiet Start read f g c Start f
    (λ w end tokens h. subst (λ (x : Bool). CutsFrom x w end tokens) (kept_flag f c l) (blank_goes f g c w end tokens b h))
    (λ w end tokens h. blank_first f g c w end tokens b (subst (λ (x : Bool). CutsFrom x w end tokens) (sym (kept_flag f c l)) h))

-- a slash is kept
pub slash_step : (read : List ℕ) (f : Bool) (g : Goal) (c : ℕ) → (c == 47) ≡ true → Steps Start read f g c None Slash f
slash_step read f g c e =
    quiet Start read f g c Slash f
    (λ w end tokens h. (g, subst (λ (x : ℕ). CutsFrom f (mark g x ∷ w) end tokens) (is_same c 47 e) h))
    (λ w end tokens h. subst (λ (x : ℕ). CutsFrom f (mark g x ∷ w) end tokens) (sym (is_same c 47 e)) (reread f h.0 g 47 w end tokens h.1))

-- a token begins

by_token : (f : Bool) (c : ℕ) (w : List Mark) (end : Goal) (tokens : List Cut) → is_line_end c ≡ false → is_space c ≡ false → (c == 47) ≡ false → Opened f c w end tokens → TokenFrom (first (asked w end) c) (c ∷ []) f w end tokens
by_token f c w end tokens l s e (a_blank b _) = never (is_blank c) b (both (is_line_end c) (is_space c) l s)
  where
    both : (a b : Bool) → a ≡ false → b ≡ false → (a || b) ≡ false
    both true b x y = absurd cc
    both false b x y = y
by_token f c w end tokens l s e (a_line d v h _ _ _) = never (c == 47) (ap (λ (x : ℕ). x == 47) h) e
by_token f c w end tokens l s e (a_block d v h _ _ _) = never (c == 47) (ap (λ (x : ℕ). x == 47) h) e
by_token f c w end tokens l s e (a_token t) = t

pub first_step : (read : List ℕ) (f : Bool) (g : Goal) (c : ℕ) → is_line_end c ≡ false → is_space c ≡ false → (c == 47) ≡ false → Steps Start read f g c None (Token (first g c)) f
first_step read f g c l s e =
    quiet Start read f g c (Token (first g c)) f
    (λ w end tokens h. subst (λ (x : Place). TokenFrom x (c ∷ []) f w end tokens) (first_same (asked w end) g c e) (by_token f c w end tokens l s e (opened f g c w end tokens h)))
    (λ w end tokens h. token_first f g c w end tokens (subst (λ (x : Place). TokenFrom x (c ∷ []) f w end tokens) (first_same g (asked w end) c e) h))

-- comments of one line

in_line_goes : (f : Bool) (g : Goal) (c : ℕ) (w : List Mark) (end : Goal) (tokens : List Cut) → LineFrom f (mark g c ∷ w) end tokens → ((is_line_end c ≡ true) × CutsFrom f (mark g c ∷ w) end tokens) ⊎ ((is_line_end c ≡ false) × LineFrom f w end tokens)
in_line_goes f g c w end tokens h = by_comment h.comment h.after h.spells h.is h.ends h.further
  where
    by_comment : (q r : List Mark) → mark g c ∷ w ≡ q ++ r → is_line_comment (chars q) ≡ true → EndsLine (chars r) → CutsFrom f r end tokens → ((is_line_end c ≡ true) × CutsFrom f (mark g c ∷ w) end tokens) ⊎ ((is_line_end c ≡ false) × LineFrom f w end tokens)
    by_comment [] r e i k l =
        inl (subst (λ (v : List Mark). EndsLine (chars v)) (sym e) k, subst (λ (v : List Mark). CutsFrom f v end tokens) (sym e) l)
    by_comment (m ∷ q) r e i k l =
        let head : mark g c ≡ m = cc in let tail : w ≡ q ++ r = cc in
        let b = not_or (is_line_end m.character) _ i in
        inr (ap (λ (x : Mark). is_line_end x.character) head ∙ b.0, record { comment = q; after = r; spells = tail; is = b.1; ends = k; further = l })

pub line_end_step : (read : List ℕ) (f : Bool) (g : Goal) (c : ℕ) → is_line_end c ≡ true → Steps LineComment read f g c None Start true
line_end_step read f g c e =
    quiet LineComment read f g c Start true
    (λ w end tokens h. elim (in_line_goes f g c w end tokens h) [ inl (_, l) ↦ line_goes f g c w end tokens e l | inr (n, _) ↦ never (is_line_end c) e n ])
    (λ w end tokens h. record { comment = []; after = mark g c ∷ w; spells = refl; is = refl; ends = e; further = line_comes f g c w end tokens e h })

pub in_line_step : (read : List ℕ) (f : Bool) (g : Goal) (c : ℕ) → is_line_end c ≡ false → Steps LineComment read f g c None LineComment f
in_line_step read f g c e =
    quiet LineComment read f g c LineComment f
    (λ w end tokens h. elim (in_line_goes f g c w end tokens h) [ inl (n, _) ↦ never (is_line_end c) n e | inr (_, l) ↦ l ])
    (λ w end tokens h. record {
      comment = mark g c ∷ h.comment;
      after = h.after;
      spells = ap (λ (v : List Mark). mark g c ∷ v) h.spells;
      is = or_not _ _ e h.is;
      ends = h.ends;
      further = h.further;
    })

-- comments of several lines

no_marks : (q : List Mark) → chars q ≡ [] → q ≡ []
no_marks [] e = refl
no_marks (m ∷ q) e = absurd cc

in_block_goes : (star f : Bool) (g : Goal) (c : ℕ) (w : List Mark) (end : Goal) (tokens : List Cut) → BlockFrom star f (mark g c ∷ w) end tokens → (((star && (c == 47)) ≡ true) × CutsFrom (ended_in f (c ∷ [])) w end tokens) ⊎ (((star && (c == 47)) ≡ false) × BlockFrom (c == 42) (ended_by f c) w end tokens)
in_block_goes star f g c w end tokens h = by_comment h.comment h.after h.spells h.is h.further
  where
    by_mark : (m : Mark) (q r : List Mark) → c ≡ m.character → w ≡ q ++ r → IsCommentRest star (m.character ∷ chars q) → CutsFrom (ended_in f (m.character ∷ chars q)) r end tokens → (((star && (c == 47)) ≡ true) × CutsFrom (ended_in f (c ∷ [])) w end tokens) ⊎ (((star && (c == 47)) ≡ false) × BlockFrom (c == 42) (ended_by f c) w end tokens)
    by_mark m q r same tail (inl (t, n)) l =
        let none : q ≡ [] = no_marks q n in
        inl (
          ap (λ (x : ℕ). star && (x == 47)) same ∙ t,
          subst (λ (x : ℕ). CutsFrom (ended_in f (x ∷ [])) w end tokens) (sym same)
              (subst (λ (v : List Mark). CutsFrom (ended_in f (m.character ∷ [])) v end tokens) (sym (tail ∙ ap (λ (v : List Mark). v ++ r) none))
              (subst (λ (v : List ℕ). CutsFrom (ended_in f (m.character ∷ v)) r end tokens) n l)),
        )
    by_mark m q r same tail (inr (t, i)) l =
        inr (
          ap (λ (x : ℕ). star && (x == 47)) same ∙ t,
          subst (λ (x : ℕ). BlockFrom (x == 42) (ended_by f x) w end tokens) (sym same)
              (record { comment = q; after = r; spells = tail; is = i; further = subst (λ (x : Bool). CutsFrom x r end tokens) (sym (ended_in-more f m.character (chars q))) l }),
        )

    by_comment : (q r : List Mark) → mark g c ∷ w ≡ q ++ r → IsCommentRest star (chars q) → CutsFrom (ended_in f (chars q)) r end tokens → (((star && (c == 47)) ≡ true) × CutsFrom (ended_in f (c ∷ [])) w end tokens) ⊎ (((star && (c == 47)) ≡ false) × BlockFrom (c == 42) (ended_by f c) w end tokens)
    by_comment [] r e i l = absurd i
    by_comment (m ∷ q) r e i l =
        let head : mark g c ≡ m = cc in let tail : w ≡ q ++ r = cc in
        by_mark m q r (ap (λ (x : Mark). x.character) head) tail i l

-- the slash that ends a comment ends no line
closing_flag : (star f : Bool) (c : ℕ) → (star && (c == 47)) ≡ true → ended_in f (c ∷ []) ≡ f
closing_flag star f c t =
    ap (λ (x : ℕ). ended_in f (x ∷ [])) (is_same c 47 (and_right star (c == 47) t)) ∙ ended_in-slash f

pub closing_step : (star : Bool) (read : List ℕ) (f : Bool) (g : Goal) (c : ℕ) → (star && (c == 47)) ≡ true → Steps (BlockComment star) read f g c None Start f
closing_step star read f g c t =
    quiet (BlockComment star) read f g c Start f
    (λ w end tokens h. elim (in_block_goes star f g c w end tokens h) [ inl (_, l) ↦ subst (λ (x : Bool). CutsFrom x w end tokens) (closing_flag star f c t) l | inr (n, _) ↦ never (star && (c == 47)) t n ])
    (λ w end tokens h. record {
      comment = mark g c ∷ [];
      after = w;
      spells = refl;
      is = inl (t, refl);
      further = subst (λ (x : Bool). CutsFrom x w end tokens) (sym (closing_flag star f c t)) h;
    })

pub in_block_step : (star : Bool) (read : List ℕ) (f : Bool) (g : Goal) (c : ℕ) → (star && (c == 47)) ≡ false → Steps (BlockComment star) read f g c None (BlockComment (c == 42)) (ended_by f c)
in_block_step star read f g c t =
    quiet (BlockComment star) read f g c (BlockComment (c == 42)) (ended_by f c)
    (λ w end tokens h. elim (in_block_goes star f g c w end tokens h) [ inl (n, _) ↦ never (star && (c == 47)) n t | inr (_, l) ↦ l ])
    (λ w end tokens h. record {
      comment = mark g c ∷ h.comment;
      after = h.after;
      spells = ap (λ (v : List Mark). mark g c ∷ v) h.spells;
      is = inr (t, h.is);
      further = subst (λ (x : Bool). CutsFrom x h.after end tokens) (ended_in-more f c (chars h.comment)) h.further;
    })

-- a step by another name
pub as_step : (s : State) (read : List ℕ) (f : Bool) (g : Goal) (c : ℕ) (x y : Step) → x ≡ y → Steps s read f g c y.given y.state y.newline → Steps s read f g c x.given x.state x.newline
as_step s read f g c x y e h =
    subst (λ (z : Step). Steps s read f g c z.given z.state z.newline) (sym e) h
