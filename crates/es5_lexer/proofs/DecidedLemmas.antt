-- Where each character leads from each state, and what each end is. So it is decided whether a text has tokens of a kind
-- that is decided itself, where a goal is known that suits the next of them.
use Rattle.std.proofs.Common.{◌≡◌, ◌⊎◌, ℕ, Bool, true, false, ◌&&◌, ◌==◌, is_some, Option, Some, None, List, [], ◌∷◌, ◌++◌, inl, inr, refl, sym, ap, subst, ◌∙◌, append_assoc}
use Rattle.es5_lexer.specs.Characters.{is_line_end, is_space}
use Rattle.es5_lexer.specs.Tokens.{is_barred}
use Rattle.es5_lexer.specs.Texts.{Mark, mark, chars, ended_by, LexesEither}
use Rattle.es5_lexer.specs.Cuts.{Cut, cuts, lexemes_of, cuts_at}
use Rattle.es5_lexer.specs.Suits.{Suits}
use Rattle.es5_lexer.specs.Places.{first, next, ended, is_dead, past_slash}
use Rattle.es5_lexer.specs.Reading.{token_of}
use Rattle.es5_lexer.specs.Residuals.{From, own, own_after, given_by, Steps, Ends}
use Rattle.es5_lexer.specs.declared.tokens.Goal.{Goal}
use Rattle.es5_lexer.specs.declared.tokens.Lexeme.{Lexeme}
use Rattle.es5_lexer.specs.declared.tokens.Token.TheVariants.{Number, Punct}
use Rattle.es5_lexer.specs.declared.places.Kind.{Kind}
use Rattle.es5_lexer.specs.declared.places.Kind.TheVariants.{Name as AName, Punct as APunct, Number as ANumber, Text as AText, Pattern as APattern}
use Rattle.es5_lexer.specs.declared.places.Place.{Place}
use Rattle.es5_lexer.specs.declared.places.Place.TheVariants.{Dead}
use Rattle.es5_lexer.specs.declared.states.State.{State}
use Rattle.es5_lexer.specs.declared.states.State.TheVariants.{Start, Slash, LineComment, BlockComment, Token}
use Rattle.es5_lexer.proofs.TokenLemmas.{name_unbarred}
use Rattle.es5_lexer.proofs.StepLemmas.{line_step, space_step, slash_step, first_step, line_end_step, in_line_step, closing_step, in_block_step}
use Rattle.es5_lexer.proofs.TokenSteps.{token_step, end_step, barred_step, open_step}
use Rattle.es5_lexer.proofs.CutLemmas.{lexemes-append, lexemes-at, with_cuts, without_cuts, cuts_given}
use Rattle.es5_lexer.proofs.EitherLemmas.{has_reading, reading_has}
use Rattle.es5_lexer.proofs.LexerLemmas.{own_from, from_own, change, change_end, Fitting}
use Rattle.es5_lexer.proofs.SlashLemmas.{comment_line_step, comment_block_step, slash_token_step, start_end, line_end, block_end, token_end, slash_end}

-- where a character leads from a state, and the kind of the token that has ended before it, if one has
pub record StepFrom (s : State) (f : Bool) (g : Goal) (c : ℕ) : Type 0 where
  pub given : Option Kind
  pub state : State
  pub newline : Bool
  pub steps : (read : List ℕ) → Steps s read f g c given state newline

-- whether a text may end in a state, and the kind of its last token, if that ends there
pub record EndIn (s : State) (f : Bool) (g : Goal) : Type 0 where
  pub whole : Bool
  pub given : Option Kind
  pub ends : (read : List ℕ) → Ends s read f g whole given

-- where a character leads between tokens: none has ended before it
record StartStep (f : Bool) (g : Goal) (c : ℕ) : Type 0 where
  pub state : State
  pub newline : Bool
  pub steps : (read : List ℕ) → Steps Start read f g c None state newline

from_start : (f : Bool) (g : Goal) (c : ℕ) → StartStep f g c
from_start f g c = by (is_line_end c) (is_space c) (c == 47) refl refl refl
  where
    by : (line space slash : Bool) → is_line_end c ≡ line → is_space c ≡ space → (c == 47) ≡ slash → StartStep f g c
    by true space slash l s h = record {
      state = Start;
      newline = true;
      steps = λ read. line_step read f g c l;
    }
    by false true slash l s h = record {
      state = Start;
      newline = f;
      steps = λ read. space_step read f g c l s;
    }
    by false false true l s h = record {
      state = Slash;
      newline = f;
      steps = λ read. slash_step read f g c h;
    }
    by false false false l s h = record {
      state = Token (first g c);
      newline = f;
      steps = λ read. first_step read f g c l s h;
    }

-- whether the character may not stand after a token of the kind
record Bars (k : Kind) (c : ℕ) : Type 0 where
  pub bars : Bool
  pub always : (u : List ℕ) → is_barred (token_of k u) c ≡ bars

bars_of : (k : Kind) (c : ℕ) → Bars k c
bars_of AName c = record { bars = false; always = λ u. sym (name_unbarred u c) }
bars_of ANumber c = record { bars = is_barred Number c; always = λ u. refl }
bars_of (APunct p) c = record { bars = is_barred (Punct p) c; always = λ u. refl }
bars_of AText c = record { bars = false; always = λ u. refl }
bars_of APattern c = record { bars = false; always = λ u. refl }

dead_step : (p : Place) (f : Bool) (g : Goal) (c : ℕ) → ((read : List ℕ) → Steps (Token p) read f g c None (Token Dead) false) → StepFrom (Token p) f g c
dead_step p f g c steps = record { given = None; state = Token Dead; newline = false; steps = steps }

after_token : (p : Place) (f : Bool) (g : Goal) (c : ℕ) (k : Kind) → is_dead (next p c) ≡ true → ended p ≡ Some k → StepFrom (Token p) f g c
after_token p f g c k dead e = let b = bars_of k c in by b.bars b.always (from_start false g c)
  where
    by : (x : Bool) → ((u : List ℕ) → is_barred (token_of k u) c ≡ x) → StartStep false g c → StepFrom (Token p) f g c
    by true barred begins = dead_step p f g c (λ read. barred_step p read f g c k dead e barred)
    by false free begins = record {
      given = Some k;
      state = begins.state;
      newline = begins.newline;
      steps = λ read. end_step p read f g c k begins.state begins.newline dead e free (begins.steps []);
    }

from_token : (p : Place) (f : Bool) (g : Goal) (c : ℕ) → StepFrom (Token p) f g c
from_token p f g c = by (is_dead (next p c)) (ended p) refl refl
  where
    by : (dead : Bool) (k : Option Kind) → is_dead (next p c) ≡ dead → ended p ≡ k → StepFrom (Token p) f g c
    by false k d e = record {
      given = None;
      state = Token (next p c);
      newline = f;
      steps = λ read. token_step p read f g c d;
    }
    by true None d e = dead_step p f g c (λ read. open_step p read f g c None d e)
    by true (Some k) d e = after_token p f g c k d e

from_slash : (f : Bool) (g : Goal) (c : ℕ) → StepFrom Slash f g c
from_slash f g c = by (c == 47) (c == 42) refl refl (from_token (past_slash g) f g c)
  where
    by : (line block : Bool) → (c == 47) ≡ line → (c == 42) ≡ block → StepFrom (Token (past_slash g)) f g c → StepFrom Slash f g c
    by true block l b t = record {
      given = None;
      state = LineComment;
      newline = f;
      steps = λ read. comment_line_step read f g c l;
    }
    by false true l b t = record {
      given = None;
      state = BlockComment false;
      newline = f;
      steps = λ read. comment_block_step read f g c b;
    }
    by false false l b t = record {
      given = t.given;
      state = t.state;
      newline = t.newline;
      steps = λ read. slash_token_step read f g c t.given t.state t.newline l b (t.steps (47 ∷ []));
    }

from_line : (f : Bool) (g : Goal) (c : ℕ) → StepFrom LineComment f g c
from_line f g c = by (is_line_end c) refl
  where
    by : (ends : Bool) → is_line_end c ≡ ends → StepFrom LineComment f g c
    by true e = record {
      given = None;
      state = Start;
      newline = true;
      steps = λ read. line_end_step read f g c e;
    }
    by false e = record {
      given = None;
      state = LineComment;
      newline = f;
      steps = λ read. in_line_step read f g c e;
    }

from_block : (star f : Bool) (g : Goal) (c : ℕ) → StepFrom (BlockComment star) f g c
from_block star f g c = by (star && (c == 47)) refl
  where
    by : (closes : Bool) → (star && (c == 47)) ≡ closes → StepFrom (BlockComment star) f g c
    by true e = record {
      given = None;
      state = Start;
      newline = f;
      steps = λ read. closing_step star read f g c e;
    }
    by false e = record {
      given = None;
      state = BlockComment (c == 42);
      newline = ended_by f c;
      steps = λ read. in_block_step star read f g c e;
    }

-- each character leads somewhere
pub step_from : (s : State) (f : Bool) (g : Goal) (c : ℕ) → StepFrom s f g c
step_from Start f g c =
    let begins = from_start f g c in
    record { given = None; state = begins.state; newline = begins.newline; steps = begins.steps }
step_from Slash f g c = from_slash f g c
step_from LineComment f g c = from_line f g c
step_from (BlockComment star) f g c = from_block star f g c
step_from (Token p) f g c = from_token p f g c

-- and each end is one or isn't
pub end_in : (s : State) (f : Bool) (g : Goal) → EndIn s f g
end_in Start f g = record { whole = true; given = None; ends = λ read. start_end read f g }
end_in LineComment f g = record { whole = true; given = None; ends = λ read. line_end read f g }
end_in (BlockComment star) f g = record { whole = false; given = None; ends = λ read. block_end star read f g }
end_in (Token p) f g = record {
  whole = is_some (ended p);
  given = ended p;
  ends = λ read. token_end p read f g (is_some (ended p)) (ended p) refl (λ w. refl);
}
end_in Slash f g = record {
  whole = is_some (ended (past_slash g));
  given = ended (past_slash g);
  ends = λ read. slash_end read f g (is_some (ended (past_slash g))) (ended (past_slash g))
      (token_end (past_slash g) (47 ∷ []) f g (is_some (ended (past_slash g))) (ended (past_slash g)) refl (λ w. refl));
}

-- it holds, or it doesn't
abbrev pub Decision : Type 0 → Type 0
Decision A = A ⊎ (A → ⊥)

-- programs, which are decided, and the goal that suits the token that follows these in each of them
pub record Programs (IsProgram : List Lexeme → Type 0) : Type 0 where
  pub decided : (tokens : List Lexeme) → Decision (IsProgram tokens)
  pub goal : List Lexeme → Goal
  pub suits : (given tokens : List Lexeme) → IsProgram tokens → Suits given (goal given) tokens

-- the goal suits the tokens before those of a program
fits : (IsProgram : List Lexeme → Type 0) (p : Programs IsProgram) (given : List Lexeme) (tokens : List Cut) → IsProgram (given ++ lexemes_of tokens)
    → Fitting (p.goal given) tokens
fits IsProgram p given tokens program x others is =
    p.suits given (given ++ lexemes_of tokens) program x.lexeme (lexemes_of others) (ap (λ (t : List Cut). given ++ lexemes_of t) is)

-- the text goes on from the state, after these tokens, to those of a program
record Goes (IsProgram : List Lexeme → Type 0) (s : State) (read : List ℕ) (f : Bool) (given : List Lexeme) (u : List ℕ) : Type 0 where
  pub marks : List Mark
  pub end : Goal
  pub tokens : List Cut
  pub spells : chars marks ≡ u
  pub from : From s read f marks end tokens
  pub program : IsProgram (given ++ lexemes_of tokens)

no_marks : (marks : List Mark) → chars marks ≡ [] → marks ≡ []
no_marks [] is = refl
no_marks (m ∷ marks) is = absurd (cc is)

decided_end : (IsProgram : List Lexeme → Type 0) (p : Programs IsProgram) (s : State) (read : List ℕ) (f : Bool) (given : List Lexeme) → Decision (Goes IsProgram s read f given [])
decided_end IsProgram p s read f given = let e = end_in s f (p.goal given) in by e.whole e.given (e.ends read)
  where
    at_end : (h : Goes IsProgram s read f given []) → From s (own s read) f [] (p.goal given) h.tokens
    at_end h =
        change_end s (own s read) f h.end (p.goal given) h.tokens (fits IsProgram p given h.tokens h.program)
        (own_from s read f [] h.end h.tokens (subst (λ (m : List Mark). From s read f m h.end h.tokens) (no_marks h.marks h.spells) h.from))

    by_program : (k : Option Kind) → Ends s read f (p.goal given) true k → Decision (IsProgram (given ++ given_by k (own s read) f)) → Decision (Goes IsProgram s read f given [])
    by_program k ends (inl program) = inl (record {
      marks = [];
      end = p.goal given;
      tokens = cuts_at (given_by k (own s read) f) [];
      spells = refl;
      from = from_own s read f [] (p.goal given) (cuts_at (given_by k (own s read) f) []) (ends.comes refl);
      program = subst (λ (t : List Lexeme). IsProgram (given ++ t)) (sym (lexemes-at (given_by k (own s read) f) [])) program;
    })
    by_program k ends (inr none) = inr (λ h. none (subst (λ (t : List Lexeme). IsProgram (given ++ t))
        (ap lexemes_of (ends.goes h.tokens (at_end h)).1 ∙ lexemes-at (given_by k (own s read) f) []) h.program))

    by : (whole : Bool) (k : Option Kind) → Ends s read f (p.goal given) whole k → Decision (Goes IsProgram s read f given [])
    by true k ends = by_program k ends (p.decided (given ++ given_by k (own s read) f))
    by false k ends = inr (λ h. absurd (cc (ends.goes h.tokens (at_end h)).0))

decided_from : (IsProgram : List Lexeme → Type 0) (p : Programs IsProgram) (u : List ℕ) (s : State) (read : List ℕ) (f : Bool) (given : List Lexeme) → Decision (Goes IsProgram s read f given u)
decided_from IsProgram p [] s read f given = decided_end IsProgram p s read f given
decided_from IsProgram p (c ∷ u) s read f given =
    let x = step_from s f (p.goal given) c in
    by x.given x.state x.newline (x.steps read)
    (decided_from IsProgram p u x.state (own_after x.given (own s read) c) x.newline (given ++ given_by x.given (own s read) f))
  where
    first : (h : Goes IsProgram s read f given (c ∷ u)) → (w : List Mark) × (chars w ≡ u) × From s (own s read) f (mark (p.goal given) c ∷ w) h.end h.tokens
    first h = of_marks h.marks h.spells h.from
      where
        of_marks : (marks : List Mark) → chars marks ≡ c ∷ u → From s read f marks h.end h.tokens → (w : List Mark) × (chars w ≡ u) × From s (own s read) f (mark (p.goal given) c ∷ w) h.end h.tokens
        of_marks [] is from = absurd (cc is)
        of_marks (m ∷ w) is from =
            let same : m.character ≡ c = cc in
            let others : chars w ≡ u = cc in (
              w,
              others,
              change s (own s read) f m.reading (p.goal given) c w h.end h.tokens (fits IsProgram p given h.tokens h.program)
                  (own_from s read f (mark m.reading c ∷ w) h.end h.tokens (subst (λ (d : ℕ). From s read f (mark m.reading d ∷ w) h.end h.tokens) same from)),
            )

    ended : (k : Option Kind) → List Mark → List Cut
    ended k w = cuts_at (given_by k (own s read) f) (mark (p.goal given) c ∷ w)

    lexemes-ended : (k : Option Kind) (w : List Mark) (others : List Cut) → lexemes_of (ended k w ++ others) ≡ given_by k (own s read) f ++ lexemes_of others
    lexemes-ended k w others =
        lexemes-append (ended k w) others
        ∙ ap (λ (z : List Lexeme). z ++ lexemes_of others) (lexemes-at (given_by k (own s read) f) (mark (p.goal given) c ∷ w))

    by : (k : Option Kind) (t : State) (flag : Bool) → Steps s read f (p.goal given) c k t flag → Decision (Goes IsProgram t (own_after k (own s read) c) flag (given ++ given_by k (own s read) f) u) → Decision (Goes IsProgram s read f given (c ∷ u))
    by k t flag steps (inl h) = inl (record {
      marks = mark (p.goal given) c ∷ h.marks;
      end = h.end;
      tokens = ended k h.marks ++ h.tokens;
      spells = ap (λ (v : List ℕ). c ∷ v) h.spells;
      from = from_own s read f (mark (p.goal given) c ∷ h.marks) h.end (ended k h.marks ++ h.tokens)
          (steps.comes h.marks h.end (ended k h.marks ++ h.tokens) (record { others = h.tokens; is = refl; from = h.from }));
      program = subst IsProgram (append_assoc given (given_by k (own s read) f) (lexemes_of h.tokens) ∙ ap (λ (z : List Lexeme). given ++ z) (sym (lexemes-ended k h.marks h.tokens))) h.program;
    })
    by k t flag steps (inr none) = inr (λ h. none (later h (first h)))
      where
        later : (h : Goes IsProgram s read f given (c ∷ u)) → (w : List Mark) × (chars w ≡ u) × From s (own s read) f (mark (p.goal given) c ∷ w) h.end h.tokens → Goes IsProgram t (own_after k (own s read) c) flag (given ++ given_by k (own s read) f) u
        later h (w, spells, from) =
            let y = steps.goes w h.end h.tokens from in
            record {
              marks = w;
              end = h.end;
              tokens = y.others;
              spells = spells;
              from = y.from;
              program = subst IsProgram
                  (ap (λ (z : List Cut). given ++ lexemes_of z) y.is
                  ∙ ap (λ (z : List Lexeme). given ++ z) (lexemes-ended k w y.others)
                  ∙ sym (append_assoc given (given_by k (own s read) f) (lexemes_of y.others))) h.program;
            }

-- the characters have tokens that are a program
pub record HasProgram (IsProgram : List Lexeme → Type 0) (u : List ℕ) : Type 0 where
  pub tokens : List Lexeme
  pub lexes : LexesEither u tokens
  pub program : IsProgram tokens

-- that is decided
pub decided_text : (IsProgram : List Lexeme → Type 0) → Programs IsProgram → (u : List ℕ) → Decision (HasProgram IsProgram u)
decided_text IsProgram p u = by (decided_from IsProgram p u Start [] false [])
  where
    by : Decision (Goes IsProgram Start [] false [] u) → Decision (HasProgram IsProgram u)
    by (inl h) = inl (record {
      tokens = lexemes_of h.tokens;
      lexes = reading_has u (lexemes_of h.tokens) (record {
        read = h.marks;
        end = h.end;
        spells = h.spells;
        lexes = without_cuts false h.marks h.end h.tokens h.from;
      });
      program = h.program;
    })
    by (inr none) = inr (λ h.
        let r = has_reading u h.tokens h.lexes in
        none (record {
          marks = r.read;
          end = r.end;
          tokens = cuts false r.lexes.items;
          spells = r.spells;
          from = with_cuts false r.read r.end h.tokens r.lexes;
          program = subst IsProgram (cuts_given false r.read r.end h.tokens r.lexes) h.program;
        }))
