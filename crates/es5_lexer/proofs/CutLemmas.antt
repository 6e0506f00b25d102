-- The tokens of a text with what stands after them, and without.
use Rattle.std.proofs.Common.{◌≡◌, Bool, false, List, [], ◌∷◌, ◌++◌, refl, sym, ap, subst, ◌∙◌}
use Rattle.es5_lexer.specs.Texts.{Mark, chars, Item, blank, line, block, token, ended_by, ended_in, lexemes, Lexes, LexesFrom}
use Rattle.es5_lexer.specs.Cuts.{Cut, cuts, CutsFrom, lexemes_of, cuts_at}
use Rattle.es5_lexer.specs.Residuals.{From, own}
use Rattle.es5_lexer.specs.Lexing.{HasRead}
use Rattle.es5_lexer.specs.declared.tokens.Goal.{Goal}
use Rattle.es5_lexer.specs.declared.tokens.Lexeme.{Lexeme}
use Rattle.es5_lexer.specs.declared.lexer.Lexer.{Lexer}

pub lexemes-cuts : (items : List Item) (f : Bool) → lexemes_of (cuts f items) ≡ lexemes f items
lexemes-cuts [] f = refl
lexemes-cuts (blank m ∷ items) f = lexemes-cuts items (ended_by f m.character)
lexemes-cuts (line a b q ∷ items) f = lexemes-cuts items f
lexemes-cuts (block a b q ∷ items) f = lexemes-cuts items (ended_in f (chars q))
lexemes-cuts (token t a q ∷ items) f =
    ap (λ (x : List Lexeme). record { token = t; newline = f } ∷ x) (lexemes-cuts items false)

pub lexemes-append : (x y : List Cut) → lexemes_of (x ++ y) ≡ lexemes_of x ++ lexemes_of y
lexemes-append [] y = refl
lexemes-append (a ∷ x) y = ap (λ (z : List Lexeme). a.lexeme ∷ z) (lexemes-append x y)

pub lexemes-at : (tokens : List Lexeme) (rest : List Mark) → lexemes_of (cuts_at tokens rest) ≡ tokens
lexemes-at [] rest = refl
lexemes-at (x ∷ tokens) rest = ap (λ (z : List Lexeme). x ∷ z) (lexemes-at tokens rest)

pub with_cuts : (f : Bool) (w : List Mark) (end : Goal) (tokens : List Lexeme) (h : LexesFrom f w end tokens) → CutsFrom f w end (cuts f h.items)
with_cuts f w end tokens h = record { items = h.items; spells = h.spells; fits = h.fits; gives = refl }

pub cuts_given : (f : Bool) (w : List Mark) (end : Goal) (tokens : List Lexeme) (h : LexesFrom f w end tokens) → tokens ≡ lexemes_of (cuts f h.items)
cuts_given f w end tokens h = h.gives ∙ sym (lexemes-cuts h.items f)

pub without_cuts : (f : Bool) (w : List Mark) (end : Goal) (tokens : List Cut) → CutsFrom f w end tokens → LexesFrom f w end (lexemes_of tokens)
without_cuts f w end tokens h = record {
  items = h.items;
  spells = h.spells;
  fits = h.fits;
  gives = ap lexemes_of h.gives ∙ lexemes-cuts h.items f;
}

-- the residual of a lexer

pub record Going (v : Lexer) (m : List Mark) (given : List Lexeme) (h : HasRead v m given) (w : List Mark) (end : Goal) (tokens : List Lexeme) : Type 0 where
  pub others : List Cut
  pub is : tokens ≡ given ++ lexemes_of others
  pub from : From v.state (own v.state h.read) v.newline w end others

pub going : (v : Lexer) (m : List Mark) (given : List Lexeme) (h : HasRead v m given) (w : List Mark) (end : Goal) (tokens : List Lexeme) → Lexes (m ++ w) end tokens → Going v m given h w end tokens
going v m given h w end tokens l =
    let x = h.residual.goes w end (cuts false l.items) (with_cuts false (m ++ w) end tokens l) in
    record {
      others = x.others;
      is = cuts_given false (m ++ w) end tokens l ∙ ap lexemes_of x.is ∙ lexemes-append (h.cuts w) x.others ∙ ap (λ (z : List Lexeme). z ++ lexemes_of x.others) (h.lexemes w);
      from = x.from;
    }

pub coming : (v : Lexer) (m : List Mark) (given : List Lexeme) (h : HasRead v m given) (w : List Mark) (end : Goal) (others : List Cut) → From v.state (own v.state h.read) v.newline w end others → Lexes (m ++ w) end (given ++ lexemes_of others)
coming v m given h w end others x =
    let l = h.residual.comes w end (h.cuts w ++ others) (record { others = others; is = refl; from = x }) in
    subst (λ (z : List Lexeme). Lexes (m ++ w) end z)
    (lexemes-append (h.cuts w) others ∙ ap (λ (z : List Lexeme). z ++ lexemes_of others) (h.lexemes w))
    (without_cuts false (m ++ w) end (h.cuts w ++ others) l)
