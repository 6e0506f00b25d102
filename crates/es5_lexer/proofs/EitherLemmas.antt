-- A text with either reading at each slash is a text under some goals.
use Rattle.std.proofs.Common.{◌≡◌, ℕ, Bool, false, List, [], ◌∷◌, ◌++◌, refl, sym, ap, subst, ◌∙◌}
use Rattle.es5_lexer.specs.Trivia.{EndsLine}
use Rattle.es5_lexer.specs.Tokens.{Stands}
use Rattle.es5_lexer.specs.Texts.{Mark, mark, chars, asked, Item, blank, line, block, token, text, Fit, ended_by, ended_in, lexemes, FitEither, LexesEither, HasReading}
use Rattle.es5_lexer.specs.declared.tokens.Goal.{Goal}
use Rattle.es5_lexer.specs.declared.tokens.Goal.TheVariants.{Div}
use Rattle.es5_lexer.specs.declared.tokens.Token.{Token}
use Rattle.es5_lexer.specs.declared.tokens.Lexeme.{Lexeme}
use Rattle.es5_lexer.proofs.TriviaLemmas.{chars-append}

-- the goal came with the first character
abbrev read_first : Goal → List Mark → List Mark
read_first g [] = []
read_first g (m ∷ q) = mark g m.character ∷ q

-- the items with each slash's reading after it, where the goal comes first
abbrev read : Goal → (items : List Item) → FitEither items [] → List Item
read g [] f = []
read g (blank m ∷ items) f = blank (mark g m.character) ∷ read g items f.1
read g (line a b q ∷ items) f = line (mark g a.character) b q ∷ read g items f.2
read g (block a b q ∷ items) f = block (mark g a.character) b q ∷ read g items f.1
read g (token t a q ∷ items) f = token t (mark g a.character) (read_first f.0.0 q) ∷ read f.0.0 items f.1

-- the goal that comes with the end
abbrev end_of : Goal → (items : List Item) → FitEither items [] → Goal
end_of g [] f = g
end_of g (blank m ∷ items) f = end_of g items f.1
end_of g (line a b q ∷ items) f = end_of g items f.2
end_of g (block a b q ∷ items) f = end_of g items f.1
end_of g (token t a q ∷ items) f = end_of f.0.0 items f.1

asked_is : (g : Goal) (items : List Item) (f : FitEither items []) → asked (text (read g items f) []) (end_of g items f) ≡ g
asked_is g [] f = refl
asked_is g (blank m ∷ items) f = refl
asked_is g (line a b q ∷ items) f = refl
asked_is g (block a b q ∷ items) f = refl
asked_is g (token t a q ∷ items) f = refl

asked_after : (g : Goal) (q : List Mark) (items : List Item) (f : FitEither items []) → asked (read_first g q ++ text (read g items f) []) (end_of g items f) ≡ g
asked_after g [] items f = asked_is g items f
asked_after g (m ∷ q) items f = refl

chars_first : (g : Goal) (q : List Mark) → chars (read_first g q) ≡ chars q
chars_first g [] = refl
chars_first g (m ∷ q) = refl

-- the same characters
after_same : (q r v w : List Mark) → chars q ≡ chars r → chars v ≡ chars w → chars (q ++ v) ≡ chars (r ++ w)
after_same q r v w e f =
    chars-append q v ∙ ap (λ (x : List ℕ). x ++ chars v) e ∙ ap (λ (x : List ℕ). chars r ++ x) f ∙ sym (chars-append r w)

chars_same : (g : Goal) (items : List Item) (f : FitEither items []) → chars (text (read g items f) []) ≡ chars (text items [])
chars_same g [] f = refl
chars_same g (blank m ∷ items) f = ap (λ (x : List ℕ). m.character ∷ x) (chars_same g items f.1)
chars_same g (line a b q ∷ items) f =
    ap (λ (x : List ℕ). a.character ∷ b.character ∷ x) (after_same q q _ _ refl (chars_same g items f.2))
chars_same g (block a b q ∷ items) f =
    ap (λ (x : List ℕ). a.character ∷ b.character ∷ x) (after_same q q _ _ refl (chars_same g items f.1))
chars_same g (token t a q ∷ items) f =
    ap (λ (x : List ℕ). a.character ∷ x) (after_same (read_first f.0.0 q) q _ _ (chars_first f.0.0 q) (chars_same f.0.0 items f.1))

-- and tokens
lexemes_same : (g : Goal) (items : List Item) (f : FitEither items []) (a : Bool) → lexemes a (read g items f) ≡ lexemes a items
lexemes_same g [] f a = refl
lexemes_same g (blank m ∷ items) f a = lexemes_same g items f.1 (ended_by a m.character)
lexemes_same g (line b c q ∷ items) f a = lexemes_same g items f.2 a
lexemes_same g (block b c q ∷ items) f a = lexemes_same g items f.1 (ended_in a (chars q))
lexemes_same g (token t b q ∷ items) f a =
    ap (λ (x : List Lexeme). record { token = t; newline = a } ∷ x) (lexemes_same f.0.0 items f.1 false)

-- a token stands by its own reading
stands_by : (g h : Goal) (t : Token) (u v r s : List ℕ) → g ≡ h → u ≡ v → r ≡ s → Stands h t v s → Stands g t u r
stands_by g h t u v r s e f i k =
    subst (λ (x : Goal). Stands x t u r) (sym e)
    (subst (λ (x : List ℕ). Stands h t x r) (sym f) (subst (λ (x : List ℕ). Stands h t v x) (sym i) k))

fits_read : (g : Goal) (items : List Item) (f : FitEither items []) → Fit (read g items f) [] (end_of g items f)
fits_read g [] f = tt
fits_read g (blank m ∷ items) f = (f.0, fits_read g items f.1)
fits_read g (line a b q ∷ items) f =
    (f.0, subst EndsLine (sym (chars_same g items f.2)) f.1, fits_read g items f.2)
fits_read g (block a b q ∷ items) f = (f.0, fits_read g items f.1)
fits_read g (token t a q ∷ items) f =
    (stands_by _ f.0.0 t _ _ _ _ (asked_after f.0.0 q items f.1) (ap (λ (x : List ℕ). a.character ∷ x) (chars_first f.0.0 q)) (chars_same f.0.0 items f.1) f.0.1, fits_read f.0.0 items f.1)

fits_either : (items : List Item) (end : Goal) → Fit items [] end → FitEither items []
fits_either [] end h = tt
fits_either (blank m ∷ items) end h = (h.0, fits_either items end h.1)
fits_either (line a b q ∷ items) end h = (h.0, h.1, fits_either items end h.2)
fits_either (block a b q ∷ items) end h = (h.0, fits_either items end h.1)
fits_either (token t a q ∷ items) end h = ((_, h.0), fits_either items end h.1)

pub has_reading : (u : List ℕ) (tokens : List Lexeme) → LexesEither u tokens → HasReading u tokens
has_reading u tokens h = record {
  read = text (read Div h.items h.fits) [];
  end = end_of Div h.items h.fits;
  spells = chars_same Div h.items h.fits ∙ sym h.spells;
  lexes = record {
    items = read Div h.items h.fits;
    spells = refl;
    fits = fits_read Div h.items h.fits;
    gives = h.gives ∙ sym (lexemes_same Div h.items h.fits false);
  };
}

pub reading_has : (u : List ℕ) (tokens : List Lexeme) → HasReading u tokens → LexesEither u tokens
reading_has u tokens h = record {
  items = h.lexes.items;
  spells = sym h.spells ∙ ap chars h.lexes.spells;
  fits = fits_either h.lexes.items h.end h.lexes.fits;
  gives = h.lexes.gives;
}
