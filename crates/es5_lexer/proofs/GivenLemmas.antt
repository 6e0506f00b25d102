-- A lexer has given all tokens that end before the last character it has read.
use Rattle.std.proofs.Common.{◌≡◌, ℕ, suc, ◌≤◌, Bool, false, List, [], ◌∷◌, ◌++◌, length, refl, sym, ap, subst, ◌∙◌, append_assoc, length-append, arith}
use Rattle.es5_lexer.specs.Trivia.{EndsLine}
use Rattle.es5_lexer.specs.Tokens.{Stands}
use Rattle.es5_lexer.specs.Texts.{Mark, chars, asked, Item, blank, line, block, token, text, Fit, ended_by, ended_in, ended_after, lexemes, EndWithin}
use Rattle.es5_lexer.specs.Cuts.{Cut, cut, cuts, CutsFrom, lexemes_of}
use Rattle.es5_lexer.specs.Residuals.{From, own}
use Rattle.es5_lexer.specs.Lexing.{HasRead}
use Rattle.es5_lexer.specs.declared.tokens.Goal.{Goal}
use Rattle.es5_lexer.specs.declared.tokens.Lexeme.{Lexeme}
use Rattle.es5_lexer.specs.declared.states.State.{State}
use Rattle.es5_lexer.specs.declared.states.State.TheVariants.{Start, Slash, LineComment, BlockComment, Token}
use Rattle.es5_lexer.specs.declared.lexer.Lexer.{Lexer}
use Rattle.es5_lexer.proofs.CutLemmas.{lexemes-append}

-- items before others

text-after : (items : List Item) (v w : List Mark) → text items v ++ w ≡ text items (v ++ w)
text-after [] v w = refl
text-after (blank m ∷ items) v w = ap (λ (u : List Mark). m ∷ u) (text-after items v w)
text-after (line a b q ∷ items) v w =
    ap (λ (u : List Mark). a ∷ b ∷ u) (append_assoc q (text items v) w ∙ ap (λ (u : List Mark). q ++ u) (text-after items v w))
text-after (block a b q ∷ items) v w =
    ap (λ (u : List Mark). a ∷ b ∷ u) (append_assoc q (text items v) w ∙ ap (λ (u : List Mark). q ++ u) (text-after items v w))
text-after (token t a q ∷ items) v w =
    ap (λ (u : List Mark). a ∷ u) (append_assoc q (text items v) w ∙ ap (λ (u : List Mark). q ++ u) (text-after items v w))

text-append : (items others : List Item) → text (items ++ others) [] ≡ text items (text others [])
text-append [] others = refl
text-append (blank m ∷ items) others = ap (λ (u : List Mark). m ∷ u) (text-append items others)
text-append (line a b q ∷ items) others = ap (λ (u : List Mark). a ∷ b ∷ (q ++ u)) (text-append items others)
text-append (block a b q ∷ items) others = ap (λ (u : List Mark). a ∷ b ∷ (q ++ u)) (text-append items others)
text-append (token t a q ∷ items) others = ap (λ (u : List Mark). a ∷ (q ++ u)) (text-append items others)

fits_all : (items others : List Item) (end : Goal) → Fit items (text others []) end → Fit others [] end → Fit (items ++ others) [] end
fits_all [] others end h k = k
fits_all (blank m ∷ items) others end h k = (h.0, fits_all items others end h.1 k)
fits_all (line a b q ∷ items) others end h k =
    (h.0, subst (λ (u : List Mark). EndsLine (chars u)) (sym (text-append items others)) h.1, fits_all items others end h.2 k)
fits_all (block a b q ∷ items) others end h k = (h.0, fits_all items others end h.1 k)
fits_all (token t a q ∷ items) others end h k = (
  subst (λ (u : List Mark). Stands (asked (q ++ u) end) t (a.character ∷ chars q) (chars u)) (sym (text-append items others)) h.0,
  fits_all items others end h.1 k,
)

-- so many characters stand after each token
abbrev Far : ℕ → List Cut → Type 0
Far n [] = Unit {0}
Far n (x ∷ tokens) = (n ≤ x.left) × Far n tokens

-- no more than so many stand after the first
abbrev Near : ℕ → List Cut → Type 0
Near n [] = Unit {0}
Near n (x ∷ tokens) = x.left ≤ n

-- the tokens of the items before others
record First (items others : List Item) (f : Bool) : Type 0 where
  pub tokens : List Cut
  pub spells : cuts f (items ++ others) ≡ tokens ++ cuts (ended_after f items) others
  pub lexemes : lexemes_of tokens ≡ lexemes f items
  pub far : Far (length (text others [])) tokens

fewer : (items : List Item) (w : List Mark) → length w ≤ length (text items w)
fewer [] w = omega arith
fewer (blank m ∷ items) w = omega (arith, fewer items w)
fewer (line a b q ∷ items) w = omega (arith, fewer items w, length-append q (text items w))
fewer (block a b q ∷ items) w = omega (arith, fewer items w, length-append q (text items w))
fewer (token t a q ∷ items) w = omega (arith, fewer items w, length-append q (text items w))

first : (items others : List Item) (f : Bool) → First items others f
first [] others f = record { tokens = []; spells = refl; lexemes = refl; far = tt }
first (blank m ∷ items) others f = let h = first items others (ended_by f m.character) in record { tokens = h.tokens; spells = h.spells; lexemes = h.lexemes; far = h.far }
first (line a b q ∷ items) others f = let h = first items others f in record { tokens = h.tokens; spells = h.spells; lexemes = h.lexemes; far = h.far }
first (block a b q ∷ items) others f =
    let h = first items others (ended_in f (chars q)) in record { tokens = h.tokens; spells = h.spells; lexemes = h.lexemes; far = h.far }
first (token t a q ∷ items) others f =
    let h = first items others false in
    record {
      tokens = cut t f (text (items ++ others) []) ∷ h.tokens;
      spells = ap (λ (x : List Cut). cut t f (text (items ++ others) []) ∷ x) h.spells;
      lexemes = ap (λ (x : List Lexeme). record { token = t; newline = f } ∷ x) h.lexemes;
      far = (omega (arith, fewer items (text others []), ap length (text-append items others)), h.far);
    }

-- the first token of a text ends within it
near_cuts : (items : List Item) (f : Bool) (n : ℕ) → length (text items []) ≤ suc n → Near n (cuts f items)
near_cuts [] f n h = tt
near_cuts (blank m ∷ items) f n h = near_cuts items (ended_by f m.character) n (omega (arith, h))
near_cuts (line a b q ∷ items) f n h = near_cuts items f n (omega (arith, h, length-append q (text items [])))
near_cuts (block a b q ∷ items) f n h =
    near_cuts items (ended_in f (chars q)) n (omega (arith, h, length-append q (text items [])))
near_cuts (token t a q ∷ items) f n h = omega (arith, h, length-append q (text items []))

near_lexes : (f : Bool) (w : List Mark) (end : Goal) (tokens : List Cut) (n : ℕ) → CutsFrom f w end tokens → length w ≤ suc n → Near n tokens
near_lexes f w end tokens n h few =
    subst (λ (x : List Cut). Near n x) (sym h.gives)
    (near_cuts h.items f n (subst (λ (x : List Mark). length x ≤ suc n) h.spells few))

-- so the first token that goes on from a state ends with the last character read or after it
near_from : (s : State) (read : List ℕ) (f : Bool) (w : List Mark) (end : Goal) (tokens : List Cut) → From s read f w end tokens → Near (length w) tokens
near_from Start read f w end tokens h = near_lexes f w end tokens (length w) h (omega arith)
near_from Slash read f w end tokens h = near_lexes f _ end tokens (length w) h.1 (omega arith)
near_from LineComment read f w end tokens h =
    near_lexes f h.after end tokens (length w) h.further (omega (arith, ap length h.spells, length-append h.comment h.after))
near_from (BlockComment star) read f w end tokens h =
    near_lexes _ h.after end tokens (length w) h.further (omega (arith, ap length h.spells, length-append h.comment h.after))
near_from (Token p) read f w end tokens h =
    subst (λ (x : List Cut). Near (length w) x) (sym h.gives) (omega (arith, ap length h.spells, length-append h.before h.after))

-- the tokens that end before it are among those before that one
among : (n : ℕ) (tokens given rest others : List Cut) → tokens ++ others ≡ given ++ rest → Far (suc n) tokens → Near n rest → (more : List Cut) × (given ≡ tokens ++ more)
among n [] given rest others e far near = (given, refl)
among n (x ∷ tokens) [] [] others e far near = absurd cc
among n (x ∷ tokens) [] (y ∷ rest) others e far near =
    let same : x ≡ y = cc in
    let left : x.left ≡ y.left = ap (λ (z : Cut). z.left) same in
    absurd (omega (arith, far.0, near, left))
among n (x ∷ tokens) (y ∷ given) rest others e far near =
    let same : x ≡ y = cc in let tail : tokens ++ others ≡ given ++ rest = cc in
    let h = among n tokens given rest others tail far.1 near in
    (h.0, ap (λ (z : Cut). z ∷ given) (sym same) ∙ ap (λ (z : List Cut). x ∷ z) h.1)

same_lexemes : (tokens gone more : List Cut) (given first : List Lexeme) → lexemes_of gone ≡ given → gone ≡ tokens ++ more → lexemes_of tokens ≡ first → given ≡ first ++ lexemes_of more
same_lexemes tokens gone more given first e f g =
    sym e ∙ ap lexemes_of f ∙ lexemes-append tokens more ∙ ap (λ (z : List Lexeme). z ++ lexemes_of more) g

pub ended_given : (v : Lexer) (m : List Mark) (last : Mark) (given : List Lexeme) → HasRead v (m ++ last ∷ []) given → (w : List Mark) (end : Goal) (tokens : List Lexeme) → EndWithin m (last ∷ w) end tokens → (others : List Lexeme) × (given ≡ tokens ++ others)
ended_given v m last given h w end tokens x =
    let whole : text (x.items ++ x.others) [] ≡ m ++ last ∷ w =
    text-append x.items x.others ∙ ap (text x.items) (sym x.spells) ∙ sym (text-after x.items x.gap (last ∷ w)) ∙ ap (λ (u : List Mark). u ++ last ∷ w) (sym x.splits)
    in
    let y = h.residual.goes w end (cuts false (x.items ++ x.others)) (record {
      items = x.items ++ x.others;
      spells = append_assoc m (last ∷ []) w ∙ sym whole;
      fits = fits_all x.items x.others end (subst (λ (u : List Mark). Fit x.items u end) x.spells x.fits) x.further;
      gives = refl;
    }) in
    let a = first x.items x.others false in
    let far : Far (suc (length w)) a.tokens = far_less (length (text x.others [])) (suc (length w)) a.tokens (omega (arith, ap length x.spells, length-append x.gap (last ∷ w))) a.far in
    let b = among (length w) a.tokens (h.cuts w) y.others (cuts (ended_after false x.items) x.others) (sym a.spells ∙ y.is) far (near_from v.state (own v.state h.read) v.newline w end y.others y.from) in
    (lexemes_of b.0, same_lexemes a.tokens (h.cuts w) b.0 given tokens (h.lexemes w) b.1 (a.lexemes ∙ sym x.gives))
  where
    far_less : (n k : ℕ) (t : List Cut) → k ≤ n → Far n t → Far k t
    far_less n k [] e f = tt
    far_less n k (z ∷ t) e f = (omega (arith, e, f.0), far_less n k t e f.1)
