-- One list of tokens under given goals.
use Rattle.std.proofs.Common.{◌≡◌, ℕ, Bool, true, false, if◌then◌else◌, Some, None, List, [], ◌∷◌, ◌++◌, length, refl, sym, ap, subst, ◌∙◌, arith}
use Rattle.es5_lexer.specs.Texts.{Mark, chars, asked, Item, blank, line, block, token, text, Fit, has_token, lexemes, Lexes, IsNextToken}
use Rattle.es5_lexer.specs.Reading.{leading_trivium, trivium_with, token_at}
use Rattle.es5_lexer.specs.declared.tokens.Goal.{Goal}
use Rattle.es5_lexer.specs.declared.tokens.Token.{Token}
use Rattle.es5_lexer.specs.declared.tokens.Lexeme.{Lexeme}
use Rattle.es5_lexer.specs.declared.trivia.Trivium.{Trivium}
use Rattle.es5_lexer.proofs.ListLemmas.{same_last}
use Rattle.es5_lexer.proofs.TriviaLemmas.{chars-append, item_ends, item_found, item_lexemes}
use Rattle.es5_lexer.proofs.TokenLemmas.{stands-token_at, stands-no_trivium, pair_of}
use Rattle.es5_lexer.proofs.PassLemmas.{fits_first, one_pass}
use Rattle.es5_lexer.proofs.NextLemmas.{next_passes}

length-chars : (w : List Mark) → length (chars w) ≡ length w
length-chars [] = refl
length-chars (m ∷ w) = omega (arith, length-chars w)

-- what an item's own text is
own : Item → List Mark
own (blank m) = m ∷ []
own (line a b q) = a ∷ b ∷ q
own (block a b q) = a ∷ b ∷ q
own (token t a q) = a ∷ q

own_text : (i : Item) (items : List Item) (rest : List Mark) → text (i ∷ items) rest ≡ own i ++ text items rest
unfolding own
own_text (blank m) items rest = refl
own_text (line a b q) items rest = refl
own_text (block a b q) items rest = refl
own_text (token t a q) items rest = refl

alone : (i : Item) (items : List Item) (rest : List Mark) → text (i ∷ []) (text items rest) ≡ text (i ∷ items) rest
alone (blank m) items rest = refl
alone (line a b q) items rest = refl
alone (block a b q) items rest = refl
alone (token t a q) items rest = refl

-- equal texts go on alike after items that leave as much
backs : (i j : Item) (k l : List Item) → text (i ∷ k) [] ≡ text (j ∷ l) [] → length (chars (text k [])) ≡ length (chars (text l [])) → text k [] ≡ text l []
backs i j k l e h =
    same_last (own i) (text k []) (own j) (text l []) (sym (own_text i k []) ∙ e ∙ own_text j l [])
    (sym (length-chars (text k [])) ∙ h ∙ length-chars (text l []))

some_trivium : (a b : Trivium) → Some a ≡ Some b → a ≡ b
some_trivium a b e = cc

-- what is found at an item that is no token
found_at : (i : Item) (k : List Item) (end : Goal) → has_token (i ∷ []) ≡ false → Fit (i ∷ k) [] end → leading_trivium (chars (text (i ∷ k) [])) ≡ trivium_with (item_ends i) (chars (text k []))
found_at i k end o h =
    subst (λ (w : List Mark). leading_trivium (chars w) ≡ trivium_with (item_ends i) (chars (text k []))) (alone i k [])
    (item_found i (text k []) end o (fits_first i k [] end o h).0)

-- nothing is found at a token
none_at : (t : Token) (m : Mark) (q : List Mark) (k : List Item) (end : Goal) → Fit (token t m q ∷ k) [] end → leading_trivium (chars (text (token t m q ∷ k) [])) ≡ None
none_at t m q k end h =
    ap (λ (w : List ℕ). leading_trivium (m.character ∷ w)) (chars-append q (text k []))
    ∙ stands-no_trivium _ t (m.character ∷ chars q) (chars (text k [])) h.0

token_found : (t : Token) (m : Mark) (q : List Mark) (k : List Item) (end : Goal) → Fit (token t m q ∷ k) [] end → token_at (asked (q ++ text k []) end) (chars (text (token t m q ∷ k) [])) ≡ Some (t, length (chars (text k [])))
token_found t m q k end h =
    ap (λ (w : List ℕ). token_at (asked (q ++ text k []) end) (m.character ∷ w)) (chars-append q (text k []))
    ∙ stands-token_at _ t (m.character ∷ chars q) (chars (text k [])) h.0

empty_text : (j : Item) (l : List Item) (rest : List Mark) → [] ≡ text (j ∷ l) rest → ⊥
empty_text (blank m) l rest e = absurd cc
empty_text (line a b q) l rest e = absurd cc
empty_text (block a b q) l rest e = absurd cc
empty_text (token t a q) l rest e = absurd cc

-- the tail of a list
after_first : List Mark → List Mark
after_first [] = []
after_first (m ∷ w) = w

trivia_both : (i j : Item) (k l : List Item) (a : Bool) (end : Goal) → has_token (i ∷ []) ≡ false → has_token (j ∷ []) ≡ false → text (i ∷ k) [] ≡ text (j ∷ l) [] → Fit (i ∷ k) [] end → Fit (j ∷ l) [] end → ((b : Bool) → text k [] ≡ text l [] → lexemes b k ≡ lexemes b l) → lexemes a (i ∷ k) ≡ lexemes a (j ∷ l)
trivia_both i j k l a end o p e f g further =
    let both : trivium_with (item_ends i) (chars (text k [])) ≡ trivium_with (item_ends j) (chars (text l [])) = sym (found_at i k end o f) ∙ ap (λ (w : List Mark). leading_trivium (chars w)) e ∙ found_at j l end p g in
    let same = some_trivium _ _ both in
    let ends : item_ends i ≡ item_ends j = ap (λ (t : Trivium). t.ends_line) same in
    let left : length (chars (text k [])) ≡ length (chars (text l [])) = ap (λ (t : Trivium). t.left) same in
    item_lexemes i k a o
    ∙ further (if item_ends i then true else a) (backs i j k l e left)
    ∙ ap (λ (b : Bool). lexemes (if b then true else a) l) ends ∙ sym (item_lexemes j l a p)

tokens_both : (t s : Token) (m n : Mark) (q r : List Mark) (k l : List Item) (a : Bool) (end : Goal) → text (token t m q ∷ k) [] ≡ text (token s n r ∷ l) [] → Fit (token t m q ∷ k) [] end → Fit (token s n r ∷ l) [] end → (text k [] ≡ text l [] → lexemes false k ≡ lexemes false l) → lexemes a (token t m q ∷ k) ≡ lexemes a (token s n r ∷ l)
unfolding after_first
tokens_both t s m n q r k l a end e f g further =
    let goals : asked (q ++ text k []) end ≡ asked (r ++ text l []) end = ap (λ (w : List Mark). asked (after_first w) end) e in
    let both : Some (t, length (chars (text k []))) ≡ Some (s, length (chars (text l []))) = sym (token_found t m q k end f) ∙ ap (λ (x : Goal). token_at x (chars (text (token t m q ∷ k) []))) goals ∙ ap (λ (w : List Mark). token_at (asked (r ++ text l []) end) (chars w)) e ∙ token_found s n r l end g in
    let same = pair_of _ _ both in
    ap (λ (x : Token). record { token = x; newline = a } ∷ lexemes false k) same.token
    ∙ ap (λ (x : List Lexeme). record { token = s; newline = a } ∷ x) (further (backs (token t m q) (token s n r) k l e same.left))

-- a token and trivia don't begin alike
differ : (i : Item) (t : Token) (m : Mark) (q : List Mark) (k l : List Item) (end : Goal) → has_token (i ∷ []) ≡ false → text (i ∷ k) [] ≡ text (token t m q ∷ l) [] → Fit (i ∷ k) [] end → Fit (token t m q ∷ l) [] end → ⊥
differ i t m q k l end o e f g =
    let some = found_at i k end o f in
    let none : leading_trivium (chars (text (i ∷ k) [])) ≡ None = ap (λ (w : List Mark). leading_trivium (chars w)) e ∙ none_at t m q l end g in
    absurd cc

rest_fits : (i : Item) (k : List Item) (end : Goal) → Fit (i ∷ k) [] end → Fit k [] end
rest_fits (blank m) k end h = h.1
rest_fits (line a b q) k end h = h.2
rest_fits (block a b q) k end h = h.1
rest_fits (token t a q) k end h = h.1

lexed : (k l : List Item) (a : Bool) (end : Goal) → text k [] ≡ text l [] → Fit k [] end → Fit l [] end → lexemes a k ≡ lexemes a l
lexed [] [] a end e f g = refl
lexed [] (j ∷ l) a end e f g = absurd (empty_text j l [] e)
lexed (i ∷ k) [] a end e f g = absurd (empty_text i k [] (sym e))
lexed ((blank m) ∷ k) ((blank n) ∷ l) a end e f g =
    trivia_both (blank m) (blank n) k l a end refl refl e f g (λ z h. lexed k l z end h (rest_fits (blank m) k end f) (rest_fits (blank n) l end g))
lexed ((blank m) ∷ k) ((line d x r) ∷ l) a end e f g =
    trivia_both (blank m) (line d x r) k l a end refl refl e f g (λ z h. lexed k l z end h (rest_fits (blank m) k end f) (rest_fits (line d x r) l end g))
lexed ((blank m) ∷ k) ((block d x r) ∷ l) a end e f g =
    trivia_both (blank m) (block d x r) k l a end refl refl e f g (λ z h. lexed k l z end h (rest_fits (blank m) k end f) (rest_fits (block d x r) l end g))
lexed ((blank m) ∷ k) (token s n r ∷ l) a end e f g = absurd (differ (blank m) s n r k l end refl e f g)
lexed ((line b c q) ∷ k) ((blank n) ∷ l) a end e f g =
    trivia_both (line b c q) (blank n) k l a end refl refl e f g (λ z h. lexed k l z end h (rest_fits (line b c q) k end f) (rest_fits (blank n) l end g))
lexed ((line b c q) ∷ k) ((line d x r) ∷ l) a end e f g =
    trivia_both (line b c q) (line d x r) k l a end refl refl e f g (λ z h. lexed k l z end h (rest_fits (line b c q) k end f) (rest_fits (line d x r) l end g))
lexed ((line b c q) ∷ k) ((block d x r) ∷ l) a end e f g =
    trivia_both (line b c q) (block d x r) k l a end refl refl e f g (λ z h. lexed k l z end h (rest_fits (line b c q) k end f) (rest_fits (block d x r) l end g))
lexed ((line b c q) ∷ k) (token s n r ∷ l) a end e f g = absurd (differ (line b c q) s n r k l end refl e f g)
lexed ((block b c q) ∷ k) ((blank n) ∷ l) a end e f g =
    trivia_both (block b c q) (blank n) k l a end refl refl e f g (λ z h. lexed k l z end h (rest_fits (block b c q) k end f) (rest_fits (blank n) l end g))
lexed ((block b c q) ∷ k) ((line d x r) ∷ l) a end e f g =
    trivia_both (block b c q) (line d x r) k l a end refl refl e f g (λ z h. lexed k l z end h (rest_fits (block b c q) k end f) (rest_fits (line d x r) l end g))
lexed ((block b c q) ∷ k) ((block d x r) ∷ l) a end e f g =
    trivia_both (block b c q) (block d x r) k l a end refl refl e f g (λ z h. lexed k l z end h (rest_fits (block b c q) k end f) (rest_fits (block d x r) l end g))
lexed ((block b c q) ∷ k) (token s n r ∷ l) a end e f g = absurd (differ (block b c q) s n r k l end refl e f g)
lexed (token t m q ∷ k) ((blank n) ∷ l) a end e f g = absurd (differ (blank n) t m q l k end refl (sym e) g f)
lexed (token t m q ∷ k) ((line d x r) ∷ l) a end e f g = absurd (differ (line d x r) t m q l k end refl (sym e) g f)
lexed (token t m q ∷ k) ((block d x r) ∷ l) a end e f g = absurd (differ (block d x r) t m q l k end refl (sym e) g f)
lexed (token t m q ∷ k) (token s n r ∷ l) a end e f g =
    tokens_both t s m n q r k l a end e f g (λ h. lexed k l false end h f.1 g.1)

pub one_list : (w : List Mark) (end : Goal) (s t : List Lexeme) → Lexes w end s → Lexes w end t → s ≡ t
one_list w end s t h k =
    h.gives ∙ lexed h.items k.items false end (sym h.spells ∙ k.spells) h.fits k.fits ∙ sym k.gives

-- the next token

pub record Same (x y : Lexeme) (v w : List ℕ) : Type 0 where
  pub token : x ≡ y
  pub rest : v ≡ w

pub one_next : (g : Goal) (u : List ℕ) (x y : Lexeme) (v w : List ℕ) → IsNextToken g u x v → IsNextToken g u y w → Same x y v w
one_next g u x y v w h k =
    let p = one_pass false u _ _ _ _ (next_passes g u x v h) (next_passes g u y w k) (stands-no_trivium g x.token h.token v h.stands) (stands-no_trivium g y.token k.token w k.stands) in
    let both : Some (x.token, length v) ≡ Some (y.token, length w) = sym (stands-token_at g x.token h.token v h.stands) ∙ ap (token_at g) p.1 ∙ stands-token_at g y.token k.token w k.stands in
    let same = pair_of _ _ both in
    let flags : x.newline ≡ y.newline = h.newline ∙ p.0 ∙ sym k.newline in
    let tokens : x.token ≡ y.token = same.token in
    let with_token : Token → Lexeme = λ t. record { token = t; newline = x.newline } in
    let with_flag : Bool → Lexeme = λ b. record { token = y.token; newline = b } in
    record {
      token = ap with_token tokens ∙ ap with_flag flags;
      rest = same_last h.token v k.token w p.1 same.left;
    }
