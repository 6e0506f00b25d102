-- The next token, from the walk over trivia and what stands after it.
use Rattle.std.proofs.Common.{◌≡◌, ℕ, ◌-◌, ◌≤◌, Bool, false, Some, None, List, [], ◌∷◌, ◌++◌, length, take, drop, refl, sym, ap, subst, ◌∙◌, append_assoc, length-append, arith}
use Rattle.std.proofs.lemmas.List.{take-append-drop}
use Rattle.es5_lexer.specs.Texts.{chars, read_by, Item, blank, line, block, token, text, Fit, has_token, ended_by, ended_in, ended_after, lexemes, Lexes, IsNextToken}
use Rattle.es5_lexer.specs.Reading.{last, leading_trivium, Passes, token_at}
use Rattle.es5_lexer.specs.declared.tokens.Goal.{Goal}
use Rattle.es5_lexer.specs.declared.tokens.Token.{Token}
use Rattle.es5_lexer.specs.declared.tokens.Lexeme.{Lexeme}
use Rattle.es5_lexer.proofs.ListLemmas.{last-is}
use Rattle.es5_lexer.proofs.TriviaLemmas.{chars-read_by}
use Rattle.es5_lexer.proofs.TokenLemmas.{token_at-some, stands-token_at, stands-no_trivium}
use Rattle.es5_lexer.proofs.PassLemmas.{passes_part, passes_items, items_pass, one_pass}

-- the token found, and where it ends in the text
pub record Next (g : Goal) (u text : List ℕ) (x : Lexeme) (n : ℕ) : Type 0 where
  pub few : n ≤ length text
  pub is : IsNextToken g u x (drop (length text - n) text)

pub found_next : (g : Goal) (w : List ℕ) (place : ℕ) (v : List ℕ) (b : Bool) (t : Token) (n : ℕ) → Passes false (drop place w) b v → token_at g v ≡ Some (t, n) → Next g (drop place w) w (record { token = t; newline = b }) n
found_next g w place v b t n p e =
    let s = token_at-some g v t n e in
    let part = passes_part false (drop place w) b v p in
    let k = passes_items g false (drop place w) b v p in
    let before : List ℕ = take place w ++ (part.prefix ++ s.prefix) in
    let whole : w ≡ before ++ s.rest = sym (take-append-drop place w) ∙ ap (λ (x : List ℕ). take place w ++ x) (part.splits ∙ ap (λ (x : List ℕ). part.prefix ++ x) s.splits ∙ sym (append_assoc part.prefix s.prefix s.rest)) ∙ sym (append_assoc (take place w) (part.prefix ++ s.prefix) s.rest) in
    let rest : last n w ≡ s.rest = last-is w before s.rest n whole s.left in
    record {
      few = omega (arith, ap length whole, length-append before s.rest, s.left);
      is = subst (λ (r : List ℕ). IsNextToken g (drop place w) (record { token = t; newline = b }) r) (sym rest) (record {
        trivia = k.items;
        only = k.only;
        token = s.prefix;
        spells = k.spells ∙ ap (λ (x : List ℕ). text k.items (read_by g x)) s.splits;
        fits = subst (λ (x : List ℕ). Fit k.items (read_by g x) g) s.splits k.fits;
        stands = s.stands;
        newline = sym k.flag;
      });
    }

-- the walk over the trivia of a next token
pub next_passes : (g : Goal) (u : List ℕ) (x : Lexeme) (rest : List ℕ) (h : IsNextToken g u x rest) → Passes false u (ended_after false h.trivia) (h.token ++ rest)
next_passes g u x rest h =
    let p = items_pass h.trivia (read_by g (h.token ++ rest)) g false h.only h.fits in
    subst (λ (w : List ℕ). Passes false w (ended_after false h.trivia) (h.token ++ rest)) (sym (ap chars h.spells) ∙ chars-read_by g u)
    (subst (λ (w : List ℕ). Passes false (chars (text h.trivia (read_by g (h.token ++ rest)))) (ended_after false h.trivia) w) (chars-read_by g (h.token ++ rest)) p)

pub none_next : (g : Goal) (u v : List ℕ) (b : Bool) → Passes false u b v → leading_trivium v ≡ None → token_at g v ≡ None → (x : Lexeme) (rest : List ℕ) → IsNextToken g u x rest → ⊥
none_next g u v b p e f x rest h =
    let q = next_passes g u x rest h in
    let same = one_pass false u b (ended_after false h.trivia) v (h.token ++ rest) p q e (stands-no_trivium g x.token h.token rest h.stands) in
    let found = stands-token_at g x.token h.token rest h.stands in
    let nothing : token_at g (h.token ++ rest) ≡ None = ap (token_at g) (sym same.1) ∙ f in
    absurd cc

no_tokens : (items : List Item) (a : Bool) → lexemes a items ≡ [] → has_token items ≡ false
no_tokens [] a e = refl
no_tokens (blank m ∷ items) a e = no_tokens items (ended_by a m.character) e
no_tokens (line b c q ∷ items) a e = no_tokens items a e
no_tokens (block b c q ∷ items) a e = no_tokens items (ended_in a (chars q)) e
no_tokens (token t b q ∷ items) a e = absurd cc

tokens_no : (items : List Item) (a : Bool) → has_token items ≡ false → [] ≡ lexemes a items
tokens_no [] a e = refl
tokens_no (blank m ∷ items) a e = tokens_no items (ended_by a m.character) e
tokens_no (line b c q ∷ items) a e = tokens_no items a e
tokens_no (block b c q ∷ items) a e = tokens_no items (ended_in a (chars q)) e
tokens_no (token t b q ∷ items) a e = absurd cc

-- all is trivia exactly where the walk comes to the end
pub record Only (g : Goal) (u v : List ℕ) : Type 0 where
  pub goes : v ≡ [] → Lexes (read_by g u) g []
  pub comes : Lexes (read_by g u) g [] → v ≡ []

pub only_trivia : (g : Goal) (u v : List ℕ) (b : Bool) → Passes false u b v → leading_trivium v ≡ None → Only g u v
only_trivia g u v b p e = record {
  goes = λ is_end.
      let k = passes_items g false u b v p in
      record {
        items = k.items;
        spells = k.spells ∙ ap (λ (w : List ℕ). text k.items (read_by g w)) is_end;
        fits = subst (λ (w : List ℕ). Fit k.items (read_by g w) g) is_end k.fits;
        gives = tokens_no k.items false k.only;
      };
  comes = λ h.
      let q = items_pass h.items [] g false (no_tokens h.items false (sym h.gives)) h.fits in
      let r = subst (λ (w : List ℕ). Passes false w (ended_after false h.items) []) (sym (ap chars h.spells) ∙ chars-read_by g u) q in
      (one_pass false u b (ended_after false h.items) v [] p r e refl).1;
}

-- the same walk, from a text by another name
pub passes_at : (u w : List ℕ) (b : Bool) (v : List ℕ) → u ≡ w → Passes false u b v → Passes false w b v
passes_at u w b v e p = subst (λ (x : List ℕ). Passes false x b v) e p
