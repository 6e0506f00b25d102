-- Trivia at the beginning of a text: what is found is an item, and each item is found.
use Rattle.std.proofs.Common.{◌≡◌, ℕ, ◌≤◌, Bool, true, false, ◌&&◌, ◌||◌, ◌==◌, if◌then◌else◌, Option, Some, None, List, [], ◌∷◌, ◌++◌, length, inl, inr, refl, sym, ap, subst, ◌∙◌, arith}
use Rattle.std.specs.List.{list_any}
use Rattle.es5_lexer.specs.Characters.{is_line_end, is_space, is_line_end_class, is_space_class}
use Rattle.es5_lexer.specs.Trivia.{is_blank, is_line_comment, EndsLine, IsCommentRest, IsBlockComment}
use Rattle.es5_lexer.specs.Texts.{Mark, mark, chars, read_by, Item, blank, line, block, token, text, Fit, ended_by, ended_in, has_token, ended_after, lexemes}
use Rattle.es5_lexer.specs.Reading.{trivium_with, past_line, block_comment, comment, leading_trivium}
use Rattle.es5_lexer.specs.declared.tokens.Goal.{Goal}
use Rattle.es5_lexer.specs.declared.trivia.Trivium.{Trivium}
use Rattle.es5_lexer.proofs.Choices.{split, then_in, else_in, is_same, not_or, or_not}
use Rattle.es5_lexer.proofs.ClassLemmas.{slash}

-- characters and marks

pub chars-read_by : (g : Goal) (u : List ℕ) → chars (read_by g u) ≡ u
chars-read_by g [] = refl
chars-read_by g (c ∷ u) = ap (λ (w : List ℕ). c ∷ w) (chars-read_by g u)

pub read_by-append : (g : Goal) (a b : List ℕ) → read_by g (a ++ b) ≡ read_by g a ++ read_by g b
read_by-append g [] b = refl
read_by-append g (c ∷ a) b = ap (λ (w : List Mark). mark g c ∷ w) (read_by-append g a b)

pub chars-append : (a b : List Mark) → chars (a ++ b) ≡ chars a ++ chars b
chars-append [] b = refl
chars-append (m ∷ a) b = ap (λ (w : List ℕ). m.character ∷ w) (chars-append a b)

-- what an item at the beginning of the text is, and what it leaves
pub record IsTrivium (g : Goal) (w : List ℕ) (t : Trivium) : Type 0 where
  pub item : Item
  pub prefix : List ℕ
  pub rest : List ℕ
  pub nonempty : 1 ≤ length prefix
  pub splits : w ≡ prefix ++ rest
  pub left : t.left ≡ length rest
  pub spells : read_by g w ≡ text (item ∷ []) (read_by g rest)
  pub fits : Fit (item ∷ []) (read_by g rest) g
  pub only : has_token (item ∷ []) ≡ false
  pub flag : (ended : Bool) → ended_after ended (item ∷ []) ≡ (if t.ends_line then true else ended)

-- the rest of a line
record Line (u rest : List ℕ) : Type 0 where
  pub prefix : List ℕ
  pub splits : u ≡ prefix ++ rest
  pub is : is_line_comment prefix ≡ true
  pub ends : EndsLine rest

line_of : (u : List ℕ) → Line u (past_line u)
line_of [] = record { prefix = []; splits = refl; is = refl; ends = tt }
line_of (c ∷ u) = by_test (is_line_end c) refl (line_of u)
  where
    by_test : (b : Bool) → is_line_end c ≡ b → Line u (past_line u) → Line (c ∷ u) (if b then c ∷ u else past_line u)
    by_test true e l = record { prefix = []; splits = refl; is = refl; ends = e }
    by_test false e l = record {
      prefix = c ∷ l.prefix;
      splits = ap (λ (w : List ℕ). c ∷ w) l.splits;
      is = or_not _ _ e l.is;
      ends = l.ends;
    }

line_found : (q rest : List ℕ) → is_line_comment q ≡ true → EndsLine rest → past_line (q ++ rest) ≡ rest
line_found [] [] h e = refl
line_found [] (c ∷ u) h e = then_in (λ (w : List ℕ). w ≡ c ∷ u) (is_line_end c) _ _ e refl
line_found (c ∷ q) rest h e =
    let b = not_or (is_line_end c) (list_any is_line_end q) h in
    else_in (λ (w : List ℕ). w ≡ rest) (is_line_end c) _ _ b.0 (line_found q rest b.1 e)

-- a comment of several lines

pub ended_in-more : (ended : Bool) (c : ℕ) (u : List ℕ) → ended_in (ended_by ended c) u ≡ ended_in ended (c ∷ u)
ended_in-more ended c u = same (is_line_end c) (list_any is_line_end u)
  where
    same : (a b : Bool) → (if b then true else if a then true else ended) ≡ (if a || b then true else ended)
    same true true = refl
    same true false = refl
    same false true = refl
    same false false = refl

-- a slash ends no line
pub ended_in-slash : (ended : Bool) → ended_in ended (47 ∷ []) ≡ ended
ended_in-slash ended = else_in (λ (b : Bool). b ≡ ended) (is_line_end 47 || false) _ _ (off (is_line_end 47) (ap is_line_end_class slash)) refl
  where
    off : (a : Bool) → a ≡ false → (a || false) ≡ false
    off true h = h
    off false h = refl

block_found : (star ended : Bool) (q rest : List ℕ) → IsCommentRest star q → block_comment star ended (q ++ rest) ≡ trivium_with (ended_in ended q) rest
block_found star ended [] rest h = absurd h
block_found star ended (c ∷ q) rest (inl (t, e)) = closes c q (is_same c 47 (right star (c == 47) t)) e t
  where
    right : (a b : Bool) → (a && b) ≡ true → b ≡ true
    right true b x = x
    right false b x = absurd cc

    closes : (c : ℕ) (q : List ℕ) → c ≡ 47 → q ≡ [] → (star && (c == 47)) ≡ true → block_comment star ended (c ∷ (q ++ rest)) ≡ trivium_with (ended_in ended (c ∷ q)) rest
    closes c q is_slash is_end t =
        then_in (λ (o : Option Trivium). o ≡ trivium_with (ended_in ended (c ∷ q)) rest) (star && (c == 47)) _ _ t
        (subst (λ (x : List ℕ). trivium_with ended (x ++ rest) ≡ trivium_with (ended_in ended (c ∷ x)) rest) (sym is_end)
        (subst (λ (x : ℕ). trivium_with ended rest ≡ trivium_with (ended_in ended (x ∷ [])) rest) (sym is_slash)
        (ap (λ (b : Bool). trivium_with b rest) (sym (ended_in-slash ended)))))
block_found star ended (c ∷ q) rest (inr (t, h)) =
    else_in (λ (o : Option Trivium). o ≡ trivium_with (ended_in ended (c ∷ q)) rest) (star && (c == 47)) _ _ t
    (block_found (c == 42) (ended_by ended c) q rest h ∙ ap (λ (b : Bool). trivium_with b rest) (ended_in-more ended c q))

record Block (star ended : Bool) (u : List ℕ) (t : Trivium) : Type 0 where
  pub prefix : List ℕ
  pub rest : List ℕ
  pub splits : u ≡ prefix ++ rest
  pub is : IsCommentRest star prefix
  pub ends : t.ends_line ≡ ended_in ended prefix
  pub left : t.left ≡ length rest

block_of : (star ended : Bool) (u : List ℕ) (t : Trivium) → block_comment star ended u ≡ Some t → Block star ended u t
block_of star ended [] t e = absurd cc
block_of star ended (c ∷ u) t e =
    elim (split (λ (o : Option Trivium). o ≡ Some t) (star && (c == 47)) _ _ e) [
      | inl (b, f) ↦ let same : record { ends_line = ended; left = length u } ≡ t = cc in closed b same
      | inr (b, f) ↦ further b (block_of (c == 42) (ended_by ended c) u t f)
    ]
  where
    right : (a b : Bool) → (a && b) ≡ true → b ≡ true
    right true b x = x
    right false b x = absurd cc

    closed : (star && (c == 47)) ≡ true → record { ends_line = ended; left = length u } ≡ t → Block star ended (c ∷ u) t
    closed b same = record {
      prefix = c ∷ [];
      rest = u;
      splits = refl;
      is = inl (b, refl);
      ends = ap (λ (x : Trivium). x.ends_line) (sym same) ∙ sym (ended_in-slash ended) ∙ ap (λ (x : ℕ). ended_in ended (x ∷ [])) (sym (is_same c 47 (right star (c == 47) b)));
      left = ap (λ (x : Trivium). x.left) (sym same);
    }

    further : (star && (c == 47)) ≡ false → Block (c == 42) (ended_by ended c) u t → Block star ended (c ∷ u) t
    further b k = record {
      prefix = c ∷ k.prefix;
      rest = k.rest;
      splits = ap (λ (w : List ℕ). c ∷ w) k.splits;
      is = inr (b, k.is);
      ends = k.ends ∙ ended_in-more ended c k.prefix;
      left = k.left;
    }

-- flags
flag_in : (a ended : Bool) → (if a then true else ended) ≡ (if (if a then true else false) then true else ended)
flag_in true ended = refl
flag_in false ended = refl

-- what is found is an item

blank_is : (g : Goal) (c : ℕ) (u : List ℕ) (b : Bool) (t : Trivium) → is_blank c ≡ true → is_line_end c ≡ b → record { ends_line = b; left = length u } ≡ t → IsTrivium g (c ∷ u) t
blank_is g c u b t h e same =
    subst (λ (x : Trivium). IsTrivium g (c ∷ u) x) same (record {
      item = blank (mark g c);
      prefix = c ∷ [];
      rest = u;
      nonempty = omega arith;
      splits = refl;
      left = refl;
      spells = refl;
      fits = (h, tt);
      only = refl;
      flag = λ ended. ap (λ (x : Bool). if x then true else ended) e;
    })

line_is : (g : Goal) (c d : ℕ) (u : List ℕ) (t : Trivium) → c ≡ 47 → d ≡ 47 → record { ends_line = false; left = length (past_line u) } ≡ t → IsTrivium g (c ∷ d ∷ u) t
line_is g c d u t e f same =
    let l = line_of u in
    subst (λ (x : Trivium). IsTrivium g (c ∷ d ∷ u) x) same (record {
      item = line (mark g c) (mark g d) (read_by g l.prefix);
      prefix = c ∷ d ∷ l.prefix;
      rest = past_line u;
      nonempty = omega arith;
      splits = ap (λ (w : List ℕ). c ∷ d ∷ w) l.splits;
      left = refl;
      spells = ap (λ (w : List Mark). mark g c ∷ mark g d ∷ w) (ap (read_by g) l.splits ∙ read_by-append g l.prefix (past_line u));
      fits = ((e, f, subst (λ (w : List ℕ). is_line_comment w ≡ true) (sym (chars-read_by g l.prefix)) l.is), subst EndsLine (sym (chars-read_by g (past_line u))) l.ends, tt);
      only = refl;
      flag = λ ended. refl;
    })

block_is : (g : Goal) (c d : ℕ) (u : List ℕ) (t : Trivium) → c ≡ 47 → d ≡ 42 → Block false false u t → IsTrivium g (c ∷ d ∷ u) t
block_is g c d u t e f b = record {
  item = block (mark g c) (mark g d) (read_by g b.prefix);
  prefix = c ∷ d ∷ b.prefix;
  rest = b.rest;
  nonempty = omega arith;
  splits = ap (λ (w : List ℕ). c ∷ d ∷ w) b.splits;
  left = b.left;
  spells = ap (λ (w : List Mark). mark g c ∷ mark g d ∷ w) (ap (read_by g) b.splits ∙ read_by-append g b.prefix b.rest);
  fits = ((e, f, subst IsBlockComment (sym (chars-read_by g b.prefix)) b.is), tt);
  only = refl;
  flag = λ ended. ap (ended_in ended) (chars-read_by g b.prefix) ∙ flag_in (list_any is_line_end b.prefix) ended ∙ ap (λ (x : Bool). if x then true else ended) (sym b.ends);
}

comment_is : (g : Goal) (c : ℕ) (u : List ℕ) (t : Trivium) → c ≡ 47 → comment u ≡ Some t → IsTrivium g (c ∷ u) t
comment_is g c [] t e f = absurd cc
comment_is g c (d ∷ u) t e f =
    elim (split (λ (o : Option Trivium). o ≡ Some t) (d == 47) _ _ f) [
      | inl (b, h) ↦ let same : record { ends_line = false; left = length (past_line u) } ≡ t = cc in line_is g c d u t e (is_same d 47 b) same
      | inr (_, h) ↦ elim (split (λ (o : Option Trivium). o ≡ Some t) (d == 42) _ _ h) [
        | inl (b, k) ↦ block_is g c d u t e (is_same d 42 b) (block_of false false u t k)
        | inr (_, k) ↦ absurd cc
      ]
    ]

pub blank_by : (a b : Bool) → a ≡ true → (a || b) ≡ true
blank_by true b h = refl
blank_by false b h = absurd cc

pub blank_or : (a b : Bool) → b ≡ true → (a || b) ≡ true
blank_or true b h = refl
blank_or false b h = h

pub trivium_is : (g : Goal) (w : List ℕ) (t : Trivium) → leading_trivium w ≡ Some t → IsTrivium g w t
trivium_is g [] t e = absurd cc
trivium_is g (c ∷ u) t e =
    elim (split (λ (o : Option Trivium). o ≡ Some t) (is_line_end c) _ _ e) [
      | inl (b, f) ↦ let same : record { ends_line = true; left = length u } ≡ t = cc in blank_is g c u true t (blank_by (is_line_end c) (is_space c) b) b same
      | inr (l, f) ↦ elim (split (λ (o : Option Trivium). o ≡ Some t) (is_space c) _ _ f) [
        | inl (b, h) ↦ let same : record { ends_line = false; left = length u } ≡ t = cc in blank_is g c u false t (blank_or (is_line_end c) (is_space c) b) l same
        | inr (_, h) ↦ elim (split (λ (o : Option Trivium). o ≡ Some t) (c == 47) _ _ h) [
          | inl (b, k) ↦ comment_is g c u t (is_same c 47 b) k
          | inr (_, k) ↦ absurd cc
        ]
      ]
    ]

-- each item is found

-- whether an item holds a line terminator
abbrev pub item_ends : Item → Bool
item_ends (blank m) = is_line_end m.character
item_ends (line a b q) = false
item_ends (block a b q) = if list_any is_line_end (chars q) then true else false
item_ends (token t a q) = false

slash_first : (c d : ℕ) (u : List ℕ) → c ≡ 47 → leading_trivium (c ∷ d ∷ u) ≡ comment (d ∷ u)
slash_first c d u e =
    else_in (λ (o : Option Trivium). o ≡ comment (d ∷ u)) (is_line_end c) _ _ (ap is_line_end e ∙ ap is_line_end_class slash)
    (else_in (λ (o : Option Trivium). o ≡ comment (d ∷ u)) (is_space c) _ _ (ap is_space e ∙ ap is_space_class slash)
    (then_in (λ (o : Option Trivium). o ≡ comment (d ∷ u)) (c == 47) _ _ (ap (λ (x : ℕ). x == 47) e) refl))

pub item_found : (item : Item) (rest : List Mark) (end : Goal) → has_token (item ∷ []) ≡ false → Fit (item ∷ []) rest end → leading_trivium (chars (text (item ∷ []) rest)) ≡ trivium_with (item_ends item) (chars rest)
item_found (blank m) rest end o (h, _) = by_test (is_line_end m.character) (is_space m.character) h
  where
    by_test : (a b : Bool) → (a || b) ≡ true → (if a then trivium_with true (chars rest) else if b then trivium_with false (chars rest) else if m.character == 47 then comment (chars rest) else None) ≡ trivium_with a (chars rest)
    by_test true b h = refl
    by_test false true h = refl
    by_test false false h = absurd cc
item_found (line a b q) rest end o ((e, f, h), k, _) =
    slash_first a.character b.character (chars (q ++ rest)) e
    ∙ then_in (λ (o : Option Trivium). o ≡ trivium_with false (chars rest)) (b.character == 47) _ _ (ap (λ (x : ℕ). x == 47) f)
    (ap (trivium_with false) (ap past_line (chars-append q rest) ∙ line_found (chars q) (chars rest) h k))
item_found (block a b q) rest end o ((e, f, h), _) =
    slash_first a.character b.character (chars (q ++ rest)) e
    ∙ subst (λ (x : ℕ). comment (x ∷ chars (q ++ rest)) ≡ trivium_with (item_ends (block a b q)) (chars rest)) (sym f)
    (ap (block_comment false false) (chars-append q rest) ∙ block_found false false (chars q) (chars rest) h)
item_found (token t a q) rest end o h = absurd cc

pub item_flag : (item : Item) (items : List Item) (ended : Bool) → has_token (item ∷ []) ≡ false → ended_after ended (item ∷ items) ≡ ended_after (if item_ends item then true else ended) items
item_flag (blank m) items ended o = refl
item_flag (line a b q) items ended o = refl
item_flag (block a b q) items ended o =
    ap (λ (x : Bool). ended_after x items) (flag_in (list_any is_line_end (chars q)) ended)
item_flag (token t a q) items ended o = absurd cc

pub item_lexemes : (item : Item) (items : List Item) (ended : Bool) → has_token (item ∷ []) ≡ false → lexemes ended (item ∷ items) ≡ lexemes (if item_ends item then true else ended) items
item_lexemes (blank m) items ended o = refl
item_lexemes (line a b q) items ended o = refl
item_lexemes (block a b q) items ended o =
    ap (λ (x : Bool). lexemes x items) (flag_in (list_any is_line_end (chars q)) ended)
item_lexemes (token t a q) items ended o = absurd cc
