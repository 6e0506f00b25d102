-- A walk over trivia: each item is passed, and what is passed are items.
use Rattle.std.proofs.Common.{◌≡◌, ℕ, ◌<◌, Bool, true, false, if◌then◌else◌, Some, None, List, [], ◌∷◌, ◌++◌, length, refl, sym, ap, subst, ◌∙◌, append_assoc, length-append, arith}
use Rattle.es5_lexer.specs.Texts.{Mark, chars, read_by, Item, blank, line, block, token, text, Fit, has_token, ended_after}
use Rattle.es5_lexer.specs.Reading.{last, leading_trivium, Passes, none, one}
use Rattle.es5_lexer.specs.declared.tokens.Goal.{Goal}
use Rattle.es5_lexer.specs.declared.tokens.Goal.TheVariants.{Div}
use Rattle.es5_lexer.specs.declared.trivia.Trivium.{Trivium}
use Rattle.es5_lexer.proofs.ListLemmas.{last-is}
use Rattle.es5_lexer.proofs.TriviaLemmas.{chars-append as chars_both, trivium_is, item_ends, item_found, item_flag}

pub start : (u : List ℕ) → Passes false u false u
start u = none false u

-- one item more at the end of the walk
pub passes_more : (a : Bool) (u : List ℕ) (b : Bool) (v : List ℕ) (t : Trivium) → Passes a u b v → leading_trivium v ≡ Some t → Passes a u (if t.ends_line then true else b) (last t.left v)
passes_more _ _ _ _ t (none a u) e = one a u t _ _ e (none _ _)
passes_more _ _ _ _ t (one a u s b v f p) e = one a u s _ _ f (passes_more _ _ b v t p e)

-- what is left is the last part of the text
pub record Part (u v : List ℕ) : Type 0 where
  pub prefix : List ℕ
  pub splits : u ≡ prefix ++ v

pub trivium_less : (u : List ℕ) (t : Trivium) → leading_trivium u ≡ Some t → t.left < length u
trivium_less u t e =
    let i = trivium_is Div u t e in
    omega (arith, ap length i.splits, length-append i.prefix i.rest, i.left, i.nonempty)

pub passes_part : (a : Bool) (u : List ℕ) (b : Bool) (v : List ℕ) → Passes a u b v → Part u v
passes_part _ _ _ _ (none a u) = record { prefix = []; splits = refl }
passes_part _ _ _ _ (one a u t b v e p) =
    let i = trivium_is Div u t e in
    let r = passes_part _ _ b v p in
    let rest : last t.left u ≡ i.rest = last-is u i.prefix i.rest t.left i.splits i.left in
    record {
      prefix = i.prefix ++ r.prefix;
      splits = i.splits ∙ ap (λ (w : List ℕ). i.prefix ++ w) (sym rest ∙ r.splits) ∙ sym (append_assoc i.prefix r.prefix v);
    }

-- one walk goes to where no trivia begin
pub one_pass : (a : Bool) (u : List ℕ) (b c : Bool) (v w : List ℕ) → Passes a u b v → Passes a u c w → leading_trivium v ≡ None → leading_trivium w ≡ None → (b ≡ c) × (v ≡ w)
one_pass _ _ _ _ _ _ (none a u) (none _ _) e f = (refl, refl)
one_pass _ _ _ _ _ _ (none a u) (one _ _ s c w g q) e f = absurd cc
one_pass _ _ _ _ _ _ (one a u t b v h p) (none _ _) e f = absurd cc
one_pass _ _ _ _ _ _ (one a u t b v h p) (one _ _ s c w g q) e f =
    let same : s ≡ t = cc in
    one_pass _ _ b c v w p (subst (λ (x : Trivium). Passes (if x.ends_line then true else a) (last x.left u) c w) same q) e f

-- what is passed are items
pub record AreTrivia (g : Goal) (a : Bool) (u : List ℕ) (b : Bool) (v : List ℕ) : Type 0 where
  pub items : List Item
  pub only : has_token items ≡ false
  pub spells : read_by g u ≡ text items (read_by g v)
  pub fits : Fit items (read_by g v) g
  pub flag : ended_after a items ≡ b

-- an item before items
first_has : (i : Item) (items : List Item) → has_token (i ∷ []) ≡ false → has_token (i ∷ items) ≡ has_token items
first_has (blank m) items h = refl
first_has (line a b q) items h = refl
first_has (block a b q) items h = refl
first_has (token t a q) items h = absurd cc

first_text : (i : Item) (items : List Item) (rest : List Mark) → text (i ∷ []) (text items rest) ≡ text (i ∷ items) rest
first_text (blank m) items rest = refl
first_text (line a b q) items rest = refl
first_text (block a b q) items rest = refl
first_text (token t a q) items rest = refl

first_fits : (i : Item) (items : List Item) (rest : List Mark) (g : Goal) → has_token (i ∷ []) ≡ false → Fit (i ∷ []) (text items rest) g → Fit items rest g → Fit (i ∷ items) rest g
first_fits (blank m) items rest g o h k = (h.0, k)
first_fits (line a b q) items rest g o h k = (h.0, h.1, k)
first_fits (block a b q) items rest g o h k = (h.0, k)
first_fits (token t a q) items rest g o h k = absurd cc

first_flag : (i : Item) (items : List Item) (a : Bool) → ended_after a (i ∷ items) ≡ ended_after (ended_after a (i ∷ [])) items
first_flag (blank m) items a = refl
first_flag (line b c q) items a = refl
first_flag (block b c q) items a = refl
first_flag (token t b q) items a = refl

pub passes_items : (g : Goal) (a : Bool) (u : List ℕ) (b : Bool) (v : List ℕ) → Passes a u b v → AreTrivia g a u b v
passes_items g _ _ _ _ (none a u) = record { items = []; only = refl; spells = refl; fits = tt; flag = refl }
passes_items g _ _ _ _ (one a u t b v e p) =
    let i = trivium_is g u t e in
    let rest : last t.left u ≡ i.rest = last-is u i.prefix i.rest t.left i.splits i.left in
    let k = passes_items g _ _ b v p in
    let after : read_by g i.rest ≡ text k.items (read_by g v) = ap (read_by g) (sym rest) ∙ k.spells in
    record {
      items = i.item ∷ k.items;
      only = first_has i.item k.items i.only ∙ k.only;
      spells = i.spells ∙ ap (text (i.item ∷ [])) after ∙ first_text i.item k.items (read_by g v);
      fits = first_fits i.item k.items (read_by g v) g i.only (subst (λ (w : List Mark). Fit (i.item ∷ []) w g) after i.fits) k.fits;
      flag = first_flag i.item k.items a ∙ ap (λ (x : Bool). ended_after x k.items) (i.flag a) ∙ k.flag;
    }

-- and items are passed

only_first : (i : Item) (items : List Item) → has_token (i ∷ items) ≡ false → (has_token (i ∷ []) ≡ false) × (has_token items ≡ false)
only_first (blank m) items h = (refl, h)
only_first (line a b q) items h = (refl, h)
only_first (block a b q) items h = (refl, h)
only_first (token t a q) items h = absurd cc

pub fits_first : (i : Item) (items : List Item) (rest : List Mark) (g : Goal) → has_token (i ∷ []) ≡ false → Fit (i ∷ items) rest g → Fit (i ∷ []) (text items rest) g × Fit items rest g
fits_first (blank m) items rest g o h = ((h.0, tt), h.1)
fits_first (line a b q) items rest g o h = ((h.0, h.1, tt), h.2)
fits_first (block a b q) items rest g o h = ((h.0, tt), h.1)
fits_first (token t a q) items rest g o h = absurd cc

-- the text after an item is its last part
item_part : (i : Item) (rest : List Mark) → Part (chars (text (i ∷ []) rest)) (chars rest)
item_part (blank m) rest = record { prefix = m.character ∷ []; splits = refl }
item_part (line a b q) rest = record { prefix = a.character ∷ b.character ∷ chars q; splits = ap (λ (w : List ℕ). a.character ∷ b.character ∷ w) (chars_both q rest) }
item_part (block a b q) rest = record { prefix = a.character ∷ b.character ∷ chars q; splits = ap (λ (w : List ℕ). a.character ∷ b.character ∷ w) (chars_both q rest) }
item_part (token t a q) rest = record { prefix = a.character ∷ chars q; splits = ap (λ (w : List ℕ). a.character ∷ w) (chars_both q rest) }

pub items_pass : (items : List Item) (rest : List Mark) (g : Goal) (a : Bool) → has_token items ≡ false → Fit items rest g → Passes a (chars (text items rest)) (ended_after a items) (chars rest)
items_pass [] rest g a o h = none a (chars rest)
items_pass (i ∷ items) rest g a o h =
    let s = only_first i items o in
    let f = fits_first i items rest g s.0 h in
    let found = item_found i (text items rest) g s.0 f.0 in
    let t : Trivium = record { ends_line = item_ends i; left = length (chars (text items rest)) } in
    let part = item_part i (text items rest) in
    let after : last t.left (chars (text (i ∷ []) (text items rest))) ≡ chars (text items rest) = last-is _ part.prefix _ t.left part.splits refl in
    let p = items_pass items rest g (if item_ends i then true else a) s.1 f.1 in
    subst (λ (w : List Mark). Passes a (chars w) (ended_after a (i ∷ items)) (chars rest)) (first_text i items rest)
    (one a (chars (text (i ∷ []) (text items rest))) t _ (chars rest) found
    (subst (λ (b : Bool). Passes (if item_ends i then true else a) (last t.left (chars (text (i ∷ []) (text items rest)))) b (chars rest)) (sym (item_flag i items a s.0))
    (subst (λ (w : List ℕ). Passes (if item_ends i then true else a) w (ended_after (if item_ends i then true else a) items) (chars rest)) (sym after) p)))

-- the same walk, by other names
pub passes_next : (u : List ℕ) (b : Bool) (v : List ℕ) (t : Trivium) (c : Bool) (w : List ℕ) → Passes false u b v → leading_trivium v ≡ Some t → c ≡ (if t.ends_line then true else b) → w ≡ last t.left v → Passes false u c w
passes_next u b v t c w p e f g =
    subst (λ (x : Bool). Passes false u x w) (sym f)
    (subst (λ (x : List ℕ). Passes false u (if t.ends_line then true else b) x) (sym g) (passes_more false u b v t p e))
