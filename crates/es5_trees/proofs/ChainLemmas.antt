-- The levels of binary operators spell what flat chains spell.
use Rattle.std.proofs.Common.{◌≡◌, ℕ, suc, ◌≤◌, Bool, true, List, ◌∷◌, ◌⊎◌, inl, inr, refl, sym, ap, subst, ◌∙◌, arith}
use Rattle.std.proofs.lemmas.Bool.{cases_lt}
use Rattle.es5_lexer.specs.declared.tokens.Lexeme.{Lexeme}
use Rattle.es5_trees.specs.Words.{level}
use Rattle.es5_trees.specs.Trees.{Binary, operand, operation, Unary}
use Rattle.es5_trees.specs.Spelling.{binary_text, unary_text}
use Rattle.es5_trees.specs.Endings.{Ending, unary_ending, binary_ending}
use Rattle.es5_trees.specs.Good.{GoodBinary, GoodUnary, may_stand}
use Rattle.es5_trees.specs.Chains.{Tail, nothing, further, tail_text, GoodTail, chain_ending, SpellsLevels, SpellsChain}

-- from levels to chains

first_of : Binary → Unary
first_of (operand u) = u
first_of (operation a x b) = first_of a

tail_of : Binary → Tail → Tail
tail_of (operand u) tail = tail
tail_of (operation a x b) tail = tail_of a (further x (first_of b) (tail_of b tail))

-- what a chain ends in whose first operand ends so
ending_after : Ending → Tail → Ending
ending_after k nothing = k
ending_after k (further x u tail) = chain_ending u tail

flat_text : (b : Binary) (tail : Tail) (rest : List Lexeme) → binary_text b (tail_text tail rest) ≡ unary_text (first_of b) (tail_text (tail_of b tail) rest)
unfolding first_of tail_of
flat_text (operand u) tail rest = refl
flat_text (operation a x b) tail rest =
    ap (λ (w : List Lexeme). binary_text a (x ∷ w)) (flat_text b tail rest)
    ∙ flat_text a (further x (first_of b) (tail_of b tail)) rest

good_first : (i : Bool) (n : ℕ) (b : Binary) (tail : Tail) (rest : List Lexeme) → GoodBinary i n b (tail_text tail rest) → GoodUnary (first_of b) (tail_text (tail_of b tail) rest)
unfolding first_of tail_of
good_first i n (operand u) tail rest h = h
good_first i n (operation a x b) tail rest h =
    good_first i (level x.token) a (further x (first_of b) (tail_of b tail)) rest
    (subst (λ (w : List Lexeme). GoodBinary i (level x.token) a (x ∷ w)) (flat_text b tail rest) h.1)

good_tail : (i : Bool) (n : ℕ) (b : Binary) (tail : Tail) (rest : List Lexeme) → GoodBinary i n b (tail_text tail rest) → GoodTail i tail rest → GoodTail i (tail_of b tail) rest
unfolding first_of tail_of
good_tail i n (operand u) tail rest h k = k
good_tail i n (operation a x b) tail rest h k =
    good_tail i (level x.token) a (further x (first_of b) (tail_of b tail)) rest
    (subst (λ (w : List Lexeme). GoodBinary i (level x.token) a (x ∷ w)) (flat_text b tail rest) h.1)
    ((h.0.1, h.0.2), good_first i (suc (level x.token)) b tail rest h.2, good_tail i (suc (level x.token)) b tail rest h.2 k)

flat_ending : (b : Binary) (tail : Tail) → chain_ending (first_of b) (tail_of b tail) ≡ ending_after (binary_ending b) tail
unfolding first_of tail_of ending_after
flat_ending (operand u) nothing = refl
flat_ending (operand u) (further x v tail) = refl
flat_ending (operation a x b) tail = flat_ending a (further x (first_of b) (tail_of b tail)) ∙ flat_ending b tail

pub levels_chain : (i : Bool) (k : Ending) (tokens rest : List Lexeme) → SpellsLevels i k tokens rest → SpellsChain i k tokens rest
unfolding ending_after
levels_chain i k tokens rest h = record {
  first = first_of h.tree;
  tail = tail_of h.tree nothing;
  good_first = good_first i 1 h.tree nothing rest h.good;
  good_tail = good_tail i 1 h.tree nothing rest h.good tt;
  ends = flat_ending h.tree nothing ∙ h.ends;
  spells = h.spells ∙ flat_text h.tree nothing rest;
}

-- from chains to levels

-- a tree with an operator and an operand more at its right
record Grown (i : Bool) (n : ℕ) (b : Binary) (x : Lexeme) (u : Unary) (rest : List Lexeme) : Type 0 where
  pub tree : Binary
  pub good : GoodBinary i n tree rest
  pub ends : binary_ending tree ≡ unary_ending u
  pub spells : binary_text tree rest ≡ binary_text b (x ∷ unary_text u rest)

compare : (m n : ℕ) → (m ≤ n) ⊎ (suc n ≤ m)
compare m n = elim (cases_lt n m) [ inl less ↦ inr (omega arith) | inr most ↦ inl most ]

grown : (i : Bool) (n : ℕ) (b : Binary) (x : Lexeme) (u : Unary) (rest : List Lexeme) → GoodBinary i n b (x ∷ unary_text u rest) → n ≤ level x.token → 1 ≤ level x.token → may_stand i x.token ≡ true → GoodUnary u rest → Grown i n b x u rest
grown i n (operand v) x u rest h low some may good = record {
  tree = operation (operand v) x (operand u);
  good = ((low, some, may), h, good);
  ends = refl;
  spells = refl;
}
grown i n (operation a y c) x u rest h low some may good =
    elim (compare (level x.token) (level y.token)) [
      | inl looser ↦ record {
        tree = operation (operation a y c) x (operand u);
        good = ((low, some, may), ((looser, h.0.1, h.0.2), h.1, h.2), good);
        ends = refl;
        spells = refl;
      }
      | inr tighter ↦
          let g = grown i (suc (level y.token)) c x u rest h.2 tighter some may good in
          record {
            tree = operation a y g.tree;
            good = (h.0, subst (λ (w : List Lexeme). GoodBinary i (level y.token) a (y ∷ w)) (sym g.spells) h.1, g.good);
            ends = g.ends;
            spells = ap (λ (w : List Lexeme). binary_text a (y ∷ w)) g.spells;
          }
    ]

record Built (i : Bool) (b : Binary) (tail : Tail) (rest : List Lexeme) : Type 0 where
  pub tree : Binary
  pub good : GoodBinary i 1 tree rest
  pub ends : binary_ending tree ≡ ending_after (binary_ending b) tail
  pub spells : binary_text tree rest ≡ binary_text b (tail_text tail rest)

built : (i : Bool) (b : Binary) (tail : Tail) (rest : List Lexeme) → GoodBinary i 1 b (tail_text tail rest) → GoodTail i tail rest → Built i b tail rest
unfolding ending_after
built i b nothing rest h k = record { tree = b; good = h; ends = refl; spells = refl }
built i b (further x u tail) rest h k =
    let g = grown i 1 b x u (tail_text tail rest) h k.0.0 k.0.0 k.0.1 k.1 in
    let r = built i g.tree tail rest g.good k.2 in
    record { tree = r.tree; good = r.good; ends = r.ends ∙ ending_along (binary_ending g.tree) u tail g.ends; spells = r.spells ∙ g.spells }
  where
    ending_along : (k : Ending) (v : Unary) (more : Tail) → k ≡ unary_ending v → ending_after k more ≡ chain_ending v more
    ending_along k v nothing e = e
    ending_along k v (further y w others) e = refl

pub chain_levels : (i : Bool) (k : Ending) (tokens rest : List Lexeme) → SpellsChain i k tokens rest → SpellsLevels i k tokens rest
unfolding ending_after
chain_levels i k tokens rest h =
    let b = built i (operand h.first) h.tail rest h.good_first h.good_tail in
    record { tree = b.tree; good = b.good; ends = b.ends ∙ start_ending h.first h.tail ∙ h.ends; spells = h.spells ∙ sym b.spells }
  where
    start_ending : (u : Unary) (tail : Tail) → ending_after (unary_ending u) tail ≡ chain_ending u tail
    start_ending u nothing = refl
    start_ending u (further x v tail) = refl
