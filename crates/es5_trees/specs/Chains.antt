-- Flat chains: operands with binary operators between, whatever the levels.
use Rattle.std.specs.Prelude.{◌≡◌, ◌≤◌, Bool, true, List, ◌∷◌}
use Rattle.es5_lexer.specs.declared.tokens.Lexeme.{Lexeme}
use Rattle.es5_trees.specs.Words.{level}
use Rattle.es5_trees.specs.Trees.{Binary, Unary}
use Rattle.es5_trees.specs.Spelling.{binary_text, unary_text}
use Rattle.es5_trees.specs.Endings.{Ending, unary_ending, binary_ending}
use Rattle.es5_trees.specs.Good.{GoodBinary, GoodUnary, may_stand}

-- what stands after the first operand
pub data Tail : Type 0 where
  nothing : Tail
  further : Lexeme → Unary → Tail → Tail

abbrev pub tail_text : Tail → List Lexeme → List Lexeme
tail_text nothing rest = rest
tail_text (further x u tail) rest = x ∷ unary_text u (tail_text tail rest)

-- binary operators, `in` only where it may stand, and good operands
abbrev pub GoodTail : Bool → Tail → List Lexeme → Type 0
GoodTail with_in nothing rest = Unit {0}
GoodTail with_in (further x u tail) rest =
    ((1 ≤ level x.token) × (may_stand with_in x.token ≡ true))
    × GoodUnary u (tail_text tail rest)
    × GoodTail with_in tail rest

-- what a chain ends in: the last operand tells
abbrev pub chain_ending : Unary → Tail → Ending
chain_ending u nothing = unary_ending u
chain_ending u (further x v tail) = chain_ending v tail

-- the tokens are those of a tree with its operators at their levels that ends so, and the rest
pub record SpellsLevels (with_in : Bool) (ending : Ending) (tokens rest : List Lexeme) : Type 0 where
  pub tree : Binary
  pub good : GoodBinary with_in 1 tree rest
  pub ends : binary_ending tree ≡ ending
  pub spells : tokens ≡ binary_text tree rest

-- the tokens are those of a flat chain that ends so, and the rest
pub record SpellsChain (with_in : Bool) (ending : Ending) (tokens rest : List Lexeme) : Type 0 where
  pub first : Unary
  pub tail : Tail
  pub good_first : GoodUnary first (tail_text tail rest)
  pub good_tail : GoodTail with_in tail rest
  pub ends : chain_ending first tail ≡ ending
  pub spells : tokens ≡ unary_text first (tail_text tail rest)
