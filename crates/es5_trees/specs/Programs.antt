-- Programs (ECMA-262 5.1, section 14).
use Rattle.std.specs.Prelude.{◌≡◌, ℕ, ◌≤◌, List, [], ◌∷◌, ◌++◌}
use Rattle.es5_lexer.specs.declared.tokens.Lexeme.{Lexeme}
use Rattle.es5_trees.specs.Trees.{Elements}
use Rattle.es5_trees.specs.Spelling.{elements_text}
use Rattle.es5_trees.specs.Depths.{greatest, elements_depths}
use Rattle.es5_trees.specs.Good.{GoodElements}

-- the tokens are those of a program that nests at most so deep: no more units are open at any token
pub record IsProgramWithin (bound : ℕ) (tokens : List Lexeme) : Type 0 where
  pub program : Elements
  pub good : GoodElements program []
  pub shallow : greatest (elements_depths 0 program []) ≤ bound
  pub spells : tokens ≡ elements_text program []

-- the tokens are those of a program that nests at most 1,024 deep
abbrev pub IsProgram : List Lexeme → Type 0
IsProgram tokens = IsProgramWithin 1024 tokens

-- as many of the depths as there are tokens
abbrev pub firsts : List Lexeme → List ℕ → List ℕ
firsts [] ns = []
firsts (x ∷ tokens) [] = []
firsts (x ∷ tokens) (n ∷ ns) = n ∷ firsts tokens ns

-- a program begins with the tokens, and at most 1,024 of its units are open at each of them; what
-- follows them may open more
pub record IsViable (tokens : List Lexeme) : Type 0 where
  pub others : List Lexeme
  pub program : Elements
  pub good : GoodElements program []
  pub spells : tokens ++ others ≡ elements_text program []
  pub shallow : greatest (firsts tokens (elements_depths 0 program [])) ≤ 1024
