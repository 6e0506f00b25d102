use Rattle.std.proofs.Common.{◌≡◌, ◌≤◌, ◌-◌, ◌++◌, List, true, length, take}
use Rattle.std.specs.List.{list_all}
use Rattle.std.specs.Char.{is_ascii}
use Rattle.es5_lexer.specs.Texts.{Mark, chars, Lexes}
use Rattle.es5_lexer.specs.Lexing.{HasRead}
use Rattle.es5_lexer.specs.declared.tokens.Goal.{Goal}
use Rattle.es5_lexer.specs.declared.tokens.Lexeme.{Lexeme}
use Rattle.es5_lexer.proofs.lexer.Lexer.feed_parts.Given as goal

abbrev pub invariant-parts : goal.invariant-parts
invariant-parts l = record {
  state : l.self.state ≡ l.initial.self.state;
  within : l.count ≤ length l.piece;
  ascii : list_all is_ascii (take l.count l.piece) ≡ true;
  reads : (m : List Mark) (given : List Lexeme) → HasRead l.initial.self m given → (q : List Mark) → chars q ≡ take l.count l.piece → HasRead l.self (m ++ q) given;
  asks : (m : List Mark) (given : List Lexeme) → HasRead l.initial.self m given → (p q w : List Mark) → chars p ≡ take l.count l.piece → chars q ≡ take l.count l.piece
      → (end : Goal) (tokens : List Lexeme) → Lexes (m ++ (p ++ w)) end tokens → Lexes (m ++ (q ++ w)) end tokens;
}

abbrev pub decreases-parts : goal.decreases-parts
decreases-parts l = length l.piece - l.count
