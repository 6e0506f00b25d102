use Rattle.std.proofs.Common.{List, ◌++◌, take}
use Rattle.es5_lexer.specs.declared.tokens.Lexeme.{Lexeme}
use Rattle.es5_machine.specs.Reading.{HasRead}
use Rattle.es5_machine.proofs.scripts.step_all.Given as goal

abbrev pub invariant-loop-x : goal.invariant-loop-x
invariant-loop-x l = (given : List Lexeme) → HasRead l.initial.machine given → HasRead l.machine (given ++ take l.x-index l.tokens)
