use Rattle.std.proofs.Common.{false, length}
use Rattle.es5_lexer.specs.Reading.{Passes}
use Rattle.es5_lexer.proofs.next.after_trivia.Given as goal

abbrev pub invariant-trivia : goal.invariant-trivia
invariant-trivia l = Passes false l.fn.text l.newline l.rest

abbrev pub decreases-trivia : goal.decreases-trivia
decreases-trivia l = length l.rest
