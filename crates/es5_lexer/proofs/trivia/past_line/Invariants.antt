use Rattle.std.proofs.Common.{◌≡◌, length}
use Rattle.es5_lexer.specs.Reading.{past_line}
use Rattle.es5_lexer.proofs.trivia.past_line.Given as goal

abbrev pub invariant-line : goal.invariant-line
invariant-line l = past_line l.text ≡ past_line l.rest

abbrev pub decreases-line : goal.decreases-line
decreases-line l = length l.rest
