use Rattle.std.proofs.Common.{◌≡◌, length}
use Rattle.es5_lexer.specs.Reading.{longest_token, longest_from}
use Rattle.es5_lexer.proofs.longest.longest_token.Given as goal

abbrev pub invariant-token : goal.invariant-token
invariant-token l = longest_token l.fn.goal l.fn.text ≡ longest_from l.place l.best l.rest

abbrev pub decreases-token : goal.decreases-token
decreases-token l = length l.rest
