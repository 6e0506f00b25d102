use Rattle.std.proofs.Common.{length}
use Rattle.es5_lexer.proofs.LetterLemmas.{NameFrom}
use Rattle.es5_lexer.proofs.letters.Letters.of_name.Given as goal

abbrev pub invariant-name : goal.invariant-name
invariant-name l = NameFrom l.letters l.place l.rest l.fn.text

abbrev pub decreases-name : goal.decreases-name
decreases-name l = length l.rest
