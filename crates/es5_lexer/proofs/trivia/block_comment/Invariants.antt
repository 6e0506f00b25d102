use Rattle.std.proofs.Common.{◌≡◌, false, length}
use Rattle.es5_lexer.specs.Reading.{block_comment}
use Rattle.es5_lexer.proofs.trivia.block_comment.Given as goal

abbrev pub invariant-comment : goal.invariant-comment
invariant-comment l = block_comment false false l.text ≡ block_comment l.star l.ends_line l.rest

abbrev pub decreases-comment : goal.decreases-comment
decreases-comment l = length l.rest
