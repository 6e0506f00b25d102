use Rattle.es5_lexer.proofs.EitherLemmas.{has_reading, reading_has}
use Rattle.es5_lexer.proofs.laws.either_reading.Goals as goal

pub returns : goal.returns
returns c u tokens = (has_reading u tokens, reading_has u tokens)
