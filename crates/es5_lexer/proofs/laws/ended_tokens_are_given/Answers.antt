use Rattle.es5_lexer.proofs.GivenLemmas.{ended_given}
use Rattle.es5_lexer.proofs.laws.ended_tokens_are_given.Goals as goal

pub returns : goal.returns
returns c lexer m last given h w end tokens x = ended_given lexer m last given h w end tokens x
