use Rattle.es5_lexer.proofs.LexerLemmas.{stays}
use Rattle.es5_lexer.proofs.laws.given_tokens_stay.Goals as goal

pub returns : goal.returns
returns c v m given h w end tokens l = stays v m given h w end tokens l
