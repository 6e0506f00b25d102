use Rattle.es5_lexer.proofs.LawLemmas.{one_list}
use Rattle.es5_lexer.proofs.laws.one_list_of_tokens.Goals as goal

pub returns : goal.returns
returns c w end s t h k = one_list w end s t h k
