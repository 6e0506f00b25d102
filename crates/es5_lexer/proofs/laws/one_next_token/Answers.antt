use Rattle.es5_lexer.proofs.LawLemmas.{one_next}
use Rattle.es5_lexer.proofs.laws.one_next_token.Goals as goal

pub returns-clause-token : goal.returns-clause-token
returns-clause-token c g u x y v w h k = (one_next g u x y v w h k).token

pub returns-clause-rest : goal.returns-clause-rest
returns-clause-rest c g u x y v w h k = (one_next g u x y v w h k).rest
