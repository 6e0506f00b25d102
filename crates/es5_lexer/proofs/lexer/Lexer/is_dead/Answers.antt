use Rattle.es5_lexer.proofs.AliveLemmas.{dead_exactly}
use Rattle.es5_lexer.proofs.lexer.Lexer.is_dead.Goals as goal

pub returns : goal.returns
returns c m given h = dead_exactly c.args.self.now m given c.is_dead.result c.is_dead.ensures h
