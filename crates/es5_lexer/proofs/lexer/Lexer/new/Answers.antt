use Rattle.std.proofs.Common.{refl}
use Rattle.es5_lexer.proofs.LexerLemmas.{new_reads}
use Rattle.es5_lexer.proofs.lexer.Lexer.new.Goals as goal

pub returns : goal.returns
returns c = new_reads _ refl refl
