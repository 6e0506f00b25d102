use Rattle.es5_lexer.proofs.RunLemmas.{name_full, name_short}
use Rattle.es5_lexer.proofs.runs.in_name.Goals as goal

pub returns-then-is_full : goal.returns-then-is_full
returns-then-is_full c n h = name_full n c.args.is_full h c.if-is_full.true

pub returns-else-is_full : goal.returns-else-is_full
returns-else-is_full c n h = name_short n c.args.is_full h c.if-is_full.false
