use Rattle.std.proofs.Common.{sym, ap, ◌∙◌}
use Rattle.es5_lexer.specs.Runs.{stays}
use Rattle.es5_lexer.proofs.RunLemmas.{space_table, line_table, no_table}
use Rattle.es5_lexer.proofs.runs.staying.Goals as goal

pub returns-in-Start : goal.returns-in-Start
returns-in-Start c n h = space_table n h ∙ ap (λ s. stays s c.args.is_full n) (sym c.in-Start.is)

pub returns-in-Slash : goal.returns-in-Slash
returns-in-Slash c n h = no_table n h ∙ ap (λ s. stays s c.args.is_full n) (sym c.in-Slash.is)

pub returns-in-LineComment : goal.returns-in-LineComment
returns-in-LineComment c n h = line_table n h ∙ ap (λ s. stays s c.args.is_full n) (sym c.in-LineComment.is)

pub returns-in-BlockComment : goal.returns-in-BlockComment
returns-in-BlockComment c n h = c.in_block.ensures c.args.is_full n h ∙ ap (λ s. stays s c.args.is_full n) (sym c.in-BlockComment.is)

pub returns-in-Token : goal.returns-in-Token
returns-in-Token c n h = c.in_token.ensures n h ∙ ap (λ s. stays s c.args.is_full n) (sym c.in-Token.is)
