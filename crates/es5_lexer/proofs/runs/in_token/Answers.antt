use Rattle.std.proofs.Common.{sym, ap, ◌∙◌}
use Rattle.es5_lexer.specs.Runs.{stays}
use Rattle.es5_lexer.specs.declared.states.State.TheVariants.{Token}
use Rattle.es5_lexer.proofs.RunLemmas.{no_table}
use Rattle.es5_lexer.proofs.runs.in_token.Goals as goal

pub returns-in-Name : goal.returns-in-Name
returns-in-Name c n h = c.in_name.ensures n h ∙ ap (λ p. stays (Token p) c.args.is_full n) (sym c.in-Name.is)

pub returns-in-Text : goal.returns-in-Text
returns-in-Text c n h = c.in_text.ensures c.args.is_full n h ∙ ap (λ p. stays (Token p) c.args.is_full n) (sym c.in-Text.is)

pub returns-in-Escape : goal.returns-in-Escape
returns-in-Escape c n h = no_table n h ∙ ap (λ p. stays (Token p) c.args.is_full n) (sym c.in-Escape.is)

pub returns-in-Mark : goal.returns-in-Mark
returns-in-Mark c n h = no_table n h ∙ ap (λ p. stays (Token p) c.args.is_full n) (sym c.in-Mark.is)

pub returns-in-Number : goal.returns-in-Number
returns-in-Number c n h = no_table n h ∙ ap (λ p. stays (Token p) c.args.is_full n) (sym c.in-Number.is)

pub returns-in-Pattern : goal.returns-in-Pattern
returns-in-Pattern c n h = no_table n h ∙ ap (λ p. stays (Token p) c.args.is_full n) (sym c.in-Pattern.is)

pub returns-in-Dead : goal.returns-in-Dead
returns-in-Dead c n h = no_table n h ∙ ap (λ p. stays (Token p) c.args.is_full n) (sym c.in-Dead.is)
