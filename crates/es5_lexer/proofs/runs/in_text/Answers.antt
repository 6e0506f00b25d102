use Rattle.std.proofs.Common.{sym, ap, ◌∙◌}
use Rattle.es5_lexer.specs.Runs.{stays}
use Rattle.es5_lexer.specs.declared.places.Place.TheVariants.{Text}
use Rattle.es5_lexer.specs.declared.states.State.TheVariants.{Token}
use Rattle.es5_lexer.proofs.RunLemmas.{no_table}
use Rattle.es5_lexer.proofs.runs.in_text.Goals as goal

pub returns-in-Chars : goal.returns-in-Chars
returns-in-Chars c full n h =
    c.quoted.ensures full n h ∙ ap (λ p. stays (Token (Text c.args.quote p)) full n) (sym c.in-Chars.is)

pub returns-in-TextEscape : goal.returns-in-TextEscape
returns-in-TextEscape c full n h = no_table n h ∙ ap (λ p. stays (Token (Text c.args.quote p)) full n) (sym c.in-TextEscape.is)

pub returns-in-Cr : goal.returns-in-Cr
returns-in-Cr c full n h = no_table n h ∙ ap (λ p. stays (Token (Text c.args.quote p)) full n) (sym c.in-Cr.is)

pub returns-in-Hex : goal.returns-in-Hex
returns-in-Hex c full n h = no_table n h ∙ ap (λ p. stays (Token (Text c.args.quote p)) full n) (sym c.in-Hex.is)

pub returns-in-End : goal.returns-in-End
returns-in-End c full n h = no_table n h ∙ ap (λ p. stays (Token (Text c.args.quote p)) full n) (sym c.in-End.is)
