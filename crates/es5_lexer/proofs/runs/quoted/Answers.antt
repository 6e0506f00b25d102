use Rattle.std.proofs.Common.{sym, ap, ◌∙◌}
use Rattle.es5_lexer.specs.Runs.{stays}
use Rattle.es5_lexer.specs.declared.places.Place.TheVariants.{Text}
use Rattle.es5_lexer.specs.declared.places.TextPlace.TheVariants.{Chars}
use Rattle.es5_lexer.specs.declared.states.State.TheVariants.{Token}
use Rattle.es5_lexer.proofs.RunLemmas.{double_table, single_table}
use Rattle.es5_lexer.proofs.runs.quoted.Goals as goal

pub returns-in-Double : goal.returns-in-Double
returns-in-Double c full n h = double_table n h ∙ ap (λ q. stays (Token (Text q Chars)) full n) (sym c.in-Double.is)

pub returns-in-Single : goal.returns-in-Single
returns-in-Single c full n h = single_table n h ∙ ap (λ q. stays (Token (Text q Chars)) full n) (sym c.in-Single.is)
