use Rattle.std.proofs.Common.{ap}
use Rattle.json_recogniser.specs.Residuals.{residual_of_text}
use Rattle.json_recogniser.proofs.ResidualLemmas.{hexes}
use Rattle.json_recogniser.proofs.steps.in_escape.Goals as goal

pub returns-in-u : goal.returns-in-u
returns-in-u c = λ marks text. rw (c.stay.ensures, c.in-u.is) (ap (residual_of_text c.args.role marks) (hexes text))
