use Rattle.json_recogniser.specs.declared.states.Container.TheVariants.{Array, Object}
use Rattle.json_recogniser.proofs.ResidualLemmas.{opens}
use Rattle.json_recogniser.proofs.steps.at_value.Goals as goal

pub returns-in-91 : goal.returns-in-91
returns-in-91 c = λ marks text. rw (c.opening.ensures, c.in-91.is) (opens Array marks text)

pub returns-in-123 : goal.returns-in-123
returns-in-123 c = λ marks text. rw (c.opening-in-123.ensures, c.in-123.is) (opens Object marks text)
