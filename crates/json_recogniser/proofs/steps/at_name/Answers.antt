use Rattle.std.proofs.Common.{sym, ◌∙◌}
use Rattle.json_recogniser.proofs.ResidualLemmas.{name_space}
use Rattle.json_recogniser.proofs.steps.at_name.Goals as goal

pub returns-then-is_white_space : goal.returns-then-is_white_space
returns-then-is_white_space c = λ marks text. rw c.stay.ensures (name_space marks c.args.c text (sym c.is_white_space.ensures ∙ c.if-is_white_space.true))
