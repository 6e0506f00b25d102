use Rattle.std.proofs.Common.{refl, ◌∙◌}
use Rattle.response_rules.specs.Tables.{corb_head_rows}
use Rattle.response_rules.proofs.tables.corb_rule_of_head.Goals as goal

pub returns : goal.returns
unfolding corb_head_rows
returns c = λ h e. c.first_of.ensures ∙ rw e refl
