use Rattle.std.proofs.Common.{refl, ◌∙◌}
use Rattle.response_rules.specs.Tables.{orb_head_rows}
use Rattle.response_rules.proofs.tables.orb_rule_of_head.Goals as goal

pub returns : goal.returns
unfolding orb_head_rows
returns c = λ h e. c.first_of.ensures ∙ rw (c.is_subsequent_state.ensures, c.is_other_length.ensures, c.kept_length.ensures, e) refl
