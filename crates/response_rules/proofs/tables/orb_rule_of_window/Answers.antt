use Rattle.std.proofs.Common.{refl, ◌∙◌}
use Rattle.response_rules.specs.Tables.{orb_window_rows}
use Rattle.response_rules.proofs.tables.orb_rule_of_window.Goals as goal

pub returns : goal.returns
unfolding orb_window_rows
returns c = λ h e.
    c.first_of.ensures
    ∙ rw (
      c.is_some-is_media.ensures,
      c.is_some.ensures,
      c.media_type.ensures,
      c.image_type.ensures,
      c.is_initial_state.ensures,
      c.is_na_state.ensures,
      e,
    ) refl
