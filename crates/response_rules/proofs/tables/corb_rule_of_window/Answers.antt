use Rattle.std.proofs.Common.{refl, ◌∙◌}
use Rattle.response_rules.specs.Tables.{corb_window_rows}
use Rattle.response_rules.proofs.tables.corb_rule_of_window.Goals as goal

pub returns : goal.returns
unfolding corb_window_rows
returns c = λ h e.
    c.first_of.ensures
    ∙ rw (c.shows_breaker.ensures, c.shows_html.ensures, c.shows_xml.ensures, c.shows_json.ensures, e) refl
