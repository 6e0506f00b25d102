use Rattle.std.proofs.Common.{sym, ap, ◌&&◌, ◌∙◌}
use Rattle.corb_sniffers.specs.Values.{sniffs_xml}
use Rattle.corb_sniffers.proofs.ValueLemmas.{xml_value}
use Rattle.response_rules.proofs.TextLemmas.{same_truth}
use Rattle.response_rules.proofs.tables.shows_xml.Goals as goal

pub returns-then-asked : goal.returns-then-asked
returns-then-asked c =
    let truth = xml_value c.args.window.now in
    same_truth c.sniffs_xml.result (sniffs_xml c.args.window.now) (λ h. truth.1 (c.sniffs_xml.ensures.0 h)) (λ h. c.sniffs_xml.ensures.1 (truth.0 h))
    ∙ sym (ap (λ a. a && sniffs_xml c.args.window.now) c.if-asked.true)
