use Rattle.std.proofs.Common.{sym, ap, ◌&&◌, ◌∙◌}
use Rattle.corb_sniffers.specs.Values.{sniffs_json}
use Rattle.corb_sniffers.proofs.ValueLemmas.{json_value}
use Rattle.response_rules.proofs.TextLemmas.{same_truth}
use Rattle.response_rules.proofs.tables.shows_json.Goals as goal

pub returns-then-asked : goal.returns-then-asked
returns-then-asked c =
    let truth = json_value c.args.window.now in
    same_truth c.sniffs_json.result (sniffs_json c.args.window.now) (λ h. truth.1 (c.sniffs_json.ensures.0 h)) (λ h. c.sniffs_json.ensures.1 (truth.0 h))
    ∙ sym (ap (λ a. a && sniffs_json c.args.window.now) c.if-asked.true)
