use Rattle.std.proofs.Common.{sym, ◌∙◌}
use Rattle.corb_sniffers.proofs.JsonLemmas.{json_tells}
use Rattle.corb_sniffers.proofs.json.sniffs_json.Goals as goal

pub returns : goal.returns
returns c =
    let tells = json_tells (λ rest. rest.now) c.args.window.now c.after_colon.result c.after_colon.ensures in
    (λ is. tells.0 (sym c.is_some.ensures ∙ is), λ h. c.is_some.ensures ∙ tells.1 h)
