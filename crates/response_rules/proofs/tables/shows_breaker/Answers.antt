use Rattle.std.proofs.Common.{sym, ap, ◌&&◌, ◌∙◌}
use Rattle.corb_sniffers.specs.Values.{has_breaker}
use Rattle.corb_sniffers.proofs.ValueLemmas.{breaker_value}
use Rattle.response_rules.proofs.TextLemmas.{same_truth}
use Rattle.response_rules.proofs.tables.shows_breaker.Goals as goal

pub returns-then-asked : goal.returns-then-asked
returns-then-asked c =
    let truth = breaker_value c.args.window.now in
    same_truth c.has_breaker.result (has_breaker c.args.window.now) (λ h. truth.1 (c.has_breaker.ensures.0 h)) (λ h. c.has_breaker.ensures.1 (truth.0 h))
    ∙ sym (ap (λ a. a && has_breaker c.args.window.now) c.if-asked.true)
