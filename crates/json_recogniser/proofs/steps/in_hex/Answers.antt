use Rattle.std.proofs.Common.{◌≡◌, suc, ◌-◌, sym, ap, ◌∙◌, arith}
use Rattle.json_recogniser.specs.Residuals.{residual_of_text, after_hexes}
use Rattle.json_recogniser.proofs.steps.in_hex.Goals as goal

pub returns-else-more-eq0 : goal.returns-else-more-eq0
returns-else-more-eq0 c = λ marks text.
    let one_less : suc (c.args.more - 1) ≡ c.args.more = omega arith in
    rw (c.stay-else-more-eq0.ensures, sym c.is_ascii_hexdigit.ensures.value ∙ c.if-not-is_ascii_hexdigit.false)
    (ap (λ n. residual_of_text c.args.role marks (after_hexes n text)) one_less)
