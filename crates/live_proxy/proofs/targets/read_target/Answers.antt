use Rattle.std.proofs.Common.{◌≡◌, true, false, sym, ◌∙◌}
use Rattle.live_proxy.proofs.targets.read_target.Goals as goal

pub returns-then-has_refused : goal.returns-then-has_refused
returns-then-has_refused c = λ t is.
    let no : true ≡ false = sym c.if-has_refused.true ∙ c.has_refused.ensures ∙ is.plain in cc

pub returns-in-Ok : goal.returns-in-Ok
returns-in-Ok c =
    c.with_port.ensures c.args.text.now c.in-Ok.ensures.ok (sym c.has_refused.ensures ∙ c.if-has_refused.false)
