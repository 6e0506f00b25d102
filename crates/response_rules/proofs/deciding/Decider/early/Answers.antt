use Rattle.std.proofs.Common.{sym, ap, ◌∙◌}
use Rattle.std.specs.Option.{option_or}
use Rattle.response_rules.specs.Settled.{rule_in_window}
use Rattle.response_rules.proofs.SettledLemmas.{settled-whole}
use Rattle.response_rules.proofs.ReadLemmas.{full_by, rule_by-short}
use Rattle.response_rules.proofs.deciding.Decider.early.Goals as goal

pub returns-then-is_full : goal.returns-then-is_full
returns-then-is_full c = λ h m r.
    r.stands.settled
    ∙ settled-whole h m (sym (full_by m _ r.stands.window) ∙ (sym c.is_full.ensures.value ∙ c.if-is_full.true))

pub returns-else-is_full : goal.returns-else-is_full
returns-else-is_full c = λ h m r.
    c.judged.ensures h r.stands.facts
    ∙ (ap (λ w. option_or c.args.self.now.settled (rule_in_window h w)) r.stands.window
    ∙ rule_by-short h m _ r.stands.settled (sym (full_by m _ r.stands.window) ∙ (sym c.is_full.ensures.value ∙ c.if-is_full.false)))
