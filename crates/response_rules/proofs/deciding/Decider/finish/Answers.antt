use Rattle.std.proofs.Common.{ap, ◌∙◌}
use Rattle.response_rules.specs.Rules.{state_after_rule}
use Rattle.response_rules.proofs.deciding.Decider.finish.Goals as goal

pub returns-clause-verdict : goal.returns-clause-verdict
returns-clause-verdict c = λ h m r. record {
  rule = c.rule-rule.ensures h m r;
  allow = c.allows.ensures;
  state = c.state_after.ensures
      ∙ ap (λ f. state_after_rule f.state c.rule-rule.result f.complete) r.stands.facts;
}
