use Rattle.std.proofs.Common.{ℕ, [], refl, sym, ap, subst, ◌∙◌}
use Rattle.response_rules.specs.Reads.{HasCounted}
use Rattle.response_rules.proofs.SettledLemmas.{settled-short}
use Rattle.response_rules.proofs.ReadLemmas.{window-empty, empty-short, text_by-short}
use Rattle.response_rules.proofs.deciding.Decider.begin.Goals as goal

pub returns : goal.returns
returns c = λ h facts. record {
  stands = record {
    states = facts.states;
    facts = facts.are;
    settled = c.rule_of_head-self.ensures h facts.are ∙ sym (settled-short h [] empty-short);
    window = c.clear.ensures ∙ sym window-empty;
    active = refl;
  };
  counted = subst (λ (n : ℕ). HasCounted c.new-self.result n 0) (ap (λ f. f.limit) facts.are) c.new-self.ensures;
  text = λ within is. absurd (cc (text_by-short h [] empty-short, is));
}
