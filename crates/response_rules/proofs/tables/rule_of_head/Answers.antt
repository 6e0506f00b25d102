use Rattle.std.proofs.Common.{◌≡◌, sym, ap, ◌∙◌}
use Rattle.response_rules.specs.declared.verdicts.Policy.{Policy}
use Rattle.response_rules.specs.declared.verdicts.Policy.TheVariants.{Orb, Corb}
use Rattle.response_rules.specs.Tables.{first_rule, head_rows, head_rows_by}
use Rattle.response_rules.specs.Settled.{head_rule_of}
use Rattle.response_rules.proofs.tables.rule_of_head.Goals as goal

pub returns-in-Orb : goal.returns-in-Orb
unfolding head_rule_of head_rows
returns-in-Orb c = λ h e.
    let policy : h.policy ≡ Orb = sym (ap (λ f. f.policy) e) ∙ c.in-Orb.is in
    c.orb_rule_of_head.ensures h e ∙ ap (λ (p : Policy). first_rule (head_rows_by p h)) (sym policy)

pub returns-in-Corb : goal.returns-in-Corb
unfolding head_rule_of head_rows
returns-in-Corb c = λ h e.
    let policy : h.policy ≡ Corb = sym (ap (λ f. f.policy) e) ∙ c.in-Corb.is in
    c.corb_rule_of_head.ensures h e ∙ ap (λ (p : Policy). first_rule (head_rows_by p h)) (sym policy)
