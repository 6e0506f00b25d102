use Rattle.std.proofs.Common.{sym, ◌∙◌}
use Rattle.response_rules.proofs.TableLemmas.{early_decides}
use Rattle.response_rules.proofs.deciding.Decider.rule.Goals as goal

pub returns-in-Some : goal.returns-in-Some
returns-in-Some c = λ h m r. sym (early_decides h m c.in-Some.rule (sym (c.early.ensures h m r) ∙ c.in-Some.is))

pub returns-in-None : goal.returns-in-None
returns-in-None c = λ h m r. c.late.ensures h m r (sym (c.early.ensures h m r) ∙ c.in-None.is)
