use Rattle.std.proofs.Common.{sym, ◌∙◌}
use Rattle.response_rules.proofs.ReadLemmas.{full_by, text_by-full, text_by-short}
use Rattle.response_rules.proofs.deciding.Decider.in_text.Goals as goal

pub returns-then-is_full : goal.returns-then-is_full
returns-then-is_full c = λ h m r.
    text_by-full h m _ _ r.stands.settled
    (sym (full_by m _ r.stands.window) ∙ (sym c.is_full.ensures.value ∙ c.if-is_full.true)) c.is_none.ensures

pub returns-else-is_full : goal.returns-else-is_full
returns-else-is_full c = λ h m r.
    c.if-is_full.false
    ∙ text_by-short h m (sym (full_by m _ r.stands.window) ∙ (sym c.is_full.ensures.value ∙ c.if-is_full.false))
