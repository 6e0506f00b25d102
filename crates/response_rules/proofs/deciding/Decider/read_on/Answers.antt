use Rattle.std.proofs.Common.{refl, sym, ◌∙◌}
use Rattle.response_rules.proofs.ReadLemmas.{stands_full, text_by-full, text_still}
use Rattle.response_rules.proofs.deciding.Decider.read_on.Goals as goal
use Rattle.response_rules.proofs.deciding.Decider.read_on.Goals.{else-is_none-via-then-is_none+else-not-over, else-is_none-via-else-is_none}

pub returns-then-not-over-clause-stands : goal.returns-then-not-over-clause-stands
returns-then-not-over-clause-stands c = λ h m full r. stands_full _ _ h m c.args.piece.now refl refl refl refl full r

pub returns-else-is_none-clause-stands : goal.returns-else-is_none-clause-stands
returns-else-is_none-clause-stands c = λ h m full r. stands_full _ _ h m c.args.piece.now refl refl refl refl full r

pub returns-then-not-over-clause-text : goal.returns-then-not-over-clause-text
returns-then-not-over-clause-text c = λ h m full r text within is.
    c.feed.ensures.reads m (text within (sym (text_still h m c.args.piece.now full) ∙ is))

pub returns-else-is_none-clause-text : goal.returns-else-is_none-clause-text
returns-else-is_none-clause-text c = λ h m full r text within is.
    elim c.else-is_none.branch [
      | else-is_none-via-then-is_none+else-not-over w ↦ absurd (cc (w.if-not-over.false, within))
      | else-is_none-via-else-is_none w ↦
          let none = sym (text_by-full h m c.args.self.now.settled c.is_none.result r.settled full c.is_none.ensures) ∙ w.if-is_none.false in
          absurd (cc (none, text_still h m c.args.piece.now full, is))
    ]
