use Rattle.std.proofs.Common.{◌++◌, ℕ, List, [], sym, ap, subst, ◌∙◌}
use Rattle.std.specs.Option.{option_or}
use Rattle.response_rules.specs.Settled.{rule_in_window}
use Rattle.response_rules.specs.Reads.{TextHasRead}
use Rattle.response_rules.proofs.ReadLemmas.{full_by, window-on, settled_on-filled, settled_on-short, text_by-full, text_by-short, window_whole}
use Rattle.response_rules.proofs.deciding.Decider.fill.Goals as goal
use Rattle.response_rules.proofs.deciding.Decider.fill.Goals.{else-is_none-via-then-is_none+else-not-over, else-is_none-via-else-is_none}

pub returns-then-not-over-clause-stands : goal.returns-then-not-over-clause-stands
returns-then-not-over-clause-stands c = λ h m short r.
    let p = c.args.piece.now in
    let window = c.fill-rest.ensures.window ∙ window-on m p c.args.self.now.window.items r.window in
    let full = sym (full_by (m ++ p) _ window) ∙ (sym c.is_full.ensures.value ∙ c.if-is_full.true) in
    record {
      states = r.states;
      facts = r.facts;
      settled = c.judged-self.ensures h r.facts
          ∙ (ap (λ t. option_or c.args.self.now.settled (rule_in_window h t)) window
          ∙ settled_on-filled h m p _ r.settled short full);
      window = window;
      active = r.active;
    }

pub returns-else-is_none-clause-stands : goal.returns-else-is_none-clause-stands
returns-else-is_none-clause-stands c = λ h m short r.
    let p = c.args.piece.now in
    let window = c.fill-rest.ensures.window ∙ window-on m p c.args.self.now.window.items r.window in
    let full = sym (full_by (m ++ p) _ window) ∙ (sym c.is_full.ensures.value ∙ c.if-is_full.true) in
    record {
      states = r.states;
      facts = r.facts;
      settled = c.judged-self.ensures h r.facts
          ∙ (ap (λ t. option_or c.args.self.now.settled (rule_in_window h t)) window
          ∙ settled_on-filled h m p _ r.settled short full);
      window = window;
      active = r.active;
    }

pub returns-else-is_full-clause-stands : goal.returns-else-is_full-clause-stands
returns-else-is_full-clause-stands c = λ h m short r.
    let p = c.args.piece.now in
    let window = c.fill-rest.ensures.window ∙ window-on m p c.args.self.now.window.items r.window in
    let still = sym (full_by (m ++ p) _ window) ∙ (sym c.is_full.ensures.value ∙ c.if-is_full.false) in
    record {
      states = r.states;
      facts = r.facts;
      settled = settled_on-short h m p _ r.settled short still;
      window = window;
      active = r.active;
    }

pub returns-then-not-over-clause-text : goal.returns-then-not-over-clause-text
returns-then-not-over-clause-text c = λ h m short r within is.
    let p = c.args.piece.now in
    let cut = ap (λ u. u ++ p) (sym (r.window ∙ window_whole m short)) ∙ c.fill-rest.ensures.rest ∙ ap (λ w. w ++ c.fill-rest.result.now) (sym c.as_slice.ensures.value) in
    subst (λ (u : List ℕ). TextHasRead c.feed-then-not-over.new.self u) (sym cut)
    (c.feed-then-not-over.ensures.reads _ (c.feed.ensures.reads [] c.new-self.ensures))

pub returns-else-is_none-clause-text : goal.returns-else-is_none-clause-text
returns-else-is_none-clause-text c = λ h m short r within is.
    let p = c.args.piece.now in
    let s = returns-else-is_none-clause-stands c h m short r in
    let full = sym (full_by (m ++ p) _ s.window) ∙ (sym c.is_full.ensures.value ∙ c.if-is_full.true) in
    elim c.else-is_none.branch [
      | else-is_none-via-then-is_none+else-not-over w ↦ absurd (cc (w.if-not-over.false, within))
      | else-is_none-via-else-is_none w ↦
          let none = sym (text_by-full h (m ++ p) _ c.is_none.result s.settled full c.is_none.ensures) ∙ w.if-is_none.false in
          absurd (cc (none, is))
    ]

pub returns-else-is_full-clause-text : goal.returns-else-is_full-clause-text
returns-else-is_full-clause-text c = λ h m short r within is.
    let p = c.args.piece.now in
    let s = returns-else-is_full-clause-stands c h m short r in
    let still = sym (full_by (m ++ p) _ s.window) ∙ (sym c.is_full.ensures.value ∙ c.if-is_full.false) in
    absurd (cc (text_by-short h (m ++ p) still, is))
