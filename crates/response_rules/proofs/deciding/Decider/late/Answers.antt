use Rattle.std.proofs.Common.{ℕ, List, [], sym, subst, ◌∙◌}
use Rattle.response_rules.specs.Reads.{TextHasRead}
use Rattle.response_rules.proofs.TextLemmas.{over_is, text_is}
use Rattle.response_rules.proofs.HopelessLemmas.{is_text}
use Rattle.response_rules.proofs.ReadLemmas.{full_by, window_whole}
use Rattle.response_rules.proofs.deciding.Decider.late.Goals as goal
use Rattle.response_rules.proofs.deciding.Decider.late.Goals.{then-not-is_full, else-not-is_full}

pub returns-then-self : goal.returns-then-self
returns-then-self c = λ h m r none. sym (over_is h m none (sym r.counted.over ∙ c.if-self.true))

pub returns : goal.returns
returns c = λ h m r none.
    let within = sym r.counted.over ∙ c.if-self.false in
    let rule = sym (text_is h m none within) in
    let full = full_by m _ r.stands.window in
    elim c.if-not-is_full.branch [
      | then-not-is_full w ↦
          let short = sym full ∙ (sym c.is_full.ensures.value ∙ w.if-not-is_full.true) in
          let window = r.stands.window ∙ window_whole m short in
          let fed = w.feed.ensures.reads [] w.new-self.ensures in
          let read : TextHasRead w.feed.new.self m = subst (λ (u : List ℕ). TextHasRead w.feed.new.self u) (w.as_slice.ensures.value ∙ window) fed in
          c.finish.ensures m (rw w.self-is read) ∙ rule
      | else-not-is_full w ↦
          let is = is_text h m (sym full ∙ (sym c.is_full.ensures.value ∙ w.if-not-is_full.false)) none in
          c.finish.ensures m (rw w.self-is (r.text within is)) ∙ rule
    ]
