use Rattle.std.proofs.Common.{◌++◌, length, sym, ◌∙◌}
use Rattle.response_rules.specs.Reads.{TextStands}
use Rattle.response_rules.proofs.ReadLemmas.{full_by, counted_on, not_over_before}
use Rattle.response_rules.proofs.HopelessLemmas.{hopeless-longer, hopeless-filled}
use Rattle.response_rules.proofs.deciding.Decider.feed.Goals as goal
use Rattle.response_rules.proofs.deciding.Decider.feed.Goals.{then-is_full, else-is_full}

pub returns-clause-reads : goal.returns-clause-reads
returns-clause-reads c = λ h m r.
    let p = c.args.piece.now in
    let full = full_by m _ r.stands.window in
    let counted = counted_on c.and-count.result h.limit m p (c.and-count.ensures h.limit (length m) r.counted) in
    let text : TextStands c.args.self.now h m c.and-count.result.over = λ within. r.text (not_over_before h.limit m p (sym counted.over ∙ within)) in
    elim c.if-is_full.branch [
      | then-is_full w ↦
          let is = sym full ∙ (sym c.is_full.ensures.value ∙ w.if-is_full.true) in
          let s = w.read_on.ensures.stands h m is r.stands in
          rw w.self-is (record {
            stands = record { states = s.states; facts = s.facts; settled = s.settled; window = s.window; active = s.active };
            counted = counted;
            text = λ within. w.read_on.ensures.text h m is r.stands text (counted.over ∙ within);
          })
      | else-is_full w ↦
          let is = sym full ∙ (sym c.is_full.ensures.value ∙ w.if-is_full.false) in
          let s = w.fill.ensures.stands h m is r.stands in
          rw w.self-is (record {
            stands = record { states = s.states; facts = s.facts; settled = s.settled; window = s.window; active = s.active };
            counted = counted;
            text = λ within. w.fill.ensures.text h m is r.stands (counted.over ∙ within);
          })
    ]

pub returns-clause-gives : goal.returns-clause-gives
returns-clause-gives c = λ h m r. c.progress.ensures h (m ++ c.args.piece.now) (returns-clause-reads c h m r)

pub returns-clause-hopeless : goal.returns-clause-hopeless
returns-clause-hopeless c = λ h m r is.
    elim c.if-is_full.branch [
      | then-is_full w ↦ rw w.self-is (hopeless-longer h m c.args.piece.now _ _ w.read_on.ensures.dead is)
      | else-is_full w ↦
          let short = sym (full_by m _ r.stands.window) ∙ (sym c.is_full.ensures.value ∙ w.if-is_full.false) in
          rw w.self-is (hopeless-filled h m c.args.piece.now _ _ short is)
    ]
