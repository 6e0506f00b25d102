use Rattle.std.proofs.Common.{◌++◌, ap, ◌∙◌}
use Rattle.response_rules.specs.Settled.{is_sent}
use Rattle.body_filter.specs.Judged.{judged}
use Rattle.body_filter.proofs.judging.read_on.Goals as goal

pub returns-clause-gives : goal.returns-clause-gives
returns-clause-gives c = λ h m r.
    let sent = is_sent h (m ++ c.args.piece.now) in
    c.judged_by.ensures sent (c.feed-progress.ensures.gives h m r)
    ∙ ap (judged sent) (c.is_hopeless.ensures.exact h (m ++ c.args.piece.now) (c.feed-progress.ensures.reads h m r))
