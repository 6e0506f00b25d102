use Rattle.std.proofs.Common.{ap, ◌∙◌}
use Rattle.response_rules.specs.Rules.{is_allowing}
use Rattle.response_rules.specs.Settled.{is_some_rule, is_sent}
use Rattle.response_rules.specs.Reads.{progress_of}
use Rattle.response_rules.proofs.deciding.Decider.progress.Goals as goal

pub returns : goal.returns
unfolding is_sent
returns c = λ h m r.
    c.progress_by.ensures ∙ ap progress_of (c.is_allowed.ensures ∙ ap (is_some_rule is_allowing) r.stands.settled)
