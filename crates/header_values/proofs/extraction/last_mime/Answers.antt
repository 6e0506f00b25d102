use Rattle.std.proofs.Common.{ap, ◌∙◌}
use Rattle.header_values.specs.Cuts.{parts_left}
use Rattle.header_values.proofs.RunLemmas.{MimesTo-start, MimesTo-more, MimesTo-answer, MimesTo-absent}
use Rattle.header_values.proofs.extraction.last_mime.Goals as goal

pub loop-part-init : goal.loop-part-init
loop-part-init c =
    MimesTo-start _ _ (ap parts_left c.into_iter-part-iterator.ensures.into_iter_gives ∙ c.parts-part-items.ensures.all)

pub loop-part-preserved : goal.loop-part-preserved
loop-part-preserved c =
    rw c.after-run.ensures (MimesTo-more _ _ _ _ _ _ c.in-Some.ensures.steps c.in_ok-kept_mime.ensures c.loop-part.invariant)

pub returns-in_ok-into_answer-in-Some-run : goal.returns-in_ok-into_answer-in-Some-run
returns-in_ok-into_answer-in-Some-run c =
    MimesTo-answer _ _ _ _ _ c.in-None.ensures.steps.0 c.loop-part.invariant c.in-Some-run.is c.in_ok-into_answer-in-Some-run.ensures

pub returns-in-None-run : goal.returns-in-None-run
returns-in-None-run c = MimesTo-absent _ _ _ c.in-None.ensures.steps.0 c.loop-part.invariant c.in-None-run.is
