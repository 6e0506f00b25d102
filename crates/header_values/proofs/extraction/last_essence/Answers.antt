use Rattle.header_values.proofs.ExtractLemmas.{ReadTo-more}
use Rattle.header_values.proofs.extraction.last_essence.Goals as goal

pub loop-part-preserved : goal.loop-part-preserved
loop-part-preserved c =
    rw c.«or-last».ensures (ReadTo-more _ _ _ _ _ _ c.in-Some.ensures.steps c.kept_essence.ensures c.loop-part.invariant)
