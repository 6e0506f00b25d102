use Rattle.media_state.proofs.RangeLemmas.{range_to, range_back}
use Rattle.media_state.proofs.ranges.range_is_computed.Goals as goal

pub returns : goal.returns
returns c = λ value range. (range_to value range, range_back value range)
