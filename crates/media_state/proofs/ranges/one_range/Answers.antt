use Rattle.media_state.proofs.RangeLemmas.{same_range}
use Rattle.media_state.proofs.ranges.one_range.Goals as goal

pub returns : goal.returns
returns c = same_range
