use Rattle.std.proofs.Common.{refl}
use Rattle.body_filter.specs.Reads.{held_in}
use Rattle.body_filter.proofs.filtering.Filter.open.Goals as goal

pub returns-clause-empty : goal.returns-clause-empty
unfolding held_in
returns-clause-empty c = refl
