use Rattle.computed_type.proofs.ComputedLemmas.{one_type}
use Rattle.computed_type.proofs.laws.one_type.Goals as goal

pub returns : goal.returns
returns c = one_type
