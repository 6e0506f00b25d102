use Rattle.header_values.proofs.PartLemmas.{one_cut}
use Rattle.header_values.proofs.cut.one_cut.Goals as goal

pub returns : goal.returns
returns c = one_cut
