use Rattle.header_values.proofs.PartLemmas.{one_cut}
use Rattle.header_values.proofs.cut.parts.Goals as goal

pub returns-clause-parts : goal.returns-clause-parts
returns-clause-parts c = (one_cut c.args.value.now).0
