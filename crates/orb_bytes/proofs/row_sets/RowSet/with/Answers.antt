use Rattle.orb_bytes.proofs.RowSetLemmas.{bit_at_or-eqb}
use Rattle.orb_bytes.proofs.row_sets.RowSet.with.Goals as goal

pub returns : goal.returns
returns c = λ i. bit_at_or-eqb c.args.self.bits c.args.other.bits i
