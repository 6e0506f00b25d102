use Rattle.orb_bytes.proofs.RowSetLemmas.{set-eqb}
use Rattle.orb_bytes.proofs.row_sets.RowSet.insert.Goals as goal

pub returns : goal.returns
returns c = set-eqb c.args.self.now.bits c.args.index c.requires
