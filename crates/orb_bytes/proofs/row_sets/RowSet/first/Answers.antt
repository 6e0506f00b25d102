use Rattle.std.proofs.Common.{arith}
use Rattle.orb_bytes.proofs.RowSetLemmas.{first_set}
use Rattle.orb_bytes.proofs.row_sets.RowSet.first.Goals as goal

pub returns-else-self-eq0 : goal.returns-else-self-eq0
returns-else-self-eq0 c =
    let facts = first_set c.args.self.bits (omega arith) c.args.self.fits in
    record { within = facts.0; there = facts.1; before = facts.2 }
