use Rattle.orb_bytes.proofs.RowSetLemmas.{empty_or_some}
use Rattle.orb_bytes.proofs.row_sets.RowSet.is_empty.Goals as goal

pub returns : goal.returns
returns c = empty_or_some c.args.self.bits c.args.self.fits
