use Rattle.orb_bytes.proofs.RowLemmas.{first_matched-closed}
use Rattle.orb_bytes.proofs.laws.closed_rows_stay.Goals as goal

pub returns : goal.returns
returns c = first_matched-closed
