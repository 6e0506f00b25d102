use Rattle.mime_types.proofs.CutLemmas.{one_record}
use Rattle.mime_types.proofs.essences.one_record.Goals as goal

pub returns : goal.returns
returns c = one_record
