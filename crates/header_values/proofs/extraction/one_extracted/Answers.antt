use Rattle.header_values.proofs.ExtractLemmas.{one_extracted}
use Rattle.header_values.proofs.extraction.one_extracted.Goals as goal

pub returns : goal.returns
returns c = one_extracted
