use Rattle.header_values.specs.Fields.{pairs_in}
use Rattle.header_values.proofs.ExtractLemmas.{extracted_absent}
use Rattle.header_values.proofs.extraction.extract_mime.Goals as goal

pub returns-in-None-clause-value : goal.returns-in-None-clause-value
returns-in-None-clause-value c = extracted_absent (pairs_in c.args.fields.now) c.in-None.ensures.value
