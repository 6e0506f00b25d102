use Rattle.mime_types.proofs.TextLemmas.{text_is_parsed}
use Rattle.mime_types.proofs.records.text_is_parsed.Goals as goal

pub returns : goal.returns
returns c = text_is_parsed
