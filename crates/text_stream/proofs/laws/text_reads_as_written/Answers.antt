use Rattle.text_stream.proofs.DecodingLemmas.{text-read}
use Rattle.text_stream.proofs.laws.text_reads_as_written.Goals as goal

pub returns : goal.returns
returns c = text-read
