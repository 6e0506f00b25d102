use Rattle.text_stream.proofs.DecoderLemmas.{all_but_three}
use Rattle.text_stream.proofs.laws.all_but_three_bytes_are_given.Goals as goal

pub returns : goal.returns
returns c = all_but_three
