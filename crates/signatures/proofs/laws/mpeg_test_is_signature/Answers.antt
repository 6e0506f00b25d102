use Rattle.signatures.proofs.MpegLemmas.{mpeg-Decides}
use Rattle.signatures.proofs.laws.mpeg_test_is_signature.Goals as goal

pub returns : goal.returns
returns c = mpeg-Decides
