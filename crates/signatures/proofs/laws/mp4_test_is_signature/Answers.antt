use Rattle.signatures.proofs.Mp4Lemmas.{mp4-Decides}
use Rattle.signatures.proofs.laws.mp4_test_is_signature.Goals as goal

pub returns : goal.returns
returns c = mp4-Decides
