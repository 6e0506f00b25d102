use Rattle.signatures.proofs.WebmLemmas.{webm-Decides}
use Rattle.signatures.proofs.laws.webm_test_is_signature.Goals as goal

pub returns : goal.returns
returns c = webm-Decides
