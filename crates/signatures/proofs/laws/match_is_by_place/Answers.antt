use Rattle.signatures.proofs.PatternLemmas.{by_place}
use Rattle.signatures.proofs.laws.match_is_by_place.Goals as goal

pub returns : goal.returns
returns c = by_place
