use Rattle.std.proofs.Common.{arith}
use Rattle.orb_bytes.proofs.MaskedLemmas.{to_places, from_places}
use Rattle.orb_bytes.proofs.laws.masked_is_by_place.Goals as goal

pub returns : goal.returns
returns c = λ bytes mask text same. (to_places bytes mask text, from_places bytes mask text (omega arith))
