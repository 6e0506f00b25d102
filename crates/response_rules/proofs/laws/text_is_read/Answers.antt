use Rattle.std.proofs.Common.{refl, arith}
use Rattle.std.proofs.lemmas.Bool.Decides.{nat_tests}
use Rattle.response_rules.proofs.HopelessLemmas.{text_read}
use Rattle.response_rules.proofs.laws.text_is_read.Goals as goal

pub returns : goal.returns
returns c = record {
  reads = λ d h m reads text fits. text_read d h m reads text (grind (arith, nat_tests, fits));
  dead = λ d. refl;
}
