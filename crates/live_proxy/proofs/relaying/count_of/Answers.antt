use Rattle.std.proofs.Common.{arith}
use Rattle.http_exchange.specs.HeadTexts.{head_limit}
use Rattle.live_proxy.proofs.relaying.count_of.Goals as goal

pub returns-clause-few : goal.returns-clause-few
unfolding head_limit
returns-clause-few c = omega (arith, c.requires.text.fits, c.requires.few)
