use Rattle.std.proofs.Common.{rules, tests, refl}
use Rattle.std.proofs.lemmas.Iterator.Consumers.{YieldsList-from_first}
use Rattle.std.proofs.lemmas.Iterator.Search.{all_from_yields_List}
use Rattle.header_values.specs.Cuts.{parts_left}
use Rattle.http_exchange.specs.ResponseFields.{writes}
use Rattle.http_exchange.proofs.response.all_write.Goals as goal

pub returns : goal.returns
returns c =
    all_from_yields_List (writes c.args.number) _ _ c.all.result c.all.ensures.ran
    (YieldsList-from_first (λ part. part.now) parts_left (parts_left c.args.parts) refl)
    (λ x b q k. search (rules, tests))
