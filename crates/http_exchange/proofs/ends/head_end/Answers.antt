use Rattle.std.proofs.Common.{sym, arith}
use Rattle.http_exchange.proofs.EndLemmas.{head_length-none, head_length-some}
use Rattle.http_exchange.proofs.ends.head_end.Goals as goal

pub returns-in-Some-clause-value : goal.returns-in-Some-clause-value
returns-in-Some-clause-value c =
    sym (head_length-some c.args.bytes.now c.in-Some.at
    (λ j less. c.in-Some.ensures.0.before j (omega arith) less) c.in-Some.ensures.1)

pub returns-in-None-clause-value : goal.returns-in-None-clause-value
returns-in-None-clause-value c =
    sym (head_length-none c.args.bytes.now (λ k less. c.in-None.ensures k (omega arith) less))
