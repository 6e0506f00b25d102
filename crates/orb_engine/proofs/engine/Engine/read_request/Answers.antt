use Rattle.std.proofs.Common.{refl}
use Rattle.orb_engine.specs.declared.engine.states.Asked.{Asked}
use Rattle.orb_engine.proofs.HeadStepLemmas.{reads-response, request-bad, request-full, request-good}
use Rattle.orb_engine.proofs.engine.Engine.read_request.Goals as goal

pub returns-in-Err-clause-settles : goal.returns-in-Err-clause-settles
returns-in-Err-clause-settles c = λ s m given h.
    rw c.offset.ensures (request-bad c.args.self.now _ s m given _ h (record { media = refl; offset = refl; counts = refl; told = refl; writer = refl }) (c.in-Err.ensures.reads))

pub returns-in-Ok-enter-clause-settles : goal.returns-in-Ok-enter-clause-settles
returns-in-Ok-enter-clause-settles c = λ s m given h.
    let entered = c.in-Ok-enter.ensures in
    let asked : Asked = record { asks = c.in-Ok.asks; state = c.in-Ok-enter.state; offset = c.taken.result } in
    reads-response asked _ s m given
    (request-good c.args.self.now _ asked s m given h
    refl refl refl refl refl c.clear.ensures c.in-Ok.ensures.reads entered.2 entered.0 entered.1 c.taken.ensures) refl

pub returns-in-Err-enter-clause-settles : goal.returns-in-Err-enter-clause-settles
returns-in-Err-enter-clause-settles c = λ s m given h.
    rw c.offset-in-Err-enter.ensures (request-full c.args.self.now _ s m given c.in-Ok.asks h refl refl refl c.in-Ok.ensures.reads
    (c.in-Err-enter.ensures.0))
