use Rattle.orb_io.proofs.CallLemmas.{Puts-none}
use Rattle.http_exchange.specs.Framing.{end_of}
use Rattle.http_exchange.proofs.framing.Framer.finish.Goals as goal

pub returns-then-self-clause-puts : goal.returns-then-self-clause-puts
unfolding end_of
returns-then-self-clause-puts g c = rw (c.if-self.true, ← c.as_slice.ensures.value) c.put_end.ensures.puts

pub returns-else-self-clause-puts : goal.returns-else-self-clause-puts
unfolding end_of
returns-else-self-clause-puts g c =
    rw c.if-self.false (Puts-none g.O.Sink _ _ (g.met.O.Sink.told_agrees c.args.sink.now)
    (g.met.O.Sink.kept_reflexive c.args.sink.now))
