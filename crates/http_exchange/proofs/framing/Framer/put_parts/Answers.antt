use Rattle.std.proofs.Common.{refl}
use Rattle.http_exchange.specs.Framing.{put_of, kept_after}
use Rattle.http_exchange.proofs.FramingLaws.{on_ok}
use Rattle.http_exchange.proofs.framing.Framer.put_parts.Goals as goal

pub returns-then-self-clause-puts : goal.returns-then-self-clause-puts
unfolding put_of
returns-then-self-clause-puts g c = rw c.if-self.true c.push_chunks.ensures.puts

pub returns-then-self-clause-rest : goal.returns-then-self-clause-rest
unfolding kept_after
returns-then-self-clause-rest g c = rw c.if-self.true c.push_chunks.ensures.rest

pub returns-else-self-clause-puts : goal.returns-else-self-clause-puts
unfolding put_of
returns-else-self-clause-puts g c = rw c.if-self.false c.push_nonempty.ensures.puts

pub returns-else-self-clause-rest : goal.returns-else-self-clause-rest
unfolding kept_after
returns-else-self-clause-rest g c = rw c.if-self.false (on_ok c.push_nonempty.result refl)
