use Rattle.orb_io.proofs.GivesLemmas.{Gives-none}
use Rattle.orb_engine.specs.declared.engine.states.State.{State}
use Rattle.http_exchange.specs.HeadTexts.{IsHeadText}
use Rattle.std.proofs.Common.{subst}
use Rattle.orb_engine.specs.Reads.{HasHead}
use Rattle.orb_engine.proofs.engine.Engine.read_head.Goals as goal

pub returns-in-RequestHead-clause-goes : goal.returns-in-RequestHead-clause-goes
returns-in-RequestHead-clause-goes g c = record {
  tells = λ s m given h.
      Gives-none _ given _ (g.met.O.Sink.told_agrees c.args.output.now)
      (c.read_request.ensures.settles s m given
      (subst (λ (t : State). HasHead IsHeadText t c.args.self.now s m given) c.in-RequestHead.is h));
  cause = c.read_request.ensures.no_faults _;
  keeps = g.met.O.Sink.kept_reflexive c.args.output.now;
}

pub returns-in-ResponseHead-clause-goes : goal.returns-in-ResponseHead-clause-goes
returns-in-ResponseHead-clause-goes g c =
    let went = c.read_response.ensures.goes in
    record {
      tells = λ s m given h. went.tells s m given (subst (λ (t : State). HasHead IsHeadText t c.args.self.now s m given) c.in-ResponseHead.is h);
      cause = went.cause;
      keeps = went.keeps;
    }
