use Rattle.std.proofs.Common.{Err, refl, subst}
use Rattle.orb_io.proofs.GivesLemmas.{Gives-none}
use Rattle.http_exchange.specs.Reading.{ReadsResponseHead}
use Rattle.exchanges.specs.HeadReads.{ReadsWell}
use Rattle.orb_engine.proofs.HeadStepLemmas.{response-good, response-bad}
use Rattle.orb_engine.proofs.engine.Engine.read_response.Goals as goal

pub begin_body-requires-clause-can : goal.begin_body-requires-clause-can
begin_body-requires-clause-can g c =
    let (s, m, given, h) = c.requires.can in (
      s,
      m,
      given,
      response-good c.args.asked (c.in-Ok.facts, c.in-Ok.frame) c.args.self.now _ s m given h
          (record { media = refl; offset = refl; counts = refl; told = refl; writer = refl }) c.response.ensures.same refl
          (subst (λ k. ReadsWell k c.args.self.now.head c.in-Ok.facts c.in-Ok.frame) c.context.ensures c.in-Ok.ensures.reads),
    )

pub returns-in-Ok-clause-goes : goal.returns-in-Ok-clause-goes
returns-in-Ok-clause-goes g c = record {
  tells = λ s m given h.
      c.begin_body.ensures.goes.tells s m given (response-good c.args.asked (c.in-Ok.facts, c.in-Ok.frame) c.args.self.now _ s m given h
      (record { media = refl; offset = refl; counts = refl; told = refl; writer = refl }) c.response.ensures.same refl
      (subst (λ k. ReadsWell k c.args.self.now.head c.in-Ok.facts c.in-Ok.frame) c.context.ensures c.in-Ok.ensures.reads));
  cause = c.begin_body.ensures.goes.cause;
  keeps = c.begin_body.ensures.goes.keeps;
}

pub returns-in-Err-clause-goes : goal.returns-in-Err-clause-goes
returns-in-Err-clause-goes g c = record {
  tells = λ s m given h.
      Gives-none _ given _ (g.met.O.Sink.told_agrees c.args.output.now)
      (response-bad c.args.asked c.args.self.now _ s m given c.in-Err.kind h
      (record { media = refl; offset = refl; counts = refl; told = refl; writer = refl })
      (subst (λ k. ReadsResponseHead c.args.self.now.head k.asks.is_head (Err c.in-Err.kind)) c.context.ensures c.in-Err.ensures.reads));
  cause = refl;
  keeps = g.met.O.Sink.kept_reflexive c.args.output.now;
}
