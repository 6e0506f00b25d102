use Rattle.std.proofs.Common.{refl, ap, subst}
use Rattle.orb_engine.specs.declared.progress.Progress.{Progress}
use Rattle.orb_io.proofs.GivesLemmas.{Gives-none}
use Rattle.orb_engine.specs.declared.outcome.EngineOutcome.{EngineOutcome}
use Rattle.orb_engine.specs.Reads.{Halts, HaltCause}
use Rattle.orb_engine.proofs.FlushLemmas.{breaks-fail, halts-stops}
use Rattle.orb_engine.proofs.engine.Engine.settle.Goals as goal

pub returns-in-WriteFault-clause-goes : goal.returns-in-WriteFault-clause-goes
returns-in-WriteFault-clause-goes g c = λ ended. record {
  tells = λ s m given halts.
      Gives-none _ given _ (g.met.O.Sink.told_agrees c.args.output.now)
      (breaks-fail c.args.self.now _ s m ended given
      (subst (λ (o : EngineOutcome). Halts o c.args.self.now s m ended given) c.in-WriteFault.is halts) (ap (λ (p : Progress). p.counts) c.roll_back.ensures));
  cause = λ before cause. subst (λ (o : EngineOutcome). HaltCause o before (g.O.Sink.faults c.args.output.now)) c.in-WriteFault.is cause;
  keeps = g.met.O.Sink.kept_reflexive c.args.output.now;
}

pub returns-in_default-clause-goes : goal.returns-in_default-clause-goes
returns-in_default-clause-goes g c = λ ended. record {
  tells = λ s m given halts. (c.flush_stop.ensures.goes ended).tells s m given
      (halts-stops c.args.stop c.args.self.now _ s m ended given c.in_default.not-WriteFault refl refl halts);
  cause = (c.flush_stop.ensures.goes ended).cause;
  keeps = (c.flush_stop.ensures.goes ended).keeps;
}
