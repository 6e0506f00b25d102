use Rattle.std.proofs.Common.{◌++◌, refl, ap}
use Rattle.orb_engine.specs.declared.progress.Progress.{Progress}
use Rattle.orb_io.proofs.GivesLemmas.{Gives-weaker}
use Rattle.orb_engine.proofs.FlushLemmas.{as-ends, stops-flushed, stops-broken, stop-unraised}
use Rattle.orb_engine.proofs.engine.Engine.flush_stop.Goals as goal

pub returns-in-Ok-clause-goes : goal.returns-in-Ok-clause-goes
returns-in-Ok-clause-goes g c = λ ended. record {
  tells = λ s m given stops.
      Gives-weaker _ _ given _ _ (λ more flushed. as-ends c.args.stop _ s m ended (given ++ more) c.requires
      (stops-flushed c.args.stop c.args.self.now _ s m given ended (given ++ more) stops refl flushed.0))
      (c.in-Ok.ensures.calls.tells given);
  cause = λ before cause. rw c.in-Ok.ensures.calls.cause cause;
  keeps = c.in-Ok.ensures.calls.keeps;
}

pub returns-in-Err-clause-goes : goal.returns-in-Err-clause-goes
returns-in-Err-clause-goes g c = λ ended. record {
  tells = λ s m given stops.
      Gives-weaker _ _ given _ _ (λ more within. stops-broken c.args.stop c.args.self.now _ s m given ended more stops (ap (λ (p : Progress). p.counts) c.roll_back.ensures) within)
      (c.in-Err.ensures.calls.tells given);
  cause = λ before cause. rw (← (stop-unraised c.args.stop before _ c.requires cause)) c.in-Err.ensures.calls.cause;
  keeps = c.in-Err.ensures.calls.keeps;
}
