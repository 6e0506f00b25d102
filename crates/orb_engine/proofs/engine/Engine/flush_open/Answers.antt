use Rattle.std.proofs.Common.{◌++◌, refl, ap}
use Rattle.orb_engine.specs.declared.progress.Progress.{Progress}
use Rattle.orb_io.proofs.GivesLemmas.{Gives-weaker}
use Rattle.orb_engine.proofs.FlushLemmas.{reads-flushed, reads-broken}
use Rattle.orb_engine.proofs.engine.Engine.flush_open.Goals as goal

pub returns-in-Ok-clause-goes : goal.returns-in-Ok-clause-goes
returns-in-Ok-clause-goes g c = record {
  tells = λ s m given r.
      Gives-weaker _ _ given _ _ (λ more flushed.
      reads-flushed c.args.self.now _ s m given (given ++ more) r.0 r.1 refl refl c.flush.ensures.same refl c.commit.ensures flushed.0 flushed.1)
      (c.in-Ok.ensures.calls.tells given);
  cause = c.in-Ok.ensures.calls.cause;
  keeps = c.in-Ok.ensures.calls.keeps;
}

pub returns-in-Err-clause-goes : goal.returns-in-Err-clause-goes
returns-in-Err-clause-goes g c = record {
  tells = λ s m given r.
      Gives-weaker _ _ given _ _
      (λ more within. reads-broken c.args.self.now _ s m given more r.0 (ap (λ (p : Progress). p.counts) c.roll_back.ensures) within)
      (c.in-Err.ensures.calls.tells given);
  cause = c.in-Err.ensures.calls.cause;
  keeps = c.in-Err.ensures.calls.keeps;
}
