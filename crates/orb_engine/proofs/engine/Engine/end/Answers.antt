use Rattle.std.proofs.Common.{◌++◌, true}
use Rattle.orb_io.proofs.GivesLemmas.{Gives-then}
use Rattle.orb_engine.proofs.engine.Engine.end.Goals as goal

pub returns-clause-goes : goal.returns-clause-goes
returns-clause-goes g c = record {
  tells = λ s m given r.
      Gives-then _ _ _ given _ _ (c.finish-stop.ensures.goes.tells s m given r.reads)
      (λ more halts. (c.settle.ensures.goes true).tells s m (given ++ more) halts);
  cause = (c.settle.ensures.goes true).cause _ c.finish-stop.ensures.goes.cause;
  keeps = g.met.O.Sink.kept_transitive _ _ _ c.finish-stop.ensures.goes.keeps (c.settle.ensures.goes true).keeps;
}
