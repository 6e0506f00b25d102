use Rattle.std.proofs.Common.{◌++◌, false, arith, length-append}
use Rattle.orb_io.proofs.GivesLemmas.{Gives-then}
use Rattle.orb_engine.proofs.engine.Engine.feed.Goals as goal

pub returns-in-Ok-clause-goes : goal.returns-in-Ok-clause-goes
returns-in-Ok-clause-goes g c = record {
  tells = λ s m given r.
      Gives-then _ _ _ given _ _ (c.in-Ok.ensures.goes.tells s m given r.reads)
      (λ more reads. c.flush_open.ensures.goes.tells s (m ++ c.args.piece.now) (given ++ more)
      (reads, omega (arith, reads.taken, r.reads.taken, c.requires.few, length-append m c.args.piece.now)));
  cause = rw (← c.in-Ok.ensures.goes.cause) c.flush_open.ensures.goes.cause;
  keeps = g.met.O.Sink.kept_transitive _ _ _ c.in-Ok.ensures.goes.keeps c.flush_open.ensures.goes.keeps;
}

pub returns-in-Err-clause-goes : goal.returns-in-Err-clause-goes
returns-in-Err-clause-goes g c = record {
  tells = λ s m given r.
      Gives-then _ _ _ given _ _ (c.in-Err.ensures.goes.tells s m given r.reads)
      (λ more halts. (c.settle.ensures.goes false).tells s (m ++ c.args.piece.now) (given ++ more) halts);
  cause = (c.settle.ensures.goes false).cause _ c.in-Err.ensures.goes.cause;
  keeps = g.met.O.Sink.kept_transitive _ _ _ c.in-Err.ensures.goes.keeps (c.settle.ensures.goes false).keeps;
}

pub returns-in-Ok-clause-taken : goal.returns-in-Ok-clause-taken
returns-in-Ok-clause-taken g c = λ none.
    let k = c.requires.can in
    let reads = (c.in-Ok.ensures.goes.tells k.s k.m k.given k.reads.reads).holds in
    omega (arith, c.flush_open.ensures.taken, reads.taken, k.reads.reads.taken, length-append k.m c.args.piece.now)
