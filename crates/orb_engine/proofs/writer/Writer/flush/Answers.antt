use Rattle.std.proofs.Common.{refl}
use Rattle.orb_io.proofs.GivesLemmas.{Gives-of, Delivers-fault}
use Rattle.orb_engine.proofs.writer.Writer.flush.Goals as goal

pub returns-in-Ok-clause-calls : goal.returns-in-Ok-clause-calls
returns-in-Ok-clause-calls g c = record {
  tells = λ given.
      Gives-of _ _ given _ _ c.in-Ok.ensures.puts.bytes (rw c.as_slice.ensures refl, c.clear.ensures);
  cause = c.in-Ok.ensures.puts.cause;
  keeps = c.in-Ok.ensures.puts.keeps;
}

pub returns-in-Err-clause-calls : goal.returns-in-Err-clause-calls
returns-in-Err-clause-calls g c = record {
  tells = λ given.
      Delivers-fault _ _ given _ _ c.in-Err.ensures.puts.bytes (rw c.as_slice.ensures refl);
  cause = c.in-Err.ensures.puts.cause;
  keeps = c.in-Err.ensures.puts.keeps;
}
