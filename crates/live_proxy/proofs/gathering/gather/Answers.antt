use Rattle.std.proofs.Common.{take, refl, arith, length-take}
use Rattle.orb_io.proofs.ToldLemmas.{Loses-none}
use Rattle.live_proxy.proofs.GatherLemmas.{open-none, grown, long}
use Rattle.live_proxy.proofs.gathering.gather.Goals as goal

pub pulls-init : goal.pulls-init
pulls-init g c = record {
  lost = rw c.requires.empty (Loses-none (g.I.Source.left c.args.input.now));
  open_ = rw c.requires.empty open-none;
  faults = refl;
  kept = g.met.I.Source.kept_reflexive c.args.input.now;
  room = refl;
}

pub pulls-smaller : goal.pulls-smaller
pulls-smaller g c =
    grown c.pulls.head (take c.in-Ok.count c.pull.new.buf) c.take.new.self
    (omega (arith, length-take c.in-Ok.count c.pull.new.buf, c.in-Ok.count-test, c.in-Ok.ensures.bound)) c.in-Open.ensures

pub returns-in-Long-clause-gathers : goal.returns-in-Long-clause-gathers
returns-in-Long-clause-gathers g c =
    long _ _ _ c.pulls.head (take c.in-Ok.count c.pull.new.buf) c.take.new.self c.pull.new.buf c.pulls.invariant.lost
    c.in-Ok.ensures.bytes.0 c.pulls.invariant.open_ (omega (arith, length-take c.in-Ok.count c.pull.new.buf)) c.in-Long.ensures
