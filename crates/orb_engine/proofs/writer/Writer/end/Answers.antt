use Rattle.std.proofs.Common.{◌++◌, sym, ap, subst, ◌∙◌, arith, refl}
use Rattle.orb_io.proofs.CallLemmas.{HasCause-after}
use Rattle.orb_io.proofs.GivesLemmas.{Gives-none, Gives-weaker, Gives-then}
use Rattle.orb_engine.specs.declared.worker.Worker.{Worker}
use Rattle.orb_io.specs.Outboxes.{OutboxState}
use Rattle.orb_engine.specs.Outputs.{written_so_far, written_whole}
use Rattle.orb_engine.specs.Workers.{Works}
use Rattle.orb_engine.specs.Writing.{box_of, gathered_by}
use Rattle.orb_engine.proofs.ClosingLemmas.{so_far-in-whole}
use Rattle.orb_engine.proofs.GatherLemmas.{boxed, boxed-err, direct, flush-broken}
use Rattle.orb_engine.proofs.writer.Writer.end.Goals as goal

pub unreachable-requires : goal.unreachable-requires
unreachable-requires g c =
    let x = c.requires.x in
    let m = c.requires.m in
    let s = c.requires.s in
    let reads = c.requires.reads in
    boxed-err (box_of c.args.self.now) c.end.new.sink (written_so_far s.job x m) (written_whole s.job c.args.number x m) c.most.result
    (c.in-Err.ensures.calls.tells s x m reads.works reads.body) c.in-Err.ensures.calls.keeps c.in-Err.ensures.calls.cause reads.no_faults
    (c.has_room.ensures.0 c.if-has_room.true)
    (omega (arith, c.in-Err.ensures.short s x m reads.works reads.body, c.most.ensures.value, reads.head))

pub returns-in-Ok-clause-calls : goal.returns-in-Ok-clause-calls
returns-in-Ok-clause-calls g c = record {
  tells = λ s x m given before reads gave.
      let put = c.in-Ok.ensures.calls.tells s x m reads.works reads.body in
      Gives-none _ given _ (g.met.O.Sink.told_agrees c.args.output.now) (
        boxed given (gathered_by c.args.self.now) _ before (written_so_far s.job x m) _ put.more gave put.gained.bytes put.holds.0,
        (
          put.holds.1,
          record {
            worker = c.in-Ok.ensures.worker s reads.works.is_for;
            no_faults = c.in-Ok.ensures.calls.cause ∙ reads.no_faults;
          },
        ),
      );
  cause = refl;
  keeps = g.met.O.Sink.kept_reflexive c.args.output.now;
}

pub returns-in-Ok-flush-clause-calls : goal.returns-in-Ok-flush-clause-calls
returns-in-Ok-flush-clause-calls g c = record {
  tells = λ s x m given before reads gave.
      let same = c.flush.ensures.same in
      let works = subst (λ (w : Worker). Works w s x m) (sym same.worker) reads.works in
      Gives-then _ _ _ given _ _ (c.in-Ok-flush.ensures.calls.tells given) (λ more flushed.
      direct _ _ (λ _ verdict. (
        verdict,
        record {
          worker = c.end-in-Ok-flush.ensures.worker s works.is_for;
          no_faults = ap (λ (b : OutboxState). b.faults) flushed.1;
        },
      )) c.end-in-Ok-flush.result _ _ _ (given ++ more) before (written_so_far s.job x m) (written_whole s.job c.args.number x m)
      (flushed.0 ∙ gave) (ap (λ (b : OutboxState). b.bytes) flushed.1)
      (c.end-in-Ok-flush.ensures.calls.tells s x m works (same.body ∙ reads.body)));
  cause = HasCause-after _ _ _ c.end-in-Ok-flush.result c.in-Ok-flush.ensures.calls.cause c.end-in-Ok-flush.ensures.calls.cause;
  keeps = g.met.O.Sink.kept_transitive _ _ _ c.in-Ok-flush.ensures.calls.keeps c.end-in-Ok-flush.ensures.calls.keeps;
}

pub returns-in-Err-flush-clause-calls : goal.returns-in-Err-flush-clause-calls
returns-in-Err-flush-clause-calls g c = record {
  tells = λ s x m given before reads gave.
      Gives-weaker _ _ given _ _ (λ more within.
      flush-broken given (gathered_by c.args.self.now) before (written_so_far s.job x m) _ (given ++ more) gave
      (so_far-in-whole s.job c.args.number x m) within)
      (c.in-Err-flush.ensures.calls.tells given);
  cause = c.in-Err-flush.ensures.calls.cause;
  keeps = c.in-Err-flush.ensures.calls.keeps;
}
