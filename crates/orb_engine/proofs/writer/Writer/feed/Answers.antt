use Rattle.std.proofs.Common.{◌++◌, length-append, refl, sym, ap, subst, ◌∙◌, arith}
use Rattle.orb_io.proofs.CallLemmas.{HasCause-after}
use Rattle.orb_io.proofs.GivesLemmas.{Gives-none, Gives-weaker, Gives-then}
use Rattle.orb_engine.specs.declared.worker.Worker.{Worker}
use Rattle.orb_io.specs.Outboxes.{OutboxState}
use Rattle.orb_engine.specs.Outputs.{written_so_far}
use Rattle.orb_engine.specs.Workers.{Works}
use Rattle.orb_engine.specs.Writing.{box_of, gathered_by}
use Rattle.orb_engine.proofs.OutputLaws.{written_so_far-grows}
use Rattle.orb_engine.proofs.GatherLemmas.{boxed, boxed-err, direct, flush-broken}
use Rattle.orb_engine.proofs.writer.Writer.feed.Goals as goal

pub unreachable-requires : goal.unreachable-requires
unreachable-requires g c =
    let x = c.requires.can.x in
    let m = c.requires.can.m in
    let s = c.requires.can.s in
    let reads = c.requires.can.reads in
    boxed-err (box_of c.args.self.now) c.feed.new.sink (written_so_far s.job x m) (written_so_far s.job x (m ++ c.args.body.now)) c.most.result
    (c.in-Err.ensures.calls.tells s x m reads.works) c.in-Err.ensures.calls.keeps c.in-Err.ensures.calls.cause reads.no_faults
    (c.has_room.ensures.0 c.if-has_room.true)
    (c.most.ensures.feeds s x m c.args.body.now reads.works reads.head refl)

pub returns-in-Ok-clause-calls : goal.returns-in-Ok-clause-calls
returns-in-Ok-clause-calls g c = record {
  tells = λ s x m given before reads gave.
      let put = c.in-Ok.ensures.calls.tells s x m reads.works in
      Gives-none _ given _ (g.met.O.Sink.told_agrees c.args.output.now) (
        boxed given (gathered_by c.args.self.now) _ before (written_so_far s.job x m) _ put.more gave put.gained.bytes put.holds.0,
        record {
          works = put.holds.1;
          no_faults = c.in-Ok.ensures.calls.cause ∙ reads.no_faults;
          head = reads.head;
          body = omega (arith, length-append m c.args.body.now, reads.body);
        },
      );
  cause = refl;
  keeps = g.met.O.Sink.kept_reflexive c.args.output.now;
}

pub returns-in-Ok-flush-clause-calls : goal.returns-in-Ok-flush-clause-calls
returns-in-Ok-flush-clause-calls g c = record {
  tells = λ s x m given before reads gave.
      let same = c.flush.ensures.same in
      let works = subst (λ (w : Worker). Works w s x m) (sym same.worker) reads.works in
      Gives-then _ _ _ given _ _ (c.in-Ok-flush.ensures.calls.tells given) (λ more flushed.
      direct _ _ (λ _ works. record {
        works = works;
        no_faults = ap (λ (b : OutboxState). b.faults) flushed.1;
        head = same.head ∙ reads.head;
        body = omega (arith, same.body, length-append m c.args.body.now, reads.body);
      }) c.feed-in-Ok-flush.result _ _ _ (given ++ more) before (written_so_far s.job x m) (written_so_far s.job x (m ++ c.args.body.now))
      (flushed.0 ∙ gave) (ap (λ (b : OutboxState). b.bytes) flushed.1) (c.feed-in-Ok-flush.ensures.calls.tells s x m works));
  cause = HasCause-after _ _ _ c.feed-in-Ok-flush.result c.in-Ok-flush.ensures.calls.cause c.feed-in-Ok-flush.ensures.calls.cause;
  keeps = g.met.O.Sink.kept_transitive _ _ _ c.in-Ok-flush.ensures.calls.keeps c.feed-in-Ok-flush.ensures.calls.keeps;
}

pub returns-in-Err-flush-clause-calls : goal.returns-in-Err-flush-clause-calls
returns-in-Err-flush-clause-calls g c = record {
  tells = λ s x m given before reads gave.
      Gives-weaker _ _ given _ _ (λ more within.
      flush-broken given (gathered_by c.args.self.now) before (written_so_far s.job x m) _ (given ++ more) gave
      (written_so_far-grows s.job x m c.args.body.now) within)
      (c.in-Err-flush.ensures.calls.tells given);
  cause = c.in-Err-flush.ensures.calls.cause;
  keeps = c.in-Err-flush.ensures.calls.keeps;
}
