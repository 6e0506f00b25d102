use Rattle.std.proofs.Common.{[], ◌++◌, length, refl, sym, ap, subst, ◌∙◌, arith}
use Rattle.std.proofs.lemmas.List.{append-nil}
use Rattle.orb_io.proofs.ToldLemmas.{IsPrefix-none}
use Rattle.orb_io.proofs.CallLemmas.{HasCause-after}
use Rattle.orb_io.proofs.GivesLemmas.{Gives-none, Gives-weaker, Gives-then}
use Rattle.body_filter.specs.Responses.{response_of}
use Rattle.orb_engine.specs.declared.worker.Worker.{Worker}
use Rattle.orb_io.specs.Outboxes.{OutboxState}
use Rattle.orb_engine.specs.Outputs.{written_so_far}
use Rattle.orb_engine.specs.Workers.{IsWorkerFor}
use Rattle.orb_engine.specs.Writing.{box_of, gathered_by}
use Rattle.orb_engine.proofs.WorkLemmas.{so_far-none}
use Rattle.orb_engine.proofs.GatherLemmas.{boxed, boxed-err, direct, flush-broken}
use Rattle.orb_engine.proofs.writer.Writer.begin.Goals as goal

pub unreachable-requires : goal.unreachable-requires
unreachable-requires g c =
    let (s, h, is_for, new) = c.requires.made in
    let x = response_of h c.args.head.now c.args.chunked in
    boxed-err (box_of c.args.self.now) c.begin.new.sink [] (written_so_far s.job x []) (length c.args.head.now)
    (c.in-Err.ensures.calls.tells s h is_for.worker new) c.in-Err.ensures.calls.keeps c.in-Err.ensures.calls.cause is_for.no_faults
    (c.has_room.ensures.0 c.if-has_room.true) (omega (arith, so_far-none s.job x))

pub returns-in-Ok-clause-calls : goal.returns-in-Ok-clause-calls
returns-in-Ok-clause-calls g c = record {
  tells = λ s h given is_for new.
      let x = response_of h c.args.head.now c.args.chunked in
      let box = gathered_by c.args.self.now in
      let put = c.in-Ok.ensures.calls.tells s h is_for.worker new in
      Gives-none _ given _ (g.met.O.Sink.told_agrees c.args.output.now) (
        boxed given box _ (given ++ box) [] (written_so_far s.job x []) put.more (sym (append-nil (given ++ box))) put.gained.bytes put.holds.0,
        record {
          works = put.holds.1;
          no_faults = c.in-Ok.ensures.calls.cause ∙ is_for.no_faults;
          head = refl;
          body = refl;
        },
      );
  cause = refl;
  keeps = g.met.O.Sink.kept_reflexive c.args.output.now;
}

pub returns-in-Ok-flush-clause-calls : goal.returns-in-Ok-flush-clause-calls
returns-in-Ok-flush-clause-calls g c = record {
  tells = λ s h given is_for new.
      let x = response_of h c.args.head.now c.args.chunked in
      let box = gathered_by c.args.self.now in
      let same = c.flush.ensures.same in
      let worker_for = subst (λ (w : Worker). IsWorkerFor w s) (sym same.worker) is_for.worker in
      Gives-then _ _ _ given _ _ (c.in-Ok-flush.ensures.calls.tells given) (λ more flushed.
      direct _ _ (λ _ works. record {
        works = works;
        no_faults = ap (λ (b : OutboxState). b.faults) flushed.1;
        head = same.head;
        body = same.body;
      }) c.begin-in-Ok-flush.result _ _ _ (given ++ more) (given ++ box) [] (written_so_far s.job x [])
      (flushed.0 ∙ sym (append-nil (given ++ box))) (ap (λ (b : OutboxState). b.bytes) flushed.1)
      (c.begin-in-Ok-flush.ensures.calls.tells s h worker_for new));
  cause = HasCause-after _ _ _ c.begin-in-Ok-flush.result c.in-Ok-flush.ensures.calls.cause c.begin-in-Ok-flush.ensures.calls.cause;
  keeps = g.met.O.Sink.kept_transitive _ _ _ c.in-Ok-flush.ensures.calls.keeps c.begin-in-Ok-flush.ensures.calls.keeps;
}

pub returns-in-Err-flush-clause-calls : goal.returns-in-Err-flush-clause-calls
returns-in-Err-flush-clause-calls g c = record {
  tells = λ s h given is_for new.
      let box = gathered_by c.args.self.now in
      Gives-weaker _ _ given _ _ (λ more within.
      flush-broken given box (given ++ box) [] _ (given ++ more) (sym (append-nil (given ++ box))) (IsPrefix-none _) within)
      (c.in-Err-flush.ensures.calls.tells given);
  cause = c.in-Err-flush.ensures.calls.cause;
  keeps = c.in-Err-flush.ensures.calls.keeps;
}
