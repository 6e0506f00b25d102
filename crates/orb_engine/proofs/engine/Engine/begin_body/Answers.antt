use Rattle.std.proofs.Common.{◌++◌, refl}
use Rattle.response_rules.specs.declared.facts.Facts.{Facts}
use Rattle.http_exchange.specs.declared.frames.BodyFrame.{BodyFrame}
use Rattle.orb_io.proofs.GivesLemmas.{Gives-weaker, Gives-then}
use Rattle.orb_engine.specs.Judged.{judged_by}
use Rattle.orb_engine.specs.Reads.{table_of}
use Rattle.orb_engine.proofs.BeginLemmas.{begun, same-exchange, begun-fills, begun-breaks}
use Rattle.orb_engine.proofs.StepLemmas.{Causes-after}
use Rattle.orb_engine.proofs.engine.Engine.begin_body.Goals as goal

pub settle_body-requires-clause-can : goal.settle_body-requires-clause-can
settle_body-requires-clause-can g c =
    let (s, m, given, q) = c.requires.can in
    let read : Facts × BodyFrame = (c.args.facts, c.args.frame) in
    let h = (begun c.args.asked read c.args.self.now s m given q).heads in
    let x = same-exchange c.args.asked read c.args.self.now s m given q c.as_slice.result.now c.is_chunked-chunked.result
    c.as_slice.ensures.value c.is_chunked-chunked.ensures in
    let passed = c.in-Ok.ensures.calls.tells s (judged_by s (table_of q.whole.exchanges) h) given q.whole.writer q.facts in (
      s,
      m,
      given ++ passed.more,
      begun-fills _ c.args.asked read c.args.self.now _ s m given passed.more q _
          (record { media = refl; offset = refl; taken = refl; counts = refl; told = refl; settings = c.in-Ok.ensures.settings })
          x passed.holds.0 passed.holds.1 c.new.ensures c.is_to_end.ensures c.id_of.ensures,
    )

pub returns-in-Ok-clause-goes : goal.returns-in-Ok-clause-goes
returns-in-Ok-clause-goes g c = record {
  tells = λ s m given q.
      let read : Facts × BodyFrame = (c.args.facts, c.args.frame) in
      let h = (begun c.args.asked read c.args.self.now s m given q).heads in
      let x = same-exchange c.args.asked read c.args.self.now s m given q c.as_slice.result.now c.is_chunked-chunked.result
      c.as_slice.ensures.value c.is_chunked-chunked.ensures in
      Gives-then _ _ _ given _ _ (c.in-Ok.ensures.calls.tells s (judged_by s (table_of q.whole.exchanges) h) given q.whole.writer q.facts)
      (λ more passed. c.settle_body.ensures.goes.tells s m (given ++ more)
      (begun-fills _ c.args.asked read c.args.self.now _ s m given more q _
      (record { media = refl; offset = refl; taken = refl; counts = refl; told = refl; settings = c.in-Ok.ensures.settings })
      x passed.0 passed.1 c.new.ensures c.is_to_end.ensures c.id_of.ensures));
  cause = Causes-after c.settle_body.result _ _ _ c.in-Ok.ensures.calls.cause c.settle_body.ensures.goes.cause;
  keeps = g.met.O.Sink.kept_transitive _ _ _ c.in-Ok.ensures.calls.keeps c.settle_body.ensures.goes.keeps;
}

pub returns-in-Err-clause-goes : goal.returns-in-Err-clause-goes
returns-in-Err-clause-goes g c = record {
  tells = λ s m given q.
      let read : Facts × BodyFrame = (c.args.facts, c.args.frame) in
      let h = (begun c.args.asked read c.args.self.now s m given q).heads in
      let x = same-exchange c.args.asked read c.args.self.now s m given q c.as_slice.result.now c.is_chunked-chunked.result
      c.as_slice.ensures.value c.is_chunked-chunked.ensures in
      Gives-weaker _ _ given _ _ (λ more within.
      begun-breaks c.args.asked read c.args.self.now _ s m given more q _
      (record { media = refl; offset = refl; taken = refl; counts = refl; told = refl; settings = c.in-Err.ensures.settings })
      x within)
      (c.in-Err.ensures.calls.tells s (judged_by s (table_of q.whole.exchanges) h) given q.whole.writer q.facts);
  cause = c.in-Err.ensures.calls.cause;
  keeps = c.in-Err.ensures.calls.keeps;
}
