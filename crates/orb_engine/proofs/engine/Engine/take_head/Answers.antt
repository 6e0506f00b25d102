use Rattle.std.proofs.Common.{◌++◌, length, take, refl, ap, ◌∙◌, arith}
use Rattle.std.proofs.lemmas.List.{length-take-le}
use Rattle.orb_io.proofs.GivesLemmas.{Gives-none, Gives-weaker}
use Rattle.http_exchange.specs.HeadTexts.{IsHeadText, IsOpenHead}
use Rattle.orb_engine.specs.declared.progress.Progress.{Progress}
use Rattle.orb_engine.proofs.HeadStepLemmas.{took, open-head, reads-head, head-longer, head-long, halts-piece, taken-all}
use Rattle.orb_engine.proofs.engine.Engine.take_head.Goals as goal

pub read_head-requires-clause-can : goal.read_head-requires-clause-can
read_head-requires-clause-can g c =
    let (s, m, given, r) = c.requires.can in
    let e = c.args.self.now in
    let t = c.in-Whole.ensures in
    let more = c.advance-in-Whole.ensures in (
      s,
      _,
      given,
      head-longer e.state IsHeadText e _ s m given (take c.in-Whole.used c.args.piece.now) (open-head e.state e s m given refl c.requires.head r)
          (took e _ c.in-Whole.used refl refl more) t.2 t.3
          (ap (λ (p : Progress). p.taken) more ∙ omega (arith, length-take-le c.in-Whole.used c.args.piece.now t.1)),
    )

pub returns-in-Open-clause-goes : goal.returns-in-Open-clause-goes
returns-in-Open-clause-goes g c = record {
  tells = λ s m given r.
      let e = c.args.self.now in
      let t = c.in-Open.ensures in
      let more = c.advance.ensures in
      Gives-none _ given _ (g.met.O.Sink.told_agrees c.args.output.now)
      (taken-all _ s m c.args.piece.now given
      (reads-head e.state _ s (m ++ c.args.piece.now) given refl
      (head-longer e.state IsOpenHead e _ s m given c.args.piece.now (open-head e.state e s m given refl c.requires.head r)
      (took e _ (length c.args.piece.now) refl refl more) t.0 t.1 (ap (λ (p : Progress). p.taken) more))));
  cause = refl;
  keeps = g.met.O.Sink.kept_reflexive c.args.output.now;
}

pub returns-in-Long-clause-goes : goal.returns-in-Long-clause-goes
returns-in-Long-clause-goes g c = record {
  tells = λ s m given r.
      let e = c.args.self.now in
      let (prefix, rest, is, head, long) = c.in-Long.ensures in
      Gives-none _ given _ (g.met.O.Sink.told_agrees c.args.output.now)
      (rw (is, c.head_offset.ensures) (head-long e.state e _ s m given prefix rest (open-head e.state e s m given refl c.requires.head r)
      (record { media = refl; offset = refl; counts = refl; told = refl; writer = refl }) head long));
  cause = refl;
  keeps = g.met.O.Sink.kept_reflexive c.args.output.now;
}

pub returns-in-Ok-clause-goes : goal.returns-in-Ok-clause-goes
returns-in-Ok-clause-goes g c = record {
  tells = λ s m given r.
      let e = c.args.self.now in
      let t = c.in-Whole.ensures in
      let more = c.advance-in-Whole.ensures in
      Gives-weaker _ _ given _ _ (λ more reads. (t.1, reads))
      (c.in-Ok.ensures.goes.tells s _ given
      (head-longer e.state IsHeadText e _ s m given (take c.in-Whole.used c.args.piece.now) (open-head e.state e s m given refl c.requires.head r)
      (took e _ c.in-Whole.used refl refl more) t.2 t.3
      (ap (λ (p : Progress). p.taken) more ∙ omega (arith, length-take-le c.in-Whole.used c.args.piece.now t.1))));
  cause = c.in-Ok.ensures.goes.cause;
  keeps = c.in-Ok.ensures.goes.keeps;
}

pub returns-in-Err-clause-goes : goal.returns-in-Err-clause-goes
returns-in-Err-clause-goes g c = record {
  tells = λ s m given r.
      let e = c.args.self.now in
      let t = c.in-Whole.ensures in
      let more = c.advance-in-Whole.ensures in
      Gives-weaker _ _ given _ _ (λ more halts. halts-piece c.in-Err.stop _ s m c.args.piece.now (given ++ more) c.in-Whole.used halts)
      (c.in-Err.ensures.goes.tells s _ given
      (head-longer e.state IsHeadText e _ s m given (take c.in-Whole.used c.args.piece.now) (open-head e.state e s m given refl c.requires.head r)
      (took e _ c.in-Whole.used refl refl more) t.2 t.3
      (ap (λ (p : Progress). p.taken) more ∙ omega (arith, length-take-le c.in-Whole.used c.args.piece.now t.1))));
  cause = c.in-Err.ensures.goes.cause;
  keeps = c.in-Err.ensures.goes.keeps;
}
