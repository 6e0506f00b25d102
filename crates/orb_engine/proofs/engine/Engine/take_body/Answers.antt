use Rattle.std.proofs.Common.{◌∙◌, ◌++◌, take, refl, ap, arith}
use Rattle.std.specs.FinMap as map
use Rattle.orb_io.proofs.GivesLemmas.{Gives-none, Gives-weaker, Gives-then}
use Rattle.orb_engine.specs.declared.engine.Engine.{Engine}
use Rattle.orb_engine.specs.declared.outcome.EngineOutcome.TheVariants as outcome
use Rattle.orb_engine.specs.declared.progress.Progress.{Progress}
use Rattle.orb_engine.specs.Outputs.{written_exchanges}
use Rattle.orb_engine.specs.Reads.{coming_response, with_unframer}
use Rattle.orb_engine.proofs.HeadStepLemmas.{took, halts-piece}
use Rattle.orb_engine.proofs.BodyStepLemmas.{in-body, open-body, body-got, body-few, body-bad, not-zero}
use Rattle.orb_engine.proofs.PassLemmas.{fills-at, passed-fills, passed-breaks}
use Rattle.orb_engine.proofs.StepLemmas.{HaltCause-after}
use Rattle.orb_engine.proofs.engine.Engine.take_body.Goals as goal

pub feed-requires-clause-few : goal.feed-requires-clause-few
feed-requires-clause-few g c =
    let e = c.args.self.now in
    let (i, is) = in-body e.state c.requires.body in
    let took_ = c.in-Got.ensures i is in
    let u = took_.unframer in
    let (s, m, given, r) = c.requires.can in
    let h = open-body i e s m given r is in
    body-few i u e s m given c.args.piece.now c.in-Got.body.now c.in-Got.used h
    (took_.answers h.coming.heads.response.frame h.coming.sent h.coming.body h.receives.unframer) c.requires.few

pub settle_body-requires-clause-can : goal.settle_body-requires-clause-can
settle_body-requires-clause-can g c =
    let e = c.args.self.now in
    let (i, is) = in-body e.state c.requires.body in
    let took_ = c.in-Got.ensures i is in
    let u = took_.unframer in
    let (s, m, given, r) = c.requires.can in
    let e1 : Engine = record { media = e.media; head = e.head; writer = e.writer; state = c.unframe.new.self; progress = c.advance.new.self } in
    let h = open-body i e s m given r is in
    let p = body-got i u e e1 s m given c.args.piece.now c.in-Got.body.now c.in-Got.used h (took e e1 c.in-Got.used refl refl c.advance.ensures)
    (took_.answers h.coming.heads.response.frame h.coming.sent h.coming.body h.receives.unframer)
    (ap (λ (p : Progress). p.taken) c.advance.ensures) in
    let passed = c.in-Ok.ensures.calls.tells s (coming_response s p.coming) p.coming.body given (written_exchanges s map.empty 0 p.coming.exchanges) p.writer p.gave in (
      s,
      m ++ take c.in-Got.used c.args.piece.now,
      given ++ passed.more,
      fills-at _ (with_unframer i u) _ s _ _ (search)
          (passed-fills (with_unframer i u) e1 _ s _ c.in-Got.body.now given passed.more p
          (record { media = refl; offset = refl; taken = refl; counts = refl; told = refl; settings = c.in-Ok.ensures.settings })
          passed.holds.0 passed.holds.1),
    )

pub advance-requires : goal.advance-requires
advance-requires g c =
    let (i, is) = in-body c.args.self.now.state c.requires.body in
    omega (arith, (c.in-Got.ensures i is).taken.0)

pub settle_body-requires-clause-few : goal.settle_body-requires-clause-few
settle_body-requires-clause-few g c =
    let (i, is) = in-body c.args.self.now.state c.requires.body in
    omega (arith, (c.in-Got.ensures i is).taken.0, ap (λ (p : Progress). p.taken) c.advance.ensures)

pub returns-in-Ok-settle_body-clause-moves : goal.returns-in-Ok-settle_body-clause-moves
returns-in-Ok-settle_body-clause-moves g c = λ some.
    let (s, m, given, r) = c.requires.can in
    let (i, is) = in-body c.args.self.now.state c.requires.body in
    let h = open-body i c.args.self.now s m given r is in
    let gets = (c.in-Got.ensures i is).answers h.coming.heads.response.frame h.coming.sent h.coming.body h.receives.unframer in
    not-zero c.in-Got.used (λ none. h.sending.unfinished (gets.moves none some))

pub returns-in-Bad-clause-goes : goal.returns-in-Bad-clause-goes
returns-in-Bad-clause-goes g c = record {
  tells = λ s m given r.
      let e = c.args.self.now in
      let (i, is) = in-body e.state c.requires.body in
      let u = c.in-Bad.ensures i is in
      let h = open-body i e s m given r is in
      Gives-none _ given _ (g.met.O.Sink.told_agrees c.args.output.now)
      (rw c.taken.ensures (body-bad i u.unframer e _ s m given c.args.piece.now c.in-Bad.at h
      (record { media = refl; offset = refl; counts = refl; told = refl; writer = refl })
      (u.answers h.coming.heads.response.frame h.coming.sent h.coming.body h.receives.unframer)));
  cause = refl;
  keeps = g.met.O.Sink.kept_reflexive c.args.output.now;
}

pub returns-in-Ok-settle_body-clause-goes : goal.returns-in-Ok-settle_body-clause-goes
returns-in-Ok-settle_body-clause-goes g c = record {
  tells = λ s m given r.
      let e = c.args.self.now in
      let (i, is) = in-body e.state c.requires.body in
      let took_ = c.in-Got.ensures i is in
      let u = took_.unframer in
      let e1 : Engine = record { media = e.media; head = e.head; writer = e.writer; state = c.unframe.new.self; progress = c.advance.new.self } in
      let h = open-body i e s m given r is in
      let p = body-got i u e e1 s m given c.args.piece.now c.in-Got.body.now c.in-Got.used h (took e e1 c.in-Got.used refl refl c.advance.ensures)
      (took_.answers h.coming.heads.response.frame h.coming.sent h.coming.body h.receives.unframer)
      (ap (λ (p : Progress). p.taken) c.advance.ensures) in
      Gives-then _ _ _ given _ _ (c.in-Ok.ensures.calls.tells s (coming_response s p.coming) p.coming.body given (written_exchanges s map.empty 0 p.coming.exchanges) p.writer p.gave)
      (λ more passed. Gives-weaker _ _ (given ++ more) _ _ (λ further reads. ((took_.answers h.coming.heads.response.frame h.coming.sent h.coming.body h.receives.unframer).within, reads))
      (c.in-Ok-settle_body.ensures.goes.tells s (m ++ take c.in-Got.used c.args.piece.now) (given ++ more)
      (fills-at _ (with_unframer i u) _ s _ _ (search)
      (passed-fills (with_unframer i u) e1 _ s _ c.in-Got.body.now given more p
      (record { media = refl; offset = refl; taken = refl; counts = refl; told = refl; settings = c.in-Ok.ensures.settings }) passed.0 passed.1))));
  cause = c.in-Ok-settle_body.ensures.goes.cause ∙ c.in-Ok.ensures.calls.cause;
  keeps = g.met.O.Sink.kept_transitive _ _ _ c.in-Ok.ensures.calls.keeps c.in-Ok-settle_body.ensures.goes.keeps;
}

pub returns-in-Err-settle_body-clause-goes : goal.returns-in-Err-settle_body-clause-goes
returns-in-Err-settle_body-clause-goes g c = record {
  tells = λ s m given r.
      let e = c.args.self.now in
      let (i, is) = in-body e.state c.requires.body in
      let took_ = c.in-Got.ensures i is in
      let u = took_.unframer in
      let e1 : Engine = record { media = e.media; head = e.head; writer = e.writer; state = c.unframe.new.self; progress = c.advance.new.self } in
      let h = open-body i e s m given r is in
      let p = body-got i u e e1 s m given c.args.piece.now c.in-Got.body.now c.in-Got.used h (took e e1 c.in-Got.used refl refl c.advance.ensures)
      (took_.answers h.coming.heads.response.frame h.coming.sent h.coming.body h.receives.unframer)
      (ap (λ (p : Progress). p.taken) c.advance.ensures) in
      Gives-then _ _ _ given _ _ (c.in-Ok.ensures.calls.tells s (coming_response s p.coming) p.coming.body given (written_exchanges s map.empty 0 p.coming.exchanges) p.writer p.gave)
      (λ more passed. Gives-weaker _ _ (given ++ more) _ _
      (λ further halts. halts-piece c.in-Err-settle_body.stop _ s m c.args.piece.now ((given ++ more) ++ further) c.in-Got.used halts)
      (c.in-Err-settle_body.ensures.goes.tells s (m ++ take c.in-Got.used c.args.piece.now) (given ++ more)
      (fills-at _ (with_unframer i u) _ s _ _ (search)
      (passed-fills (with_unframer i u) e1 _ s _ c.in-Got.body.now given more p
      (record { media = refl; offset = refl; taken = refl; counts = refl; told = refl; settings = c.in-Ok.ensures.settings }) passed.0 passed.1))));
  cause = HaltCause-after c.in-Err-settle_body.stop _ _ _ c.in-Ok.ensures.calls.cause c.in-Err-settle_body.ensures.goes.cause;
  keeps = g.met.O.Sink.kept_transitive _ _ _ c.in-Ok.ensures.calls.keeps c.in-Err-settle_body.ensures.goes.keeps;
}

pub returns-in-Err-clause-goes : goal.returns-in-Err-clause-goes
returns-in-Err-clause-goes g c = record {
  tells = λ s m given r.
      let e = c.args.self.now in
      let (i, is) = in-body e.state c.requires.body in
      let took_ = c.in-Got.ensures i is in
      let u = took_.unframer in
      let e1 : Engine = record { media = e.media; head = e.head; writer = e.writer; state = c.unframe.new.self; progress = c.advance.new.self } in
      let h = open-body i e s m given r is in
      let p = body-got i u e e1 s m given c.args.piece.now c.in-Got.body.now c.in-Got.used h (took e e1 c.in-Got.used refl refl c.advance.ensures)
      (took_.answers h.coming.heads.response.frame h.coming.sent h.coming.body h.receives.unframer)
      (ap (λ (p : Progress). p.taken) c.advance.ensures) in
      Gives-weaker _ _ given _ _ (λ more within. halts-piece outcome.WriteFault _ s m c.args.piece.now (given ++ more) c.in-Got.used
      (passed-breaks (with_unframer i u) e1 _ s _ c.in-Got.body.now given more p
      (record { media = refl; offset = refl; taken = refl; counts = refl; told = refl; settings = c.in-Err.ensures.settings }) within))
      (c.in-Err.ensures.calls.tells s (coming_response s p.coming) p.coming.body given (written_exchanges s map.empty 0 p.coming.exchanges) p.writer p.gave);
  cause = c.in-Err.ensures.calls.cause;
  keeps = c.in-Err.ensures.calls.keeps;
}
