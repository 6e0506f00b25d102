use Rattle.std.proofs.Common.{◌++◌, refl, sym, ◌∙◌}
use Rattle.std.proofs.lemmas.Bool.{false≢true}
use Rattle.orb_io.proofs.GivesLemmas.{Gives-none, Gives-weaker}
use Rattle.orb_engine.proofs.FillLemmas.{at-filled, few-exchanges, goes-on, settled}
use Rattle.orb_engine.proofs.engine.Engine.settle_body.Goals as goal

pub returns-then-not-is_whole-clause-goes : goal.returns-then-not-is_whole-clause-goes
returns-then-not-is_whole-clause-goes g c = record {
  tells = λ s m given h.
      let f = at-filled c.args.self.now.state c.in-Body.incoming c.args.self.now s m given c.in-Body.is h in
      let whole = c.is_whole.ensures.whole f.coming.heads.response.frame f.coming.sent f.coming.body f.receives.unframer in
      Gives-none _ given _ (g.met.O.Sink.told_agrees c.args.output.now)
      (goes-on c.in-Body.incoming _ s m given f c.in-Body.is
      (λ is. false≢true (sym c.if-not-is_whole.true ∙ whole.1 is)));
  cause = refl;
  keeps = g.met.O.Sink.kept_reflexive c.args.output.now;
}

pub close-requires-clause-few : goal.close-requires-clause-few
close-requires-clause-few g c =
    let (s, m, given, h) = c.requires.can in
    let f = at-filled c.args.self.now.state c.in-Body.incoming c.args.self.now s m given c.in-Body.is h in
    few-exchanges c.in-Body.incoming c.args.self.now s m given f c.requires.few

pub close-requires-clause-can : goal.close-requires-clause-can
close-requires-clause-can g c =
    let (s, m, given, h) = c.requires.can in
    let f = at-filled c.args.self.now.state c.in-Body.incoming c.args.self.now s m given c.in-Body.is h in (
      s,
      f.coming,
      given,
      record {
        common = f.common;
        gave = f.gave;
        writer = f.receives.writer;
        media = f.receives.media;
        id_is = f.receives.id;
      },
    )

pub returns-clause-goes : goal.returns-clause-goes
returns-clause-goes g c = record {
  tells = λ s m given h.
      let f = at-filled c.args.self.now.state c.in-Body.incoming c.args.self.now s m given c.in-Body.is h in
      let whole = c.is_whole.ensures.whole f.coming.heads.response.frame f.coming.sent f.coming.body f.receives.unframer in
      Gives-weaker _ _ given _ _ (λ more closes.
      settled c.close.result c.in-Body.incoming c.args.self.now c.close.new.self s m given (given ++ more) f
      (whole.0 c.if-not-is_whole.false) closes c.close.ensures.taken)
      (c.close.ensures.goes.tells s f.coming given (record {
        common = f.common;
        gave = f.gave;
        writer = f.receives.writer;
        media = f.receives.media;
        id_is = f.receives.id;
      }));
  cause = c.close.ensures.goes.cause;
  keeps = c.close.ensures.goes.keeps;
}
