use Rattle.std.proofs.Common.{◌≡◌, ◌++◌, ℕ, Result, refl, subst, sym, ◌∙◌}
use Rattle.std.specs.Prelude.{Ok}
use Rattle.orb_io.specs.declared.outside.Failed.{Failed}
use Rattle.orb_io.specs.Told.{HasCause}
use Rattle.orb_io.proofs.GivesLemmas.{Gives-none, Gives-weaker}
use Rattle.orb_engine.proofs.RunLemmas.{same_count, turn-end, turn-feed, turn-endless, turn-fault, turn-end-cause, turn-feed-cause, ok-cause}
use Rattle.orb_engine.proofs.engine.Engine.turn.Goals as goal

pub returns-in-Ok-eq0-clause-goes : goal.returns-in-Ok-eq0-clause-goes
returns-in-Ok-eq0-clause-goes g c =
    let is = subst (λ (n : ℕ). c.args.pulled ≡ Ok n) (sym c.in-Ok-eq0.field-0-is ∙ c.in-Ok-eq0.field-0-test) c.in-Ok-eq0.is in
    let r = c.requires.can in
    record {
      tells = λ s m given reads.
          Gives-weaker _ _ given _ _ (λ more ends. turn-end c.args.pulled c.end.result c.end.new.self s m (given ++ more) c.args.room.now is ends)
          (c.end.ensures.goes.tells s m given reads);
      cause = λ before after cause.
          turn-end-cause c.args.pulled c.end.result c.end.new.self r.s r.m _ before after _ _ is
          (c.end.ensures.goes.tells r.s r.m r.given r.reads).holds c.end.ensures.goes.cause cause;
      keeps = c.end.ensures.goes.keeps;
    }

pub returns-in-Ok-clause-goes : goal.returns-in-Ok-clause-goes
returns-in-Ok-clause-goes g c = record {
  tells = λ s m given reads.
      Gives-none _ given _ (g.met.O.Sink.told_agrees c.args.output.now)
      (turn-endless c.args.pulled c.in-Ok.field-0 c.args.self.now s m given c.args.room.now
      c.in-Ok.is (λ z. c.in-Ok.field-0-test.1 (c.in-Ok.field-0-is ∙ z)) (c.requires.within _ c.in-Ok.is) (sym c.taken.ensures ∙ c.if-taken-eq-MOST_OF_A_RUN.true) reads);
  cause = λ before after cause. (ok-cause c.args.pulled c.in-Ok.field-0 before after c.in-Ok.is cause, refl);
  keeps = g.met.O.Sink.kept_reflexive c.args.output.now;
}

pub returns-in-Ok-2-clause-goes : goal.returns-in-Ok-2-clause-goes
returns-in-Ok-2-clause-goes g c =
    let r = c.requires.can in
    record {
      tells = λ s m given reads.
          Gives-weaker _ _ given _ _ (λ more answers.
          turn-feed c.args.pulled c.in-Ok-2.count c.feed.result c.feed.new.self s m (given ++ more) c.args.room.now
          c.in-Ok-2.is (λ z. c.in-Ok.field-0-test.1 (c.in-Ok.field-0-is ∙ same_count _ _ _ c.in-Ok.is c.in-Ok-2.is ∙ z)) answers)
          (c.feed.ensures.goes.tells s m given reads);
      cause = λ before after cause.
          turn-feed-cause c.args.pulled c.in-Ok-2.count c.feed.result c.feed.new.self r.s _ _ before after _ _
          c.in-Ok-2.is (c.feed.ensures.goes.tells r.s r.m r.given r.reads).holds c.feed.ensures.goes.cause cause;
      keeps = c.feed.ensures.goes.keeps;
    }

pub returns-in-Err-clause-goes : goal.returns-in-Err-clause-goes
returns-in-Err-clause-goes g c = record {
  tells = λ s m given reads.
      Gives-none _ given _ (g.met.O.Sink.told_agrees c.args.output.now)
      (turn-fault c.args.pulled c.in-Err.field-0 c.args.self.now s m given c.args.room.now c.in-Err.is reads);
  cause = λ before after cause. (subst (λ (p : Result ℕ Failed). HasCause before after p) c.in-Err.is cause, refl);
  keeps = g.met.O.Sink.kept_reflexive c.args.output.now;
}
