use Rattle.std.proofs.Common.{◌≡◌, [], ◌++◌, length, eqb, Ok, Err, sym, ap, ◌∙◌, refl}
use Rattle.std.proofs.lemmas.Bool.{eqb-true, false≢true}
use Rattle.std.proofs.lemmas.List.{nil_from_length}
use Rattle.orb_io.proofs.GivesLemmas.{Gives-none, Gives-weaker}
use Rattle.orb_engine.proofs.HeadStepLemmas.{open-request, open-response}
use Rattle.orb_engine.proofs.BodyStepLemmas.{open-body}
use Rattle.orb_engine.proofs.FinishLemmas.{request_head-done, request_head-cut, response_head-cut, open_body-cut, closing, closing-few, ended-body}
use Rattle.orb_engine.proofs.engine.Engine.finish.Goals as goal

pub returns-then-not-incoming-clause-goes : goal.returns-then-not-incoming-clause-goes
returns-then-not-incoming-clause-goes g c = record {
  tells = λ s m given r.
      let h = open-body c.in-Body.incoming c.args.self.now s m given r c.in-Body.is in
      Gives-none _ given _ (g.met.O.Sink.told_agrees c.args.output.now)
      (rw c.offset.ensures (open_body-cut c.in-Body.incoming c.args.self.now s m given h c.if-not-incoming.true));
  cause = refl;
  keeps = g.met.O.Sink.kept_reflexive c.args.output.now;
}

pub close-requires-clause-can : goal.close-requires-clause-can
close-requires-clause-can g c =
    let (s, m, given, r) = c.requires.can in
    let h = open-body c.in-Body.incoming c.args.self.now s m given r c.in-Body.is in
    (s, h.coming, given, closing c.in-Body.incoming c.args.self.now s m given h)

pub close-requires-clause-few : goal.close-requires-clause-few
close-requires-clause-few g c =
    let (s, m, given, r) = c.requires.can in
    closing-few c.in-Body.incoming c.args.self.now s m given (open-body c.in-Body.incoming c.args.self.now s m given r c.in-Body.is) c.requires.few

pub returns-then-is_empty-clause-goes : goal.returns-then-is_empty-clause-goes
returns-then-is_empty-clause-goes g c = record {
  tells = λ s m given r.
      let empty : c.as_slice.result.now ≡ [] = nil_from_length _ (eqb-true _ _ (sym c.is_empty.ensures ∙ c.if-is_empty.true)) in
      Gives-none _ given _ (g.met.O.Sink.told_agrees c.args.output.now)
      (request_head-done c.args.self.now s m given (open-request c.args.self.now s m given r c.in-RequestHead.is) (sym c.as_slice.ensures.value ∙ empty));
  cause = refl;
  keeps = g.met.O.Sink.kept_reflexive c.args.output.now;
}

pub returns-else-is_empty-clause-goes : goal.returns-else-is_empty-clause-goes
returns-else-is_empty-clause-goes g c = record {
  tells = λ s m given r.
      Gives-none _ given _ (g.met.O.Sink.told_agrees c.args.output.now)
      (rw c.offset.ensures (request_head-cut c.args.self.now s m given (open-request c.args.self.now s m given r c.in-RequestHead.is)
      (λ empty. false≢true (sym c.if-is_empty.false ∙ c.is_empty.ensures ∙ ap (λ x. eqb (length x) 0) (c.as_slice.ensures.value ∙ empty)))));
  cause = refl;
  keeps = g.met.O.Sink.kept_reflexive c.args.output.now;
}

pub returns-in-ResponseHead-clause-goes : goal.returns-in-ResponseHead-clause-goes
returns-in-ResponseHead-clause-goes g c = record {
  tells = λ s m given r.
      Gives-none _ given _ (g.met.O.Sink.told_agrees c.args.output.now)
      (rw c.offset.ensures (response_head-cut c.in-ResponseHead.field-0 c.args.self.now s m given
      (open-response c.in-ResponseHead.field-0 c.args.self.now s m given r c.in-ResponseHead.is)));
  cause = refl;
  keeps = g.met.O.Sink.kept_reflexive c.args.output.now;
}

pub returns-in-Ok-clause-goes : goal.returns-in-Ok-clause-goes
returns-in-Ok-clause-goes g c = record {
  tells = λ s m given r.
      let h = open-body c.in-Body.incoming c.args.self.now s m given r c.in-Body.is in
      Gives-weaker _ _ given _ _ (λ more closed.
      ended-body (Ok tt) c.in-Body.incoming c.args.self.now c.close.new.self s m given (given ++ more) h c.if-not-incoming.false closed)
      (c.in-Ok.ensures.goes.tells s h.coming given (closing c.in-Body.incoming c.args.self.now s m given h));
  cause = c.in-Ok.ensures.goes.cause;
  keeps = c.in-Ok.ensures.goes.keeps;
}

pub returns-in-Err-clause-goes : goal.returns-in-Err-clause-goes
returns-in-Err-clause-goes g c = record {
  tells = λ s m given r.
      let h = open-body c.in-Body.incoming c.args.self.now s m given r c.in-Body.is in
      Gives-weaker _ _ given _ _ (λ more closed.
      ended-body (Err c.in-Err.stop) c.in-Body.incoming c.args.self.now c.close.new.self s m given (given ++ more) h c.if-not-incoming.false closed)
      (c.in-Err.ensures.goes.tells s h.coming given (closing c.in-Body.incoming c.args.self.now s m given h));
  cause = c.in-Err.ensures.goes.cause;
  keeps = c.in-Err.ensures.goes.keeps;
}
