use Rattle.std.proofs.Common.{◌++◌, Result, Ok, Err, refl, sym, ◌∙◌, arith}
use Rattle.std.proofs.lemmas.Bool.{false≢true, eqb-true}
use Rattle.std.proofs.lemmas.List.{nil_from_length}
use Rattle.orb_io.proofs.GivesLemmas.{Gives-none, Gives-weaker, Gives-then, Delivers-as}
use Rattle.body_filter.specs.Reads.{HasRead as FilterHasRead}
use Rattle.body_filter.specs.declared.pushing.WriteFault.{WriteFault}
use Rattle.live_proxy.specs.Responses.{response_in}
use Rattle.live_proxy.proofs.RelayLemmas.{got, got-fails, some-used, bad}
use Rattle.live_proxy.proofs.TargetLemmas.{some_byte}
use Rattle.live_proxy.proofs.relaying.pass.Goals as goal

pub runs-init : goal.runs-init
runs-init g c = record {
  passes = λ x bytes given h. Gives-none _ given _ (g.met.K.Sink.told_agrees c.args.client.now) h;
  faults = refl;
  kept = g.met.K.Sink.kept_reflexive c.args.client.now;
  limit = refl;
}

pub feed-requires-in-Got : goal.feed-requires-in-Got
feed-requires-in-Got g c =
    let (x, bytes, given, h) = c.requires in
    let w = (c.runs.invariant.passes x bytes given h).holds in
    record { x = response_in x w.text; m = w.body; reads = w.filter }

pub runs-smaller : goal.runs-smaller
runs-smaller g c =
    let (x, bytes, given, h) = c.requires in
    let w = (c.runs.invariant.passes x bytes given h).holds in
    let gets = c.in-Got.ensures.answers w.text.frame w.sent w.body w.unframer in
    let whole = c.is_whole.ensures.whole w.text.frame w.sent w.body w.unframer in
    let used = some-used x _ _ _ bytes _ _ _ c.in-Got.used w gets (some_byte _ _ c.is_empty.ensures c.runs-test.true)
    (λ is. false≢true (sym c.if-not-is_whole.true ∙ whole.1 is)) in
    omega (arith, used, c.in-Got.ensures.taken.0)

pub runs-preserved : goal.runs-preserved
runs-preserved g c =
    let i = c.runs.invariant in
    let put : Result (Unit {0}) WriteFault = Ok c.in-Ok.field-0 in
    record {
      passes = λ x bytes given h. Gives-then _ _ _ given _ _ (i.passes x bytes given h) (λ more w.
          let gets = c.in-Got.ensures.answers w.text.frame w.sent w.body w.unframer in
          let x' = response_in x w.text in
          let reads : Unit {0} → Type 0 = λ _. FilterHasRead c.feed-in-Got.new.self x' (w.body ++ c.in-Got.body.now) in
          Gives-weaker _ _ (given ++ more) _ _
          (λ further owes. got x _ _ _ _ bytes c.runs.rest.now _ (given ++ more) _ c.in-Got.body.now c.in-Got.used w gets refl owes.1 owes.0
          c.split_at.ensures.back)
          (Delivers-as _ _ put _ (given ++ more) _ _ reads reads w.gave refl (λ _ h. h) (c.in-Ok.ensures.calls.tells x' w.body w.filter)));
      faults = c.in-Ok.ensures.calls.cause ∙ i.faults;
      kept = g.met.K.Sink.kept_transitive _ _ _ i.kept c.in-Ok.ensures.calls.keeps;
      limit = c.in-Ok.ensures.limit ∙ i.limit;
    }

pub returns-in-Err-clause-acts : goal.returns-in-Err-clause-acts
returns-in-Err-clause-acts g c = record {
  tells = λ x bytes given h.
      let put : Result (Unit {0}) WriteFault = Err c.in-Err.field-0 in
      Gives-then _ _ _ given _ _ (c.runs.invariant.passes x bytes given h) (λ more w.
      let gets = c.in-Got.ensures.answers w.text.frame w.sent w.body w.unframer in
      let x' = response_in x w.text in
      Gives-weaker _ _ (given ++ more) _ _
      (λ further within. got-fails x _ _ _ bytes c.runs.rest.now (given ++ more) _ c.in-Got.body.now c.in-Got.used w gets within)
      (Delivers-as _ _ put _ (given ++ more) _ _ (λ _. Unit {0}) (λ _. Unit {0}) w.gave refl (λ _ never. never) (c.in-Err.ensures.calls.tells x' w.body w.filter)));
  cause = rw (← c.runs.invariant.faults) c.in-Err.ensures.calls.cause;
  keeps = g.met.K.Sink.kept_transitive _ _ _ c.runs.invariant.kept c.in-Err.ensures.calls.keeps;
}

pub returns-in-Bad-clause-acts : goal.returns-in-Bad-clause-acts
returns-in-Bad-clause-acts g c = record {
  tells = λ x bytes given h.
      Gives-weaker _ _ given _ _
      (λ more w. bad x _ _ _ bytes c.runs.rest.now _ c.in-Bad.at w (c.in-Bad.ensures.answers w.text.frame w.sent w.body w.unframer))
      (c.runs.invariant.passes x bytes given h);
  cause = c.runs.invariant.faults;
  keeps = c.runs.invariant.kept;
}

pub returns-else-not-is_whole-clause-acts : goal.returns-else-not-is_whole-clause-acts
returns-else-not-is_whole-clause-acts g c = record {
  tells = λ x bytes given h.
      Gives-weaker _ _ given _ _
      (λ more w. record {
        rest = c.runs.rest.now;
        receives = w;
        none = λ open_. absurd (false≢true (sym open_ ∙ sym c.is_whole.ensures.value ∙ c.if-not-is_whole.false));
      })
      (c.runs.invariant.passes x bytes given h);
  cause = c.runs.invariant.faults;
  keeps = c.runs.invariant.kept;
}

pub returns-after-runs-clause-acts : goal.returns-after-runs-clause-acts
returns-after-runs-clause-acts g c = record {
  tells = λ x bytes given h.
      Gives-weaker _ _ given _ _
      (λ more w. record {
        rest = c.runs.rest.now;
        receives = w;
        none = λ _. nil_from_length _ (eqb-true _ _ (sym c.is_empty.ensures ∙ c.runs-test.false));
      })
      (c.runs.invariant.passes x bytes given h);
  cause = c.runs.invariant.faults;
  keeps = c.runs.invariant.kept;
}
