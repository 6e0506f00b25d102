use Rattle.std.proofs.Common.{◌≡◌, [], ◌++◌, length, ℕ, List, take, drop, false, refl, sym, ap, subst, ◌∙◌, arith, append_assoc, length-append}
use Rattle.std.proofs.lemmas.Bool.{eqb-true}
use Rattle.std.proofs.lemmas.List.{append-nil, nil_from_length, take-append-drop}
use Rattle.orb_io.proofs.GivesLemmas.{Gives-none, Gives-weaker, Gives-then}
use Rattle.orb_engine.specs.Reads.{Reads, Halts}
use Rattle.orb_engine.proofs.StepLemmas.{HaltCause-after}
use Rattle.orb_engine.proofs.engine.Engine.take_all.Goals as goal

pub steps-init : goal.steps-init
steps-init g c = record {
  prefix = [];
  cut = refl;
  can = c.requires.can;
  goes = λ s m given r. Gives-none _ given _ (g.met.O.Sink.told_agrees c.args.output.now)
      (subst (λ (x : List ℕ). Reads c.args.self.now s x given) (sym (append-nil m)) r);
  no_faults = refl;
  keeps = g.met.O.Sink.kept_reflexive c.args.output.now;
  settings = refl;
}

pub split_at-requires : goal.split_at-requires
split_at-requires g c =
    let (s, m, given, r) = c.steps.invariant.can in
    (c.in-Ok.ensures.goes.tells s m given r).holds.0

pub steps-preserved : goal.steps-preserved
steps-preserved g c =
    let i = c.steps.invariant in
    let (s0, m0, given0, r0) = i.can in
    let step0 = c.in-Ok.ensures.goes.tells s0 m0 given0 r0 in
    let piece = take c.in-Ok.used c.steps.rest.now in
    record {
      prefix = i.prefix ++ piece;
      cut = i.cut ∙ ap (λ x. i.prefix ++ x) (sym (take-append-drop c.in-Ok.used c.steps.rest.now))
          ∙ sym (append_assoc i.prefix piece (drop c.in-Ok.used c.steps.rest.now))
          ∙ ap (λ x. (i.prefix ++ piece) ++ x) (sym c.split_at.ensures.back);
      can = (s0, _, _, step0.holds.1);
      goes = λ s m given r. Gives-then _ _ _ given _ _ (i.goes s m given r) (λ more reads.
          Gives-weaker _ _ (given ++ more) _ _
          (λ further step. subst (λ (x : List ℕ). Reads c.step.new.self s x ((given ++ more) ++ further)) (append_assoc m i.prefix piece) step.1)
          (c.in-Ok.ensures.goes.tells s (m ++ i.prefix) (given ++ more) reads));
      no_faults = c.in-Ok.ensures.goes.cause ∙ i.no_faults;
      keeps = g.met.O.Sink.kept_transitive _ _ _ i.keeps c.in-Ok.ensures.goes.keeps;
      settings = c.in-Ok.ensures.settings ∙ i.settings;
    }

pub returns-in-Err-clause-goes : goal.returns-in-Err-clause-goes
returns-in-Err-clause-goes g c = record {
  tells = λ s m given r.
      let i = c.steps.invariant in
      Gives-then _ _ _ given _ _ (i.goes s m given r) (λ more reads.
      Gives-weaker _ _ (given ++ more) _ _
      (λ further halts. subst (λ (x : List ℕ). Halts c.in-Err.stop c.step.new.self s x false ((given ++ more) ++ further))
      (append_assoc m i.prefix c.steps.rest.now ∙ ap (λ x. m ++ x) (sym i.cut)) halts)
      (c.in-Err.ensures.goes.tells s (m ++ i.prefix) (given ++ more) reads));
  cause = HaltCause-after c.in-Err.stop _ _ _ c.steps.invariant.no_faults c.in-Err.ensures.goes.cause;
  keeps = g.met.O.Sink.kept_transitive _ _ _ c.steps.invariant.keeps c.in-Err.ensures.goes.keeps;
}

pub returns-clause-goes : goal.returns-clause-goes
returns-clause-goes g c = record {
  tells = λ s m given r.
      let i = c.steps.invariant in
      let empty : c.steps.rest.now ≡ [] = nil_from_length _ (eqb-true _ _ (sym c.is_empty.ensures ∙ c.steps-test.false)) in
      Gives-weaker _ _ given _ _
      (λ more reads. subst (λ (x : List ℕ). Reads c.steps.self s x (given ++ more))
      (ap (λ x. m ++ x) (sym (i.cut ∙ ap (λ x. i.prefix ++ x) empty ∙ append-nil i.prefix))) reads)
      (i.goes s m given r);
  cause = c.steps.invariant.no_faults;
  keeps = c.steps.invariant.keeps;
}

pub step-requires-clause-few : goal.step-requires-clause-few
step-requires-clause-few g c =
    let (s, m, given, r) = c.requires.can in
    let i = c.steps.invariant in
    omega (arith, c.requires.few, r.taken, (i.goes s m given r).holds.taken, length-append m i.prefix, ap length i.cut, length-append i.prefix c.steps.rest.now)
