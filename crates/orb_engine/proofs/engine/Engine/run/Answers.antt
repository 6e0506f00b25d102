use Rattle.std.proofs.Common.{[], ◌++◌, refl, ◌∙◌, arith}
use Rattle.orb_io.proofs.ToldLemmas.{Loses-none}
use Rattle.orb_io.proofs.GivesLemmas.{Gives-none, Gives-weaker, Gives-then}
use Rattle.orb_engine.specs.Runs.{settings_of}
use Rattle.orb_engine.proofs.RunLemmas.{run-ends, run-goes, causes-go}
use Rattle.orb_engine.proofs.engine.Engine.run.Goals as goal

pub pulls-init : goal.pulls-init
pulls-init g c = record {
  runs = Gives-none _ [] _ (g.met.O.Sink.told_agrees c.args.output.now)
      (record { read = []; lost = Loses-none _; reads = c.start.ensures.reads });
  settings = c.start.ensures.settings;
  source = refl;
  sink = refl;
  keeps_source = g.met.I.Source.kept_reflexive c.args.input.now;
  keeps_sink = g.met.O.Sink.kept_reflexive c.args.output.now;
  room = refl;
  taken = omega (arith, c.start.ensures.taken);
}

pub returns-in-Some-clause-ran : goal.returns-in-Some-clause-ran
returns-in-Some-clause-ran g c =
    let s = settings_of c.args.self.now in
    let pull = c.pull_within-pulled in
    Gives-then _ _ _ [] _ _ c.pulls.invariant.runs (λ more w.
    Gives-weaker _ _ more _ _ (λ further answers.
    run-ends c.turn.result c.in-Some.outcome pull.result c.pulls.self c.turn.new.self s _ _ _ pull.new.room more (more ++ further)
    c.in-Some.is (omega (arith, c.pulls.invariant.room)) w pull.ensures.bytes (c.turn.ensures.total c.in-Some.outcome c.in-Some.is) answers)
    (c.turn.ensures.goes.tells s w.read more w.reads))

pub pulls-preserved : goal.pulls-preserved
pulls-preserved g c =
    let i = c.pulls.invariant in
    let s = settings_of c.args.self.now in
    let pull = c.pull_within-pulled in
    let causes = causes-go c.turn.result _ _ _ _ c.in_default.is (c.turn.ensures.goes.cause _ _ pull.ensures.cause) in
    record {
      runs = Gives-then _ _ _ [] _ _ i.runs (λ more w.
          Gives-weaker _ _ more _ _ (λ further answers.
          run-goes c.turn.result pull.result c.pulls.self c.turn.new.self s _ _ _ pull.new.room more (more ++ further)
          c.in_default.is w pull.ensures.bytes answers)
          (c.turn.ensures.goes.tells s w.read more w.reads));
      settings = c.turn.ensures.settings ∙ i.settings;
      source = causes.0 ∙ i.source;
      sink = causes.1 ∙ i.sink;
      keeps_source = g.met.I.Source.kept_transitive _ _ _ i.keeps_source pull.ensures.keeps;
      keeps_sink = g.met.O.Sink.kept_transitive _ _ _ i.keeps_sink c.turn.ensures.goes.keeps;
      room = omega (arith, i.room);
      taken = c.turn.ensures.fits c.in_default.is;
    }
