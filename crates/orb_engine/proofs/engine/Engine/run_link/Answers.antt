use Rattle.std.proofs.Common.{ℕ, List, [], ◌++◌, Option, refl, ◌∙◌, sym, subst, arith}
use Rattle.orb_io.specs.Told.{Told, Gives}
use Rattle.orb_io.proofs.ToldLemmas.{Loses-none}
use Rattle.orb_io.proofs.GivesLemmas.{Gives-none, Gives-weaker, Gives-then}
use Rattle.orb_engine.specs.Runs.{settings_of, Ran}
use Rattle.orb_engine.specs.Turns.{Running}
use Rattle.orb_engine.proofs.RunLemmas.{run-ends, run-goes, causes-end, causes-go}
use Rattle.orb_engine.proofs.engine.Engine.run_link.Goals as goal

pub pulls-init : goal.pulls-init
pulls-init g c = record {
  runs = Gives-none _ [] _ (g.met.K.Sink.told_agrees c.args.link.now)
      (record { read = []; lost = Loses-none _; reads = c.start.ensures.reads });
  settings = c.start.ensures.settings;
  source = refl;
  sink = refl;
  room = refl;
  taken = omega (arith, c.start.ensures.taken);
}

pub returns-in-Some-clause-ran : goal.returns-in-Some-clause-ran
returns-in-Some-clause-ran g c =
    let s = settings_of c.args.self.now in
    let pull = c.pull_within-pulled in
    let R = Running c.pulls.self s (g.K.Source.left c.args.link.now) (g.K.Source.left c.pulls.link) in
    let runs = subst (λ (t : Told). Gives (g.K.Sink.told c.args.link.now) t [] R) (sym (g.met.K.Duplex.pull_leaves_told _ _ pull.ensures.keeps))
    c.pulls.invariant.runs in
    Gives-then _ _ _ [] _ _ runs (λ more w.
    Gives-weaker _ _ more _ _ (λ further answers.
    subst (λ (l : Option (List ℕ)). Ran c.in-Some.outcome c.turn.new.self s (g.K.Source.left c.args.link.now) l (more ++ further))
    (sym (g.met.K.Duplex.push_leaves_left _ _ c.turn.ensures.goes.keeps))
    (run-ends c.turn.result c.in-Some.outcome pull.result c.pulls.self c.turn.new.self s _ _ _ pull.new.room more (more ++ further)
    c.in-Some.is (omega (arith, c.pulls.invariant.room)) w pull.ensures.bytes (c.turn.ensures.total c.in-Some.outcome c.in-Some.is) answers))
    (c.turn.ensures.goes.tells s w.read more w.reads))

pub returns-in-Some-clause-causes : goal.returns-in-Some-clause-causes
returns-in-Some-clause-causes g c =
    let pull = c.pull_within-pulled in
    let causes = causes-end c.turn.result c.in-Some.outcome _ _ _ _ c.in-Some.is (c.turn.ensures.goes.cause _ _ pull.ensures.cause) in
    rw (g.met.K.Duplex.push_leaves_faults _ _ c.turn.ensures.goes.keeps, ← c.pulls.invariant.source, ← c.pulls.invariant.sink, ← (g.met.K.Duplex.pull_leaves_faults _ _ pull.ensures.keeps)) causes

pub pulls-preserved : goal.pulls-preserved
pulls-preserved g c =
    let s = settings_of c.args.self.now in
    let i = c.pulls.invariant in
    let pull = c.pull_within-pulled in
    let R = Running c.pulls.self s (g.K.Source.left c.args.link.now) (g.K.Source.left c.pulls.link) in
    let runs = subst (λ (t : Told). Gives (g.K.Sink.told c.args.link.now) t [] R) (sym (g.met.K.Duplex.pull_leaves_told _ _ pull.ensures.keeps))
    i.runs in
    let causes = causes-go c.turn.result _ _ _ _ c.in_default.is (c.turn.ensures.goes.cause _ _ pull.ensures.cause) in
    record {
      runs = Gives-then _ _ _ [] _ _ runs (λ more w.
          Gives-weaker _ _ more _ _ (λ further answers.
          subst (λ (l : Option (List ℕ)). Running c.turn.new.self s (g.K.Source.left c.args.link.now) l (more ++ further))
          (sym (g.met.K.Duplex.push_leaves_left _ _ c.turn.ensures.goes.keeps))
          (run-goes c.turn.result pull.result c.pulls.self c.turn.new.self s _ _ _ pull.new.room more (more ++ further)
          c.in_default.is w pull.ensures.bytes answers))
          (c.turn.ensures.goes.tells s w.read more w.reads));
      settings = c.turn.ensures.settings ∙ i.settings;
      source = g.met.K.Duplex.push_leaves_faults _ _ c.turn.ensures.goes.keeps ∙ causes.0 ∙ i.source;
      sink = causes.1 ∙ g.met.K.Duplex.pull_leaves_faults _ _ pull.ensures.keeps ∙ i.sink;
      room = omega (arith, i.room);
      taken = c.turn.ensures.fits c.in_default.is;
    }
