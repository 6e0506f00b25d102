use Rattle.std.proofs.Common.{[]}
use Rattle.orb_io.proofs.GivesLemmas.{Gives-weaker, Gives-then}
use Rattle.orb_engine.specs.Runs.{settings_of}
use Rattle.orb_cli.proofs.HarLemmas.{fed_whole, ended_whole}
use Rattle.orb_cli.proofs.har_word.run_whole.Goals as goal

pub returns-in-Some : goal.returns-in-Some
returns-in-Some g c =
    let s = settings_of c.args.engine.now in
    record {
      tells = Gives-weaker _ _ [] _ _ (λ wrote says. fed_whole c.in-Some.outcome c.feed.new.self s c.args.recording.now wrote says)
          (c.in-Some.ensures.goes.tells s [] [] c.start.ensures.reads);
      cause = c.in-Some.ensures.goes.cause;
      keeps = c.in-Some.ensures.goes.keeps;
    }

pub returns-in-None : goal.returns-in-None
returns-in-None g c =
    let s = settings_of c.args.engine.now in
    record {
      tells = Gives-then _ _ _ [] _ _ (c.in-None.ensures.goes.tells s [] [] c.start.ensures.reads) (λ more w.
          Gives-weaker _ _ more _ _ (λ further says.
          ended_whole c.end.result c.end.new.self s c.args.recording.now _ says)
          (c.end.ensures.goes.tells s c.args.recording.now more w.1));
      cause = rw (← c.in-None.ensures.goes.cause) c.end.ensures.goes.cause;
      keeps = g.met.O.Sink.kept_transitive _ _ _ c.in-None.ensures.goes.keeps c.end.ensures.goes.keeps;
    }

pub end-requires : goal.end-requires
end-requires g c =
    let s = settings_of c.args.engine.now in
    let fed = c.in-None.ensures.goes.tells s [] [] c.start.ensures.reads in
    record { s = s; m = c.args.recording.now; given = fed.more; reads = fed.holds.1 }
