use Rattle.std.proofs.Common.{◌≡◌, ◌-◌, ◌≤◌, ◌^◌, [], length}
use Rattle.orb_io.specs.Told.{Gives}
use Rattle.orb_engine.specs.Runs.{settings_of, taken_by}
use Rattle.orb_engine.specs.Turns.{Running}
use Rattle.orb_engine.proofs.engine.Engine.run.Given as goal

abbrev pub invariant-pulls : goal.invariant-pulls
invariant-pulls g l = record {
  runs : Gives (g.O.Sink.told l.fn.output) (g.O.Sink.told l.output) []
      (Running l.self (settings_of l.fn.self) (g.I.Source.left l.fn.input) (g.I.Source.left l.input));
  settings : settings_of l.self ≡ settings_of l.fn.self;
  source : g.I.Source.faults l.input ≡ g.I.Source.faults l.fn.input;
  sink : g.O.Sink.faults l.output ≡ g.O.Sink.faults l.fn.output;
  keeps_source : g.I.Source.kept l.fn.input l.input;
  keeps_sink : g.O.Sink.kept l.fn.output l.output;
  room : length l.room ≡ 8192;
  taken : taken_by l.self ≤ 2 ^ 62;
}

abbrev pub decreases-pulls : goal.decreases-pulls
decreases-pulls g l = 2 ^ 62 - taken_by l.self
