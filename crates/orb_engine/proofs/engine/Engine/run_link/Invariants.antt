use Rattle.std.proofs.Common.{◌≡◌, ◌-◌, ◌≤◌, ◌^◌, [], length}
use Rattle.orb_io.specs.Told.{Gives}
use Rattle.orb_engine.specs.Runs.{settings_of, taken_by}
use Rattle.orb_engine.specs.Turns.{Running}
use Rattle.orb_engine.proofs.engine.Engine.run_link.Given as goal

abbrev pub invariant-pulls : goal.invariant-pulls
invariant-pulls g l = record {
  runs : Gives (g.K.Sink.told l.fn.link) (g.K.Sink.told l.link) []
      (Running l.self (settings_of l.fn.self) (g.K.Source.left l.fn.link) (g.K.Source.left l.link));
  settings : settings_of l.self ≡ settings_of l.fn.self;
  source : g.K.Source.faults l.link ≡ g.K.Source.faults l.fn.link;
  sink : g.K.Sink.faults l.link ≡ g.K.Sink.faults l.fn.link;
  room : length l.room ≡ 8192;
  taken : taken_by l.self ≤ 2 ^ 62;
}

abbrev pub decreases-pulls : goal.decreases-pulls
decreases-pulls g l = 2 ^ 62 - taken_by l.self
