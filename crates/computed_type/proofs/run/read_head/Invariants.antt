use Rattle.std.proofs.Common.{◌≡◌, ◌-◌, [], length}
use Rattle.computed_type.specs.Reading.{Reads}
use Rattle.computed_type.proofs.InputLemmas.{AreGathered}
use Rattle.computed_type.proofs.run.read_head.Given as goal

abbrev pub invariant-pulls : goal.invariant-pulls
invariant-pulls g l = record {
  reads : Reads (g.I.Source.left l.fn.input) (g.I.Source.left l.input) (AreGathered l.head l.taken);
  source : g.I.Source.faults l.input ≡ g.I.Source.faults l.fn.input;
  keeps : g.I.Source.kept l.fn.input l.input;
  room : length l.room ≡ 8192;
  empty : l.window.items ≡ [];
}

abbrev pub decreases-pulls : goal.decreases-pulls
decreases-pulls g l = 65536 - l.taken
