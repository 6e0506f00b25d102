use Rattle.std.proofs.Common.{◌≡◌, ◌-◌, ◌≤◌, length}
use Rattle.orb_io.specs.Told.{Loses}
use Rattle.orb_cli.proofs.har_word.read_log.Given as goal

abbrev pub invariant-pulls : goal.invariant-pulls
invariant-pulls g l = record {
  lost : Loses (g.I.Source.left l.fn.input) (g.I.Source.left l.input) l.text.items;
  source : g.I.Source.faults l.input ≡ g.I.Source.faults l.fn.input;
  room : length l.room ≡ 8192;
  fits : length l.text.items ≤ 67108864;
}

abbrev pub decreases-pulls : goal.decreases-pulls
decreases-pulls g l = 67108864 - length l.text.items
