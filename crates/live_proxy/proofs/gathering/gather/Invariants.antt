use Rattle.std.proofs.Common.{◌≡◌, ◌-◌, length}
use Rattle.orb_io.specs.Told.{Loses}
use Rattle.http_exchange.specs.HeadTexts.{IsOpenHead}
use Rattle.live_proxy.proofs.gathering.gather.Given as goal

abbrev pub invariant-pulls : goal.invariant-pulls
invariant-pulls g l = record {
  lost : Loses (g.I.Source.left l.fn.input) (g.I.Source.left l.input) l.head;
  open_ : IsOpenHead l.head;
  faults : g.I.Source.faults l.input ≡ g.I.Source.faults l.fn.input;
  kept : g.I.Source.kept l.fn.input l.input;
  room : length l.room ≡ length l.fn.room;
}

abbrev pub decreases-pulls : goal.decreases-pulls
decreases-pulls g l = 65536 - length l.head
