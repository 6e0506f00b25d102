use Rattle.std.proofs.Common.{◌≡◌, ℕ, ◌≤◌, ◌-◌, ◌^◌, List, length}
use Rattle.orb_io.specs.Told.{Gives}
use Rattle.body_filter.specs.Reads.{limit_of}
use Rattle.exchanges.specs.declared.room.Context.{Context}
use Rattle.live_proxy.specs.Relaying.{HasPassed, Pumping}
use Rattle.live_proxy.proofs.relaying.pump.Given as goal

abbrev pub invariant-pulls : goal.invariant-pulls
invariant-pulls g l = record {
  pumps : (c : Context) (bytes given : List ℕ) → HasPassed c l.fn.arriving l.fn.filter bytes given → l.fn.before ≡ length bytes
      → Gives (g.K.Sink.told l.fn.client) (g.K.Sink.told l.client) given
      (Pumping c l.arriving l.filter (g.U.Source.left l.fn.upstream) (g.U.Source.left l.upstream) bytes l.taken);
  few : l.taken ≤ 2 ^ 62;
  room : 1 ≤ length l.room;
  source : g.U.Source.faults l.upstream ≡ g.U.Source.faults l.fn.upstream;
  client : g.K.Sink.faults l.client ≡ g.K.Sink.faults l.fn.client;
  keeps_upstream : g.U.Source.kept l.fn.upstream l.upstream;
  keeps_client : g.K.Sink.kept l.fn.client l.client;
  limit : limit_of l.filter ≡ limit_of l.fn.filter;
}

abbrev pub decreases-pulls : goal.decreases-pulls
decreases-pulls g l = 2 ^ 62 - l.taken
