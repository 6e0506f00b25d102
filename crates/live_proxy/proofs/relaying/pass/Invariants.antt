use Rattle.std.proofs.Common.{◌≡◌, ℕ, List, length}
use Rattle.orb_io.specs.Told.{Gives}
use Rattle.body_filter.specs.Reads.{limit_of}
use Rattle.exchanges.specs.declared.room.Context.{Context}
use Rattle.live_proxy.specs.Relaying.{Receives}
use Rattle.live_proxy.proofs.relaying.pass.Given as goal

abbrev pub invariant-runs : goal.invariant-runs
invariant-runs g l = record {
  passes : (c : Context) (bytes given : List ℕ) → Receives c l.fn.arriving l.fn.filter bytes l.fn.piece given
      → Gives (g.K.Sink.told l.fn.client) (g.K.Sink.told l.client) given (Receives c l.arriving l.filter bytes l.rest);
  faults : g.K.Sink.faults l.client ≡ g.K.Sink.faults l.fn.client;
  kept : g.K.Sink.kept l.fn.client l.client;
  limit : limit_of l.filter ≡ limit_of l.fn.filter;
}

abbrev pub decreases-runs : goal.decreases-runs
decreases-runs g l = length l.rest
