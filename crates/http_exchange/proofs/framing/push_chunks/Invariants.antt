use Rattle.std.proofs.Common.{◌≡◌, ◌<◌, ◌≤◌, length, vec_capacity}
use Rattle.http_exchange.proofs.FramingLemmas.{Cut}
use Rattle.http_exchange.proofs.framing.push_chunks.Given as goal

abbrev pub invariant-chunks : goal.invariant-chunks
invariant-chunks g l = record {
  short : length l.rest.items < 1024;
  rest_room : 1024 ≤ vec_capacity l.rest;
  cut : Cut (g.O.Sink.told l.initial.sink) (g.O.Sink.told l.sink) l.initial.rest.items l.piece l.left l.rest.items;
  calm : g.O.Sink.faults l.sink ≡ g.O.Sink.faults l.initial.sink;
  kept : g.O.Sink.kept l.initial.sink l.sink;
}

abbrev pub decreases-chunks : goal.decreases-chunks
decreases-chunks g l = length l.left
