use Rattle.std.proofs.Common.{◌≡◌, ◌<◌, ◌≤◌, length, vec_capacity}
use Rattle.http_exchange.proofs.FramingLemmas.{Cut}
use Rattle.http_exchange.proofs.framing.put_chunks.Given as goal

abbrev pub invariant-batches : goal.invariant-batches
invariant-batches g l = record {
  short : length l.rest.items < 1024;
  rest_room : 1024 ≤ vec_capacity l.rest;
  text_room : 8248 ≤ vec_capacity l.text;
  cut : Cut (g.O.Sink.told l.initial.sink) (g.O.Sink.told l.sink) l.initial.rest.items l.piece l.left l.rest.items;
  calm : g.O.Sink.faults l.sink ≡ g.O.Sink.faults l.initial.sink;
  kept : g.O.Sink.kept l.initial.sink l.sink;
}

abbrev pub decreases-batches : goal.decreases-batches
decreases-batches g l = length l.left
