use Rattle.std.proofs.Common.{◌≡◌, ◌+◌, ◌<◌, ◌≤◌, length, vec_capacity}
use Rattle.http_exchange.specs.Framing.{Gathers}
use Rattle.http_exchange.proofs.framing.gather_chunks.Given as goal

abbrev pub invariant-chunks : goal.invariant-chunks
invariant-chunks l = record {
  short : length l.rest.items < 1024;
  rest_room : 1024 ≤ vec_capacity l.rest;
  text_room : 8248 ≤ vec_capacity l.text;
  gathers : Gathers l.initial.rest.items l.piece l.text.items l.rest.items l.left;
  some : 1024 ≤ length l.initial.rest.items + length l.piece → length l.text.items ≡ 0
      → 1024 ≤ length l.rest.items + length l.left;
}

abbrev pub decreases-chunks : goal.decreases-chunks
decreases-chunks l = length l.left
