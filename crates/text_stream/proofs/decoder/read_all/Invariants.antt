use Rattle.std.proofs.Common.{◌≡◌, ◌+◌, ◌≤◌, ◌++◌, length}
use Rattle.text_stream.specs.Decoding.{characters_after}
use Rattle.text_stream.proofs.decoder.read_all.Given as goal

abbrev pub invariant-reading : goal.invariant-reading
invariant-reading l = record {
  reads : l.given.items ++ characters_after 0 l.rest ≡ characters_after 0 l.bytes;
  room : length l.given.items + length l.rest ≤ 3;
}

abbrev pub decreases-reading : goal.decreases-reading
decreases-reading l = length l.rest
