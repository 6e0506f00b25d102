use Rattle.std.proofs.Common.{◌≡◌, ◌+◌, ◌≤◌, ◌++◌, ℕ, List, length}
use Rattle.text_stream.specs.Decoding.{characters_after}
use Rattle.text_stream.proofs.decoder.settle.Given as goal

abbrev pub invariant-settling : goal.invariant-settling
invariant-settling l = record {
  reads : (more : List ℕ) → l.initial.given.items ++ characters_after 0 (l.initial.pending.items ++ more)
      ≡ l.given.items ++ characters_after 0 (l.pending.items ++ more);
  room : length l.given.items + length l.pending.items ≤ 4;
}

abbrev pub decreases-settling : goal.decreases-settling
decreases-settling l = length l.pending.items
