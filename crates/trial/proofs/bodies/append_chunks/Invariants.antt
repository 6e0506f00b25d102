use Rattle.std.proofs.Common.{◌≡◌, ◌+◌, ◌*◌, ◌≤◌, ◌++◌, length}
use Rattle.trial.specs.Texts.{chunked_text}
use Rattle.trial.proofs.bodies.append_chunks.Given as goal

abbrev pub invariant-chunks : goal.invariant-chunks
invariant-chunks l = record {
  whole : l.text.items ++ chunked_text 100 l.left ≡ l.initial.text.items ++ chunked_text 100 l.body;
  room : length l.text.items + 2 * length l.left ≤ 4608;
}

abbrev pub decreases-chunks : goal.decreases-chunks
decreases-chunks l = length l.left
