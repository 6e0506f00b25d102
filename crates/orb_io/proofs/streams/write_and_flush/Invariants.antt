use Rattle.std.proofs.Common.{◌≡◌, ◌++◌, List, ℕ, length}
use Rattle.std.specs.Io.KnownBytes.{Appends}
use Rattle.orb_io.proofs.streams.write_and_flush.Given as goal

-- what was written, before what is left of the piece
abbrev pub invariant-writing : goal.invariant-writing
invariant-writing g l =
    (done : List ℕ) × (l.piece ≡ done ++ l.rest)
    × Appends (g.W.Write.contents l.fn.writer) (g.W.Write.contents l.writer) done

abbrev pub decreases-writing : goal.decreases-writing
decreases-writing g l = length l.rest
