use Rattle.std.proofs.Common.{◌+◌, ◌≤◌, ◌^◌, length}
use Rattle.orb_engine.specs.Runs.{taken_by, CanFeed}
use Rattle.orb_engine.proofs.tests.feed_in_pieces.Given as goal

abbrev pub invariant-pieces : goal.invariant-pieces
invariant-pieces l = record { can : CanFeed l.engine; few : taken_by l.engine + length l.rest ≤ 2 ^ 62 }

abbrev pub decreases-pieces : goal.decreases-pieces
decreases-pieces l = length l.rest
