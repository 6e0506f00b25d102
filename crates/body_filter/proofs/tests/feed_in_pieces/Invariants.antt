use Rattle.std.proofs.Common.{◌≡◌, length}
use Rattle.body_filter.specs.Reads.{CanFeed, limit_of}
use Rattle.body_filter.proofs.tests.feed_in_pieces.Given as goal

abbrev pub invariant-pieces : goal.invariant-pieces
invariant-pieces l = record { can : CanFeed l.filter; limit : limit_of l.filter ≡ limit_of l.initial.filter }

abbrev pub decreases-pieces : goal.decreases-pieces
decreases-pieces l = length l.rest
