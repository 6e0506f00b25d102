use Rattle.std.proofs.Common.{◌∙◌}
use Rattle.body_filter.proofs.tests.feed_in_pieces.Goals as goal

pub pieces-preserved : goal.pieces-preserved
pieces-preserved c =
    let can = c.pieces.invariant.can in
    record {
      can = record { x = can.x; m = _; reads = (c.in_ok-feed.ensures.calls.tells can.x can.m can.reads).holds.1 };
      limit = c.in_ok-feed.ensures.limit ∙ c.pieces.invariant.limit;
    }
