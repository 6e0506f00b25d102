use Rattle.body_filter.proofs.tests.steps.Goals as goal

pub loop-size-preserved : goal.loop-size-preserved
loop-size-preserved c =
    let can = c.loop-size.invariant in
    record { x = can.x; m = _; reads = (c.in_ok-feed.ensures.calls.tells can.x can.m can.reads).holds.1 }
