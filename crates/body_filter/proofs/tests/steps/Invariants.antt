use Rattle.body_filter.specs.Reads.{CanFeed}
use Rattle.body_filter.proofs.tests.steps.Given as goal

abbrev pub invariant-loop-size : goal.invariant-loop-size
invariant-loop-size l = CanFeed l.filter
