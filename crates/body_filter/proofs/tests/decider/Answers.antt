use Rattle.std.proofs.Common.{refl}
use Rattle.body_filter.proofs.tests.decider.Goals as goal

pub returns : goal.returns
returns c = record {
  h = _;
  reads = c.new.ensures.reads c.new.ensures.one.0 c.new.ensures.one.1;
  limit = refl;
}
