use Rattle.std.proofs.Common.{sym}
use Rattle.orb_io.proofs.LinkLemmas.{first_there}
use Rattle.orb_io.proofs.ready_links.next_place.Goals as goal

pub returns-then-is_some : goal.returns-then-is_some
returns-then-is_some c =
    first_there c.args.places.now c.args.from c.loop-place.place c.index-places-place.result c.if-place-from.true
    c.loop-place-test.true c.index-places-place.is (sym c.if-is_some.ensures) c.loop-place.invariant
