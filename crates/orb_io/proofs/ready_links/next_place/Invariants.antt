use Rattle.orb_io.specs.Links.{HasNoneIn}
use Rattle.orb_io.proofs.ready_links.next_place.Given as goal

abbrev pub invariant-loop-place : goal.invariant-loop-place
invariant-loop-place l = HasNoneIn l.places l.from l.place
