use Rattle.header_values.specs.Cuts.{parts_left}
use Rattle.header_values.proofs.RunLemmas.{MimesTo}
use Rattle.header_values.proofs.extraction.last_mime.Given as goal

abbrev pub invariant-loop-part : goal.invariant-loop-part
invariant-loop-part l = MimesTo l.value (parts_left l.part-iterator) l.run
