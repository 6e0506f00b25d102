use Rattle.header_values.specs.Cuts.{parts_left}
use Rattle.header_values.proofs.ExtractLemmas.{ReadTo}
use Rattle.header_values.proofs.extraction.last_essence.Given as goal

abbrev pub invariant-loop-part : goal.invariant-loop-part
invariant-loop-part l = ReadTo l.value (parts_left l.part-iterator) l.last
