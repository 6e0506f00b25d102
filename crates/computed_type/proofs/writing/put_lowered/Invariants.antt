use Rattle.std.proofs.Common.{length}
use Rattle.computed_type.proofs.WritingLemmas.{Lowered}
use Rattle.computed_type.proofs.writing.put_lowered.Given as goal

abbrev pub invariant-pieces : goal.invariant-pieces
invariant-pieces g l = Lowered g.O.Sink l.fn.sink l.sink l.text l.rest

abbrev pub decreases-pieces : goal.decreases-pieces
decreases-pieces g l = length l.rest
