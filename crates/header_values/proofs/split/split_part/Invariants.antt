use Rattle.header_values.proofs.PartLemmas.{WalkedTo}
use Rattle.header_values.proofs.split.split_part.Given as goal

abbrev pub invariant-loop-i : goal.invariant-loop-i
invariant-loop-i l = WalkedTo l.text l.i l.state
