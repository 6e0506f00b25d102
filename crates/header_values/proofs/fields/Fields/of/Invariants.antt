use Rattle.std.proofs.Common.{◌-◌, ◌≤◌, length}
use Rattle.header_values.proofs.FieldLemmas.{OfHeadTo}
use Rattle.header_values.proofs.fields.Fields.of.Given as goal

-- the fields so far are of the head, and take what is no more left of it
abbrev pub invariant-loop-span : goal.invariant-loop-span
invariant-loop-span l = (l.left ≤ length l.head) × OfHeadTo l.head l.spans l.span-index (length l.head - l.left)
