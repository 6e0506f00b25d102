use Rattle.std.proofs.Common.{◌≤◌, length}
use Rattle.header_values.proofs.scratch.tests.values_of_a_name_are_joined.Given as goal

-- each join leaves the room as it was
abbrev pub invariant-loop-name : goal.invariant-loop-name
invariant-loop-name g l = length l.fields.head.now ≤ l.scratch
