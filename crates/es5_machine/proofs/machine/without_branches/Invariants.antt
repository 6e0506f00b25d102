use Rattle.std.proofs.Common.{◌≡◌, length, reverse}
use Rattle.es5_machine.specs.Steps.{without_branches}
use Rattle.es5_machine.proofs.machine.without_branches.Given as goal

abbrev pub invariant-branches : goal.invariant-branches
invariant-branches l = without_branches (reverse l.rest) ≡ without_branches (reverse l.fn.frames)

abbrev pub decreases-branches : goal.decreases-branches
decreases-branches l = length l.rest
