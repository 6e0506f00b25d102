use Rattle.std.proofs.Common.{◌≡◌, length}
use Rattle.es5_machine.specs.Steps.{at, without_branches}
use Rattle.es5_machine.proofs.machine.Machine.close_branches.Given as goal

abbrev pub invariant-branches : goal.invariant-branches
invariant-branches l =
    at l.self.control (without_branches l.self.frames) ≡ at l.initial.self.control (without_branches l.initial.self.frames)

abbrev pub decreases-branches : goal.decreases-branches
decreases-branches l = length l.self.frames
