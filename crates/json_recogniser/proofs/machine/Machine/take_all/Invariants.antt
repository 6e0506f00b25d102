use Rattle.std.proofs.Common.{◌≡◌, ◌++◌, ℕ, List, take}
use Rattle.json_recogniser.specs.Machines.{comes}
use Rattle.json_recogniser.proofs.machine.Machine.take_all.Given as goal

abbrev pub invariant-characters : goal.invariant-characters
invariant-characters l = (more : List ℕ) → comes l.self more ≡ comes l.initial.self (take l.c-index l.text ++ more)
