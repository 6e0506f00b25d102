use Rattle.std.proofs.Common.{length, ◌-◌, ◌≡◌, ◌≤◌, ◌++◌, ℕ, List, true, take}
use Rattle.std.specs.List.{list_all}
use Rattle.std.specs.Char.{is_ascii}
use Rattle.json_recogniser.specs.Machines.{comes}
use Rattle.json_recogniser.proofs.machine.Machine.take_ascii.Given as goal

abbrev pub invariant-bytes : goal.invariant-bytes
invariant-bytes l = record {
  within : l.count ≤ length l.piece;
  ascii : list_all is_ascii (take l.count l.piece) ≡ true;
  goes : (text : List ℕ) → comes l.self text ≡ comes l.initial.self (take l.count l.piece ++ text);
}

abbrev pub decreases-bytes : goal.decreases-bytes
decreases-bytes l = length l.piece - l.count
