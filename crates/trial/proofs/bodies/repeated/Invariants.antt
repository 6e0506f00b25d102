use Rattle.std.proofs.Common.{◌≡◌, ◌+◌, ◌*◌, ◌≤◌, ◌++◌, length}
use Rattle.std.specs.List.{repeat}
use Rattle.trial.proofs.bodies.repeated.Given as goal

abbrev pub invariant-units : goal.invariant-units
invariant-units l = record {
  items : l.body.items ≡ l.prefix ++ repeat l.counter l.unit;
  room : length l.body.items ≤ 8 + 8 * l.counter;
}
