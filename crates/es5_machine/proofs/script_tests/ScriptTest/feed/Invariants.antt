use Rattle.std.proofs.Common.{◌≡◌, ◌++◌, List, ℕ, true, length}
use Rattle.es5_machine.specs.ScriptTests.{HasRead, is_dead}
use Rattle.es5_machine.proofs.script_tests.ScriptTest.feed.Given as goal

abbrev pub invariant-bytes : goal.invariant-bytes
invariant-bytes l = record {
  taken : (taken : List ℕ) × (l.piece ≡ taken ++ l.rest) × ((m : List ℕ) → HasRead l.initial.self m → HasRead l.self (m ++ taken));
  dead : is_dead l.initial.self ≡ true → is_dead l.self ≡ true;
}

abbrev pub decreases-bytes : goal.decreases-bytes
decreases-bytes l = length l.rest
