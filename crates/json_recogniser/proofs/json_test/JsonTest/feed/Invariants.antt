use Rattle.std.proofs.Common.{◌≡◌, ◌++◌, List, ℕ, length, true}
use Rattle.json_recogniser.specs.JsonTest.{HasRead, is_dead}
use Rattle.json_recogniser.proofs.json_test.JsonTest.feed.Given as goal

abbrev pub invariant-bytes : goal.invariant-bytes
invariant-bytes l = record {
  taken : (taken : List ℕ) × (l.piece ≡ taken ++ l.rest) × ((bytes : List ℕ) → HasRead l.initial.self bytes → HasRead l.self (bytes ++ taken));
  dead : is_dead l.initial.self ≡ true → is_dead l.self ≡ true;
}

abbrev pub decreases-bytes : goal.decreases-bytes
decreases-bytes l = length l.rest
