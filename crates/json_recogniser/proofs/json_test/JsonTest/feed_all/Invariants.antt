use Rattle.std.proofs.Common.{◌++◌, ℕ, List, take}
use Rattle.json_recogniser.specs.JsonTest.{Reads}
use Rattle.json_recogniser.proofs.json_test.JsonTest.feed_all.Given as goal

abbrev pub invariant-loop-b : goal.invariant-loop-b
invariant-loop-b l = (before : List ℕ) → Reads l.initial.self before → Reads l.self (before ++ take l.b-index l.bytes)
