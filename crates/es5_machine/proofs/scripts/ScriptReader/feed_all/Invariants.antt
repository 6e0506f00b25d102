use Rattle.std.proofs.Common.{◌≡◌, ℕ, true, List, ◌++◌, take}
use Rattle.es5_machine.specs.ScriptReading.{ReaderHasRead}
use Rattle.es5_machine.proofs.scripts.ScriptReader.feed_all.Given as goal

abbrev pub invariant-loop-c : goal.invariant-loop-c
invariant-loop-c l = ((u : List ℕ) → ReaderHasRead l.initial.self u → ReaderHasRead l.self (u ++ take l.c-index l.characters))
    × (l.initial.self.dead ≡ true → l.self.dead ≡ true)
