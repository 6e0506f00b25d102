use Rattle.std.proofs.Common.{◌≡◌, ◌++◌, ℕ, List, length}
use Rattle.response_rules.specs.Heads.{Case}
use Rattle.response_rules.specs.Reads.{HasRead}
use Rattle.response_rules.proofs.tests.feed_in_pieces.Given as goal

abbrev pub invariant-pieces : goal.invariant-pieces
invariant-pieces l =
    (prefix : List ℕ) × (l.body ≡ prefix ++ l.rest)
    × ((h : Case) (m : List ℕ) → HasRead l.initial.decider h m → HasRead l.decider h (m ++ prefix))

abbrev pub decreases-pieces : goal.decreases-pieces
decreases-pieces l = length l.rest
