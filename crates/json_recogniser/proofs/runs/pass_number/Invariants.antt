use Rattle.std.proofs.Common.{length, ◌-◌, ◌≡◌, ◌≤◌, ◌++◌, ℕ, List, true, take}
use Rattle.std.specs.List.{list_all}
use Rattle.std.specs.Char.{is_ascii}
use Rattle.json_recogniser.specs.declared.states.Container.{Container as AContainer}
use Rattle.json_recogniser.specs.Residuals.{residual_of_number}
use Rattle.json_recogniser.proofs.runs.pass_number.Given as goal

abbrev pub invariant-number : goal.invariant-number
invariant-number l = record {
  within : l.count ≤ length l.piece;
  ascii : list_all is_ascii (take l.count l.piece) ≡ true;
  goes : (marks : List AContainer) (text : List ℕ) → residual_of_number l.part marks text ≡ residual_of_number l.initial.part marks (take l.count l.piece ++ text);
}

abbrev pub decreases-number : goal.decreases-number
decreases-number l = length l.piece - l.count
