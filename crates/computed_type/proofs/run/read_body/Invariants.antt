use Rattle.std.proofs.Common.{◌≡◌, ◌+◌, ◌-◌, ◌≤◌, ◌^◌, ◌++◌, ℕ, List, length}
use Rattle.signatures.specs.Window.{window_of}
use Rattle.computed_type.specs.Reading.{Reads}
use Rattle.computed_type.proofs.run.read_body.Given as goal

abbrev pub invariant-pulls : goal.invariant-pulls
invariant-pulls g l = record {
  reads : Reads (g.I.Source.left l.fn.input) (g.I.Source.left l.input)
      (λ more. (l.taken ≡ l.fn.taken + length more) × ((body : List ℕ) → l.fn.window.items ≡ window_of body → l.window.items ≡ window_of (body ++ more)));
  few : l.taken ≤ 2 ^ 62;
  source : g.I.Source.faults l.input ≡ g.I.Source.faults l.fn.input;
  keeps : g.I.Source.kept l.fn.input l.input;
  room : length l.room ≡ 8192;
}

abbrev pub decreases-pulls : goal.decreases-pulls
decreases-pulls g l = 2 ^ 62 - l.taken
