-- What may still come after what a machine has read.
use Rattle.std.specs.Prelude.{ℕ, Bool, List, reverse}
use Rattle.json_recogniser.specs.declared.machine.Machine.{Machine}
use Rattle.json_recogniser.specs.Residuals.{residual}

-- the text makes the whole a JSON text
abbrev pub comes : Machine → List ℕ → Bool
comes machine text = residual machine.state (reverse machine.marks.items) text
