-- What a call that pushes into a sink does to it, in one word.
use Rattle.std.specs.Prelude.{ℕ, List, Result}
use Rattle.orb_io.specs.Told.{Told, HasCause, Pushes}
use Rattle.orb_io.specs.declared.outside.Sink.{Ghosts}

-- This holds of what the sink tells before and after. Its count of faults went so, and all is kept that the sink keeps.
pub record Acts {O : Type 0} (sink : Ghosts O) (Caused : ℕ → ℕ → Type 0) (old new : O) (Tells : Told → Told → Type 0) : Type 0 where
  pub tells : Tells (sink.told old) (sink.told new)
  pub cause : Caused (sink.faults old) (sink.faults new)
  pub keeps : sink.kept old new

-- the same of a call whose `Err` has a fault as its cause
abbrev pub Calls : {O T E : Type 0} → (sink : Ghosts O) → Result T E → (old new : O) → (Tells : Told → Told → Type 0) → Type 0
Calls sink result old new Tells = Acts sink (λ before after. HasCause before after result) old new Tells

-- such a call put the whole piece, and at an `Err` a prefix of it
pub record Puts {O T E : Type 0} (sink : Ghosts O) (result : Result T E) (old new : O) (piece : List ℕ) : Type 0 where
  pub bytes : Pushes result (sink.told old) (sink.told new) piece
  pub cause : HasCause (sink.faults old) (sink.faults new) result
  pub keeps : sink.kept old new
