-- What a run does with one pull.
use Rattle.std.specs.Prelude.{◌≡◌, ℕ, Bool, false, ◌==◌, List, [], take, Option, Some, None, Result, Ok, Err}
use Rattle.orb_io.specs.declared.outside.Failed.{Failed}
use Rattle.orb_io.specs.Told.{Loses, HasCause}
use Rattle.orb_engine.specs.declared.settings.Settings.{Settings}
use Rattle.orb_engine.specs.declared.engine.Engine.{Engine}
use Rattle.orb_engine.specs.declared.outcome.EngineOutcome.{EngineOutcome}
use Rattle.orb_engine.specs.Runs.{HasRead, RunAnswers, RunCauses}

-- the bytes that a pull gave into the room
abbrev pub piece_of : Result ℕ Failed → List ℕ → List ℕ
piece_of (Ok n) room = take n room
piece_of (Err failed) room = []

-- a pull that gave none found the end of the input
abbrev pub is_ended : Result ℕ Failed → Bool
is_ended (Ok n) = n == 0
is_ended (Err failed) = false

-- what a turn says of the bytes read so far and of those given: it reads on, or the run ends so
abbrev pub TurnAnswers : Option EngineOutcome → Engine → Settings → (read : List ℕ) → (ended : Bool) → (given : List ℕ) → Type 0
TurnAnswers None e s read ended given = HasRead e s read given
TurnAnswers (Some o) e s read ended given = RunAnswers o e s read ended given

abbrev pub TurnCauses : Option EngineOutcome → (source source' sink sink' : ℕ) → Type 0
TurnCauses None source source' sink sink' = (source' ≡ source) × (sink' ≡ sink)
TurnCauses (Some o) source source' sink sink' = RunCauses o source source' sink sink'

-- the same after what the pull did to the source's count
abbrev pub TurnCausesAfter : Result ℕ Failed → Option EngineOutcome → (sink sink' : ℕ) → Type 0
TurnCausesAfter pulled outcome sink sink' = (before after : ℕ) → HasCause before after pulled → TurnCauses outcome before after sink sink'

-- between two pulls: the bytes that the source lost were read
pub record Running (e : Engine) (s : Settings) (left left' : Option (List ℕ)) (given : List ℕ) : Type 0 where
  pub read : List ℕ
  pub lost : Loses left left' read
  pub reads : HasRead e s read given
