-- Where nothing fails, a run over a whole recording reads all of it and writes all that is written of it.
use Rattle.std.specs.Prelude.{◌≡◌, ℕ, ◌≤◌, Bool, true, List, [], length, Option, Some}
use Rattle.orb_io.specs.declared.pulling.TheConstants.{MOST_OF_A_RUN}
use Rattle.orb_engine.specs.declared.settings.Settings.{Settings}
use Rattle.orb_engine.specs.declared.outcome.EngineOutcome.{EngineOutcome}
use Rattle.orb_engine.specs.declared.outcome.EngineOutcome.TheVariants as outcome
use Rattle.orb_engine.specs.Recording.{Recording, IsRecording}
use Rattle.orb_engine.specs.Ends.{Done, stop_of}
use Rattle.orb_engine.specs.Outputs.{output_of}

-- the bytes are this recording, which ends after a whole exchange or is empty, and one run takes so many
pub record IsWholeRecording (s : Settings) (bytes : List ℕ) (r : Recording) : Type 0 where
  pub cut : IsRecording s bytes r
  pub done : stop_of r true ≡ Done
  pub fits : length bytes ≤ MOST_OF_A_RUN

-- the first bytes of the whole recording, which are this one, are all of it
pub record IsAll (s : Settings) (r first : Recording) (ended : Bool) (rest : List ℕ) : Type 0 where
  pub stop : stop_of first ended ≡ Done
  pub none_left : rest ≡ []
  pub output : output_of s first ended ≡ output_of s r true

-- the answer is Done, all was read, and what was given is all that is written of the recording
pub record IsComplete (o : EngineOutcome) (s : Settings) (r : Recording) (left' : Option (List ℕ)) (given : List ℕ) : Type 0
  where
    pub done : o ≡ outcome.Done
    pub left : left' ≡ Some []
    pub wrote : given ≡ output_of s r true
