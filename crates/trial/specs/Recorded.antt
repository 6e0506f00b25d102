-- The self-test as a recording of exchanges.
use Rattle.std.specs.Prelude.{◌≡◌, ℕ, length}
use Rattle.orb_engine.specs.declared.settings.Settings.{Settings}
use Rattle.orb_engine.specs.Recording.{Recording}
use Rattle.orb_engine.specs.Complete.{IsWholeRecording}
use Rattle.trial.specs.Trials.{trial_of}

-- the bytes of so many exchanges are a whole recording, which one run takes, of as many exchanges
pub record IsRecorded (s : Settings) (seed count : ℕ) : Type 0 where
  pub recording : Recording
  pub whole : IsWholeRecording s (trial_of seed count) recording
  pub number : length recording.exchanges ≡ count
