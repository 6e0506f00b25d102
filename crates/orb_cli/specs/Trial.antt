-- The self-test: a made-up recording that an engine runs over, and the line that is written of it.
use Rattle.std.specs.Prelude.{◌≡◌, ℕ, true, List, [], ◌∷◌, ◌++◌, length, codes, decimal}
use Rattle.orb_bytes.specs.Ascii.{line_feed}
use Rattle.orb_io.specs.Told.{IsPrefix}
use Rattle.command_line.specs.declared.asked.Job.TheVariants as said_job
use Rattle.command_line.specs.declared.asked.Policy.TheVariants as said_policy
use Rattle.command_line.specs.declared.numbers.TheConstants.{DEFAULT_LIMIT}
use Rattle.orb_engine.specs.declared.settings.Settings.{Settings}
use Rattle.orb_engine.specs.declared.engine.Engine.{Engine}
use Rattle.orb_engine.specs.declared.outcome.EngineOutcome.{EngineOutcome}
use Rattle.orb_engine.specs.declared.outcome.EngineOutcome.TheVariants as outcome
use Rattle.orb_engine.specs.Recording.{Recording, IsRecording}
use Rattle.orb_engine.specs.Ends as ends
use Rattle.orb_engine.specs.Ends.{stop_of}
use Rattle.orb_engine.specs.Outputs.{output_of}
use Rattle.orb_engine.specs.Counts.{rules_of, count_allowed, count_blocked}
use Rattle.orb_engine.specs.Runs.{HasCounted}
use Rattle.trial.specs.Trials.{trial_of}
use Rattle.orb_cli.specs.Words.{settings_of}

-- the bytes of the self-test are this recording, which ends after as many exchanges as were asked for
pub record IsTrialRecording (s : Settings) (seed count : ℕ) (r : Recording) : Type 0 where
  pub cut : IsRecording s (trial_of seed count) r
  pub done : stop_of r true ≡ ends.Done
  pub number : length r.exchanges ≡ count

-- all that is written of it was written, and the engine has counted its exchanges by verdict
pub record RunsTrial (e : Engine) (s : Settings) (seed count : ℕ) (wrote : List ℕ) : Type 0 where
  pub recording : Recording
  pub is : IsTrialRecording s seed count recording
  pub output : wrote ≡ output_of s recording true
  pub counted : HasCounted e s recording true

-- a prefix of what is written of it was
pub record BreaksTrial (s : Settings) (seed count : ℕ) (wrote : List ℕ) : Type 0 where
  pub recording : Recording
  pub is : IsTrialRecording s seed count recording
  pub within : IsPrefix wrote (output_of s recording true)

-- what an engine that runs over it answers
abbrev pub TrialAnswers : EngineOutcome → Engine → Settings → (seed count : ℕ) → (wrote : List ℕ) → Type 0
TrialAnswers outcome.Done e s seed count wrote = RunsTrial e s seed count wrote
TrialAnswers outcome.WriteFault e s seed count wrote = BreaksTrial s seed count wrote
TrialAnswers _ e s seed count wrote = ⊥

-- the settings of the self-test: those of the word `filter` alone
abbrev pub trial_settings : Settings
trial_settings = settings_of said_job.Filter said_policy.Orb DEFAULT_LIMIT

-- the line with how many exchanges there are, how many of them are allowed and blocked, and how many bytes are written
unfoldable pub trial_line : (exchanges allowed blocked written : ℕ) → List ℕ
trial_line exchanges allowed blocked written =
    codes "exchanges " ++ (decimal exchanges
    ++ (codes " allow " ++ (decimal allowed
    ++ (codes " block " ++ (decimal blocked
    ++ (codes " written " ++ (decimal written ++ line_feed ∷ [])))))))

-- the line of the self-test, with the numbers of its recording
pub record IsTrialLine (seed count : ℕ) (line : List ℕ) : Type 0 where
  pub recording : Recording
  pub is : IsTrialRecording trial_settings seed count recording
  pub are : line ≡ trial_line count (count_allowed (rules_of trial_settings recording true))
      (count_blocked (rules_of trial_settings recording true)) (length (output_of trial_settings recording true))
