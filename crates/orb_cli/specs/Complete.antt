-- Where nothing fails, a whole recording, a text, a self-test, a log and a response are answered `Done`.
use Rattle.std.specs.Prelude.{◌≡◌, ℕ, true, List, [], Option, Some}
use Rattle.orb_engine.specs.declared.settings.Settings.{Settings}
use Rattle.orb_engine.specs.Recording.{Recording}
use Rattle.orb_engine.specs.Outputs.{output_of}
use Rattle.orb_cli.specs.MimeLine.{IsMimeLine}
use Rattle.orb_cli.specs.Trial.{IsTrialLine}
use Rattle.orb_cli.specs.Har.{log_settings}
use Rattle.orb_cli.specs.declared.outcome.Outcome.{Outcome}
use Rattle.orb_cli.specs.declared.outcome.Outcome.TheVariants as outcomes

-- all bytes were read and all that is written of them was written, or there was no memory and nothing was
abbrev pub IsComplete : Settings → (bytes : List ℕ) → Recording → (left' : Option (List ℕ)) → (wrote : List ℕ) → Outcome → Type 0
IsComplete s bytes r left' wrote outcomes.Done = (left' ≡ Some []) × (wrote ≡ output_of s r true)
IsComplete s bytes r left' wrote outcomes.NoMemory = (left' ≡ Some bytes) × (wrote ≡ [])
IsComplete s bytes r left' wrote _ = ⊥

-- the line of the text was written, or there was no memory and nothing was
abbrev pub IsCompleteText : (text wrote : List ℕ) → Outcome → Type 0
IsCompleteText text wrote outcomes.Done = IsMimeLine text wrote
IsCompleteText text wrote outcomes.NoMemory = wrote ≡ []
IsCompleteText text wrote _ = ⊥

-- the line of the self-test was written, or there was no memory and nothing was
abbrev pub IsCompleteTrial : (seed count : ℕ) (wrote : List ℕ) → Outcome → Type 0
IsCompleteTrial seed count wrote outcomes.Done = IsTrialLine seed count wrote
IsCompleteTrial seed count wrote outcomes.NoMemory = wrote ≡ []
IsCompleteTrial seed count wrote _ = ⊥

-- all of the log was read and all lines of its recording were written, or there was no memory and nothing was written
abbrev pub IsCompleteLog : Recording → (left' : Option (List ℕ)) → (wrote : List ℕ) → Outcome → Type 0
IsCompleteLog r left' wrote outcomes.Done = (left' ≡ Some []) × (wrote ≡ output_of log_settings r true)
IsCompleteLog r left' wrote outcomes.NoMemory = wrote ≡ []
IsCompleteLog r left' wrote _ = ⊥

-- all of the response was read and its type's line was written, or there was no memory, and nothing was read and written
abbrev pub IsCompleteType : (bytes line : List ℕ) → (left' : Option (List ℕ)) → (wrote : List ℕ) → Outcome → Type 0
IsCompleteType bytes line left' wrote outcomes.Done = (left' ≡ Some []) × (wrote ≡ line)
IsCompleteType bytes line left' wrote outcomes.NoMemory = (left' ≡ Some bytes) × (wrote ≡ [])
IsCompleteType bytes line left' wrote _ = ⊥
