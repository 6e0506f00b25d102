-- What an answer to the word `har` says of the bytes read and written.
use Rattle.std.specs.Prelude.{◌≡◌, ℕ, ◌+◌, ◌<◌, ◌≤◌, Bool, true, false, List, [], ◌++◌, length, Result, Ok, Err, Option}
use Rattle.orb_io.specs.Told.{IsAtEnd, IsPrefix, Rose}
use Rattle.orb_io.specs.declared.pulling.TheConstants.{MOST_OF_A_RUN}
use Rattle.command_line.specs.declared.asked.Job.TheVariants.{Explain}
use Rattle.command_line.specs.declared.asked.Policy.TheVariants.{Orb}
use Rattle.command_line.specs.declared.numbers.TheConstants.{DEFAULT_LIMIT}
use Rattle.orb_engine.specs.declared.settings.Settings.{Settings}
use Rattle.orb_engine.specs.Recording.{Recording, IsRecording}
use Rattle.orb_engine.specs.Ends as ends
use Rattle.orb_engine.specs.Ends.{End, stop_of}
use Rattle.orb_engine.specs.Outputs.{output_of}
use Rattle.har_recording.specs.Recorded.{har_of}
use Rattle.orb_cli.specs.declared.har_word.TheConstants.{MOST_OF_A_LOG}
use Rattle.orb_cli.specs.declared.outcome.Outcome.{Outcome}
use Rattle.orb_cli.specs.declared.outcome.Outcome.TheVariants as outcomes
use Rattle.orb_cli.specs.Words.{settings_of}

-- the settings of the word `explain` alone
abbrev pub log_settings : Settings
log_settings = settings_of Explain Orb DEFAULT_LIMIT

-- the input was read to its end, and is no longer than a log may be
pub record IsReadWhole (read : List ℕ) (ended : Bool) : Type 0 where
  pub is_ended : ended ≡ true
  pub fits : length read ≤ MOST_OF_A_LOG

-- the bytes are a recording that ends so, and all that is written of it was written
pub record EndsWhole (s : Settings) (bytes wrote : List ℕ) (stop : End) : Type 0 where
  pub recording : Recording
  pub cut : IsRecording s bytes recording
  pub stops : stop_of recording true ≡ stop
  pub output : wrote ≡ output_of s recording true

-- what was written begins what is written of the recording that the bytes are
abbrev pub BeginsOutput : Settings → (bytes wrote : List ℕ) → Type 0
BeginsOutput s bytes wrote = (r : Recording) → IsRecording s bytes r → IsPrefix wrote (output_of s r true)

-- what an answer says where a recording in memory is judged
abbrev pub IsWholeAnswer : Settings → (bytes : List ℕ) → Outcome → (wrote : List ℕ) → Type 0
IsWholeAnswer s bytes outcomes.Done wrote = EndsWhole s bytes wrote ends.Done
IsWholeAnswer s bytes (outcomes.Bad kind place) wrote = EndsWhole s bytes wrote (ends.Bad kind place)
IsWholeAnswer s bytes (outcomes.Cut place) wrote = EndsWhole s bytes wrote (ends.Cut place)
IsWholeAnswer s bytes (outcomes.HeadLimit place) wrote = EndsWhole s bytes wrote (ends.HeadLimit place)
IsWholeAnswer s bytes (outcomes.MediaFull place) wrote = EndsWhole s bytes wrote (ends.MediaFull place)
IsWholeAnswer s bytes outcomes.WriteFault wrote = BeginsOutput s bytes wrote
IsWholeAnswer s bytes outcomes.NoMemory wrote = wrote ≡ []
IsWholeAnswer s bytes _ wrote = ⊥

-- what the answer says of the recording that the log stands for
pub record IsLogAnswer (read : List ℕ) (ended : Bool) (wrote : List ℕ) (answer : Outcome) : Type 0 where
  pub whole : IsReadWhole read ended
  pub recording : List ℕ
  pub stands_for : har_of read ≡ Ok recording
  pub judged : IsWholeAnswer log_settings recording answer wrote

-- What an answer to `har` says. Nothing is written before the log was read to its end and made a recording of. That
-- recording has whole exchanges without media ids, so `Cut` and `MediaFull` never come.
abbrev pub IsHarAnswer : (read : List ℕ) (ended : Bool) (wrote : List ℕ) → Outcome → Type 0
IsHarAnswer read ended wrote outcomes.Done = IsLogAnswer read ended wrote outcomes.Done
IsHarAnswer read ended wrote (outcomes.Bad kind place) = IsLogAnswer read ended wrote (outcomes.Bad kind place)
IsHarAnswer read ended wrote (outcomes.HeadLimit place) = IsLogAnswer read ended wrote (outcomes.HeadLimit place)
IsHarAnswer read ended wrote outcomes.WriteFault = IsLogAnswer read ended wrote outcomes.WriteFault
IsHarAnswer read ended wrote (outcomes.NotHar entry) = IsReadWhole read ended × (har_of read ≡ Err entry) × (wrote ≡ [])
IsHarAnswer read ended wrote outcomes.HarLimit = (MOST_OF_A_LOG < length read) × (wrote ≡ [])
IsHarAnswer read ended wrote outcomes.ReadFault = (ended ≡ false) × (length read ≤ MOST_OF_A_LOG) × (wrote ≡ [])
IsHarAnswer read ended wrote outcomes.NoMemory = (length read ≤ MOST_OF_A_LOG) × (wrote ≡ [])
IsHarAnswer read ended wrote _ = ⊥

-- why a log wasn't read, of which the source lost this much
abbrev pub RefusesLog : (read : List ℕ) → Outcome → Type 0
RefusesLog read outcomes.HarLimit = (MOST_OF_A_LOG < length read) × (length read ≤ MOST_OF_A_RUN)
RefusesLog read outcomes.ReadFault = length read ≤ MOST_OF_A_LOG
RefusesLog read outcomes.NoMemory = length read ≤ MOST_OF_A_LOG
RefusesLog read _ = ⊥

-- what a source lost while a log was read: all that it had, or why not
abbrev pub ReadsLog : {T : Type 0} → (T → List ℕ) → (read : List ℕ) (left' : Option (List ℕ)) → Result T Outcome → Type 0
ReadsLog text_of read left' (Ok text) = (text_of text ≡ read) × (length read ≤ MOST_OF_A_LOG) × IsAtEnd left'
ReadsLog text_of read left' (Err refused) = RefusesLog read refused

-- a read fault comes only where the source's count rose; every other answer leaves it as it was
abbrev pub RefusalCause : (source source' : ℕ) → Outcome → Type 0
RefusalCause source source' outcomes.ReadFault = Rose source source'
RefusalCause source source' _ = source' ≡ source

-- and so does a log that was read
abbrev pub LogCauses : {T : Type 0} → (source source' : ℕ) → Result T Outcome → Type 0
LogCauses source source' (Ok text) = source' ≡ source
LogCauses source source' (Err refused) = RefusalCause source source' refused

-- a piece was added to what was read of a log, or why not
abbrev pub AddsPiece : (old new piece : List ℕ) → Result (Unit {0}) Outcome → Type 0
AddsPiece old new piece (Ok done) = (new ≡ old ++ piece) × (length new ≤ MOST_OF_A_LOG)
AddsPiece old new piece (Err outcomes.HarLimit) = MOST_OF_A_LOG < length old + length piece
AddsPiece old new piece (Err outcomes.NoMemory) = length old + length piece ≤ MOST_OF_A_LOG
AddsPiece old new piece (Err _) = ⊥
