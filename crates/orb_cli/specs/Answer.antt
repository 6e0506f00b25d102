-- What an answer of `run` says of the bytes read and written, and of the counts of faults.
use Rattle.std.specs.Prelude.{◌≡◌, ◌⊎◌, ℕ, ◌<◌, ◌≤◌, Bool, true, false, List, [], ◌++◌, length, take, Option}
use Rattle.orb_io.specs.Told.{Loses, IsAtEnd, IsPrefix, Rose}
use Rattle.orb_io.specs.declared.pulling.TheConstants.{MOST_OF_A_RUN}
use Rattle.orb_engine.specs.declared.settings.Settings.{Settings}
use Rattle.orb_engine.specs.Recording.{Recording, IsRecording}
use Rattle.orb_engine.specs.Ends as ends
use Rattle.orb_engine.specs.Ends.{End, stop_of}
use Rattle.orb_engine.specs.Outputs.{output_of}
use Rattle.orb_cli.specs.declared.har_word.TheConstants.{MOST_OF_A_LOG}
use Rattle.orb_cli.specs.declared.outcome.Outcome.{Outcome}
use Rattle.orb_cli.specs.declared.outcome.Outcome.TheVariants as outcomes
use Rattle.command_line.specs.Taken.{Asked, Judge, Trial, Mime, Har, ComputedType, Serve, Proxy, IsTaken}
use Rattle.orb_cli.specs.Words.{settings_of, AreRefused}
use Rattle.orb_cli.specs.MimeLine.{IsMimeLine}
use Rattle.orb_cli.specs.Trial.{IsTrialLine}
use Rattle.orb_cli.specs.Har.{IsHarAnswer}
use Rattle.orb_cli.specs.Typed.{IsTypeAnswer}

-- nothing was read or written
abbrev pub Untouched : (read wrote : List ℕ) → Type 0
Untouched read wrote = (read ≡ []) × (wrote ≡ [])

-- the bytes are a recording that ends so, and all that is written of it was written
pub record EndsAt (s : Settings) (read : List ℕ) (ended : Bool) (wrote : List ℕ) (stop : End) : Type 0 where
  pub recording : Recording
  pub cut : IsRecording s read recording
  pub stops : stop_of recording ended ≡ stop
  pub output : wrote ≡ output_of s recording ended

-- what was written begins what is written of some first bytes of those read, and of all of them
pub record FallsShort (s : Settings) (read : List ℕ) (ended : Bool) (wrote : List ℕ) : Type 0 where
  pub seen : List ℕ
  pub unseen : List ℕ
  pub are : read ≡ seen ++ unseen
  pub recording : Recording
  pub cut : IsRecording s seen recording
  pub within : IsPrefix wrote (output_of s recording ended)
  pub of_all : (r : Recording) → IsRecording s read r → IsPrefix wrote (output_of s r ended)

-- what an answer says where a recording is judged by these settings
abbrev pub IsJudgeAnswer : Settings → (read : List ℕ) (ended : Bool) (wrote : List ℕ) → Outcome → Type 0
IsJudgeAnswer s read ended wrote outcomes.Done = EndsAt s read ended wrote ends.Done
IsJudgeAnswer s read ended wrote (outcomes.Bad kind place) = EndsAt s read ended wrote (ends.Bad kind place)
IsJudgeAnswer s read ended wrote (outcomes.Cut place) = EndsAt s read ended wrote (ends.Cut place)
IsJudgeAnswer s read ended wrote (outcomes.HeadLimit place) = EndsAt s read ended wrote (ends.HeadLimit place)
IsJudgeAnswer s read ended wrote (outcomes.MediaFull place) = EndsAt s read ended wrote (ends.MediaFull place)
IsJudgeAnswer s read ended wrote outcomes.Endless =
    (MOST_OF_A_RUN < length read) × (ended ≡ false) × EndsAt s (take MOST_OF_A_RUN read) false wrote ends.Open
IsJudgeAnswer s read ended wrote outcomes.ReadFault = (ended ≡ false) × EndsAt s read false wrote ends.Open
IsJudgeAnswer s read ended wrote outcomes.WriteFault = FallsShort s read ended wrote
IsJudgeAnswer s read ended wrote outcomes.NoMemory = Untouched read wrote
IsJudgeAnswer s read ended wrote outcomes.Usage = ⊥
IsJudgeAnswer s read ended wrote (outcomes.NotHar entry) = ⊥
IsJudgeAnswer s read ended wrote outcomes.HarLimit = ⊥

-- what an answer to `mime` with this text says: nothing is ever read
abbrev pub IsMimeAnswer : (text read : List ℕ) → Outcome → (wrote : List ℕ) → Type 0
IsMimeAnswer text read outcomes.Done wrote = (read ≡ []) × IsMimeLine text wrote
IsMimeAnswer text read outcomes.WriteFault wrote =
    (read ≡ []) × (line : List ℕ) × IsMimeLine text line × IsPrefix wrote line
IsMimeAnswer text read outcomes.NoMemory wrote = Untouched read wrote
IsMimeAnswer text read _ wrote = ⊥

-- what an answer to `trial` with these numbers says: nothing is ever read
abbrev pub IsTrialAnswer : (seed count : ℕ) (read : List ℕ) → Outcome → (wrote : List ℕ) → Type 0
IsTrialAnswer seed count read outcomes.Done wrote = (read ≡ []) × IsTrialLine seed count wrote
IsTrialAnswer seed count read outcomes.WriteFault wrote =
    (read ≡ []) × (line : List ℕ) × IsTrialLine seed count line × IsPrefix wrote line
IsTrialAnswer seed count read outcomes.NoMemory wrote = Untouched read wrote
IsTrialAnswer seed count read _ wrote = ⊥

-- what an answer to words that ask for this says
abbrev pub IsAnswer : Asked → (read : List ℕ) (ended : Bool) (wrote : List ℕ) → Outcome → Type 0
IsAnswer (Judge job policy limit) read ended wrote answer = IsJudgeAnswer (settings_of job policy limit) read ended wrote answer
IsAnswer (Mime text) read ended wrote answer = IsMimeAnswer text read answer wrote
IsAnswer (Trial seed count) read ended wrote answer = IsTrialAnswer seed count read answer wrote
IsAnswer Har read ended wrote answer = IsHarAnswer read ended wrote answer
IsAnswer ComputedType read ended wrote answer = IsTypeAnswer read ended wrote answer
IsAnswer (Serve address count) read ended wrote answer = ⊥
IsAnswer (Proxy address count) read ended wrote answer = ⊥

-- what the words ask for, and that the answer says so of it
abbrev pub AnswersWords : List (List ℕ) → (read : List ℕ) (ended : Bool) (wrote : List ℕ) → Outcome → Type 0
AnswersWords words read ended wrote answer = (asked : Asked) × IsTaken words asked × IsAnswer asked read ended wrote answer

-- nothing was written, and nothing read but for a HAR log, no more than one may have
abbrev pub FindsNoMemory : List (List ℕ) → (read wrote : List ℕ) → Type 0
FindsNoMemory words read wrote =
    ((read ≡ []) ⊎ (IsTaken words Har × (length read ≤ MOST_OF_A_LOG))) × (wrote ≡ [])

-- What an answer to these words says: `Usage` comes exactly where they ask `run` for nothing, but that there may be no
-- memory for any words.
abbrev pub Answers : (words : List (List ℕ)) (read : List ℕ) (ended : Bool) (wrote : List ℕ) → Outcome → Type 0
Answers words read ended wrote outcomes.Usage = AreRefused words × Untouched read wrote
Answers words read ended wrote outcomes.NoMemory = FindsNoMemory words read wrote
Answers words read ended wrote answer = AnswersWords words read ended wrote answer

-- The bytes that the source lost, whether the input has ended, and what the answer says of them and of what was
-- written. More than one run takes are lost only where the answer is Endless.
pub record Ran (Says : (read : List ℕ) (ended : Bool) (wrote : List ℕ) → Outcome → Type 0)
    (left left' : Option (List ℕ)) (answer : Outcome) (wrote : List ℕ) : Type 0
  where
    pub read : List ℕ
    pub ended : Bool
    pub lost : Loses left left' read
    pub at_end : ended ≡ true → IsAtEnd left'
    pub fits : (answer ≡ outcomes.Endless → ⊥) → length read ≤ MOST_OF_A_RUN
    pub answers : Says read ended wrote answer

-- A read fault comes only where the source's count rose, a write fault only where the sink's did.
-- Every other count is as it was.
abbrev pub HasCauses : (source source' sink sink' : ℕ) → Outcome → Type 0
HasCauses source source' sink sink' outcomes.ReadFault = Rose source source' × (sink' ≡ sink)
HasCauses source source' sink sink' outcomes.WriteFault = (source' ≡ source) × Rose sink sink'
HasCauses source source' sink sink' _ = (source' ≡ source) × (sink' ≡ sink)
