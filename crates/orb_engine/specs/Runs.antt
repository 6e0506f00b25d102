-- What the public calls of an engine answer.
use Rattle.std.specs.Prelude.{◌≡◌, ℕ, ◌<◌, ◌≤◌, ◌^◌, Bool, true, false, List, [], ◌++◌, length, take, Option, Some, None}
use Rattle.std.specs.FinMap as map
use Rattle.orb_io.specs.Told.{Loses, IsAtEnd, IsPrefix, Rose}
use Rattle.orb_engine.specs.declared.settings.Settings.{Settings}
use Rattle.orb_engine.specs.declared.engine.Engine.{Engine}
use Rattle.orb_engine.specs.declared.outcome.EngineOutcome.{EngineOutcome}
use Rattle.orb_engine.specs.declared.outcome.EngineOutcome.TheVariants as outcome
use Rattle.orb_engine.specs.Recording.{Exchange, Recording, IsRecording}
use Rattle.orb_engine.specs.Ends.{End, Open, stop_of}
use Rattle.orb_engine.specs.Outputs.{output_of, written_exchanges}
use Rattle.orb_engine.specs.Counts.{rules_of, rules_of_exchanges, count_allowed, count_blocked}
use Rattle.orb_io.specs.Outboxes.{empty_outbox}
use Rattle.orb_io.specs.declared.pulling.TheConstants.{MOST_OF_A_RUN}
use Rattle.orb_engine.specs.Writing.{box_of}
use Rattle.orb_engine.specs.Reads.{Reads, IsStop, HaltCause}

abbrev pub settings_of : Engine → Settings
settings_of e = e.writer.settings

abbrev pub taken_by : Engine → ℕ
taken_by e = e.progress.taken

abbrev pub allowed_by : Engine → ℕ
allowed_by e = e.progress.counts.allowed

abbrev pub blocked_by : Engine → ℕ
blocked_by e = e.progress.counts.blocked

-- it has read these bytes of a recording, and given these
pub record HasRead (e : Engine) (s : Settings) (m given : List ℕ) : Type 0 where
  pub reads : Reads e s m given
  pub flushed : box_of e.writer ≡ empty_outbox
  pub few : e.progress.taken ≤ 2 ^ 62

-- it reads a recording
pub record CanFeed (e : Engine) : Type 0 where
  pub s : Settings
  pub m : List ℕ
  pub given : List ℕ
  pub reads : HasRead e s m given

-- it reads none
abbrev pub IsSpent : Engine → Type 0
IsSpent e = (s : Settings) (m given : List ℕ) → HasRead e s m given → ⊥

-- the engine has counted the whole exchanges of the recording, by verdict
pub record HasCounted (e : Engine) (s : Settings) (r : Recording) (ended : Bool) : Type 0 where
  pub allowed : allowed_by e ≡ count_allowed (rules_of s r ended)
  pub blocked : blocked_by e ≡ count_blocked (rules_of s r ended)

-- it has counted some first exchanges, whose outputs stand whole at the beginning of what was written
pub record HasCountedPrefix (e : Engine) (s : Settings) (exchanges : List Exchange) (wrote : List ℕ) : Type 0 where
  pub prefix : List Exchange
  pub others : List Exchange
  pub are : exchanges ≡ prefix ++ others
  pub allowed : allowed_by e ≡ count_allowed (rules_of_exchanges prefix)
  pub blocked : blocked_by e ≡ count_blocked (rules_of_exchanges prefix)
  pub whole : IsPrefix (written_exchanges s map.empty 0 prefix) wrote

-- the bytes are a recording that ends so, and what was given is what is written of it
pub record Ends (e : Engine) (s : Settings) (m : List ℕ) (ended : Bool) (P : End → Type 0) (given : List ℕ) : Type 0 where
  pub recording : Recording
  pub cut : IsRecording s m recording
  pub stop : P (stop_of recording ended)
  pub gave : given ≡ output_of s recording ended
  pub counted : HasCounted e s recording ended

-- the sink failed: what was given is a prefix of what is written of some first bytes, and so of what is written
-- of all of them
pub record Fails (e : Engine) (s : Settings) (m : List ℕ) (ended : Bool) (given : List ℕ) : Type 0 where
  pub seen : List ℕ
  pub unseen : List ℕ
  pub all : m ≡ seen ++ unseen
  pub all_seen : ended ≡ true → unseen ≡ []
  pub recording : Recording
  pub cut : IsRecording s seen recording
  pub within : IsPrefix given (output_of s recording ended)
  pub counted : HasCountedPrefix e s recording.exchanges given

-- the bytes end so, or the sink failed
abbrev pub EndsAs : EngineOutcome → Engine → Settings → List ℕ → Bool → (given : List ℕ) → Type 0
EndsAs outcome.WriteFault e s m ended given = Fails e s m ended given
EndsAs o e s m ended given = Ends e s m ended (IsStop o) given

-- what `feed` answers
abbrev pub FeedAnswers : Option EngineOutcome → Engine → Settings → List ℕ → (given : List ℕ) → Type 0
FeedAnswers None e s m given = Ends e s m false (λ stop. stop ≡ Open) given × HasRead e s m given
FeedAnswers (Some o) e s m given = EndsAs o e s m false given

-- a write fault comes only where the sink's count rose; every other answer leaves it as it was
abbrev pub FeedCauses : Option EngineOutcome → ℕ → ℕ → Type 0
FeedCauses None before after = after ≡ before
FeedCauses (Some o) before after = HaltCause o before after

-- what an answer of `run` says of the bytes read and of those given, and of whether the input has ended
abbrev pub RunAnswers : EngineOutcome → Engine → Settings → (read : List ℕ) → (ended : Bool) → (given : List ℕ) → Type 0
RunAnswers outcome.ReadFault e s read ended given = (ended ≡ false) × Ends e s read false (λ stop. stop ≡ Open) given
RunAnswers outcome.WriteFault e s read ended given = Fails e s read ended given
RunAnswers outcome.Endless e s read ended given =
    (MOST_OF_A_RUN < length read) × (ended ≡ false) × Ends e s (take MOST_OF_A_RUN read) false (λ stop. stop ≡ Open) given
RunAnswers o e s read ended given = Ends e s read ended (IsStop o) given

-- The bytes that the source lost, whether the input has ended, and what the answer says of what the sink was given.
-- More than one run takes are lost only where the answer is Endless.
pub record Ran (o : EngineOutcome) (e : Engine) (s : Settings) (left left' : Option (List ℕ)) (given : List ℕ) : Type 0 where
  pub read : List ℕ
  pub ended : Bool
  pub lost : Loses left left' read
  pub at_end : ended ≡ true → IsAtEnd left'
  pub fits : (o ≡ outcome.Endless → ⊥) → length read ≤ MOST_OF_A_RUN
  pub answers : RunAnswers o e s read ended given

-- A read fault comes only where the source's count rose, a write fault only where the sink's did. Every
-- other count is as it was.
abbrev pub RunCauses : EngineOutcome → (source source' sink sink' : ℕ) → Type 0
RunCauses outcome.ReadFault source source' sink sink' = Rose source source' × (sink' ≡ sink)
RunCauses outcome.WriteFault source source' sink sink' = (source' ≡ source) × Rose sink sink'
RunCauses o source source' sink sink' = (source' ≡ source) × (sink' ≡ sink)
