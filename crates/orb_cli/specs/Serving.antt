-- What serving connections, one after the other, does to them, to the listener and to the log.
use Rattle.std.specs.Prelude.{◌≡◌, ℕ, ◌+◌, ◌<◌, ◌≤◌, List, [], ◌∷◌, ◌++◌, length, decimal, Option, Some, None, ⊤}
use Rattle.orb_bytes.specs.Ascii.{space, line_feed}
use Rattle.orb_io.specs.Told.{Told, Gains, GainsPrefix, Gives, Rose}
use Rattle.orb_io.specs.declared.outside.Source.{Ghosts as Source}
use Rattle.orb_io.specs.declared.outside.Sink.{Ghosts as Sink}
use Rattle.orb_engine.specs.declared.settings.Settings.{Settings}
use Rattle.orb_engine.specs.declared.outcome.EngineOutcome.{EngineOutcome}
use Rattle.orb_cli.specs.declared.outcome.Outcome.{Outcome}
use Rattle.orb_cli.specs.declared.outcome.ServeOutcome.{ServeOutcome}
use Rattle.orb_cli.specs.declared.outcome.ServeOutcome.TheVariants as serving
use Rattle.orb_cli.specs.Answer.{Ran, IsJudgeAnswer, HasCauses}
use Rattle.orb_cli.specs.Outcomes.{outcome_of}
use Rattle.orb_cli.specs.Report.{status_of}

-- the line of a connection in the log: its number, and the status of how it ended
unfoldable pub log_line : (number status : ℕ) → List ℕ
log_line number status = decimal number ++ (space ∷ (decimal status ++ (line_feed ∷ [])))

-- the lines of connections that ended so, of which the first has this number
abbrev pub log_lines : {A : Type 0} → (A → ℕ) → (number : ℕ) → List A → List ℕ
log_lines status number [] = []
log_lines status number (o ∷ outcomes) = log_line number (status o) ++ log_lines status (number + 1) outcomes

-- the status of a connection whose recording an engine judged
abbrev pub status_in_log : EngineOutcome → ℕ
status_in_log o = status_of (outcome_of o)

-- the recording that came from the link was judged by these settings, with this outcome, and what is written of it
-- went to the link
pub record RanOn {K : Type 0} (source : Source K) (sink : Sink K) (s : Settings) (old new : K) (outcome : Outcome) : Type 0
  where
    pub ran : Gives (sink.told old) (sink.told new) []
        (Ran (IsJudgeAnswer s) (source.left old) (source.left new) outcome)
    pub causes : HasCauses (source.faults old) (source.faults new) (sink.faults old) (sink.faults new) outcome

-- the number of links handed out, where it is told, rose by this
abbrev pub RoseBy : Option ℕ → Option ℕ → ℕ → Type 0
RoseBy None None n = ⊤
RoseBy None (Some after) n = ⊥
RoseBy (Some before) None n = ⊥
RoseBy (Some before) (Some after) n = after ≡ before + n

-- so many links were handed out, and this holds of the lines of as many connections, numbered from 1
pub record Serves {A : Type 0} (status : A → ℕ) (before after : Option ℕ) (n : ℕ) (Logged : List ℕ → Type 0) : Type 0 where
  pub outcomes : List A
  pub each : length outcomes ≡ n
  pub handed : RoseBy before after n
  pub logged : Logged (log_lines status 1 outcomes)

-- no link was handed out, and nothing was logged
abbrev pub ServesNone : (handed handed' : Option ℕ) → (log log' : Told) → Type 0
ServesNone handed handed' log log' = (handed' ≡ handed) × (log' ≡ log)

-- what the answer says where this number of connections is to be served, each with such a status
abbrev pub Served : {A : Type 0} → (status : A → ℕ) → (count : ℕ) → (handed handed' : Option ℕ) → (log log' : Told) → ServeOutcome → Type 0
Served status count handed handed' log log' serving.Done = Serves status handed handed' count (Gains log log')
Served status count handed handed' log log' serving.Usage = ⊥
Served status count handed handed' log log' serving.BindFault = ServesNone handed handed' log log'
Served status count handed handed' log log' serving.AcceptFault =
    (n : ℕ) × (n < count) × Serves status handed handed' n (Gains log log')
Served status count handed handed' log log' serving.WriteFault =
    (n : ℕ) × (n ≤ count) × Serves status handed handed' n (GainsPrefix log log')
Served status count handed handed' log log' serving.NoMemory = ServesNone handed handed' log log'

-- A fault comes only where its count rose: the listener's for `bind`, its one for `accept`, the log's. Every other
-- count is as it was.
abbrev pub HasServeCauses : (bind bind' accept accept' log log' : ℕ) → ServeOutcome → Type 0
HasServeCauses b b' a a' l l' serving.BindFault = Rose b b' × (a' ≡ a) × (l' ≡ l)
HasServeCauses b b' a a' l l' serving.AcceptFault = (b' ≡ b) × Rose a a' × (l' ≡ l)
HasServeCauses b b' a a' l l' serving.WriteFault = (b' ≡ b) × (a' ≡ a) × Rose l l'
HasServeCauses b b' a a' l l' _ = (b' ≡ b) × (a' ≡ a) × (l' ≡ l)

-- all connections were served and logged, or there was no memory and nothing was done
abbrev pub IsAllServed : {A : Type 0} → (status : A → ℕ) → (count : ℕ) → (handed handed' : Option ℕ) → (log log' : Told) → ServeOutcome → Type 0
IsAllServed status count handed handed' log log' serving.Done = Serves status handed handed' count (Gains log log')
IsAllServed status count handed handed' log log' serving.NoMemory = ServesNone handed handed' log log'
IsAllServed status count handed handed' log log' _ = ⊥
