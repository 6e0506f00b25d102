-- What is written of one response, and gathered.
use Rattle.std.specs.Prelude.{◌≡◌, ℕ, List, ◌++◌, length, Result, Ok, Err}
use Rattle.orb_io.specs.Told.{IsPrefix}
use Rattle.body_filter.specs.Responses.{Response}
use Rattle.orb_engine.specs.declared.settings.Settings.{Settings}
use Rattle.orb_engine.specs.declared.writer.Writer.{Writer}
use Rattle.orb_io.specs.Outboxes.{OutboxState}
use Rattle.orb_engine.specs.Workers.{IsWorkerFor, Works}

-- what a writer has gathered
abbrev pub box_of : Writer → OutboxState
box_of w = w.outbox

abbrev pub gathered_by : Writer → List ℕ
gathered_by w = (box_of w).bytes

-- all that is owed was given or is gathered, and this holds of the value; at a fault a prefix of it was given
abbrev pub Passes : {T E : Type 0} → Result T E → Writer → (owed : List ℕ) → (T → Type 0) → (given : List ℕ) → Type 0
Passes (Ok value) w owed P given = (given ++ gathered_by w ≡ owed) × P value
Passes (Err fault) w owed P given = IsPrefix given owed

-- its worker does the job of the settings, and what is gathered fits
pub record IsWriterFor (w : Writer) (s : Settings) : Type 0 where
  pub worker : IsWorkerFor w.worker s
  pub no_faults : (box_of w).faults ≡ 0

-- it has read this prefix of the body of the response
pub record WriterReads (w : Writer) (s : Settings) (x : Response) (m : List ℕ) : Type 0 where
  pub works : Works w.worker s x m
  pub no_faults : (box_of w).faults ≡ 0
  pub head : w.head ≡ length x.bytes
  pub body : w.body ≡ length m

-- it reads a response
pub record CanGoOn (w : Writer) : Type 0 where
  pub s : Settings
  pub x : Response
  pub m : List ℕ
  pub reads : WriterReads w s x m

-- how long the body of the response is that it has read
abbrev pub body_of : Writer → ℕ
body_of w = w.body

-- the same but for what is gathered
pub record IsSameBut (w w' : Writer) : Type 0 where
  pub settings : w'.settings ≡ w.settings
  pub worker : w'.worker ≡ w.worker
  pub head : w'.head ≡ w.head
  pub body : w'.body ≡ w.body
