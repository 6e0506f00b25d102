-- What the program says of an outcome: its status, and its line on standard error.
use Rattle.std.specs.Prelude.{ℕ, List, [], ◌∷◌, ◌++◌, codes, decimal}
use Rattle.orb_bytes.specs.Ascii.{line_feed}
use Rattle.http_exchange.specs.declared.refusals.BadKind.{BadKind}
use Rattle.http_exchange.specs.declared.refusals.BadKind.TheVariants.{BadHead, RequestBody, BadMediaId, Interim, BadFraming, BadChunk}
use Rattle.orb_cli.specs.declared.outcome.Outcome.{Outcome}
use Rattle.orb_cli.specs.declared.outcome.Outcome.TheVariants as outcomes
use Rattle.live_proxy.specs.declared.outcomes.ProxyRefusal.{ProxyRefusal}
use Rattle.live_proxy.specs.declared.outcomes.ProxyRefusal.TheVariants as refusal
use Rattle.live_proxy.specs.declared.outcomes.ProxyOutcome.{ProxyOutcome}
use Rattle.live_proxy.specs.declared.outcomes.ProxyOutcome.TheVariants as answer
use Rattle.orb_cli.specs.declared.outcome.ClientOutcome.{ClientOutcome}
use Rattle.orb_cli.specs.declared.outcome.ClientOutcome.TheVariants as clients
use Rattle.orb_cli.specs.declared.outcome.ServeOutcome.{ServeOutcome}
use Rattle.orb_cli.specs.declared.outcome.ServeOutcome.TheVariants as serving

-- the program's status
abbrev pub status_of : Outcome → ℕ
status_of outcomes.Done = 0
status_of outcomes.Usage = 1
status_of (outcomes.Bad kind place) = 2
status_of (outcomes.Cut place) = 3
status_of (outcomes.HeadLimit place) = 4
status_of (outcomes.MediaFull place) = 4
status_of outcomes.Endless = 4
status_of outcomes.ReadFault = 5
status_of outcomes.WriteFault = 6
status_of outcomes.NoMemory = 7
status_of (outcomes.NotHar entry) = 9
status_of outcomes.HarLimit = 4

-- the word for what is bad
abbrev pub kind_name : BadKind → List ℕ
kind_name BadHead = codes "bad-head"
kind_name RequestBody = codes "request-body"
kind_name BadMediaId = codes "bad-media-id"
kind_name Interim = codes "interim"
kind_name BadFraming = codes "bad-framing"
kind_name BadChunk = codes "bad-chunk"

-- a line of the program's name, a text and a line feed
abbrev pub line_text : List ℕ → List ℕ
line_text text = codes "orb: " ++ (text ++ (line_feed ∷ []))

-- a line that names a place, or an entry
abbrev pub line_text_at : List ℕ → ℕ → List ℕ
line_text_at text place = line_text (text ++ (codes " at " ++ decimal place))

-- the line on standard error, which is empty where all went well
abbrev pub line_of : Outcome → List ℕ
line_of outcomes.Done = []
line_of outcomes.Usage = line_text (codes "words refused")
line_of (outcomes.Bad kind place) = line_text_at (kind_name kind) place
line_of (outcomes.Cut place) = line_text_at (codes "cut") place
line_of (outcomes.HeadLimit place) = line_text_at (codes "head limit") place
line_of (outcomes.MediaFull place) = line_text_at (codes "media full") place
line_of outcomes.Endless = line_text (codes "endless")
line_of outcomes.ReadFault = line_text (codes "read fault")
line_of outcomes.WriteFault = line_text (codes "write fault")
line_of outcomes.NoMemory = line_text (codes "no memory")
line_of (outcomes.NotHar entry) = line_text_at (codes "not har") entry
line_of outcomes.HarLimit = line_text (codes "har limit")

-- the program's status where it served connections
abbrev pub serve_status_of : ServeOutcome → ℕ
serve_status_of serving.Done = 0
serve_status_of serving.Usage = 1
serve_status_of serving.BindFault = 5
serve_status_of serving.AcceptFault = 5
serve_status_of serving.WriteFault = 6
serve_status_of serving.NoMemory = 7

-- its line on standard error
abbrev pub serve_line_of : ServeOutcome → List ℕ
serve_line_of serving.Done = []
serve_line_of serving.Usage = line_text (codes "words refused")
serve_line_of serving.BindFault = line_text (codes "bind fault")
serve_line_of serving.AcceptFault = line_text (codes "accept fault")
serve_line_of serving.WriteFault = line_text (codes "write fault")
serve_line_of serving.NoMemory = line_text (codes "no memory")

-- the status in the log of a proxy, by why a request is refused
abbrev pub refusal_status_of : ProxyRefusal → ℕ
refusal_status_of (refusal.Bad kind) = 2
refusal_status_of refusal.BadTarget = 2
refusal_status_of refusal.Cut = 3
refusal_status_of refusal.HeadLimit = 4
refusal_status_of refusal.MediaFull = 4
refusal_status_of refusal.ReadFault = 5
refusal_status_of refusal.NoMemory = 7

-- by how answering one ended
abbrev pub answer_status_of : ProxyOutcome → ℕ
answer_status_of answer.Done = 0
answer_status_of (answer.Bad kind) = 2
answer_status_of answer.Cut = 3
answer_status_of answer.HeadLimit = 4
answer_status_of answer.Endless = 4
answer_status_of answer.PeerFault = 5
answer_status_of answer.WriteFault = 6

-- by either, and where the host was not reached
abbrev pub client_status_of : ClientOutcome → ℕ
client_status_of (clients.Refused why) = refusal_status_of why
client_status_of clients.Unreached = 5
client_status_of (clients.Answered outcome) = answer_status_of outcome
