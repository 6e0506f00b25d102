-- What an engine has read of a recording, and what its calls answer.
use Rattle.std.specs.Prelude.{◌≡◌, ℕ, ◌+◌, ◌≤◌, Bool, true, false, List, [], ◌++◌, length, take, Result, Ok, Err}
use Rattle.std.specs.FinMap as map
use Rattle.orb_io.specs.Told.{IsPrefix, Rose}
use Rattle.response_rules.specs.declared.rules.Rule.{Rule}
use Rattle.media_state.specs.Table.{States}
use Rattle.http_exchange.specs.Frames.{IsBodyPrefix}
use Rattle.http_exchange.specs.Reads.{IsTaken}
use Rattle.http_exchange.specs.Reads.{HasRead as UnframerHasRead, Answers as UnframerAnswers}
use Rattle.http_exchange.specs.declared.pieces.Taken.{Taken}
use Rattle.http_exchange.specs.declared.unframing.Unframer.{Unframer}
use Rattle.orb_engine.specs.declared.settings.Settings.{Settings}
use Rattle.orb_engine.specs.declared.progress.Counts.{Counts}
use Rattle.orb_engine.specs.declared.engine.Engine.{Engine}
use Rattle.orb_engine.specs.declared.engine.states.Incoming.{Incoming}
use Rattle.orb_engine.specs.declared.engine.states.Asked.{Asked as AskedRequest}
use Rattle.orb_engine.specs.declared.engine.states.State.{State}
use Rattle.orb_engine.specs.declared.engine.states.State.TheVariants as state
use Rattle.orb_engine.specs.declared.outcome.EngineOutcome.{EngineOutcome}
use Rattle.orb_engine.specs.declared.outcome.EngineOutcome.TheVariants as outcome
use Rattle.response_rules.specs.declared.facts.Facts.{Facts}
use Rattle.body_filter.specs.Responses.{Response}
use Rattle.http_exchange.specs.declared.frames.BodyFrame.{BodyFrame}
use Rattle.http_exchange.specs.HeadTexts.{IsHeadText}
use Rattle.exchanges.specs.Heads.{RequestText, ResponseText, Heads, AreHeads, IsRequestIn, IsResponseHead, id_of, state_before, is_to_end}
use Rattle.orb_engine.specs.Judged.{judged_by, response_of}
use Rattle.media_state.specs.Table.{admits}
use Rattle.orb_engine.specs.Recording as cut
use Rattle.orb_engine.specs.Recording.{Exchange, Tail, Recording, IsRecording, AreExchanges, is_open, heads_text, exchanges_text, table_after_all}
use Rattle.orb_engine.specs.Ends as ends
use Rattle.orb_engine.specs.Ends.{End, stop_of}
use Rattle.orb_engine.specs.Outputs.{output_of, written_exchanges, written_so_far}
use Rattle.orb_engine.specs.Counts.{rules_of_exchanges, rules_of, count_allowed, count_blocked}
use Rattle.orb_engine.specs.Workers.{AreFactsFor}
use Rattle.orb_engine.specs.Writing.{IsWriterFor, WriterReads, gathered_by}

-- the numbers of exchanges that these rules decide
abbrev pub counts_of : List Rule → Counts
counts_of rules = record { allowed = count_allowed rules; blocked = count_blocked rules }

-- a recording after which more may come
abbrev pub open_cut : List Exchange → Tail → Recording
open_cut exchanges tail = record { exchanges = exchanges; tail = tail; more = [] }

-- the media states after these exchanges
abbrev pub table_of : List Exchange → States
table_of exchanges = table_after_all map.empty exchanges

-- the numbers are those of some first exchanges, whose outputs stand whole at the beginning of what was written
pub record IsTold (counts : Counts) (s : Settings) (exchanges : List Exchange) (wrote : List ℕ) : Type 0 where
  pub prefix : List Exchange
  pub others : List Exchange
  pub are : exchanges ≡ prefix ++ others
  pub numbers : counts ≡ counts_of (rules_of_exchanges prefix)
  pub whole : IsPrefix (written_exchanges s map.empty 0 prefix) wrote

-- what an engine knows in each stage
pub record Common (e : Engine) (s : Settings) (exchanges : List Exchange) (given : List ℕ) : Type 0 where
  pub settings : e.writer.settings ≡ s
  pub offset : e.progress.offset ≡ length (exchanges_text exchanges [])
  pub counts : e.progress.counts ≡ counts_of (rules_of_exchanges exchanges)
  pub told : IsTold e.progress.told s exchanges given

-- it is before a request head, or in it
pub record AtRequestHead (e : Engine) (s : Settings) (exchanges : List Exchange) (tail : Tail) : Type 0 where
  pub head : List ℕ
  pub is : tail ≡ cut.InRequestHead head
  pub text : e.head ≡ head
  pub media : e.media ≡ table_of exchanges
  pub writer : IsWriterFor e.writer s

-- it is before the response head that answers a request, or in it
pub record AtResponseHead (asked : AskedRequest) (e : Engine) (s : Settings) (exchanges : List Exchange) (tail : Tail) : Type 0 where
  pub request : RequestText
  pub head : List ℕ
  pub is : tail ≡ cut.InResponseHead request head
  pub text : e.head ≡ head
  pub media : e.media ≡ admits (table_of exchanges) (id_of request.asks)
  pub writer : IsWriterFor e.writer s
  pub asks : asked.asks ≡ request.asks
  pub state : asked.state ≡ state_before (table_of exchanges) request.asks
  pub offset : asked.offset ≡ length (exchanges_text exchanges []) + length request.bytes

-- an exchange whose body comes: those before it, its heads, and what has come of its body, as it was sent and its
-- content
pub record Coming : Type 0 where
  pub exchanges : List Exchange
  pub heads : Heads
  pub sent : List ℕ
  pub body : List ℕ

-- its response, as the writer has it
abbrev pub coming_response : Settings → Coming → Response
coming_response s c = response_of s (table_of c.exchanges) c.heads

-- what is written of those before it and of it
abbrev pub coming_written : Settings → Coming → List ℕ
coming_written s c = written_exchanges s map.empty 0 c.exchanges ++ written_so_far s.job (coming_response s c) c.body

-- these bytes are the exchanges before it and what has come of it
abbrev pub coming_text : Coming → List ℕ
coming_text c = exchanges_text c.exchanges (heads_text c.heads c.sent)

-- what an engine knows of its body
pub record Receives (incoming : Incoming) (e : Engine) (s : Settings) (c : Coming) : Type 0 where
  pub unframer : UnframerHasRead incoming.unframer c.heads.response.frame c.sent c.body
  pub writer : WriterReads e.writer s (coming_response s c) c.body
  pub media : e.media ≡ admits (table_of c.exchanges) (id_of c.heads.request.asks)
  pub id : incoming.id ≡ id_of c.heads.request.asks
  pub to_end : incoming.to_end ≡ is_to_end c.heads.response.frame

-- it is in a body
pub record AtBody (incoming : Incoming) (e : Engine) (s : Settings) (exchanges : List Exchange) (tail : Tail) : Type 0 where
  pub heads : Heads
  pub sent : List ℕ
  pub body : List ℕ
  pub is : tail ≡ cut.InBody heads sent body
  pub receives : Receives incoming e s (record { exchanges = exchanges; heads = heads; sent = sent; body = body })

abbrev pub Stands : State → Engine → Settings → List Exchange → Tail → Type 0
Stands state.Idle e s exchanges tail = ⊥
Stands state.RequestHead e s exchanges tail = AtRequestHead e s exchanges tail
Stands (state.ResponseHead asked) e s exchanges tail = AtResponseHead asked e s exchanges tail
Stands (state.Body incoming) e s exchanges tail = AtBody incoming e s exchanges tail

-- it has read these bytes, which are open, and given these; what is gathered is to be given after them
pub record Reads (e : Engine) (s : Settings) (m given : List ℕ) : Type 0 where
  pub exchanges : List Exchange
  pub tail : Tail
  pub cut : IsRecording s m (open_cut exchanges tail)
  pub open_ : is_open tail ≡ true
  pub gave : given ++ gathered_by e.writer ≡ output_of s (open_cut exchanges tail) false
  pub taken : e.progress.taken ≡ length m
  pub common : Common e s exchanges given
  pub stands : Stands e.state e s exchanges tail

-- it is after the heads of an exchange whose body comes; whether that is whole isn't told yet
pub record Fills (incoming : Incoming) (e : Engine) (s : Settings) (m given : List ℕ) : Type 0 where
  pub coming : Coming
  pub spells : m ≡ coming_text coming
  pub whole : AreExchanges s map.empty coming.exchanges
  pub good : AreHeads (table_of coming.exchanges) coming.heads
  pub prefix : IsBodyPrefix coming.heads.response.frame coming.sent coming.body
  pub gave : given ++ gathered_by e.writer ≡ coming_written s coming
  pub taken : e.progress.taken ≡ length m
  pub common : Common e s coming.exchanges given
  pub receives : Receives incoming e s coming

-- the outcome is an end of a recording
abbrev pub IsStop : EngineOutcome → End → Type 0
IsStop outcome.Done stop = stop ≡ ends.Done
IsStop (outcome.Bad kind offset) stop = stop ≡ ends.Bad kind offset
IsStop (outcome.Cut offset) stop = stop ≡ ends.Cut offset
IsStop (outcome.HeadLimit offset) stop = stop ≡ ends.HeadLimit offset
IsStop (outcome.MediaFull offset) stop = stop ≡ ends.MediaFull offset
IsStop outcome.Endless stop = ⊥
IsStop outcome.ReadFault stop = ⊥
IsStop outcome.WriteFault stop = ⊥

-- the bytes end so; what was given, and what is gathered, is all that is written of them
pub record Stops (o : EngineOutcome) (e : Engine) (s : Settings) (m : List ℕ) (ended : Bool) (given : List ℕ) : Type 0 where
  pub recording : Recording
  pub cut : IsRecording s m recording
  pub stop : IsStop o (stop_of recording ended)
  pub gave : given ++ gathered_by e.writer ≡ output_of s recording ended
  pub counts : e.progress.counts ≡ counts_of (rules_of s recording ended)
  pub told : IsTold e.progress.told s recording.exchanges given

-- the sink failed: what was given is a prefix of what is written of the first bytes
pub record Breaks (e : Engine) (s : Settings) (m : List ℕ) (ended : Bool) (given : List ℕ) : Type 0 where
  pub seen : List ℕ
  pub unseen : List ℕ
  pub all : m ≡ seen ++ unseen
  pub all_seen : ended ≡ true → unseen ≡ []
  pub recording : Recording
  pub cut : IsRecording s seen recording
  pub within : IsPrefix given (output_of s recording ended)
  pub told : IsTold e.progress.told s recording.exchanges given

-- what stops a step
abbrev pub Halts : EngineOutcome → Engine → Settings → List ℕ → Bool → (given : List ℕ) → Type 0
Halts outcome.WriteFault e s m ended given = Breaks e s m ended given
Halts o e s m ended given = Stops o e s m ended given

-- the answer of a step that takes no further bytes
abbrev pub Settles : Result (Unit {0}) EngineOutcome → Engine → Settings → List ℕ → (given : List ℕ) → Type 0
Settles (Ok done) e s m given = Reads e s m given
Settles (Err o) e s m given = Halts o e s m false given

-- the answer of a step that takes the first bytes of a piece
abbrev pub Steps : Result ℕ EngineOutcome → Engine → Settings → (m piece given : List ℕ) → Type 0
Steps (Ok used) e s m piece given = (used ≤ length piece) × Reads e s (m ++ take used piece) given
Steps (Err o) e s m piece given = Halts o e s (m ++ piece) false given

-- a write fault comes only where the sink's count rose; every other answer leaves it as it was
abbrev pub HaltCause : EngineOutcome → ℕ → ℕ → Type 0
HaltCause outcome.WriteFault before after = Rose before after
HaltCause o before after = after ≡ before

-- the same of an outcome that another may have stopped before
abbrev pub HaltCauseAfter : (stop outcome : EngineOutcome) → ℕ → ℕ → Type 0
HaltCauseAfter stop o faults faults' = (before : ℕ) → HaltCause stop before faults → HaltCause o before faults'

abbrev pub Causes : {T : Type 0} → Result T EngineOutcome → ℕ → ℕ → Type 0
Causes (Ok value) before after = after ≡ before
Causes (Err o) before after = HaltCause o before after

-- a request head comes, whose bytes so far are such a text
pub record HasRequest (IsText : List ℕ → Type 0) (e : Engine) (s : Settings) (m given : List ℕ) : Type 0 where
  pub exchanges : List Exchange
  pub head : List ℕ
  pub spells : m ≡ exchanges_text exchanges head
  pub whole : AreExchanges s map.empty exchanges
  pub text : IsText head
  pub buffer : e.head ≡ head
  pub media : e.media ≡ table_of exchanges
  pub writer : IsWriterFor e.writer s
  pub gave : given ++ gathered_by e.writer ≡ written_exchanges s map.empty 0 exchanges
  pub taken : e.progress.taken ≡ length m
  pub common : Common e s exchanges given

-- the same of a response head
pub record HasResponse (IsText : List ℕ → Type 0) (asked : AskedRequest) (e : Engine) (s : Settings) (m given : List ℕ) : Type 0
  where
    pub exchanges : List Exchange
    pub request : RequestText
    pub head : List ℕ
    pub spells : m ≡ exchanges_text exchanges (request.bytes ++ head)
    pub whole : AreExchanges s map.empty exchanges
    pub good : IsRequestIn (table_of exchanges) request
    pub text : IsText head
    pub buffer : e.head ≡ head
    pub media : e.media ≡ admits (table_of exchanges) (id_of request.asks)
    pub writer : IsWriterFor e.writer s
    pub asks : asked.asks ≡ request.asks
    pub state : asked.state ≡ state_before (table_of exchanges) request.asks
    pub offset : asked.offset ≡ length (exchanges_text exchanges []) + length request.bytes
    pub gave : given ++ gathered_by e.writer ≡ written_exchanges s map.empty 0 exchanges
    pub taken : e.progress.taken ≡ length m
    pub common : Common e s exchanges given

-- the one or the other, by what is read next
abbrev pub HasHead : (IsText : List ℕ → Type 0) → State → Engine → Settings → (m given : List ℕ) → Type 0
HasHead IsText state.RequestHead e s m given = HasRequest IsText e s m given
HasHead IsText (state.ResponseHead asked) e s m given = HasResponse IsText asked e s m given
HasHead IsText t e s m given = ⊥

abbrev pub IsInHead : State → Type 0
IsInHead state.RequestHead = Unit {0}
IsInHead (state.ResponseHead asked) = Unit {0}
IsInHead t = ⊥

-- where the head begins
abbrev pub head_offset_of : State → Engine → ℕ
head_offset_of (state.ResponseHead asked) e = asked.offset
head_offset_of t e = e.progress.offset

-- it was read whole, and these are the facts of its response, with its frame
pub record HasReadHeads (asked : AskedRequest) (read : Facts × BodyFrame) (e : Engine) (s : Settings) (m given : List ℕ) : Type 0
  where
    pub whole : HasResponse IsHeadText asked e s m given
    pub response : ResponseText
    pub bytes : response.bytes ≡ whole.head
    pub good : IsResponseHead whole.request.asks.is_head response
    pub frame_is : read.1 ≡ response.frame
    pub facts : AreFactsFor read.0 s (judged_by s (table_of whole.exchanges) (record { request = whole.request; response = response }))

-- what `Fills` says, where it is in a body
abbrev pub FillsAt : State → Engine → Settings → List ℕ → List ℕ → Type 0
FillsAt state.Idle e s m given = ⊥
FillsAt state.RequestHead e s m given = ⊥
FillsAt (state.ResponseHead asked) e s m given = ⊥
FillsAt (state.Body incoming) e s m given = Fills incoming e s m given

-- the unframer has taken this further content, which the writer hasn't read yet
pub record Passes (incoming : Incoming) (e : Engine) (s : Settings) (m piece given : List ℕ) : Type 0 where
  pub coming : Coming
  pub spells : m ≡ coming_text coming
  pub whole : AreExchanges s map.empty coming.exchanges
  pub good : AreHeads (table_of coming.exchanges) coming.heads
  pub prefix : IsBodyPrefix coming.heads.response.frame coming.sent (coming.body ++ piece)
  pub gave : given ++ gathered_by e.writer ≡ coming_written s coming
  pub taken : e.progress.taken ≡ length m
  pub common : Common e s coming.exchanges given
  pub unframer : UnframerHasRead incoming.unframer coming.heads.response.frame coming.sent (coming.body ++ piece)
  pub writer : WriterReads e.writer s (coming_response s coming) coming.body
  pub media : e.media ≡ admits (table_of coming.exchanges) (id_of coming.heads.request.asks)
  pub id : incoming.id ≡ id_of coming.heads.request.asks
  pub to_end : incoming.to_end ≡ is_to_end coming.heads.response.frame

abbrev pub IsInBody : State → Type 0
IsInBody (state.Body incoming) = Unit {0}
IsInBody t = ⊥

abbrev pub with_unframer : Incoming → Unframer → Incoming
with_unframer i u = record { unframer = u; to_end = i.to_end; id = i.id }

-- what a body's unframer took of a piece; all else of the body is as it was
pub record Unframes (i : Incoming) (after : State) (piece : List ℕ) (t : Taken) : Type 0 where
  pub unframer : Unframer
  pub is : after ≡ state.Body (with_unframer i unframer)
  pub taken : IsTaken t unframer piece
  pub answers : (f : BodyFrame) (m given : List ℕ) → UnframerHasRead i.unframer f m given
      → UnframerAnswers t unframer f m given piece
