-- What answering a request does: to upstream, to the client and to the table of media states.
use Rattle.std.specs.Prelude.{◌≡◌, ℕ, ◌<◌, ◌≤◌, ◌^◌, ◌⊎◌, Bool, true, false, List, [], ◌++◌, length, take, Option}
use Rattle.orb_io.specs.Told.{Told, Loses, IsAtEnd, IsPrefix, Gains, GainsPrefix, Rose}
use Rattle.media_state.specs.Table.{States, stored}
use Rattle.media_state.specs.declared.states.MediaState.{MediaState}
use Rattle.response_rules.specs.declared.verdicts.Policy.TheVariants.{Orb}
use Rattle.http_exchange.specs.declared.request.RequestHead.{RequestHead}
use Rattle.exchanges.specs.Heads.{id_of, state_before}
use Rattle.exchanges.specs.declared.room.Context.{Context}
use Rattle.live_proxy.specs.Responses as response
use Rattle.live_proxy.specs.Responses.{Coming, End, IsResponse, end_of, shown, state_after}
use Rattle.live_proxy.specs.declared.outcomes.ProxyOutcome.{ProxyOutcome}
use Rattle.live_proxy.specs.declared.outcomes.ProxyOutcome.TheVariants as outcome

-- the most bytes of a response that are taken
unfoldable pub run_limit : ℕ
run_limit = 2 ^ 62

-- what the response to a request is judged by besides its own head
abbrev pub context_of : (limit : ℕ) → States → RequestHead → Context
context_of limit table asks = record { policy = Orb; state = state_before table asks; asks = asks; limit = limit }

-- the bytes are a response that ends so and would leave its media resource in such a state; what was given is what is
-- shown of it
pub record Shows (c : Context) (bytes : List ℕ) (ended : Bool) (P : End → MediaState → Type 0) (given : List ℕ) : Type 0 where
  pub coming : Coming
  pub more : List ℕ
  pub is : IsResponse c.asks.is_head bytes coming more
  pub holds : P (end_of coming ended) (state_after c coming)
  pub gave : given ≡ shown c ended coming

-- the client failed: what was given is a prefix of what is shown of some first bytes, and so of what is shown of all of
-- them
pub record Fails (c : Context) (bytes : List ℕ) (ended : Bool) (given : List ℕ) : Type 0 where
  pub seen : List ℕ
  pub unseen : List ℕ
  pub all : bytes ≡ seen ++ unseen
  pub all_seen : ended ≡ true → unseen ≡ []
  pub coming : Coming
  pub more : List ℕ
  pub is : IsResponse c.asks.is_head seen coming more
  pub within : IsPrefix given (shown c ended coming)

-- it ends at this
abbrev pub EndsAt : End → End → MediaState → Type 0
EndsAt end at state = at ≡ end

-- it is whole, and this is the state that it leaves
abbrev pub Leaves : MediaState → End → MediaState → Type 0
Leaves left end state = (end ≡ response.Done) × (left ≡ state)

-- it is whole, and its state is kept for the id
abbrev pub IsLeft : (table table' : States) → (id : Option ℕ) → End → MediaState → Type 0
IsLeft table table' id end state = (end ≡ response.Done) × (table' ≡ stored table id state)

-- what an answer that isn't `Done` says of the bytes that upstream lost, of whether it has ended, and of what the client
-- was given
abbrev pub Stops : ProxyOutcome → Context → (read : List ℕ) → (ended : Bool) → (given : List ℕ) → Type 0
Stops outcome.Done c read ended given = ⊥
Stops (outcome.Bad kind) c read ended given = Shows c read ended (EndsAt (response.Bad kind)) given
Stops outcome.Cut c read ended given = Shows c read ended (EndsAt response.Cut) given
Stops outcome.HeadLimit c read ended given = Shows c read ended (EndsAt response.HeadLimit) given
Stops outcome.Endless c read ended given =
    (ended ≡ false) × (run_limit < length read) × Shows c (take run_limit read) false (EndsAt response.Open) given
Stops outcome.PeerFault c read ended given = (ended ≡ false) × Shows c read false (EndsAt response.Open) given
Stops outcome.WriteFault c read ended given = Fails c read ended given

-- the same of all answers, and of the table, which only a whole exchange changes
abbrev pub AnswerSays : ProxyOutcome → Context → (table table' : States) → (read : List ℕ) → (ended : Bool) → (given : List ℕ) → Type 0
AnswerSays outcome.Done c table table' read ended given = Shows c read ended (IsLeft table table' (id_of c.asks)) given
AnswerSays other c table table' read ended given = (table' ≡ table) × Stops other c read ended given

-- The bytes that upstream lost, whether it has ended, and what the answer says of them. More than one run takes are
-- lost only where the answer is `Endless`.
pub record Answered (o : ProxyOutcome) (c : Context) (table table' : States) (left left' : Option (List ℕ)) (given : List ℕ) : Type 0
  where
    pub read : List ℕ
    pub ended : Bool
    pub lost : Loses left left' read
    pub at_end : ended ≡ true → IsAtEnd left'
    pub fits : (o ≡ outcome.Endless → ⊥) → length read ≤ run_limit
    pub says : AnswerSays o c table table' read ended given

-- upstream got the whole request head, and where it failed a prefix of it
abbrev pub Sends : ProxyOutcome → (told told' : Told) → (head : List ℕ) → Type 0
Sends outcome.PeerFault told told' head = GainsPrefix told told' head
Sends other told told' head = Gains told told' head

-- Upstream's fault is answered only where its count rose, as a source or as a sink, and the client's only where its
-- count did. Every other count is as it was.
abbrev pub AnswerCauses : ProxyOutcome → (source source' sink sink' client client' : ℕ) → Type 0
AnswerCauses outcome.PeerFault source source' sink sink' client client' =
    ((Rose source source' × (sink' ≡ sink)) ⊎ ((source' ≡ source) × Rose sink sink')) × (client' ≡ client)
AnswerCauses outcome.WriteFault source source' sink sink' client client' =
    (source' ≡ source) × (sink' ≡ sink) × Rose client client'
AnswerCauses other source source' sink sink' client client' =
    (source' ≡ source) × (sink' ≡ sink) × (client' ≡ client)
