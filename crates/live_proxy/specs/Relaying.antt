-- What is known of a response while it is relayed, and what the steps of that answer.
use Rattle.std.specs.Prelude.{◌≡◌, ℕ, ◌≤◌, Bool, true, false, List, [], ◌++◌, length, Option, Result, Ok, Err}
use Rattle.orb_io.specs.Told.{Loses, IsAtEnd, Rose}
use Rattle.media_state.specs.declared.states.MediaState.{MediaState}
use Rattle.http_exchange.specs.Frames.{IsBodyPrefix}
use Rattle.http_exchange.specs.Reads.{HasRead as UnframerHasRead, is_ended}
use Rattle.body_filter.specs.Reads.{HasRead as FilterHasRead}
use Rattle.body_filter.specs.Responses.{output_so_far, whole_output}
use Rattle.body_filter.specs.declared.filtering.Filter.{Filter}
use Rattle.exchanges.specs.Heads.{ResponseText, IsResponseHead, is_to_end}
use Rattle.exchanges.specs.declared.room.Context.{Context}
use Rattle.live_proxy.specs.Responses as response
use Rattle.live_proxy.specs.Responses.{Coming, IsResponse, end_of, shown, response_in, state_left, state_after}
use Rattle.live_proxy.specs.Answers.{run_limit, Shows, Leaves, Stops}
use Rattle.live_proxy.specs.declared.outcomes.ProxyOutcome.{ProxyOutcome}
use Rattle.live_proxy.specs.declared.outcomes.ProxyOutcome.TheVariants as outcome
use Rattle.live_proxy.specs.declared.relaying.Arriving.{Arriving}

-- of the bytes that came, all but the last were unframed and filtered
pub record Receives (c : Context) (a : Arriving) (f : Filter) (bytes rest given : List ℕ) : Type 0 where
  pub text : ResponseText
  pub sent : List ℕ
  pub body : List ℕ
  pub spells : bytes ≡ text.bytes ++ (sent ++ rest)
  pub good : IsResponseHead c.asks.is_head text
  pub prefix : IsBodyPrefix text.frame sent body
  pub unframer : UnframerHasRead a.unframer text.frame sent body
  pub to_end : a.to_end ≡ is_to_end text.frame
  pub filter : FilterHasRead f (response_in c text) body
  pub gave : given ≡ output_so_far (response_in c text) body

-- the same, where none of the last is of the body
pub record HasPassed (c : Context) (a : Arriving) (f : Filter) (bytes given : List ℕ) : Type 0 where
  pub rest : List ℕ
  pub receives : Receives c a f bytes rest given
  pub none : is_ended a.unframer ≡ false → rest ≡ []

-- what beginning the body of a response answers, where these bytes came after its head
abbrev pub Begins : Result Arriving ProxyOutcome → Context → Filter → (head rest given : List ℕ) → Type 0
Begins (Ok a) c f head rest given = Receives c a f (head ++ rest) rest given
Begins (Err o) c f head rest given = Stops o c (head ++ rest) false given

-- what passing a piece of a body on answers
abbrev pub Passes : Result (Unit {0}) ProxyOutcome → Context → Arriving → Filter → (bytes given : List ℕ) → Type 0
Passes (Ok done) c a f bytes given = HasPassed c a f bytes given
Passes (Err o) c a f bytes given = Stops o c bytes false given

-- the response is whole, and the filter has read all of its body
pub record IsFilled (c : Context) (f : Filter) (bytes : List ℕ) (ended : Bool) (given : List ℕ) : Type 0 where
  pub text : ResponseText
  pub body : List ℕ
  pub coming : Coming
  pub more : List ℕ
  pub is : IsResponse c.asks.is_head bytes coming more
  pub done : end_of coming ended ≡ response.Done
  pub all : shown c ended coming ≡ whole_output (response_in c text) body
  pub left : state_after c coming ≡ state_left c text body
  pub filter : FilterHasRead f (response_in c text) body
  pub gave : given ≡ output_so_far (response_in c text) body

-- what pulling the body of a response answers
abbrev pub PumpSays : Result (Unit {0}) ProxyOutcome → Context → Filter → (bytes : List ℕ) → (ended : Bool) → (given : List ℕ) → Type 0
PumpSays (Ok done) c f bytes ended given = IsFilled c f bytes ended given
PumpSays (Err o) c f bytes ended given = Stops o c bytes ended given

-- what relaying a response answers
abbrev pub RelaySays : Result MediaState ProxyOutcome → Context → (bytes : List ℕ) → (ended : Bool) → (given : List ℕ) → Type 0
RelaySays (Ok state) c bytes ended given = Shows c bytes ended (Leaves state) given
RelaySays (Err o) c bytes ended given = Stops o c bytes ended given

-- more comes than one run takes
abbrev pub is_endless : ProxyOutcome → Bool
is_endless outcome.Endless = true
is_endless other = false

abbrev pub goes_past : {T : Type 0} → Result T ProxyOutcome → Bool
goes_past (Ok value) = false
goes_past (Err o) = is_endless o

-- The bytes that upstream lost after those that had come, whether it has ended, and what holds of all of them. More than
-- one run takes are lost only where it is endless.
pub record Pulled {T : Type 0} (result : Result T ProxyOutcome) (left left' : Option (List ℕ)) (before : List ℕ)
    (Says : (bytes : List ℕ) → (ended : Bool) → (given : List ℕ) → Type 0) (given : List ℕ) : Type 0 where
  pub read : List ℕ
  pub ended : Bool
  pub lost : Loses left left' read
  pub at_end : ended ≡ true → IsAtEnd left'
  pub fits : goes_past result ≡ false → length (before ++ read) ≤ run_limit
  pub says : Says (before ++ read) ended given

-- between two pulls
pub record Pumping (c : Context) (a : Arriving) (f : Filter) (left left' : Option (List ℕ)) (before : List ℕ) (taken : ℕ) (given : List ℕ)
    : Type 0 where
  pub read : List ℕ
  pub lost : Loses left left' read
  pub passed : HasPassed c a f (before ++ read) given
  pub taken_is : taken ≡ length (before ++ read)

-- a write fault comes only where the client's count rose, and no fault of upstream; every other answer leaves it as it was
abbrev pub ClientCause : {T : Type 0} → Result T ProxyOutcome → ℕ → ℕ → Type 0
ClientCause (Err outcome.WriteFault) before after = Rose before after
ClientCause (Err outcome.PeerFault) before after = ⊥
ClientCause result before after = after ≡ before

-- upstream's fault comes only where its count rose, and a write fault only where the client's did; every other count is
-- as it was
abbrev pub RelayCauses : {T : Type 0} → Result T ProxyOutcome → (source source' client client' : ℕ) → Type 0
RelayCauses (Err outcome.PeerFault) source source' client client' = Rose source source' × (client' ≡ client)
RelayCauses (Err outcome.WriteFault) source source' client client' = (source' ≡ source) × Rose client client'
RelayCauses result source source' client client' = (source' ≡ source) × (client' ≡ client)
