-- The response that answers a request, as it comes: whole or not, where it ends, and what is shown of it to the client
-- (RFC 9112 2.1 and 6.3).
use Rattle.std.specs.Prelude.{◌≡◌, ℕ, Bool, true, false, ◌&&◌, List, [], ◌∷◌, ◌++◌, Err, if◌then◌else◌}
use Rattle.http_exchange.specs.Frames.{IsBodyPrefix, IsWhole}
use Rattle.http_exchange.specs.HeadTexts.{IsHeadText, IsOpenHead, IsLongHead}
use Rattle.http_exchange.specs.Reading.{ReadsResponseHead}
use Rattle.http_exchange.specs.declared.frames.BodyFrame.TheVariants as frame
use Rattle.http_exchange.specs.declared.refusals.BadKind.{BadKind}
use Rattle.http_exchange.specs.declared.refusals.BadKind.TheVariants.{BadChunk}
use Rattle.media_state.specs.declared.states.MediaState.{MediaState}
use Rattle.response_rules.specs.Heads.{Case, length_of}
use Rattle.response_rules.specs.Reads.{case_of}
use Rattle.response_rules.specs.Rules.{state_after_rule}
use Rattle.response_rules.specs.Tables.{rule_of}
use Rattle.body_filter.specs.Responses as filter
use Rattle.body_filter.specs.Responses.{Response, output_so_far, whole_output}
use Rattle.exchanges.specs.Heads.{ResponseText, IsResponseHead, is_chunked, is_to_end}
use Rattle.exchanges.specs.declared.room.Context.{Context}

-- what has come of a response
pub data Coming : Type 0 where
  -- the first bytes of its head, or nothing
  InHead : (head : List ℕ) → Coming
  -- its head, and the first bytes of its body, as they were sent, with their content
  InBody : ResponseText → (sent body : List ℕ) → Coming
  -- all of it
  Whole : ResponseText → (sent body : List ℕ) → Coming
  -- no head ends in so many bytes
  LongHead : (head : List ℕ) → Coming
  -- a head that is refused
  BadHead : (head : List ℕ) → BadKind → Coming
  -- a byte that no chunked body has after these
  BadBody : ResponseText → (sent body : List ℕ) → (b : ℕ) → Coming

-- as it was sent, before what follows
abbrev pub coming_text : Coming → List ℕ → List ℕ
coming_text (InHead head) rest = head ++ rest
coming_text (InBody r sent body) rest = r.bytes ++ (sent ++ rest)
coming_text (Whole r sent body) rest = r.bytes ++ (sent ++ rest)
coming_text (LongHead head) rest = head ++ rest
coming_text (BadHead head kind) rest = head ++ rest
coming_text (BadBody r sent body b) rest = r.bytes ++ (sent ++ (b ∷ rest))

-- a good head, and a body that isn't whole
pub record IsOpenBody (to_head : Bool) (r : ResponseText) (sent body : List ℕ) : Type 0 where
  pub head : IsResponseHead to_head r
  pub prefix : IsBodyPrefix r.frame sent body
  pub unfinished : IsWhole r.frame sent → ⊥

-- a good head, and a whole body
pub record IsWholeBody (to_head : Bool) (r : ResponseText) (sent body : List ℕ) : Type 0 where
  pub head : IsResponseHead to_head r
  pub prefix : IsBodyPrefix r.frame sent body
  pub whole : IsWhole r.frame sent

-- the byte can't stand after those that were sent
pub record IsBadBody (to_head : Bool) (r : ResponseText) (sent body : List ℕ) (b : ℕ) : Type 0 where
  pub sending : IsOpenBody to_head r sent body
  pub chunked : r.frame ≡ frame.Chunked
  pub bad : (g : List ℕ) → IsBodyPrefix r.frame (sent ++ (b ∷ [])) g → ⊥

-- what has come is so, of the response to a request that is HEAD or isn't
abbrev pub IsComing : (to_head : Bool) → Coming → Type 0
IsComing to_head (InHead head) = IsOpenHead head
IsComing to_head (InBody r sent body) = IsOpenBody to_head r sent body
IsComing to_head (Whole r sent body) = IsWholeBody to_head r sent body
IsComing to_head (LongHead head) = IsLongHead head
IsComing to_head (BadHead head kind) = IsHeadText head × ReadsResponseHead head to_head (Err kind)
IsComing to_head (BadBody r sent body b) = IsBadBody to_head r sent body b

-- more of it may come
abbrev pub is_open : Coming → Bool
is_open (InHead head) = true
is_open (InBody r sent body) = true
is_open (Whole r sent body) = false
is_open (LongHead head) = false
is_open (BadHead head kind) = false
is_open (BadBody r sent body b) = false

-- the bytes are this of a response, and after it some that are not looked at
pub record IsResponse (to_head : Bool) (bytes : List ℕ) (c : Coming) (more : List ℕ) : Type 0 where
  pub spells : bytes ≡ coming_text c more
  pub is : IsComing to_head c
  pub last : is_open c ≡ true → more ≡ []

pub data End : Type 0 where
  -- the bytes may go on
  Open : End
  -- after the whole response
  Done : End
  Bad : BadKind → End
  -- inside the response
  Cut : End
  HeadLimit : End

abbrev pub if_ended : (ended : Bool) → End → End
if_ended true end = end
if_ended false end = Open

-- where the response ends, of which no more comes where upstream has ended; a body that runs to the end of the
-- connection is whole there
abbrev pub end_of : Coming → (ended : Bool) → End
end_of (InHead head) ended = if_ended ended Cut
end_of (InBody r sent body) ended = if_ended ended (if is_to_end r.frame then Done else Cut)
end_of (Whole r sent body) ended = Done
end_of (LongHead head) ended = HeadLimit
end_of (BadHead head kind) ended = Bad kind
end_of (BadBody r sent body b) ended = Bad BadChunk

-- what the response is judged by
abbrev pub judged_in : Context → ResponseText → Case
judged_in c r = case_of c.policy c.state c.asks.opaque r.status r.fields c.limit r.essence

-- the response, to be filtered
abbrev pub response_in : Context → ResponseText → Response
response_in c r = filter.response_of (judged_in c r) r.bytes (is_chunked r.frame)

-- what is shown to the client of what has come: of a whole response itself or the reply in its place, and else what is
-- allowed to go out by then
abbrev pub shown : Context → (ended : Bool) → Coming → List ℕ
shown c ended (InBody r sent body) =
    if ended && is_to_end r.frame then whole_output (response_in c r) body else output_so_far (response_in c r) body
shown c ended (Whole r sent body) = whole_output (response_in c r) body
shown c ended (BadBody r sent body b) = output_so_far (response_in c r) body
shown c ended (InHead head) = []
shown c ended (LongHead head) = []
shown c ended (BadHead head kind) = []

-- the state that a whole response leaves its media resource in
abbrev pub state_left : Context → ResponseText → (body : List ℕ) → MediaState
state_left c r body = state_after_rule c.state (rule_of (judged_in c r) body) (length_of (judged_in c r))

-- the same of what has come, where it is whole
abbrev pub state_after : Context → Coming → MediaState
state_after c (InBody r sent body) = state_left c r body
state_after c (Whole r sent body) = state_left c r body
state_after c other = c.state
