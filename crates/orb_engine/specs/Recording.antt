-- A recording of HTTP/1.1 exchanges, one after the other: whole exchanges, and what stands after them, which
-- may go on to be one, or is refused.
use Rattle.std.specs.Prelude.{◌≡◌, ℕ, Bool, true, false, List, [], ◌∷◌, ◌++◌, Err}
use Rattle.std.specs.FinMap as map
use Rattle.media_state.specs.Table.{States}
use Rattle.media_state.specs.declared.states.MediaState.{MediaState}
use Rattle.response_rules.specs.declared.rules.Rule.{Rule}
use Rattle.response_rules.specs.Rules.{state_after_rule}
use Rattle.response_rules.specs.Tables.{rule_of}
use Rattle.http_exchange.specs.Frames.{IsBodyPrefix, IsWhole}
use Rattle.http_exchange.specs.Reading.{ReadsRequestHead, ReadsResponseHead}
use Rattle.http_exchange.specs.declared.refusals.BadKind.{BadKind}
use Rattle.http_exchange.specs.declared.frames.BodyFrame.TheVariants as frame
use Rattle.orb_engine.specs.declared.settings.Settings.{Settings}
use Rattle.http_exchange.specs.HeadTexts.{IsHeadText, IsOpenHead, IsLongHead}
use Rattle.exchanges.specs.Heads.{RequestText, Heads, IsRequestHead, IsRequestIn, AreHeads, id_of, state_of, length_of}
use Rattle.orb_engine.specs.Judged.{judged_by}
use Rattle.media_state.specs.Table.{IsRefusedId, keeps}

-- a whole exchange
pub record Exchange : Type 0 where
  pub heads : Heads
  -- the body, as it was sent
  pub sent : List ℕ
  -- its content
  pub body : List ℕ
  -- the rule that decides the response
  pub rule : Rule

-- what stands after the whole exchanges
pub data Tail : Type 0 where
  -- the first bytes of a request head, or nothing
  InRequestHead : (head : List ℕ) → Tail
  -- a request head, and the first bytes of a response head
  InResponseHead : RequestText → (head : List ℕ) → Tail
  -- both heads, and the first bytes of a body, as they were sent, with their content
  InBody : Heads → (sent body : List ℕ) → Tail
  -- no head ends in so many bytes
  LongRequest : (head : List ℕ) → Tail
  -- a request head that is refused
  BadRequest : (head : List ℕ) → BadKind → Tail
  -- a media request whose id can't be kept
  FullTable : RequestText → Tail
  LongResponse : RequestText → (head : List ℕ) → Tail
  BadResponse : RequestText → (head : List ℕ) → BadKind → Tail
  -- a byte that no chunked body has after these
  BadBody : Heads → (sent body : List ℕ) → (b : ℕ) → Tail

-- the heads as they are sent, before what follows
abbrev pub heads_text : Heads → List ℕ → List ℕ
heads_text h rest = h.request.bytes ++ (h.response.bytes ++ rest)

abbrev pub exchange_text : Exchange → List ℕ → List ℕ
exchange_text i rest = heads_text i.heads (i.sent ++ rest)

abbrev pub exchanges_text : List Exchange → List ℕ → List ℕ
exchanges_text [] rest = rest
exchanges_text (i ∷ exchanges) rest = exchange_text i (exchanges_text exchanges rest)

abbrev pub tail_text : Tail → List ℕ → List ℕ
tail_text (InRequestHead head) rest = head ++ rest
tail_text (InResponseHead r head) rest = r.bytes ++ (head ++ rest)
tail_text (InBody h sent body) rest = heads_text h (sent ++ rest)
tail_text (LongRequest head) rest = head ++ rest
tail_text (BadRequest head kind) rest = head ++ rest
tail_text (FullTable r) rest = r.bytes ++ rest
tail_text (LongResponse r head) rest = r.bytes ++ (head ++ rest)
tail_text (BadResponse r head kind) rest = r.bytes ++ (head ++ rest)
tail_text (BadBody h sent body b) rest = heads_text h (sent ++ (b ∷ rest))

-- the state of its media resource after a whole exchange
abbrev pub state_after : States → Exchange → MediaState
state_after table i = state_after_rule (state_of table i.heads) i.rule (length_of i.heads)

-- the media states after a whole exchange
abbrev pub table_after : States → Exchange → States
table_after table i = keeps table (id_of i.heads.request.asks) (state_after table i)

abbrev pub table_after_all : States → List Exchange → States
table_after_all table [] = table
table_after_all table (i ∷ exchanges) = table_after_all (table_after table i) exchanges

-- both heads are good, the body is whole, and this rule decides it
pub record IsExchange (s : Settings) (table : States) (i : Exchange) : Type 0 where
  pub heads : AreHeads table i.heads
  pub prefix : IsBodyPrefix i.heads.response.frame i.sent i.body
  pub whole : IsWhole i.heads.response.frame i.sent
  pub decided : i.rule ≡ rule_of (judged_by s table i.heads) i.body

abbrev pub AreExchanges : Settings → States → List Exchange → Type 0
AreExchanges s table [] = Unit {0}
AreExchanges s table (i ∷ exchanges) = IsExchange s table i × AreExchanges s (table_after table i) exchanges

-- a body that isn't whole, of which these bytes were sent
pub record IsOpenBody (table : States) (h : Heads) (sent body : List ℕ) : Type 0 where
  pub heads : AreHeads table h
  pub prefix : IsBodyPrefix h.response.frame sent body
  pub unfinished : IsWhole h.response.frame sent → ⊥

-- the byte can't stand after those that were sent
pub record IsBadBody (table : States) (h : Heads) (sent body : List ℕ) (b : ℕ) : Type 0 where
  pub sending : IsOpenBody table h sent body
  pub chunked : h.response.frame ≡ frame.Chunked
  pub bad : (g : List ℕ) → IsBodyPrefix h.response.frame (sent ++ (b ∷ [])) g → ⊥

-- what stands there is so, after exchanges that leave these media states; of the refusals the first that holds
abbrev pub IsTail : States → Tail → Type 0
IsTail table (InRequestHead head) = IsOpenHead head
IsTail table (InResponseHead r head) = IsRequestIn table r × IsOpenHead head
IsTail table (InBody h sent body) = IsOpenBody table h sent body
IsTail table (LongRequest head) = IsLongHead head
IsTail table (BadRequest head kind) = IsHeadText head × ReadsRequestHead head (Err kind)
IsTail table (FullTable r) = IsRequestHead r × IsRefusedId table (id_of r.asks)
IsTail table (LongResponse r head) = IsRequestIn table r × IsLongHead head
IsTail table (BadResponse r head kind) =
    IsRequestIn table r × IsHeadText head × ReadsResponseHead head r.asks.is_head (Err kind)
IsTail table (BadBody h sent body b) = IsBadBody table h sent body b

-- what stands there may go on to be an exchange
abbrev pub is_open : Tail → Bool
is_open (InRequestHead head) = true
is_open (InResponseHead r head) = true
is_open (InBody h sent body) = true
is_open (LongRequest head) = false
is_open (BadRequest head kind) = false
is_open (FullTable r) = false
is_open (LongResponse r head) = false
is_open (BadResponse r head kind) = false
is_open (BadBody h sent body b) = false

-- a recording, as it is cut
pub record Recording : Type 0 where
  pub exchanges : List Exchange
  pub tail : Tail
  -- what is not looked at, after a refusal
  pub more : List ℕ

-- the bytes are this recording: it begins with no media states, and nothing stands after what may go on
pub record IsRecording (s : Settings) (bytes : List ℕ) (r : Recording) : Type 0 where
  pub spells : bytes ≡ exchanges_text r.exchanges (tail_text r.tail r.more)
  pub exchanges : AreExchanges s map.empty r.exchanges
  pub tail : IsTail (table_after_all map.empty r.exchanges) r.tail
  pub last : is_open r.tail ≡ true → r.more ≡ []
