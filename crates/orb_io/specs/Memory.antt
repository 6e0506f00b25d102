-- The sources, sinks and links in memory as their contracts see them, and what one call on them does.
use Rattle.std.specs.Prelude.{◌≡◌, ℕ, ◌+◌, ◌-◌, Bool, true, false, ◌||◌, ◌==◌, nat_lt, min, List, [], ◌++◌, length, take, drop, Result, Ok, Err, if◌then◌else◌}
use Rattle.std.specs.List.{list_any}
use Rattle.orb_io.specs.Counts.{one_more}

-- a supply of bytes: those still to come, and the most that one pull gives
pub record SupplyState : Type 0 where
  pub rest : List ℕ
  pub piece : ℕ

-- a source: its supply, the numbers of the pulls that fail, and how many pulls and faults there
-- were
pub record SourceState : Type 0 where
  pub rest : List ℕ
  pub piece : ℕ
  pub fails : List ℕ
  pub calls : ℕ
  pub faults : ℕ

-- a sink: its bytes, the most that it takes, the numbers of the pushes that fail, and how many
-- pushes and faults there were
pub record SinkState : Type 0 where
  pub bytes : List ℕ
  pub room : ℕ
  pub fails : List ℕ
  pub calls : ℕ
  pub faults : ℕ

-- a source and a sink, side by side
pub record LinkState : Type 0 where
  pub source : SourceState
  pub sink : SinkState

-- whether the call of this number, from 0, is one that fails
abbrev pub fails_at : List ℕ → ℕ → Bool
fails_at fails call = list_any (λ n. n == call) fails

-- how many bytes a pull gives into that much room
abbrev pub given_count : List ℕ → ℕ → ℕ → ℕ
given_count rest piece room = min (min piece room) (length rest)

-- a pull into that much room: it fails, with nothing taken, exactly where its number is one that
-- does, and else gives the next bytes
abbrev pub PullsInMemory : {E : Type 0} → SourceState → SourceState → Result ℕ E → ℕ → Type 0
PullsInMemory s s' (Ok n) room =
    (fails_at s.fails s.calls ≡ false)
    × (n ≡ given_count s.rest s.piece room)
    × (s' ≡ record s { rest = drop n s.rest; calls = one_more s.calls })
PullsInMemory s s' (Err failed) room =
    (fails_at s.fails s.calls ≡ true)
    × (s' ≡ record s { calls = one_more s.calls; faults = one_more s.faults })

-- whether a push fails: its number is one that does, or the piece doesn't fit
abbrev pub refuses : SinkState → List ℕ → Bool
refuses s piece = fails_at s.fails s.calls || nat_lt s.room (length s.bytes + length piece)

-- what a push takes of the piece: nothing at a number that fails, and else what there is room for
abbrev pub taken_of : SinkState → List ℕ → List ℕ
taken_of s piece = if fails_at s.fails s.calls then [] else take (s.room - length s.bytes) piece

-- a push: it puts the whole piece, or what it takes where it fails
abbrev pub PushesInMemory : {T E : Type 0} → SinkState → SinkState → Result T E → List ℕ → Type 0
PushesInMemory s s' (Ok done) piece =
    (refuses s piece ≡ false)
    × (s' ≡ record s { bytes = s.bytes ++ piece; calls = one_more s.calls })
PushesInMemory s s' (Err failed) piece =
    (refuses s piece ≡ true)
    × (s' ≡ record s {
      bytes = s.bytes ++ taken_of s piece;
      calls = one_more s.calls;
      faults = one_more s.faults;
    })
