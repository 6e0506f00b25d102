-- What an unframer has read, and what its calls answer.
use Rattle.std.specs.Prelude.{◌≡◌, ℕ, ◌+◌, ◌<◌, ◌≤◌, Bool, false, true, ◌==◌, List, [], ◌++◌, length, take}
use Rattle.http_exchange.specs.Frames.{IsBodyPrefix, IsWhole, IsBadAt}
use Rattle.http_exchange.specs.Places.{is_dead, is_end, run, gives}
use Rattle.http_exchange.specs.declared.frames.BodyFrame.{BodyFrame}
use Rattle.http_exchange.specs.declared.frames.BodyFrame.TheVariants as frame
use Rattle.http_exchange.specs.declared.places.Place.TheVariants.{Size}
use Rattle.http_exchange.specs.declared.unframing.Reading.{Reading}
use Rattle.http_exchange.specs.declared.unframing.Reading.TheVariants.{Counted, Chunks, Rest}
use Rattle.http_exchange.specs.declared.unframing.Unframer.{Unframer}
use Rattle.http_exchange.specs.declared.pieces.Taken.{Taken}
use Rattle.http_exchange.specs.declared.pieces.Taken.TheVariants.{Got, Bad}

-- where the reading stands after the bytes m of a body of the frame, of which given are content
abbrev pub StandsAt : Reading → BodyFrame → List ℕ → List ℕ → Type 0
StandsAt (Counted left) frame.Empty m given = (left ≡ 0) × (m ≡ []) × (given ≡ [])
StandsAt (Counted left) (frame.Length n) m given = (length m + left ≡ n) × (given ≡ m)
StandsAt (Chunks place) frame.Chunked m given =
    (place ≡ run (Size 0 0) m) × (given ≡ gives (Size 0 0) m) × (is_dead place ≡ false)
StandsAt Rest frame.ToEnd m given = given ≡ m
StandsAt _ _ m given = ⊥

-- the body has ended by its own bytes
abbrev pub is_ended : Unframer → Bool
is_ended (Counted left) = left == 0
is_ended (Chunks place) = is_end place
is_ended Rest = false

-- what was taken stands in the piece, and where nothing was, the piece or the body had ended
abbrev pub IsTaken : Taken → Unframer → List ℕ → Type 0
IsTaken (Got body used) u piece =
    (used ≤ length piece) × (length body.now ≤ used)
    × (used ≡ 0 → 1 ≤ length piece → is_ended u ≡ true)
IsTaken (Bad at) u piece = at < length piece

-- an unframer that was made for the frame has read the bytes m and given these
pub record HasRead (u : Unframer) (f : BodyFrame) (m given : List ℕ) : Type 0 where
  pub stands : StandsAt u f m given

-- the first used bytes of the piece were read, and body are the content bytes among them
pub record Gets (u : Unframer) (f : BodyFrame) (m given piece body : List ℕ) (used : ℕ) : Type 0 where
  pub within : used ≤ length piece
  pub reads : HasRead u f (m ++ take used piece) (given ++ body)
  pub prefix : IsBodyPrefix f (m ++ take used piece) (given ++ body)
  -- a byte was read, unless there is none or the body is whole; and none after its end
  pub moves : used ≡ 0 → 1 ≤ length piece → IsWhole f m
  pub stays : IsWhole f m → used ≡ 0
  -- the byte after those that were read isn't content
  pub runs : used < length piece → (g : List ℕ) → IsBodyPrefix f (m ++ take (used + 1) piece) g → g ≡ given ++ body
  -- where there is no content byte, the piece or the body ended
  pub rests : body ≡ [] → used < length piece → IsWhole f (m ++ take used piece)
  -- no byte was bad before a content byte
  pub fine : (at : ℕ) → IsBadAt f m given piece at → ⊥

-- the byte of the piece at the place is bad
pub record Refuses (u : Unframer) (f : BodyFrame) (m given piece : List ℕ) (at : ℕ) : Type 0 where
  pub chunked : f ≡ frame.Chunked
  pub bad : IsBadAt f m given piece at
  pub spent : (e : BodyFrame) (n got : List ℕ) → HasRead u e n got → ⊥

-- what `feed` answers of a piece
abbrev pub Answers : Taken → Unframer → BodyFrame → List ℕ → List ℕ → List ℕ → Type 0
Answers (Got body used) u f m given piece = Gets u f m given piece body.now used
Answers (Bad at) u f m given piece = Refuses u f m given piece at
