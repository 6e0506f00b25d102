-- The bodies that a frame allows (RFC 9112 6.3), as they are sent.
use Rattle.std.specs.Prelude.{◌≡◌, ℕ, ◌+◌, ◌<◌, ◌≤◌, List, [], length, take, ◌++◌}
use Rattle.http_exchange.specs.Chunked.{IsChunkedPrefix, IsChunkedWhole}
use Rattle.http_exchange.specs.declared.frames.BodyFrame.{BodyFrame}
use Rattle.http_exchange.specs.declared.frames.BodyFrame.TheVariants as frame

-- a body of the frame begins with the bytes, and these are the content bytes among them
abbrev pub IsBodyPrefix : BodyFrame → List ℕ → List ℕ → Type 0
IsBodyPrefix frame.Empty m given = (m ≡ []) × (given ≡ [])
IsBodyPrefix (frame.Length n) m given = (length m ≤ n) × (given ≡ m)
IsBodyPrefix frame.Chunked m given = IsChunkedPrefix m given
IsBodyPrefix frame.ToEnd m given = given ≡ m

-- the same, with content that is a prefix of this one
abbrev pub HasBodyPrefix : BodyFrame → List ℕ → List ℕ → Type 0
HasBodyPrefix f m given = (prefix : List ℕ) × (rest : List ℕ) × IsBodyPrefix f m prefix × (given ≡ prefix ++ rest)

-- the bytes are a whole body of the frame; one that runs to the end isn't ended by its own bytes
abbrev pub IsWhole : BodyFrame → List ℕ → Type 0
IsWhole frame.Empty m = m ≡ []
IsWhole (frame.Length n) m = length m ≡ n
IsWhole frame.Chunked m = IsChunkedWhole m
IsWhole frame.ToEnd m = ⊥

-- after the bytes m, whose content is given, the piece has at the place a byte that no body of
-- the frame has there, the body isn't whole before it, and no content byte stands before it
pub record IsBadAt (f : BodyFrame) (m given piece : List ℕ) (at : ℕ) : Type 0 where
  pub within : at < length piece
  pub before : IsBodyPrefix f (m ++ take at piece) given
  pub unfinished : IsWhole f (m ++ take at piece) → ⊥
  pub bad : (g : List ℕ) → IsBodyPrefix f (m ++ take (at + 1) piece) g → ⊥
