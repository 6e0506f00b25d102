-- What is read of a piece of a chunked body.
use Rattle.std.specs.Prelude.{◌≡◌, ℕ, ◌+◌, ◌<◌, ◌≤◌, true, false, ◌||◌, List, [], length, take}
use Rattle.http_exchange.specs.Places.{is_content, is_dead, is_end, run, gives}
use Rattle.http_exchange.specs.declared.places.Place.{Place}
use Rattle.http_exchange.specs.declared.places.Place.TheVariants.{Dead}
use Rattle.http_exchange.specs.declared.pieces.Taken.{Taken}
use Rattle.http_exchange.specs.declared.pieces.Taken.TheVariants.{Got, Bad}

-- the first n bytes of the piece are framing, and after them the place is q: content, the end of
-- the body, or the end of the piece
pub record Passes (p q : Place) (piece : List ℕ) (n : ℕ) : Type 0 where
  pub within : n ≤ length piece
  pub leads : run p (take n piece) ≡ q
  pub frames : gives p (take n piece) ≡ []
  pub alive : is_dead p ≡ false → is_dead q ≡ false
  pub stops : n < length piece → (is_content q || is_end q) ≡ true

-- the bytes before that at the place are framing, and this one can't be read
pub record Fails (p : Place) (piece : List ℕ) (at : ℕ) : Type 0 where
  pub within : at < length piece
  pub frames : gives p (take at piece) ≡ []
  pub alive : is_dead p ≡ false → is_dead (run p (take at piece)) ≡ false
  pub reads : is_content (run p (take at piece)) ≡ false
  pub unfinished : is_end (run p (take at piece)) ≡ false
  pub dead : run p (take (at + 1) piece) ≡ Dead

-- the body is content that stands at the beginning of the piece, and after it no more content comes,
-- or the piece ends
pub record Takes (p q : Place) (piece body : List ℕ) : Type 0 where
  pub within : length body ≤ length piece
  pub is : body ≡ take (length body) piece
  pub leads : run p body ≡ q
  pub content : gives p body ≡ body
  pub alive : is_dead p ≡ false → is_dead q ≡ false
  pub ends : length body < length piece → is_content q ≡ false
  pub some : body ≡ [] → 1 ≤ length piece → is_content p ≡ false

-- the first used bytes of the piece were read, framing and then content, which is the body
pub record Reads (p q : Place) (piece body : List ℕ) (used : ℕ) : Type 0 where
  pub within : used ≤ length piece
  pub leads : run p (take used piece) ≡ q
  pub content : gives p (take used piece) ≡ body
  pub alive : is_dead p ≡ false → is_dead q ≡ false
  pub ends : used < length piece → is_content q ≡ false
  pub rests : body ≡ [] → used < length piece → is_end q ≡ true

-- by what was taken
abbrev pub TakesChunks : Place → Place → List ℕ → Taken → Type 0
TakesChunks p q piece (Got body used) = Reads p q piece body.now used
TakesChunks p q piece (Bad at) = Fails p piece at × (q ≡ Dead)
