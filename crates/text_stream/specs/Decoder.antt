-- Decoders: what one knows of the bytes that were read and of the characters that were given.
use Rattle.std.specs.Prelude.{◌≡◌, ◌≢◌, ◌⊎◌, ◌==◌, Bool, true, not, ℕ, ◌<◌, ◌≤◌, List, [], ◌∷◌, ◌++◌, length}
use Rattle.text_stream.specs.declared.decoder.Stage.{Stage}
use Rattle.text_stream.specs.declared.decoder.Stage.TheVariants.{Start, Within, Finished}
use Rattle.text_stream.specs.declared.decoder.Decoder.{Decoder}
use Rattle.text_stream.specs.Decoding.{characters_of, characters_after}

-- the decoder isn't finished
abbrev pub CanDecode : Decoder → Type 0
CanDecode decoder = decoder.stage ≢ Finished

-- the characters that come once more bytes have come: those of what is pending and of these
abbrev pub ahead_at : Stage → List ℕ → List ℕ
ahead_at Start text = characters_of text
ahead_at Within text = characters_after 0 text
ahead_at Finished text = []

abbrev pub ahead : Decoder → List ℕ → List ℕ
ahead decoder more = ahead_at decoder.stage (decoder.pending.items ++ more)

-- the decoder was fed the bytes and gave these characters: whatever follows, the characters of the whole are those given and
-- those of what is pending and what follows
pub record HasRead (decoder : Decoder) (bytes given : List ℕ) : Type 0 where
  pub can : CanDecode decoder
  pub gives : (more : List ℕ) → characters_of (bytes ++ more) ≡ given ++ ahead decoder more

-- some bytes are pending, or the text hasn't begun
abbrev pub pending_at : Stage → List ℕ → Bool
pending_at Within bytes = not (length bytes == 0)
pending_at stage bytes = true

abbrev pub is_pending : Decoder → Bool
is_pending decoder = pending_at decoder.stage decoder.pending.items

-- a byte below 128 is its character
abbrev pub PassesAscii : Decoder → Type 0
PassesAscii decoder = (bytes given : List ℕ) (b : ℕ) → b < 128 → HasRead decoder bytes given
    → HasRead decoder (bytes ++ b ∷ []) (given ++ b ∷ [])

-- bytes before one below 128 are the characters that they are by themselves
abbrev pub PassesText : Decoder → Type 0
PassesText decoder = (bytes given text : List ℕ) (b : ℕ) → b < 128 → HasRead decoder bytes given
    → HasRead decoder (bytes ++ (text ++ b ∷ [])) (given ++ (characters_after 0 text ++ b ∷ []))

-- at most three bytes are pending, at the beginning or past it: whatever follows, the characters of the whole are those given and
-- those of these bytes and what follows
abbrev pub GivesAllButThree : List ℕ → List ℕ → Type 0
GivesAllButThree bytes given = (pending : List ℕ) × (length pending ≤ 3)
    × (((more : List ℕ) → characters_of (bytes ++ more) ≡ given ++ characters_of (pending ++ more))
    ⊎ ((more : List ℕ) → characters_of (bytes ++ more) ≡ given ++ characters_after 0 (pending ++ more)))
