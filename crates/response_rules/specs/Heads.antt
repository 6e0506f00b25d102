-- A response that is to be judged, as it is known when its head has been read.
use Rattle.std.specs.Prelude.{◌≡◌, ℕ, Bool, true, false, not, ◌&&◌, ◌==◌, nat_le, List, Option, Some, None, option_and_then, codes, if◌then◌else◌}
use Rattle.mime_types.specs.Mime.{Mime}
use Rattle.header_values.specs.Joined.{joined}
use Rattle.header_values.specs.Extracted.{IsExtracted}
use Rattle.media_state.specs.Range.{range_of}
use Rattle.media_state.specs.declared.ranges.ContentRange.{ContentRange}
use Rattle.media_state.specs.declared.states.MediaState.{MediaState}
use Rattle.media_state.specs.declared.states.MediaState.TheVariants as state
use Rattle.response_rules.specs.declared.verdicts.Policy.{Policy}

pub record Case : Type 0 where
  -- the rules that judge it
  pub policy : Policy
  -- the state of the request's media resource before it
  pub state : MediaState
  -- the request is an opaque one: no-cors, and to another origin
  pub opaque : Bool
  pub status : ℕ
  -- the names and values of its fields
  pub fields : List (List ℕ × List ℕ)
  -- type and subtype, in ASCII lowercase, of the MIME type that the fields state, if they do
  pub essence : Option (List ℕ × List ℕ)
  -- how many bytes of a body are read for a script
  pub limit : ℕ

-- the essence of the MIME type that the fields state, or none (WHATWG Fetch 2.2: extract a MIME type)
abbrev pub HasEssence : List (List ℕ × List ℕ) → Option (List ℕ × List ℕ) → Type 0
HasEssence fields None = IsExtracted fields None
HasEssence fields (Some e) =
    (mime : Mime) × IsExtracted fields (Some mime) × (mime.main ≡ e.0) × (mime.sub ≡ e.1)

-- fields state one essence at most
abbrev pub HasOneEssence : List (List ℕ × List ℕ) → Type 0
HasOneEssence fields = (a b : Option (List ℕ × List ℕ)) → HasEssence fields a → HasEssence fields b → a ≡ b

-- the essence is that of the fields
abbrev pub IsCase : Case → Type 0
IsCase h = HasEssence h.fields h.essence

-- there is an essence, and it is in the group
abbrev pub is_in : (List ℕ → List ℕ → Bool) → Option (List ℕ × List ℕ) → Bool
is_in group None = false
is_in group (Some e) = group e.0 e.1

-- there is a range, and it begins at the first byte
abbrev pub is_first : Option ContentRange → Bool
is_first None = false
is_first (Some range) = range.first == 0

-- the range that Content-Range gives, if it gives one (RFC 9110 14.4)
unfoldable pub stated_range : List (List ℕ × List ℕ) → Option ContentRange
stated_range fields = option_and_then range_of (joined fields (codes "Content-Range"))

-- there is one, and it begins at the first byte
abbrev pub has_first : List (List ℕ × List ℕ) → Bool
has_first fields = is_first (stated_range fields)

-- OK (RFC 9110 15.3.1)
abbrev pub ok : ℕ
ok = 200

-- Partial Content (RFC 9110 15.3.7)
abbrev pub partial_content : ℕ
partial_content = 206

-- an ok status (WHATWG Fetch 2.2.3)
abbrev pub is_ok_status : ℕ → Bool
is_ok_status status = nat_le 200 status && nat_le status 299

-- The complete length of the resource that the response is a part of: the status is Partial Content, and the range
-- has a number as its complete length.
abbrev pub stated_length : (status : ℕ) → List (List ℕ × List ℕ) → Option ℕ
stated_length status fields =
    if status == partial_content then option_and_then (λ range. range.complete) (stated_range fields) else None

-- that of the response
abbrev pub length_of : Case → Option ℕ
length_of h = stated_length h.status h.fields

abbrev pub is_na : MediaState → Bool
is_na state.Na = true
is_na state.Initial = false
is_na (state.Subsequent kept) = false

abbrev pub is_initial : MediaState → Bool
is_initial state.Na = false
is_initial state.Initial = true
is_initial (state.Subsequent kept) = false

abbrev pub is_subsequent : MediaState → Bool
is_subsequent state.Na = false
is_subsequent state.Initial = false
is_subsequent (state.Subsequent kept) = true

-- the complete length of the media resource that the state keeps
abbrev pub kept_length : MediaState → Option ℕ
kept_length state.Na = None
kept_length state.Initial = None
kept_length (state.Subsequent kept) = kept

-- a length is kept, and a response states another one
abbrev pub is_other_length : (kept stated : Option ℕ) → Bool
is_other_length None stated = false
is_other_length (Some kept) None = false
is_other_length (Some kept) (Some stated) = not (stated == kept)
