-- The rules of the computed type, after WHATWG MIME Sniffing 7, as a profile: RAR archives, feeds and `audio/basic` are left out.
use Rattle.std.specs.Prelude.{ℕ, Bool, true, false, ◌&&◌, ◌||◌, not, List, [], ◌∷◌, codes, bytes_eq, Option, Some, None, is_some}
use Rattle.mime_types.specs.Mime.{Mime}
use Rattle.mime_types.specs.Sets.{is_among, is_xml_type, is_html_type}
use Rattle.header_values.specs.Questions.{is_nosniff}
use Rattle.signatures.specs.Rows.{image_of, media_of}
use Rattle.computed_type.specs.Names.{image_essence, media_essence}
use Rattle.computed_type.specs.Plain.{text_or_binary, is_default_plain}
use Rattle.computed_type.specs.Unknown.{first_of, unknown_type}

-- a response, as it is known when its head and the first bytes of its body have been read
pub record Response : Type 0 where
  -- the names and values of its fields
  pub fields : List (List ℕ × List ℕ)
  -- the MIME type that they state, if they do
  pub supplied : Option Mime
  -- the first bytes of its body
  pub window : List ℕ

-- a type is supplied, and it is of the group
abbrev pub is_supplied : (List ℕ → List ℕ → Bool) → Response → Bool
is_supplied group r = is_of r.supplied
  where
    is_of : Option Mime → Bool
    is_of None = false
    is_of (Some mime) = group mime.main mime.sub

-- what states no type
unfoldable pub unknown_essences : List (List ℕ × List ℕ)
unknown_essences = (codes "unknown", codes "unknown") ∷ (codes "application", codes "unknown") ∷ []

abbrev pub is_unknown_type : List ℕ → List ℕ → Bool
is_unknown_type main sub = is_among unknown_essences main sub

-- an image MIME type (WHATWG MIME Sniffing 4.6)
abbrev pub is_image_type : List ℕ → List ℕ → Bool
is_image_type main sub = bytes_eq main (codes "image")

-- an audio or video MIME type (WHATWG MIME Sniffing 4.6)
unfoldable pub is_audio_or_video_type : List ℕ → List ℕ → Bool
is_audio_or_video_type main sub =
    bytes_eq main (codes "audio")
    || (bytes_eq main (codes "video") || is_among ((codes "application", codes "ogg") ∷ []) main sub)

-- a rule that leaves the type that the head states
abbrev pub as_supplied : Option (List ℕ)
as_supplied = None

unfoldable pub rules_of : Response → List (Bool × Option (List ℕ))
rules_of r =
    (not (is_some r.supplied) || is_supplied is_unknown_type r, Some (unknown_type (is_nosniff r.fields) r.window))
    ∷ (is_nosniff r.fields, as_supplied)
    ∷ (is_default_plain r.fields, Some (text_or_binary r.window))
    ∷ (is_supplied is_xml_type r || is_supplied is_html_type r, as_supplied)
    ∷ (is_supplied is_image_type r && is_some (image_of r.window), image_essence r.window)
    ∷ (is_supplied is_audio_or_video_type r && is_some (media_of r.window), media_essence r.window)
    ∷ (true, as_supplied)
    ∷ []

-- the essence that takes the place of the one that the head states, if one does
unfoldable pub type_instead : Response → Option (List ℕ)
type_instead r = first_of (rules_of r)
