-- The type of a body of which nothing is stated (WHATWG MIME Sniffing 7.1, identify an unknown MIME type), as a profile: the
-- tables of images, of audio and video, and of archives are those of `signatures`, gzip and zip.
use Rattle.std.specs.Prelude.{ℕ, Bool, not, ◌&&◌, nat_eq, List, [], ◌∷◌, codes, find, Option, Some, is_some, unwrap_or}
use Rattle.std.specs.List.{list_any, starts_with}
use Rattle.std.specs.Option.{option_and_then}
use Rattle.orb_bytes.specs.Bytes.{is_whitespace_byte}
use Rattle.orb_bytes.specs.Trim.{without_leading}
use Rattle.signatures.specs.Rows.{image_of, media_of}
use Rattle.corb_sniffers.specs.Html.{tags}
use Rattle.corb_sniffers.specs.Values.{begins_with_tag, sniffs_xml}
use Rattle.computed_type.specs.Names.{image_essence, media_essence}
use Rattle.computed_type.specs.Plain.{has_binary_byte, begins_with_mark}

-- A rule is whether it applies, and the essence that it gives, if it gives one. The first that applies decides.
unfoldable pub first_of : {E : Type 0} → List (Bool × Option E) → Option E
first_of rules = option_and_then (λ rule. rule.1) (find (λ rule. rule.0) rules)

-- the tags that show HTML, the beginning of a comment among them
abbrev pub html_tags : List (List ℕ)
html_tags = codes "<!--" ∷ tags

-- after its leading white space the window begins with one of them, in either case, and a byte that ends a tag
abbrev pub begins_with_html : List ℕ → Bool
begins_with_html window = list_any (begins_with_tag (without_leading is_whitespace_byte window)) html_tags

abbrev pub begins_with : List ℕ → List ℕ → Bool
begins_with text window = starts_with nat_eq window text

abbrev pub gzip_bytes : List ℕ
gzip_bytes = 0x1F ∷ 0x8B ∷ 0x08 ∷ []

abbrev pub zip_bytes : List ℕ
zip_bytes = 0x50 ∷ 0x4B ∷ 0x03 ∷ 0x04 ∷ []

-- the rules of a window; a type that may run scripts is given only where the response lets types be guessed
unfoldable pub unknown_rules : (nosniff : Bool) → List ℕ → List (Bool × Option (List ℕ))
unknown_rules nosniff window =
    (not nosniff && begins_with_html window, Some (codes "text/html"))
    ∷ (not nosniff && sniffs_xml window, Some (codes "text/xml"))
    ∷ (not nosniff && begins_with (codes "%PDF-") window, Some (codes "application/pdf"))
    ∷ (begins_with (codes "%!PS-Adobe-") window, Some (codes "application/postscript"))
    ∷ (begins_with_mark window, Some (codes "text/plain"))
    ∷ (is_some (image_of window), image_essence window)
    ∷ (is_some (media_of window), media_essence window)
    ∷ (begins_with gzip_bytes window, Some (codes "application/x-gzip"))
    ∷ (begins_with zip_bytes window, Some (codes "application/zip"))
    ∷ (not (has_binary_byte window), Some (codes "text/plain"))
    ∷ []

-- the essence of a window of which nothing is stated: binary data where no rule applies
unfoldable pub unknown_type : (nosniff : Bool) → List ℕ → List ℕ
unknown_type nosniff window = unwrap_or (first_of (unknown_rules nosniff window)) (codes "application/octet-stream")
