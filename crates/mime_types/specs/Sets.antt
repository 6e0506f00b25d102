-- Groups of MIME types, by type and subtype in ASCII lowercase.
use Rattle.std.specs.Prelude.{ℕ, Bool, ◌&&◌, ◌||◌, ◌-◌, List, [], ◌∷◌, length, drop, codes, bytes_eq}
use Rattle.std.specs.List.{list_any}
use Rattle.std.specs.Str.{str_to_ascii_lowercase}
use Rattle.mime_types.specs.declared.essences.Essence.{Essence}

-- the type in ASCII lowercase
abbrev pub main_of : Essence → List ℕ
main_of e = str_to_ascii_lowercase e.main.now

-- the subtype in ASCII lowercase
abbrev pub sub_of : Essence → List ℕ
sub_of e = str_to_ascii_lowercase e.sub.now

-- the pair of a type and a subtype is in the list
abbrev pub is_among : List (List ℕ × List ℕ) → List ℕ → List ℕ → Bool
is_among essences main sub = list_any (λ e. bytes_eq main e.0 && bytes_eq sub e.1) essences

-- the text ends in these bytes
abbrev pub ends_in : List ℕ → List ℕ → Bool
ends_in suffix text = bytes_eq (drop (length text - length suffix) text) suffix

-- the essences of a JavaScript MIME type (WHATWG MIME Sniffing 4.6)
unfoldable pub javascript_essences : List (List ℕ × List ℕ)
javascript_essences =
    (codes "application", codes "ecmascript")
    ∷ (codes "application", codes "javascript")
    ∷ (codes "application", codes "x-ecmascript")
    ∷ (codes "application", codes "x-javascript")
    ∷ (codes "text", codes "ecmascript")
    ∷ (codes "text", codes "javascript")
    ∷ (codes "text", codes "javascript1.0")
    ∷ (codes "text", codes "javascript1.1")
    ∷ (codes "text", codes "javascript1.2")
    ∷ (codes "text", codes "javascript1.3")
    ∷ (codes "text", codes "javascript1.4")
    ∷ (codes "text", codes "javascript1.5")
    ∷ (codes "text", codes "jscript")
    ∷ (codes "text", codes "livescript")
    ∷ (codes "text", codes "x-ecmascript")
    ∷ (codes "text", codes "x-javascript")
    ∷ []

-- a JavaScript MIME type (WHATWG MIME Sniffing 4.6)
abbrev pub is_javascript_type : List ℕ → List ℕ → Bool
is_javascript_type main sub = is_among javascript_essences main sub

-- the essences that are JSON MIME types by name
unfoldable pub json_essences : List (List ℕ × List ℕ)
json_essences = (codes "application", codes "json") ∷ (codes "text", codes "json") ∷ []

-- a JSON MIME type (WHATWG MIME Sniffing 4.6)
abbrev pub is_json_type : List ℕ → List ℕ → Bool
is_json_type main sub = ends_in (codes "+json") sub || is_among json_essences main sub

-- the essences that are XML MIME types by name
unfoldable pub xml_essences : List (List ℕ × List ℕ)
xml_essences = (codes "text", codes "xml") ∷ (codes "application", codes "xml") ∷ []

-- an XML MIME type (WHATWG MIME Sniffing 4.6)
abbrev pub is_xml_type : List ℕ → List ℕ → Bool
is_xml_type main sub = ends_in (codes "+xml") sub || is_among xml_essences main sub

-- the essence of HTML
unfoldable pub html_essences : List (List ℕ × List ℕ)
html_essences = (codes "text", codes "html") ∷ []

-- an HTML MIME type (WHATWG MIME Sniffing 4.6)
abbrev pub is_html_type : List ℕ → List ℕ → Bool
is_html_type main sub = is_among html_essences main sub

-- the essence of plain text
unfoldable pub plain_text_essences : List (List ℕ × List ℕ)
plain_text_essences = (codes "text", codes "plain") ∷ []

-- `text/plain`
abbrev pub is_plain_text_type : List ℕ → List ℕ → Bool
is_plain_text_type main sub = is_among plain_text_essences main sub

-- what is safelisted besides scripts
unfoldable pub style_and_image_essences : List (List ℕ × List ℕ)
style_and_image_essences = (codes "text", codes "css") ∷ (codes "image", codes "svg+xml") ∷ []

-- the opaque-safelisted types of the ORB proposal: scripts, style sheets and SVG
abbrev pub is_safelisted_type : List ℕ → List ℕ → Bool
is_safelisted_type main sub =
    is_javascript_type main sub || is_among style_and_image_essences main sub

-- the opaque-blocklisted types of the ORB proposal: HTML, JSON and XML
abbrev pub is_blocklisted_type : List ℕ → List ℕ → Bool
is_blocklisted_type main sub =
    is_html_type main sub || (is_json_type main sub || is_xml_type main sub)

-- the opaque-blocklisted-never-sniffed types, in this project's own list
unfoldable pub never_sniffed_essences : List (List ℕ × List ℕ)
never_sniffed_essences =
    (codes "application", codes "gzip")
    ∷ (codes "application", codes "x-gzip")
    ∷ (codes "application", codes "x-protobuf")
    ∷ (codes "application", codes "zip")
    ∷ (codes "application", codes "dash+xml")
    ∷ (codes "application", codes "msexcel")
    ∷ (codes "application", codes "mspowerpoint")
    ∷ (codes "application", codes "msword")
    ∷ (codes "application", codes "msword-template")
    ∷ (codes "application", codes "pdf")
    ∷ (codes "application", codes "vnd.apple.mpegurl")
    ∷ (codes "application", codes "vnd.ces-quickpoint")
    ∷ (codes "application", codes "vnd.ces-quicksheet")
    ∷ (codes "application", codes "vnd.ces-quickword")
    ∷ (codes "application", codes "vnd.ms-excel")
    ∷ (codes "application", codes "vnd.ms-excel.sheet.macroenabled.12")
    ∷ (codes "application", codes "vnd.ms-powerpoint")
    ∷ (codes "application", codes "vnd.ms-powerpoint.presentation.macroenabled.12")
    ∷ (codes "application", codes "vnd.ms-word")
    ∷ (codes "application", codes "vnd.ms-word.document.12")
    ∷ (codes "application", codes "vnd.ms-word.document.macroenabled.12")
    ∷ (codes "application", codes "vnd.msword")
    ∷ (codes "application", codes "vnd.openxmlformats-officedocument.presentationml.presentation")
    ∷ (codes "application", codes "vnd.openxmlformats-officedocument.presentationml.template")
    ∷ (codes "application", codes "vnd.openxmlformats-officedocument.spreadsheetml.sheet")
    ∷ (codes "application", codes "vnd.openxmlformats-officedocument.spreadsheetml.template")
    ∷ (codes "application", codes "vnd.openxmlformats-officedocument.wordprocessingml.document")
    ∷ (codes "application", codes "vnd.openxmlformats-officedocument.wordprocessingml.template")
    ∷ (codes "application", codes "vnd.presentation-openxml")
    ∷ (codes "application", codes "vnd.presentation-openxmlm")
    ∷ (codes "application", codes "vnd.spreadsheet-openxml")
    ∷ (codes "application", codes "vnd.wordprocessing-openxml")
    ∷ (codes "audio", codes "mpegurl")
    ∷ (codes "multipart", codes "byteranges")
    ∷ (codes "multipart", codes "signed")
    ∷ (codes "text", codes "csv")
    ∷ (codes "text", codes "event-stream")
    ∷ (codes "text", codes "vtt")
    ∷ []

-- a type whose bodies are blocked without a look at them
abbrev pub is_never_sniffed_type : List ℕ → List ℕ → Bool
is_never_sniffed_type main sub = is_among never_sniffed_essences main sub

-- the types of media
unfoldable pub media_mains : List (List ℕ)
media_mains = codes "audio" ∷ codes "image" ∷ codes "video" ∷ []

-- the type alone makes it media: this project's group. The standard's image MIME types are those of type `image`, and its
-- audio or video MIME types those of type `audio` or `video`, but it counts `application/ogg` among them besides
-- (WHATWG MIME Sniffing 4.6)
abbrev pub is_media_type : List ℕ → Bool
is_media_type main = list_any (λ m. bytes_eq main m) media_mains
