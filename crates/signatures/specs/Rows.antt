-- The tables of signatures, and the type that they give a window: that of the first row that matches.
use Rattle.std.specs.Prelude.{ℕ, Bool, false, List, [], ◌∷◌, ◌++◌, replicate, codes, find, Option}
use Rattle.std.specs.Option.{option_map}
use Rattle.signatures.specs.declared.images.ImageType.{ImageType}
use Rattle.signatures.specs.declared.images.ImageType.TheVariants as image
use Rattle.signatures.specs.declared.media.MediaType.{MediaType}
use Rattle.signatures.specs.declared.media.MediaType.TheVariants as media
use Rattle.signatures.specs.Patterns.{is_match}
use Rattle.signatures.specs.Mp4.{is_mp4_window}
use Rattle.signatures.specs.Webm.{is_webm_window}
use Rattle.signatures.specs.Mpeg.{is_mpeg_window}

-- bytes of a mask: those that must be as the pattern has them, and those that are free
abbrev pub exact : ℕ → List ℕ
exact n = replicate n 0xFF

abbrev pub free : ℕ → List ℕ
free n = replicate n 0x00

-- a row of a table that has a pattern and a mask and ignores no leading bytes
abbrev pub shows : List ℕ → List ℕ → List ℕ → Bool
shows bytes mask window = is_match bytes mask false window

-- the type of the first row whose test the window passes
abbrev pub first_match : {K : Type 0} → List ((List ℕ → Bool) × K) → List ℕ → Option K
first_match rows window = option_map (λ row. row.1) (find (λ row. row.0 window) rows)

-- the patterns that aren't text alone, in the bytes of the standard's tables
abbrev pub icon_bytes : List ℕ
icon_bytes = 0x00 ∷ 0x00 ∷ 0x01 ∷ 0x00 ∷ []

abbrev pub cursor_bytes : List ℕ
cursor_bytes = 0x00 ∷ 0x00 ∷ 0x02 ∷ 0x00 ∷ []

abbrev pub png_bytes : List ℕ
png_bytes = 0x89 ∷ 0x50 ∷ 0x4E ∷ 0x47 ∷ 0x0D ∷ 0x0A ∷ 0x1A ∷ 0x0A ∷ []

abbrev pub jpeg_bytes : List ℕ
jpeg_bytes = 0xFF ∷ 0xD8 ∷ 0xFF ∷ []

abbrev pub ogg_bytes : List ℕ
ogg_bytes = codes "OggS" ++ (0x00 ∷ [])

abbrev pub midi_bytes : List ℕ
midi_bytes = codes "MThd" ++ (0x00 ∷ 0x00 ∷ 0x00 ∷ 0x06 ∷ [])

-- WHATWG MIME Sniffing 6.1
unfoldable pub image_rows : List ((List ℕ → Bool) × ImageType)
image_rows =
    (shows icon_bytes (exact 4), image.Icon)
    ∷ (shows cursor_bytes (exact 4), image.Cursor)
    ∷ (shows (codes "BM") (exact 2), image.Bmp)
    ∷ (shows (codes "GIF87a") (exact 6), image.Gif87)
    ∷ (shows (codes "GIF89a") (exact 6), image.Gif89)
    ∷ (shows (codes "RIFF" ++ (free 4 ++ codes "WEBPVP")) (exact 4 ++ (free 4 ++ exact 6)), image.Webp)
    ∷ (shows png_bytes (exact 8), image.Png)
    ∷ (shows jpeg_bytes (exact 3), image.Jpeg)
    ∷ []

-- WHATWG MIME Sniffing 6.2, and the signatures of 6.2.1 to 6.2.3 after its table
unfoldable pub media_rows : List ((List ℕ → Bool) × MediaType)
media_rows =
    (shows (codes "FORM" ++ (free 4 ++ codes "AIFF")) (exact 4 ++ (free 4 ++ exact 4)), media.Aiff)
    ∷ (shows (codes "ID3") (exact 3), media.MpegTag)
    ∷ (shows ogg_bytes (exact 5), media.Ogg)
    ∷ (shows midi_bytes (exact 8), media.Midi)
    ∷ (shows (codes "RIFF" ++ (free 4 ++ codes "AVI ")) (exact 4 ++ (free 4 ++ exact 4)), media.Avi)
    ∷ (shows (codes "RIFF" ++ (free 4 ++ codes "WAVE")) (exact 4 ++ (free 4 ++ exact 4)), media.Wave)
    ∷ (is_mp4_window, media.Mp4)
    ∷ (is_webm_window, media.Webm)
    ∷ (is_mpeg_window, media.MpegFrame)
    ∷ []

-- the window's image type
abbrev pub image_of : List ℕ → Option ImageType
image_of window = first_match image_rows window

-- the window's audio or video type
abbrev pub media_of : List ℕ → Option MediaType
media_of window = first_match media_rows window
