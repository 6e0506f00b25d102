-- The essences of the types that signatures show, as the tables of WHATWG MIME Sniffing 6.1 and 6.2 have them.
use Rattle.std.specs.Prelude.{ℕ, List, codes, Option}
use Rattle.std.specs.Option.{option_map}
use Rattle.signatures.specs.declared.images.ImageType.{ImageType}
use Rattle.signatures.specs.declared.images.ImageType.TheVariants as image
use Rattle.signatures.specs.declared.media.MediaType.{MediaType}
use Rattle.signatures.specs.declared.media.MediaType.TheVariants as media
use Rattle.signatures.specs.Rows.{image_of, media_of}

unfoldable pub image_name : ImageType → List ℕ
image_name image.Icon = codes "image/x-icon"
image_name image.Cursor = codes "image/x-icon"
image_name image.Bmp = codes "image/bmp"
image_name image.Gif87 = codes "image/gif"
image_name image.Gif89 = codes "image/gif"
image_name image.Webp = codes "image/webp"
image_name image.Png = codes "image/png"
image_name image.Jpeg = codes "image/jpeg"

unfoldable pub media_name : MediaType → List ℕ
media_name media.Aiff = codes "audio/aiff"
media_name media.MpegTag = codes "audio/mpeg"
media_name media.Ogg = codes "application/ogg"
media_name media.Midi = codes "audio/midi"
media_name media.Avi = codes "video/avi"
media_name media.Wave = codes "audio/wave"
media_name media.Mp4 = codes "video/mp4"
media_name media.Webm = codes "video/webm"
media_name media.MpegFrame = codes "audio/mpeg"

-- the essence of the image that the window shows
abbrev pub image_essence : List ℕ → Option (List ℕ)
image_essence window = option_map image_name (image_of window)

-- the essence of the audio or video that it shows
abbrev pub media_essence : List ℕ → Option (List ℕ)
media_essence window = option_map media_name (media_of window)
