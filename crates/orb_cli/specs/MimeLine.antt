-- What `mime` writes of a text.
use Rattle.std.specs.Prelude.{◌≡◌, ◌⊎◌, ℕ, List, [], ◌∷◌, ◌++◌, codes}
use Rattle.orb_bytes.specs.Ascii.{line_feed}
use Rattle.mime_types.specs.Mime.{Mime, IsMime, HasNoMime}
use Rattle.mime_types.specs.Text.{text_of}

-- the text of the record that the text has, or `failure` exactly where it has none
abbrev pub IsMimeText : (text out : List ℕ) → Type 0
IsMimeText text out =
    ((m : Mime) × IsMime text m × (out ≡ text_of m)) ⊎ (HasNoMime text × (out ≡ codes "failure"))

-- that, and a line feed
abbrev pub IsMimeLine : (text line : List ℕ) → Type 0
IsMimeLine text line = (out : List ℕ) × IsMimeText text out × (line ≡ out ++ (line_feed ∷ []))
