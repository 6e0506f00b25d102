-- How a window is read for HTML; private contracts cite it.
use Rattle.std.specs.Prelude.{◌≡◌, ℕ, Bool, false, ◌&&◌, List, [], ◌∷◌, length, drop}
use Rattle.orb_bytes.specs.Bytes.{is_whitespace_byte, is_tag_terminating}
use Rattle.orb_bytes.specs.declared.rows.Row.{Row}
use Rattle.orb_bytes.specs.Rows.{is_matched}
use Rattle.corb_sniffers.specs.Html.{Comment, EndsFirst, piece_text, SniffsHtml}

-- a byte that ends a tag stands first
abbrev pub begins_ending : List ℕ → Bool
begins_ending [] = false
begins_ending (b ∷ text) = is_tag_terminating b

-- the text begins with the row and then a byte that ends a tag
abbrev pub begins_with_ended : List ℕ → Row → Bool
begins_with_ended text row = is_matched text row && begins_ending (drop (length row.bytes.now) text)

-- no white space stands first
abbrev pub IsNoSpace : List ℕ → Type 0
IsNoSpace text = (b : ℕ) (rest : List ℕ) → text ≡ b ∷ rest → is_whitespace_byte b ≡ false

-- no comment stands first
abbrev pub IsNoComment : List ℕ → Type 0
IsNoComment text = (inside rest : List ℕ) → EndsFirst inside → ¬ (text ≡ piece_text (Comment inside) rest)

-- the text is a comment and the rest
pub record IsAfterComment (text rest : List ℕ) : Type 0 where
  pub inside : List ℕ
  pub first : EndsFirst inside
  pub cut : text ≡ piece_text (Comment inside) rest

-- one of them sniffs as HTML where the other does
abbrev pub SniffsAlike : List ℕ → List ℕ → Type 0
SniffsAlike window rest = (SniffsHtml window → SniffsHtml rest) × (SniffsHtml rest → SniffsHtml window)
