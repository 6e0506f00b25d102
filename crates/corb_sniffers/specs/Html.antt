-- HTML as the CORB explainer confirms it: white space and comments, and then a tag of WHATWG MIME Sniffing 7.1.
use Rattle.std.specs.Prelude.{◌≡◌, ℕ, ◌<◌, List, [], ◌∷◌, ◌++◌, length, codes, true}
use Rattle.memchr.specs.Find.{OccursAt}
use Rattle.corb_sniffers.specs.Texts.{IsListed}
use Rattle.orb_bytes.specs.Bytes.{is_whitespace_byte, is_tag_terminating}
use Rattle.orb_bytes.specs.Fields.{same_name}

-- what may stand before the first tag
pub data Piece : Type 0 where
  Space : ℕ → Piece
  Comment : (inside : List ℕ) → Piece

-- how a piece is spelled, before what follows
abbrev pub piece_text : Piece → List ℕ → List ℕ
piece_text (Space b) rest = b ∷ rest
piece_text (Comment inside) rest = codes "<!--" ++ (inside ++ (codes "-->" ++ rest))

abbrev pub pieces_text : List Piece → List ℕ → List ℕ
pieces_text [] rest = rest
pieces_text (piece ∷ pieces) rest = piece_text piece (pieces_text pieces rest)

-- the first `-->` after `<!--` is the one that ends the comment. So it begins at the comment's offset 4 or later: `<!-->`
-- and `<!--->` are no comments
abbrev pub EndsFirst : List ℕ → Type 0
EndsFirst inside = (k : ℕ) → k < length inside → ¬ OccursAt (inside ++ codes "-->") (codes "-->") k

abbrev pub IsPiece : Piece → Type 0
IsPiece (Space b) = is_whitespace_byte b ≡ true
IsPiece (Comment inside) = EndsFirst inside

abbrev pub ArePieces : List Piece → Type 0
ArePieces [] = Unit {0}
ArePieces (piece ∷ pieces) = IsPiece piece × ArePieces pieces

-- WHATWG MIME Sniffing 7.1, without the comment
abbrev pub tags : List (List ℕ)
tags =
    codes "<!DOCTYPE HTML" ∷ codes "<HTML" ∷ codes "<HEAD" ∷ codes "<SCRIPT" ∷ codes "<IFRAME" ∷ codes "<H1"
    ∷ codes "<DIV" ∷ codes "<FONT" ∷ codes "<TABLE" ∷ codes "<A" ∷ codes "<STYLE" ∷ codes "<TITLE" ∷ codes "<B"
    ∷ codes "<BODY" ∷ codes "<BR" ∷ codes "<P" ∷ []

-- the text begins with a tag, its letters in either case, and a byte that ends it
pub record BeginsWithTag (text : List ℕ) : Type 0 where
  pub tag : List ℕ
  pub listed : IsListed tags tag
  pub written : List ℕ
  pub same : same_name written tag ≡ true
  pub ending : ℕ
  pub ends : is_tag_terminating ending ≡ true
  pub rest : List ℕ
  pub cut : text ≡ written ++ (ending ∷ rest)

-- the window is white space and comments, and then what begins with a tag
pub record SniffsHtml (window : List ℕ) : Type 0 where
  pub pieces : List Piece
  pub good : ArePieces pieces
  pub rest : List ℕ
  pub cut : window ≡ pieces_text pieces rest
  pub tag : BeginsWithTag rest
