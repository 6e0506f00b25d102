-- A window with white space or a comment taken away sniffs alike.
use Rattle.std.proofs.Common.{◌≡◌, ℕ, true, false, List, [], ◌∷◌, ◌++◌, codes, sym, ap, inl, inr}
use Rattle.std.proofs.lemmas.Bool.{cases_Bool}
use Rattle.orb_bytes.specs.Bytes.{is_whitespace_byte}
use Rattle.orb_bytes.specs.Trim.{without_leading}
use Rattle.orb_bytes.proofs.TrimLemmas.{without_leading-more, without_leading-stop}
use Rattle.corb_sniffers.specs.Html.{Piece, Space, Comment, ArePieces, EndsFirst, piece_text, pieces_text, BeginsWithTag, SniffsHtml}
use Rattle.corb_sniffers.specs.HtmlReading.{SniffsAlike, IsNoComment, IsNoSpace}
use Rattle.corb_sniffers.proofs.CommentLemmas.{same_inside}
use Rattle.corb_sniffers.proofs.TagLemmas.{tag_is_no_comment, tag_is_no_space}

-- white space
space_to : (b : ℕ) (text : List ℕ) → is_whitespace_byte b ≡ true → SniffsHtml (b ∷ text) → SniffsHtml text
space_to b text space h = from h.pieces h.good h.cut where
  from : (pieces : List Piece) → ArePieces pieces → b ∷ text ≡ pieces_text pieces h.rest → SniffsHtml text
  from [] good cut = absurd (tag_is_no_space b text space (rw (sym cut) at h.tag))
  from (Space c ∷ pieces) good cut =
      let same : text ≡ pieces_text pieces h.rest = cc in
      record { pieces = pieces; good = good.1; rest = h.rest; cut = same; tag = h.tag }
  from (Comment inside ∷ pieces) good cut =
      let lie : b ≡ 60 = cc in
      let none : is_whitespace_byte b ≡ false = ap is_whitespace_byte lie in absurd (cc)

pub with_space : (b : ℕ) (text : List ℕ) → is_whitespace_byte b ≡ true → SniffsHtml text → SniffsHtml (b ∷ text)
with_space b text space h =
    record { pieces = Space b ∷ h.pieces; good = (space, h.good); rest = h.rest; cut = ap (λ t. b ∷ t) h.cut; tag = h.tag }

pub spaces_alike : (text : List ℕ) → SniffsAlike text (without_leading is_whitespace_byte text)
spaces_alike [] = (λ h. h, λ h. h)
spaces_alike (b ∷ text) =
    elim (cases_Bool (is_whitespace_byte b)) [
      | inl space ↦
          let more = spaces_alike text in
          rw (without_leading-more is_whitespace_byte b text space) (λ h. more.0 (space_to b text space h), λ h. with_space b text space (more.1 h))
      | inr other ↦ rw (without_leading-stop is_whitespace_byte b text other) (λ h. h, λ h. h)
    ]

-- comments
comment_to : (inside text : List ℕ) → EndsFirst inside → SniffsHtml (piece_text (Comment inside) text) → SniffsHtml text
comment_to inside text first h = from h.pieces h.good h.cut where
  from : (pieces : List Piece) → ArePieces pieces → piece_text (Comment inside) text ≡ pieces_text pieces h.rest → SniffsHtml text
  from [] good cut = absurd (tag_is_no_comment (inside ++ (codes "-->" ++ text)) (rw (sym cut) at h.tag))
  from (Space c ∷ pieces) good cut =
      let lie : 60 ≡ c = cc in
      let none : is_whitespace_byte c ≡ false = ap is_whitespace_byte (sym lie) in absurd (cc (good.0))
  from (Comment other ∷ pieces) good cut =
      let same : inside ++ (codes "-->" ++ text) ≡ other ++ (codes "-->" ++ pieces_text pieces h.rest) = cc in
      record { pieces = pieces; good = good.1; rest = h.rest; cut = same_inside inside other text (pieces_text pieces h.rest) first good.0 same; tag = h.tag }

pub comment_alike : (inside text : List ℕ) → EndsFirst inside → SniffsAlike (piece_text (Comment inside) text) text
comment_alike inside text first = (
  comment_to inside text first,
  λ h. record { pieces = Comment inside ∷ h.pieces; good = (first, h.good); rest = h.rest; cut = ap (piece_text (Comment inside)) h.cut; tag = h.tag },
)

-- a window before which neither stands
pub tag_first : (window : List ℕ) → IsNoSpace window → IsNoComment window → SniffsHtml window → BeginsWithTag window
tag_first window spaces none h = from h.pieces h.good h.cut where
  from : (pieces : List Piece) → ArePieces pieces → window ≡ pieces_text pieces h.rest → BeginsWithTag window
  from [] good cut = rw (sym cut) at h.tag
  from (Space c ∷ pieces) good cut = let outside = spaces c (pieces_text pieces h.rest) cut in absurd (cc (good.0))
  from (Comment inside ∷ pieces) good cut = absurd (none inside (pieces_text pieces h.rest) good.0 cut)
