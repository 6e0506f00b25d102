-- What gathering the bytes of a head does with a piece.
use Rattle.std.specs.Prelude.{◌≡◌, ℕ, ◌+◌, ◌≤◌, List, ◌++◌, length, take, Option, Some, None}
use Rattle.http_exchange.specs.Head.{head_length}
use Rattle.http_exchange.specs.declared.gathering.HeadTaken.{HeadTaken}
use Rattle.http_exchange.specs.declared.gathering.HeadTaken.TheVariants as taken
use Rattle.http_exchange.specs.HeadTexts.{IsHeadText, IsOpenHead, IsLongHead}

-- the first empty line of the text and the piece after it ends after so many bytes of the piece, or there is none
abbrev pub EndsAfter : (text piece : List ℕ) → Option ℕ → Type 0
EndsAfter text piece None = head_length (text ++ piece) ≡ None
EndsAfter text piece (Some used) =
    (head_length (text ++ piece) ≡ Some (length text + used)) × (1 ≤ used) × (used ≤ length piece)

-- after the bytes `before`, the piece was taken as this says
abbrev pub TakesHead : (before after piece : List ℕ) → HeadTaken → Type 0
TakesHead before after piece taken.Open = (after ≡ before ++ piece) × IsOpenHead after
TakesHead before after piece taken.Long =
    (prefix : List ℕ) × (rest : List ℕ) × (piece ≡ prefix ++ rest) × (after ≡ before ++ prefix) × IsLongHead after
TakesHead before after piece (taken.Whole used) =
    (1 ≤ used) × (used ≤ length piece) × (after ≡ before ++ take used piece) × IsHeadText after
