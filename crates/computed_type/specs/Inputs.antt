-- An input that is a response head and then its body, as it is, up to the end (RFC 9112 2.1).
use Rattle.std.specs.Prelude.{◌≡◌, ℕ, ◌⊎◌, false, List, ◌++◌, Ok, Err}
use Rattle.header_values.specs.Fields.{pairs_in}
use Rattle.http_exchange.specs.declared.refusals.BadKind.{BadKind}
use Rattle.http_exchange.specs.declared.response.ResponseHead.{ResponseHead}
use Rattle.http_exchange.specs.HeadTexts.{IsHeadText, IsOpenHead, IsLongHead}
use Rattle.http_exchange.specs.Reading.{ReadsResponseHead}

-- the bytes are more than a head may have, and hold no end of one
pub record IsTooLong (m : List ℕ) : Type 0 where
  pub prefix : List ℕ
  pub rest : List ℕ
  pub cut : m ≡ prefix ++ rest
  pub long : IsLongHead prefix

-- the bytes begin with a head that is refused, where the request's method isn't HEAD
pub record IsRefused (m : List ℕ) (kind : BadKind) : Type 0 where
  pub head : List ℕ
  pub rest : List ℕ
  pub cut : m ≡ head ++ rest
  pub text : IsHeadText head
  pub refused : ReadsResponseHead head false (Err kind)

-- the text is a response head that isn't refused, with these fields
pub record HasFields (head : List ℕ) (fields : List (List ℕ × List ℕ)) : Type 0 where
  pub read : ResponseHead
  pub is : ReadsResponseHead head false (Ok read)
  pub are : fields ≡ pairs_in read.fields

-- the bytes are such a head, and this much of the body
pub record IsBegun (m : List ℕ) (fields : List (List ℕ × List ℕ)) (body : List ℕ) : Type 0 where
  pub head : List ℕ
  pub cut : m ≡ head ++ body
  pub text : IsHeadText head
  pub stated : HasFields head fields

-- the head may still come, or it has come and isn't refused
abbrev pub IsOpen : List ℕ → Type 0
IsOpen m = IsOpenHead m ⊎ ((fields : List (List ℕ × List ℕ)) × (body : List ℕ) × IsBegun m fields body)
