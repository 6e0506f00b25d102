-- What reading a part of an input answers; private contracts cite it.
use Rattle.std.specs.Prelude.{◌≡◌, ℕ, ◌+◌, ◌<◌, ◌≤◌, ◌^◌, List, ◌++◌, length, Option, Result, Ok, Err}
use Rattle.orb_io.specs.Told.{Loses, IsAtEnd, Rose}
use Rattle.http_exchange.specs.HeadTexts.{IsHeadText, IsOpenHead}
use Rattle.computed_type.specs.declared.outcome.TypeOutcome.{TypeOutcome}
use Rattle.computed_type.specs.declared.outcome.TypeOutcome.TheVariants as outcome
use Rattle.signatures.specs.Window.{window_of}
use Rattle.computed_type.specs.Inputs.{IsTooLong}

-- the source lost some bytes, and this holds of them
pub record Reads (left left' : Option (List ℕ)) (P : List ℕ → Type 0) : Type 0 where
  pub bytes : List ℕ
  pub lost : Loses left left' bytes
  pub holds : P bytes

-- the bytes are this head and some of the body, whose window is this
pub record HasHead (head window read : List ℕ) : Type 0 where
  pub body : List ℕ
  pub cut : read ≡ head ++ body
  pub text : IsHeadText head
  pub seen : window ≡ window_of body

-- what reading a head answers, of the bytes of the head, the window, and all that was read
abbrev pub HeadAnswers : Result ℕ TypeOutcome → (head window : List ℕ) → (left' : Option (List ℕ)) → (read : List ℕ) → Type 0
HeadAnswers (Ok taken) head window left' read = (taken ≡ length read) × (taken ≤ 2 ^ 62) × HasHead head window read
HeadAnswers (Err outcome.Cut) head window left' read = IsAtEnd left' × (length read ≤ 2 ^ 62) × IsOpenHead read
HeadAnswers (Err outcome.HeadLimit) head window left' read = (length read ≤ 2 ^ 62) × IsTooLong read
HeadAnswers (Err outcome.ReadFault) head window left' read = (length read ≤ 2 ^ 62) × IsOpenHead read
HeadAnswers (Err other) head window left' read = ⊥

-- what reading a body answers, after so many bytes of the input and these windows before and after it, of what was read
abbrev pub BodyAnswers : Result (Unit {0}) TypeOutcome → (taken : ℕ) → (seen window : List ℕ) → (left' : Option (List ℕ)) → (more : List ℕ) → Type 0
BodyAnswers (Ok done) taken seen window left' more =
    IsAtEnd left' × (taken + length more ≤ 2 ^ 62)
    × ((body : List ℕ) → seen ≡ window_of body → window ≡ window_of (body ++ more))
BodyAnswers (Err outcome.ReadFault) taken seen window left' more = taken + length more ≤ 2 ^ 62
BodyAnswers (Err outcome.Endless) taken seen window left' more = 2 ^ 62 < taken + length more
BodyAnswers (Err other) taken seen window left' more = ⊥

-- only a read fault raises the source's count
abbrev pub ReadCauses : {T : Type 0} → Result T TypeOutcome → (source source' : ℕ) → Type 0
ReadCauses (Err outcome.ReadFault) source source' = Rose source source'
ReadCauses result source source' = source' ≡ source
