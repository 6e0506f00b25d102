-- What the answers of a run say of the bytes read and written, and of the counts of faults.
use Rattle.std.specs.Prelude.{◌≡◌, ℕ, ◌<◌, ◌≤◌, Bool, true, false, List, [], ◌∷◌, ◌++◌, length, take, Option}
use Rattle.orb_bytes.specs.Ascii.{line_feed}
use Rattle.orb_io.specs.Told.{Loses, IsAtEnd, IsPrefix, Rose}
use Rattle.orb_io.specs.declared.pulling.TheConstants.{MOST_OF_A_RUN}
use Rattle.http_exchange.specs.HeadTexts.{IsOpenHead}
use Rattle.computed_type.specs.declared.outcome.TypeOutcome.{TypeOutcome}
use Rattle.computed_type.specs.declared.outcome.TypeOutcome.TheVariants as outcome
use Rattle.computed_type.specs.Computed.{HasType}
use Rattle.signatures.specs.Window.{window_of}
use Rattle.computed_type.specs.Inputs.{IsTooLong, IsRefused, IsBegun, IsOpen}

-- the bytes are a response, and this holds of its computed type's line
pub record HasLine (read : List ℕ) (P : List ℕ → Type 0) : Type 0 where
  pub fields : List (List ℕ × List ℕ)
  pub body : List ℕ
  pub begun : IsBegun read fields body
  pub essence : List ℕ
  pub is : HasType fields (window_of body) essence
  pub holds : P (essence ++ line_feed ∷ [])

-- what an answer says of the bytes read, of whether the input has ended, and of the bytes written
abbrev pub TypeAnswers : TypeOutcome → (read : List ℕ) → (ended : Bool) → (wrote : List ℕ) → Type 0
TypeAnswers outcome.Done read ended wrote = (ended ≡ true) × HasLine read (λ line. wrote ≡ line)
TypeAnswers (outcome.Bad kind) read ended wrote = IsRefused read kind × (wrote ≡ [])
TypeAnswers outcome.Cut read ended wrote = (ended ≡ true) × IsOpenHead read × (wrote ≡ [])
TypeAnswers outcome.HeadLimit read ended wrote = IsTooLong read × (wrote ≡ [])
TypeAnswers outcome.Endless read ended wrote =
    (MOST_OF_A_RUN < length read) × (ended ≡ false) × IsOpen (take MOST_OF_A_RUN read) × (wrote ≡ [])
TypeAnswers outcome.ReadFault read ended wrote = (ended ≡ false) × IsOpen read × (wrote ≡ [])
TypeAnswers outcome.WriteFault read ended wrote = (ended ≡ true) × HasLine read (λ line. IsPrefix wrote line)

-- the answer tells of a fault of the source or of the sink
abbrev pub is_fault : TypeOutcome → Bool
is_fault outcome.Done = false
is_fault (outcome.Bad kind) = false
is_fault outcome.Cut = false
is_fault outcome.HeadLimit = false
is_fault outcome.Endless = false
is_fault outcome.ReadFault = true
is_fault outcome.WriteFault = true

-- The bytes that the source lost, whether the input has ended, and what the answer says. More than one run takes are lost
-- only where the answer is Endless.
pub record Ran (answer : TypeOutcome) (left left' : Option (List ℕ)) (wrote : List ℕ) : Type 0 where
  pub read : List ℕ
  pub ended : Bool
  pub lost : Loses left left' read
  pub at_end : ended ≡ true → IsAtEnd left'
  pub fits : (answer ≡ outcome.Endless → ⊥) → length read ≤ MOST_OF_A_RUN
  pub answers : TypeAnswers answer read ended wrote

-- A read fault comes only where the source's count rose, a write fault only where the sink's did. Every other count is as it
-- was.
abbrev pub RunCauses : TypeOutcome → (source source' sink sink' : ℕ) → Type 0
RunCauses outcome.ReadFault source source' sink sink' = Rose source source' × (sink' ≡ sink)
RunCauses outcome.WriteFault source source' sink sink' = (source' ≡ source) × Rose sink sink'
RunCauses answer source source' sink sink' = (source' ≡ source) × (sink' ≡ sink)
