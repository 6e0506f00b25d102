-- What an answer to the word `type` says of the bytes read and written.
use Rattle.std.specs.Prelude.{◌≡◌, ℕ, Bool, List, []}
use Rattle.computed_type.specs.Answers.{TypeAnswers}
use Rattle.computed_type.specs.declared.outcome.TypeOutcome.TheVariants as types
use Rattle.orb_cli.specs.declared.outcome.Outcome.{Outcome}
use Rattle.orb_cli.specs.declared.outcome.Outcome.TheVariants as outcomes

-- a refusal names the first byte of the head, which is the first of the input
abbrev pub IsTypeAnswer : (read : List ℕ) (ended : Bool) (wrote : List ℕ) → Outcome → Type 0
IsTypeAnswer read ended wrote outcomes.Done = TypeAnswers types.Done read ended wrote
IsTypeAnswer read ended wrote (outcomes.Bad kind place) = (place ≡ 0) × TypeAnswers (types.Bad kind) read ended wrote
IsTypeAnswer read ended wrote (outcomes.Cut place) = (place ≡ 0) × TypeAnswers types.Cut read ended wrote
IsTypeAnswer read ended wrote (outcomes.HeadLimit place) = (place ≡ 0) × TypeAnswers types.HeadLimit read ended wrote
IsTypeAnswer read ended wrote outcomes.Endless = TypeAnswers types.Endless read ended wrote
IsTypeAnswer read ended wrote outcomes.ReadFault = TypeAnswers types.ReadFault read ended wrote
IsTypeAnswer read ended wrote outcomes.WriteFault = TypeAnswers types.WriteFault read ended wrote
IsTypeAnswer read ended wrote outcomes.NoMemory = (read ≡ []) × (wrote ≡ [])
IsTypeAnswer read ended wrote _ = ⊥
