-- What an answer to the words `serve` and `proxy` says.
use Rattle.std.specs.Prelude.{ℕ, List, Option}
use Rattle.orb_io.specs.Told.{Told}
use Rattle.command_line.specs.Taken.{Text, Asked, IsTaken}
use Rattle.orb_cli.specs.declared.outcome.ServeOutcome.{ServeOutcome}
use Rattle.orb_cli.specs.declared.outcome.ServeOutcome.TheVariants as serving
use Rattle.orb_cli.specs.Serving.{Served, ServesNone}

-- the words, of which this is the first, ask that connections are served, and this holds of their number
pub record AsksToServe (Word : Text → ℕ → Asked) (words : List Text) (IsDone : (count : ℕ) → Type 0) : Type 0 where
  pub address : Text
  pub count : ℕ
  pub taken : IsTaken words (Word address count)
  pub done : IsDone count

-- the words ask for nothing of that kind
abbrev pub AsksNotToServe : (Word : Text → ℕ → Asked) → List Text → Type 0
AsksNotToServe Word words = (address : Text) (count : ℕ) → IsTaken words (Word address count) → ⊥

-- what the answer says: `Usage` to words that don't ask for it, and to no others
abbrev pub IsServeAnswer : {A : Type 0} → (Word : Text → ℕ → Asked) → (status : A → ℕ) → List Text → (handed handed' : Option ℕ) → (log log' : Told) → ServeOutcome → Type 0
IsServeAnswer Word status words handed handed' log log' serving.Usage = AsksNotToServe Word words × ServesNone handed handed' log log'
IsServeAnswer Word status words handed handed' log log' serving.NoMemory = ServesNone handed handed' log log'
IsServeAnswer Word status words handed handed' log log' answer =
    AsksToServe Word words (λ count. Served status count handed handed' log log' answer)
