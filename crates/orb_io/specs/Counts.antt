-- Counts, which stay at the last u64.
use Rattle.std.specs.Prelude.{◌≡◌, ℕ, ◌+◌, ◌-◌, ◌^◌, min, Result, Ok, Err}

-- a count after one more
abbrev pub one_more : ℕ → ℕ
one_more n = min (n + 1) (2 ^ 64 - 1)

-- an `Err` counts one fault, and an `Ok` none
abbrev pub CountsFault : {T E : Type 0} → ℕ → ℕ → Result T E → Type 0
CountsFault before after (Ok value) = after ≡ before
CountsFault before after (Err failed) = after ≡ one_more before

-- the same value and no fault, or an error and one fault
abbrev pub IsCounted : {T E F : Type 0} → (outcome : Result T E) → (answer : Result T F) → ℕ → ℕ → Type 0
IsCounted (Ok value) (Ok same) before after = (same ≡ value) × (after ≡ before)
IsCounted (Ok value) (Err failed) before after = ⊥
IsCounted (Err error) (Ok value) before after = ⊥
IsCounted (Err error) (Err failed) before after = after ≡ one_more before
