-- Tests of the offsets below an end.
use Rattle.std.proofs.Common.{◌≡◌, ℕ, zero, suc, ◌<◌, Bool, true, false, Decides, refl, arith}
use Rattle.std.proofs.lemmas.Bool.Decides.{Decides-below_or}
use Rattle.signatures.specs.Patterns.{some_below}

-- the test of the offsets is the existence of one
pub some_below-Decides : (test : ℕ → Bool) (n : ℕ) → Decides (some_below n test) ((k : ℕ) × (k < n) × (test k ≡ true))
unfolding some_below
some_below-Decides test n =
    Decides-below_or test (λ k. test k ≡ true) (λ m. some_below m test) (λ k. (λ is. is, λ is. is)) refl (λ m. refl) n

-- one offset settles it
pub some_below-at : (test : ℕ → Bool) (n k : ℕ) → k < n → test k ≡ true → some_below n test ≡ true
some_below-at test n k within is = (some_below-Decides test n).1 (k, within, is)

-- and nothing is found where no offset passes
pub some_below-none : (test : ℕ → Bool) (n : ℕ) → ((k : ℕ) → k < n → test k ≡ false) → some_below n test ≡ false
unfolding some_below
some_below-none test zero none = refl
some_below-none test (suc n) none =
    rw (none n (omega arith)) (some_below-none test n (λ k below. none k (omega arith)))
