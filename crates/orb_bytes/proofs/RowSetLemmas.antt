-- Sets of rows, index by index.
use Rattle.std.proofs.Common.{◌≡◌, ◌≢◌, ℕ, ◌-◌, ◌*◌, ◌%◌, ◌^◌, ◌<◌, true, false, not, ◌&&◌, ◌||◌, ◌==◌, nat_lt, max, bit_and, ◌⊎◌, inl, inr, refl, sym, ap, ◌∙◌, eq-eqb, ne_eqb, arith}
use Rattle.std.specs.Prelude.{bit_or, MatchBool}
use Rattle.std.specs.Int.{bit_at, trailing_zeros, w32}
use Rattle.std.proofs.lemmas.Bool.{cases_eq, cases_lt}
use Rattle.std.proofs.lemmas.Bool.Decides.{nat_tests}
use Rattle.std.proofs.lemmas.Nat.{and_le_l}
use Rattle.std.proofs.lemmas.Nat.Bits.{bit_at-lt, bit_at_or, bit_at-zero, bit_at_ones, bit_at_ones_above, bit_at_set_same, bit_at_set_other, bit_at_clear_same, bit_at_clear_other, bit_at_above, bit_at-trailing_zeros}

-- a bit is 0 or 1
pub is_bit : (n i : ℕ) → (bit_at n i ≡ 0) ⊎ (bit_at n i ≡ 1)
is_bit n i = elim (cases_lt (bit_at n i) 1) [
  | inl none ↦ inl (omega arith)
  | inr some ↦ inr (omega (arith, bit_at-lt n i))
]

pub bit_at_ones-lt : (n i : ℕ) → (bit_at (2 ^ n - 1) i == 1) ≡ nat_lt i n
bit_at_ones-lt n i = elim (cases_lt i n) [
  | inl below ↦ rw (bit_at_ones n i below) (grind (arith, nat_tests))
  | inr above ↦ rw (bit_at_ones_above n i above) (grind (arith, nat_tests))
]

pub bit_at_or-eqb : (a b i : ℕ) → (bit_at (bit_or a b) i == 1) ≡ (bit_at a i == 1 || bit_at b i == 1)
bit_at_or-eqb a b i = rw (bit_at_or a b i) (both (is_bit a i) (is_bit b i)) where
  both : ((bit_at a i ≡ 0) ⊎ (bit_at a i ≡ 1)) → ((bit_at b i ≡ 0) ⊎ (bit_at b i ≡ 1))
      → (max (bit_at a i) (bit_at b i) == 1) ≡ (bit_at a i == 1 || bit_at b i == 1)
  both (inl x) (inl y) = rw (x, y) refl
  both (inl x) (inr y) = rw (x, y) refl
  both (inr x) (inl y) = rw (x, y) refl
  both (inr x) (inr y) = rw (x, y) refl

-- `bits | 1 << index`
pub set-eqb : (n k : ℕ) → k < 32 → (i : ℕ)
    → (bit_at (bit_or n (1 * 2 ^ k % 4294967296)) i == 1) ≡ (i == k || bit_at n i == 1)
set-eqb n k within i = elim (cases_eq i k) [
  | inl same ↦ rw (same, bit_at_set_same w32 n k within) (grind (arith, nat_tests))
  | inr other ↦ let apart : i ≢ k = other in rw (bit_at_set_other w32 n k within i apart) (grind (arith, nat_tests))
]

-- `bits & !(1 << index)`
pub clear-eqb : (n k : ℕ) → n < 4294967296 → k < 32 → (i : ℕ)
    → (bit_at (bit_and n (4294967295 - 1 * 2 ^ k % 4294967296)) i == 1) ≡ (not (i == k) && bit_at n i == 1)
clear-eqb n k small within i = elim (cases_eq i k) [
  | inl same ↦ rw (same, bit_at_clear_same w32 n k within) (grind (arith, nat_tests))
  | inr other ↦ elim (cases_lt i 32) [
    | inl below ↦ let apart : i ≢ k = other in
        rw (bit_at_clear_other w32 n k within i below apart) (grind (arith, nat_tests))
    | inr above ↦
        rw (
          bit_at_above n 32 i small above,
          bit_at_above (bit_and n (4294967295 - 1 * 2 ^ k % 4294967296)) 32 i (omega (arith, and_le_l n (4294967295 - 1 * 2 ^ k % 4294967296))) above,
        )
        (grind (arith, nat_tests))
  ]
]

-- clearing a bit that is set makes a number less
pub cleared_is_less : (n k : ℕ) → n < 4294967296 → k < 32 → (bit_at n k == 1) ≡ true
    → bit_and n (4294967295 - 1 * 2 ^ k % 4294967296) < n
cleared_is_less n k small within set =
    let most = and_le_l n (4294967295 - 1 * 2 ^ k % 4294967296) in
    elim (cases_eq (bit_and n (4294967295 - 1 * 2 ^ k % 4294967296)) n) [
      | inl same ↦
          let none : (bit_at n k == 1) ≡ false = ap (λ m. bit_at m k == 1) (sym same) ∙ rw (bit_at_clear_same w32 n k within) refl in
          absurd (cc)
      | inr less ↦ omega arith
    ]

-- 0 has no bit
pub zero-none : (n : ℕ) → n ≡ 0 → (i : ℕ) → (bit_at n i == 1) ≡ false
zero-none n is i = rw (is, bit_at-zero i) refl

-- the lowest bit that is set
pub first_set : (n : ℕ) → 0 < n → n < 4294967296 → (trailing_zeros w32 n < 32)
    × ((bit_at n (trailing_zeros w32 n) == 1) ≡ true) × ((i : ℕ) → i < trailing_zeros w32 n → (bit_at n i == 1) ≡ false)
first_set n some small =
    let facts = bit_at-trailing_zeros w32 n some small in
    (facts.0, eq-eqb (bit_at n (trailing_zeros w32 n)) 1 facts.1, λ i below. rw (facts.2 i below) refl)

-- a number is 0, or has a bit that is set
pub empty_or_some : (n : ℕ) → n < 4294967296
    → MatchBool (n == 0) ((i : ℕ) → (bit_at n i == 1) ≡ false) ((i : ℕ) × ((bit_at n i == 1) ≡ true))
empty_or_some n small = elim (cases_eq n 0) [
  | inl none ↦ rw (eq-eqb n 0 none) (zero-none n none)
  | inr some ↦ rw (ne_eqb n 0 some) (let facts = first_set n (omega arith) small in (trailing_zeros w32 n, facts.1))
]
