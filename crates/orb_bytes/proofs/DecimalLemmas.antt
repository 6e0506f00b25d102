-- Numbers as they are read, a digit at a time.
use Rattle.std.proofs.Common.{◌≡◌, ℕ, ◌+◌, ◌-◌, ◌*◌, ◌<◌, ◌≤◌, ◌^◌, true, lit<, arith}
use Rattle.std.proofs.lemmas.Grind.{pow_more}
use Rattle.std.proofs.lemmas.Bool.Decides.{nat_tests}
use Rattle.std.proofs.Math.Nat.{pow-le-pow_right}
use Rattle.std.specs.Char.{is_ascii_digit, digit_value}

-- one digit more needs one place more
pub one_digit_more : (n d k : ℕ) → n < 10 ^ k → d ≤ 9 → n * 10 + d < 10 ^ (k + 1)
one_digit_more n d k fits digit = omega (arith, pow_more 10 k)

-- 19 digits fit 64 bits
pub digits_fit : (n k : ℕ) → n < 10 ^ k → k ≤ 19 → n < 2 ^ 64
digits_fit n k fits few =
    let ten : 0 < 10 = lit< tt in omega (arith, pow-le-pow_right {n = 10} ten few)

-- what an ASCII digit stands for
pub digit_value-ascii : (b : ℕ) → is_ascii_digit b ≡ true → digit_value b ≡ b - 48
digit_value-ascii b digit = grind (arith, nat_tests)

pub ascii_digit_bounds : (b : ℕ) → is_ascii_digit b ≡ true → (48 ≤ b) × (b ≤ 57)
ascii_digit_bounds b digit = grind (arith, nat_tests)
