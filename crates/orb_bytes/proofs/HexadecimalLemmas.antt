-- Hexadecimal digits.
use Rattle.std.proofs.Common.{◌≡◌, ℕ, suc, ◌/◌, ◌%◌, ◌<◌, ◌≤◌, ◌==◌, Bool, true, false, nat_lt, List, [], ◌∷◌, length, refl, ap, ◌∙◌, arith}
use Rattle.std.specs.Fmt.{digits, digits_onto, digit_glyph}
use Rattle.std.proofs.lemmas.Bool.Decides.{nat_tests}

-- the last digit, and the one before another
last_by : (k n : ℕ) (acc : List ℕ) → n / 16 ≡ 0 → digits_onto (suc k) 16 false n acc ≡ digit_glyph false (n % 16) ∷ acc
last_by k n acc e = rw e refl

nonzero : (n : ℕ) → 1 ≤ n → (n == 0) ≡ false
nonzero n some = grind (arith, nat_tests)

more_by : (k n : ℕ) (acc : List ℕ) → 1 ≤ n / 16
    → digits_onto (suc k) 16 false n acc ≡ digits_onto k 16 false (n / 16) (digit_glyph false (n % 16) ∷ acc)
more_by k n acc some = rw (nonzero (n / 16) some) refl

pub one_digit : (n : ℕ) → n < 16 → digits 16 false n ≡ digit_glyph false (n % 16) ∷ []
unfolding digits
one_digit n small = last_by 63 n [] (omega arith)

pub two_digits : (n : ℕ) → 16 ≤ n → n < 256
    → digits 16 false n ≡ digit_glyph false (n / 16 % 16) ∷ digit_glyph false (n % 16) ∷ []
unfolding digits
two_digits n low high =
    more_by 63 n [] (omega arith) ∙ last_by 62 (n / 16) (digit_glyph false (n % 16) ∷ []) (omega arith)

pub three_digits : (n : ℕ) → 256 ≤ n → n < 4096
    → digits 16 false n ≡ digit_glyph false (n / 256) ∷ digit_glyph false (n / 16 % 16) ∷ digit_glyph false (n % 16) ∷ []
unfolding digits
three_digits n low high =
    more_by 63 n [] (omega arith)
    ∙ (more_by 62 (n / 16) (digit_glyph false (n % 16) ∷ []) (omega arith)
    ∙ (last_by 61 (n / 16 / 16) (digit_glyph false (n / 16 % 16) ∷ digit_glyph false (n % 16) ∷ []) (omega arith)
    ∙ ap (λ d. digit_glyph false d ∷ digit_glyph false (n / 16 % 16) ∷ digit_glyph false (n % 16) ∷ [])
    (let e : n / 16 / 16 % 16 ≡ n / 256 = omega arith in e)))

pub three_at_most : (n : ℕ) → n < 4096 → length (digits 16 false n) ≤ 3
three_at_most n high = first (nat_lt n 16) refl
  where
    second : (b : Bool) → 16 ≤ n → nat_lt n 256 ≡ b → length (digits 16 false n) ≤ 3
    second true low is = omega (arith, ap length (two_digits n low (grind (arith, nat_tests, is))))
    second false low is = omega (arith, ap length (three_digits n (grind (arith, nat_tests, is)) high))

    first : (b : Bool) → nat_lt n 16 ≡ b → length (digits 16 false n) ≤ 3
    first true is = omega (arith, ap length (one_digit n (grind (arith, nat_tests, is))))
    first false is = second (nat_lt n 256) (grind (arith, nat_tests, is)) refl
