-- Choices by tests: which way one went, and that it goes the way of its test.
use Rattle.std.proofs.Common.{◌≡◌, ℕ, Bool, true, false, ◌&&◌, ◌||◌, not, ◌==◌, if◌then◌else◌, ◌⊎◌, inl, inr, refl, arith}
use Rattle.std.proofs.lemmas.Bool.Decides.{nat_tests}

pub split : {A : Type 0} (P : A → Type 0) (b : Bool) (x y : A) → P (if b then x else y) → ((b ≡ true) × P x) ⊎ ((b ≡ false) × P y)
split P true x y h = inl (refl, h)
split P false x y h = inr (refl, h)

pub then_in : {A : Type 0} (P : A → Type 0) (b : Bool) (x y : A) → b ≡ true → P x → P (if b then x else y)
then_in P true x y e h = h
then_in P false x y e h = absurd cc

pub else_in : {A : Type 0} (P : A → Type 0) (b : Bool) (x y : A) → b ≡ false → P y → P (if b then x else y)
else_in P true x y e h = absurd cc
else_in P false x y e h = h

pub is_same : (c n : ℕ) → (c == n) ≡ true → c ≡ n
is_same c n h = grind (arith, nat_tests)

pub test_same : (c n : ℕ) → c ≡ n → (c == n) ≡ true
test_same c n h = grind (arith, nat_tests)

pub or_cases : (a b : Bool) → (a || b) ≡ true → (a ≡ true) ⊎ (b ≡ true)
or_cases true b h = inl refl
or_cases false b h = inr h

pub not_or : (a b : Bool) → not (a || b) ≡ true → (a ≡ false) × (not b ≡ true)
not_or true b h = absurd cc
not_or false b h = (refl, h)

pub not_true : (a : Bool) → not a ≡ true → a ≡ false
not_true true h = absurd cc
not_true false h = refl

pub true_not : (a : Bool) → a ≡ false → not a ≡ true
true_not true h = absurd cc
true_not false h = refl

pub or_not : (a b : Bool) → a ≡ false → not b ≡ true → not (a || b) ≡ true
or_not true b e h = absurd cc
or_not false b e h = h

pub and_left : (a b : Bool) → (a && b) ≡ true → a ≡ true
and_left true b h = refl
and_left false b h = absurd cc

pub and_right : (a b : Bool) → (a && b) ≡ true → b ≡ true
and_right true b h = h
and_right false b h = absurd cc

pub and_both : (a b : Bool) → a ≡ true → b ≡ true → (a && b) ≡ true
and_both true b e h = h
and_both false b e h = absurd cc

-- a test that can't be both
pub never : {A : Type 0} (b : Bool) → b ≡ true → b ≡ false → A
never true h e = absurd cc
never false h e = absurd cc

pub if_true : (b x : Bool) → b ≡ true → (if b then true else x) ≡ true
if_true true x h = refl
if_true false x h = absurd cc

pub if_false : (b x : Bool) → b ≡ false → (if b then true else x) ≡ x
if_false true x h = absurd cc
if_false false x h = refl
