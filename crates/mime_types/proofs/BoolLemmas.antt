-- Tests that are negated or joined.
use Rattle.std.proofs.Common.{◌≡◌, Bool, true, false, not, ◌||◌, refl}

pub not_from_never : (v : Bool) → (v ≡ true → ⊥) → not v ≡ true
not_from_never true never = absurd (never refl)
not_from_never false never = refl

pub false_from_not : (v : Bool) → not v ≡ true → v ≡ false
false_from_not true is = absurd (cc)
false_from_not false is = refl

pub true_from_not_not : (v : Bool) → not (not v) ≡ true → v ≡ true
true_from_not_not true is = refl
true_from_not_not false is = absurd (cc)

pub or_parts : (x y : Bool) → (x || y) ≡ false → (x ≡ false) × (y ≡ false)
or_parts true y none = absurd (cc)
or_parts false y none = (refl, none)
