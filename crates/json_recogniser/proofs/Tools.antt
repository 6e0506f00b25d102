-- What a step of reading that gave something did.
use Rattle.std.proofs.Common.{◌≡◌, Bool, true, false, cond, ◌⊎◌, inl, inr, Option, Some, None, refl, option_and_then, option_map}
use Rattle.std.specs.Option.{option_or}

pub nothing : {A : Type 0} {P : Type 0} {x : A} → None ≡ Some x → P
nothing h = absurd (cc)

pub same_some : {A : Type 0} {x y : A} → Some x ≡ Some y → x ≡ y
same_some h = cc

-- the first step gave something, and the second too
pub both_steps : {A B : Type 0} (f : A → Option B) (o : Option A) (r : B) → option_and_then f o ≡ Some r → (s : A) × (o ≡ Some s) × (f s ≡ Some r)
both_steps f None r h = absurd (cc)
both_steps f (Some s) r h = (s, refl, h)

pub mapped : {A B : Type 0} (f : A → B) (o : Option A) (r : B) → option_map f o ≡ Some r → (s : A) × (o ≡ Some s) × (f s ≡ r)
mapped f None r h = absurd (cc)
mapped f (Some s) r h = (s, refl, same_some h)

pub one_or_other : {A : Type 0} (o p : Option A) (r : A) → option_or o p ≡ Some r → (o ≡ Some r) ⊎ (p ≡ Some r)
one_or_other None p r h = inr h
one_or_other (Some x) p r h = inl h

pub by_test : {A : Type 0} (b : Bool) (x y : Option A) (r : A) → cond b x y ≡ Some r → ((b ≡ true) × (x ≡ Some r)) ⊎ ((b ≡ false) × (y ≡ Some r))
by_test true x y r h = inl (refl, h)
by_test false x y r h = inr (refl, h)

pub when_true : {A : Type 0} (b : Bool) (x : Option A) (r : A) → cond b x None ≡ Some r → (b ≡ true) × (x ≡ Some r)
when_true true x r h = (refl, h)
when_true false x r h = absurd (cc)
