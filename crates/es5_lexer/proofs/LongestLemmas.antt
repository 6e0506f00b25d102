-- The longest token that a walk along a text finds is the longest, and there is none where it finds
-- none.
use Rattle.std.proofs.Common.{◌≡◌, ℕ, suc, ◌≤◌, true, Option, Some, None, List, [], ◌∷◌, ◌++◌, length, refl, sym, ap, subst, ◌∙◌, arith}
use Rattle.es5_lexer.specs.Places.{first, next, ended, is_dead}
use Rattle.es5_lexer.specs.Reading.{better, longest_from, longest_token}
use Rattle.es5_lexer.specs.PlaceResiduals.{IsKind, PlaceResidual}
use Rattle.es5_lexer.specs.declared.tokens.Goal.{Goal}
use Rattle.es5_lexer.specs.declared.places.Kind.{Kind}
use Rattle.es5_lexer.specs.declared.places.Place.{Place}
use Rattle.es5_lexer.specs.declared.places.Place.TheVariants.{Dead}
use Rattle.es5_lexer.specs.declared.longest.Longest.{Longest}
use Rattle.es5_lexer.proofs.PlaceLemmas.{goes, comes, ends_here, ended_rest}
use Rattle.es5_lexer.proofs.FirstLemmas.{first_goes, first_comes, empty_no_kind}

-- after Dead nothing is found
dead_stays : (best : Option Longest) (u : List ℕ) → longest_from Dead best u ≡ best
dead_stays best [] = refl
dead_stays best (c ∷ u) = dead_stays best u

dead_is : (s : Place) → is_dead s ≡ true → s ≡ Dead
dead_is Dead h = refl
dead_is _ h = absurd cc

pub dead_found : (s : Place) (best : Option Longest) (u : List ℕ) → is_dead s ≡ true → longest_from s best u ≡ best
dead_found s best u h = ap (λ (x : Place). longest_from x best u) (dead_is s h) ∙ dead_stays best u

-- no text of the beginning completes a token at the place
abbrev Nothing : Place → List ℕ → Type 0
Nothing s u = (a b : List ℕ) (k : Kind) → u ≡ a ++ b → PlaceResidual s k a → ⊥

-- a text of the beginning completes a token, and none that is longer does
record Something (s : Place) (u : List ℕ) (x : Longest) : Type 0 where
  pub prefix : List ℕ
  pub rest : List ℕ
  pub splits : u ≡ prefix ++ rest
  pub left : x.left ≡ length rest
  pub completes : PlaceResidual s x.kind prefix
  pub most : (a b : List ℕ) (k : Kind) → u ≡ a ++ b → PlaceResidual s k a → length a ≤ length prefix

-- what a walk finds from a place on, where the best so far was another's
data Outcome (s : Place) (prior : Option Longest) (u : List ℕ) (found : Option Longest) : Type 0 where
  same : found ≡ prior → Nothing s u → Outcome s prior u found
  better_one : (x : Longest) → found ≡ Some x → Something s u x → Outcome s prior u found

after : (s : Place) (c : ℕ) (u : List ℕ) (x : Longest) → Something (next s c) u x → Something s (c ∷ u) x
after s c u x h = record {
  prefix = c ∷ h.prefix;
  rest = h.rest;
  splits = ap (λ (w : List ℕ). c ∷ w) h.splits;
  left = h.left;
  completes = comes s x.kind c h.prefix h.completes;
  most = most_of;
}
  where
    most_of : (a b : List ℕ) (k : Kind) → c ∷ u ≡ a ++ b → PlaceResidual s k a → length a ≤ length (c ∷ h.prefix)
    most_of [] b k e r = omega arith
    most_of (d ∷ a) b k e r =
        let head : c ≡ d = cc in let tail : u ≡ a ++ b = cc in
        let fewer = h.most a b k tail (goes s k c a (subst (λ (x : ℕ). PlaceResidual s k (x ∷ a)) (sym head) r)) in
        omega arith

here : (s : Place) (c : ℕ) (u : List ℕ) (k : Kind) → ended s ≡ Some k → Nothing (next s c) u → Something s (c ∷ u) (record { kind = k; left = length (c ∷ u) })
here s c u k e none = record {
  prefix = [];
  rest = c ∷ u;
  splits = refl;
  left = refl;
  completes = ended_rest s k e;
  most = most_of;
}
  where
    most_of : (a b : List ℕ) (l : Kind) → c ∷ u ≡ a ++ b → PlaceResidual s l a → length a ≤ 0
    most_of [] b l f r = omega arith
    most_of (d ∷ a) b l f r =
        let head : c ≡ d = cc in let tail : u ≡ a ++ b = cc in
        absurd (none a b l tail (goes s l c a (subst (λ (x : ℕ). PlaceResidual s l (x ∷ a)) (sym head) r)))

nowhere : (s : Place) (c : ℕ) (u : List ℕ) → ended s ≡ None → Nothing (next s c) u → Nothing s (c ∷ u)
nowhere s c u e none [] b k f r = let g = ends_here s k r in absurd cc
nowhere s c u e none (d ∷ a) b k f r =
    let head : c ≡ d = cc in let tail : u ≡ a ++ b = cc in
    none a b k tail (goes s k c a (subst (λ (x : ℕ). PlaceResidual s k (x ∷ a)) (sym head) r))

at_end : (s : Place) (prior : Option Longest) (o : Option Kind) → ended s ≡ o → Outcome s prior [] (better o [] prior)
at_end s prior (Some k) e =
    better_one (record { kind = k; left = 0 }) refl (record {
      prefix = [];
      rest = [];
      splits = refl;
      left = refl;
      completes = ended_rest s k e;
      most = λ a b l f r. omega (arith, none_before a b f);
    })
  where
    none_before : (a b : List ℕ) → [] ≡ a ++ b → length a ≤ 0
    none_before [] b f = omega arith
    none_before (c ∷ a) b f = absurd cc
at_end s prior None e = same refl (λ a b k f r. no_rest a b k f r)
  where
    no_rest : (a b : List ℕ) (k : Kind) → [] ≡ a ++ b → PlaceResidual s k a → ⊥
    no_rest [] b k f r = let g = ends_here s k r in absurd cc
    no_rest (c ∷ a) b k f r = absurd cc

step : (s : Place) (prior : Option Longest) (c : ℕ) (u : List ℕ) (o : Option Kind) (found : Option Longest) → ended s ≡ o → Outcome (next s c) (better o (c ∷ u) prior) u found → Outcome s prior (c ∷ u) found
step s prior c u o found e (better_one x f h) = better_one x f (after s c u x h)
step s prior c u (Some k) found e (same f none) =
    better_one (record { kind = k; left = length (c ∷ u) }) f (here s c u k e none)
step s prior c u None found e (same f none) = same f (nowhere s c u e none)

walk : (s : Place) (prior : Option Longest) (u : List ℕ) → Outcome s prior u (longest_from s (better (ended s) u prior) u)
walk s prior [] = at_end s prior (ended s) refl
walk s prior (c ∷ u) =
    step s prior c u (ended s) _ refl (walk (next s c) (better (ended s) (c ∷ u) prior) u)

-- no token of any kind stands at the beginning
abbrev pub NoToken : Goal → List ℕ → Type 0
NoToken g w = (u rest : List ℕ) (k : Kind) → w ≡ u ++ rest → IsKind g k u → ⊥

-- the longest token at the beginning
pub record IsLongest (g : Goal) (w : List ℕ) (x : Longest) : Type 0 where
  pub first : ℕ
  pub others : List ℕ
  pub rest : List ℕ
  pub splits : w ≡ first ∷ (others ++ rest)
  pub left : x.left ≡ length rest
  pub is : IsKind g x.kind (first ∷ others)
  pub most : (u after : List ℕ) (k : Kind) → w ≡ u ++ after → IsKind g k u → length u ≤ suc (length others)

pub data Finds (g : Goal) (w : List ℕ) (found : Option Longest) : Type 0 where
  nothing : found ≡ None → NoToken g w → Finds g w found
  longest : (x : Longest) → found ≡ Some x → IsLongest g w x → Finds g w found

finds_from : (g : Goal) (c : ℕ) (u : List ℕ) (found : Option Longest) → Outcome (first g c) None u found → Finds g (c ∷ u) found
finds_from g c u found (same e none) = nothing e none_of
  where
    none_of : NoToken g (c ∷ u)
    none_of [] rest k f h = empty_no_kind g k h
    none_of (d ∷ a) rest k f h =
        let head : c ≡ d = cc in let tail : u ≡ a ++ rest = cc in
        none a rest k tail (first_goes g k c a (subst (λ (x : ℕ). IsKind g k (x ∷ a)) (sym head) h))
finds_from g c u found (better_one x e h) = longest x e (record {
  first = c;
  others = h.prefix;
  rest = h.rest;
  splits = ap (λ (w : List ℕ). c ∷ w) h.splits;
  left = h.left;
  is = first_comes g x.kind c h.prefix h.completes;
  most = most_of;
})
  where
    most_of : (a after : List ℕ) (k : Kind) → c ∷ u ≡ a ++ after → IsKind g k a → length a ≤ suc (length h.prefix)
    most_of [] after k f r = omega arith
    most_of (d ∷ a) after k f r =
        let head : c ≡ d = cc in let tail : u ≡ a ++ after = cc in
        let fewer = h.most a after k tail (first_goes g k c a (subst (λ (x : ℕ). IsKind g k (x ∷ a)) (sym head) r)) in
        omega arith

pub finds : (g : Goal) (w : List ℕ) → Finds g w (longest_token g w)
finds g [] = nothing refl none_of
  where
    none_of : NoToken g []
    none_of [] rest k f h = empty_no_kind g k h
    none_of (d ∷ a) rest k f h = absurd cc
finds g (c ∷ u) = finds_from g c u _ (walk (first g c) None u)
