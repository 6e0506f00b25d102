-- The values that servers write without knowing the type have no comma.
use Rattle.std.proofs.Common.{◌≡◌, ℕ, Bool, true, false, ◌||◌, ◌==◌, List, [], ◌∷◌, ◌++◌, bytes_eq, Some, refl, sym, ap, ◌∙◌, inl, inr}
use Rattle.std.specs.List.{list_any}
use Rattle.std.proofs.lemmas.Bool.{cases_Bool, or_right}
use Rattle.std.proofs.lemmas.Slice.Eq.{bytes_eq-Decides}
use Rattle.orb_bytes.specs.Ascii.{comma, space}
use Rattle.header_values.specs.Joined.{comma_joined, joined_texts}
use Rattle.computed_type.specs.Plain.{default_values, is_default_alone}

has_comma : List ℕ → Bool
has_comma text = list_any (λ b. b == comma) text

comma_within : (text rest : List ℕ) → has_comma (text ++ (comma ∷ rest)) ≡ true
unfolding has_comma
comma_within [] rest = refl
comma_within (b ∷ text) rest = or_right (b == comma) (has_comma (text ++ (comma ∷ rest))) (comma_within text rest)

none_is : (names : List (List ℕ)) (value : List ℕ) → list_any has_comma names ≡ false → has_comma value ≡ true
    → list_any (bytes_eq value) names ≡ false
none_is [] value none has = refl
none_is (name ∷ names) value none has =
    elim (cases_Bool (bytes_eq value name)) [
      | inl same ↦
          let here : has_comma name ≡ true = ap has_comma (sym ((bytes_eq-Decides value name).0 same)) ∙ has in
          let lie : (true || list_any has_comma names) ≡ false = rw here at none in
          absurd (cc lie)
      | inr other ↦
          rw other (none_is names value (others (has_comma name) (list_any has_comma names) none) has)
    ]
  where
    others : (a b : Bool) → (a || b) ≡ false → b ≡ false
    others true b lie = absurd (cc lie)
    others false b is = is

pub default_joined : (values : List (List ℕ)) (value : List ℕ) → Some value ≡ joined_texts values
    → list_any (bytes_eq value) default_values ≡ is_default_alone values
unfolding default_values has_comma
default_joined [] value is = absurd (cc is)
default_joined (text ∷ []) value is = ap (λ t. list_any (bytes_eq t) default_values) (same value text is)
  where
    same : (a b : List ℕ) → Some a ≡ Some b → a ≡ b
    same a b e = cc
default_joined (text ∷ (next ∷ texts)) value is =
    let joined : value ≡ text ++ (comma ∷ (space ∷ comma_joined (next ∷ texts))) = cc in
    none_is default_values value refl (ap has_comma joined ∙ comma_within text (space ∷ comma_joined (next ∷ texts)))
