-- Lists of texts.
use Rattle.std.specs.Prelude.{◌≡◌, ◌⊎◌, ℕ, List, [], ◌∷◌}

-- the text is one of those listed
abbrev pub IsListed : List (List ℕ) → List ℕ → Type 0
IsListed [] text = ⊥
IsListed (listed ∷ others) text = (text ≡ listed) ⊎ IsListed others text
