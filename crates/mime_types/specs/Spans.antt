-- The longest prefix of a text that is of one class.
use Rattle.std.specs.Prelude.{◌≡◌, ℕ, Bool, true, not, List, [], ◌∷◌, ◌++◌}
use Rattle.orb_bytes.specs.Bytes.{AllPass}

-- the text's first byte, if there is one, is outside the class
abbrev pub begins_outside : (ℕ → Bool) → List ℕ → Bool
begins_outside test [] = true
begins_outside test (b ∷ text) = not (test b)

-- the text is the two parts: the first is of the class, and the second doesn't go on with it
pub record Spans (test : ℕ → Bool) (text prefix rest : List ℕ) : Type 0 where
  pub whole : text ≡ prefix ++ rest
  pub inside : AllPass test prefix
  pub stops : begins_outside test rest ≡ true
