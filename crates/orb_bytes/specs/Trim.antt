-- A text without the bytes of a class at its ends.
use Rattle.std.specs.Prelude.{ℕ, Bool, List, [], ◌∷◌, reverse, if◌then◌else◌}

-- the text from its first byte outside the class on
abbrev pub without_leading : (ℕ → Bool) → List ℕ → List ℕ
without_leading test [] = []
without_leading test (b ∷ text) = if test b then without_leading test text else b ∷ text

-- the text up to its last byte outside the class
abbrev pub without_trailing : (ℕ → Bool) → List ℕ → List ℕ
without_trailing test text = reverse (without_leading test (reverse text))

-- both
abbrev pub trimmed : (ℕ → Bool) → List ℕ → List ℕ
trimmed test text = without_trailing test (without_leading test text)
