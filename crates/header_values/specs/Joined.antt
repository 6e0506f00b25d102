-- The values of one name as one text (RFC 9110 5.3, WHATWG Fetch 2.2: get).
use Rattle.std.specs.Prelude.{ℕ, Bool, true, false, List, [], ◌∷◌, ◌++◌, Option, Some, None}
use Rattle.orb_bytes.specs.Ascii.{comma, space}
use Rattle.orb_bytes.specs.Fields.{values_of}

-- the texts, with `, ` between neighbours
abbrev pub comma_joined : List (List ℕ) → List ℕ
comma_joined [] = []
comma_joined (text ∷ []) = text
comma_joined (text ∷ (next ∷ texts)) = text ++ (comma ∷ (space ∷ comma_joined (next ∷ texts)))

-- the same, and none where there is no text
abbrev pub joined_texts : List (List ℕ) → Option (List ℕ)
joined_texts [] = None
joined_texts (text ∷ texts) = Some (comma_joined (text ∷ texts))

-- the values of the fields of that name, joined; none where there is no such field
abbrev pub joined : List (List ℕ × List ℕ) → List ℕ → Option (List ℕ)
joined fields name = joined_texts (values_of fields name)

-- what stands between a value and those before it, if there are any
abbrev pub separator : Bool → List ℕ
separator false = []
separator true = comma ∷ (space ∷ [])
