-- The parts of a value by one walk over its bytes. That they are its one list of parts, as `Parts` defines
-- them by trees, is the law `one_cut`.
use Rattle.std.specs.Prelude.{◌≡◌, ℕ, Bool, false, ◌==◌, if◌then◌else◌, List, [], ◌∷◌, ◌++◌, map, Option, Some, None}
use Rattle.std.specs.Option.{option_copied}
use Rattle.orb_bytes.specs.Ascii.{quotation_mark, comma, reverse_solidus}
use Rattle.orb_bytes.specs.Bytes.{is_tab_or_space}
use Rattle.orb_bytes.specs.Trim.{trimmed}
use Rattle.header_values.specs.declared.split.State.{State}
use Rattle.header_values.specs.declared.split.State.TheVariants.{Outside, Inside, Escaped}
use Rattle.header_values.specs.declared.split.Parts.{Parts}
use Rattle.header_values.specs.Parts.{IsParts}

-- the state in which the byte after this one stands
abbrev pub state_after : State → ℕ → State
state_after Outside b = if b == quotation_mark then Inside else Outside
state_after Inside b = if b == quotation_mark then Outside else (if b == reverse_solidus then Escaped else Inside)
state_after Escaped b = Inside

-- a comma outside of the quoted strings
abbrev pub is_cut : State → ℕ → Bool
is_cut Outside b = b == comma
is_cut Inside b = false
is_cut Escaped b = false

-- the text before the first of these
abbrev pub put_first : List ℕ → List (List ℕ) → List (List ℕ)
put_first prefix [] = []
put_first prefix (text ∷ texts) = (prefix ++ text) ∷ texts

-- the text cut at such commas, where its first byte stands in that state
abbrev pub cut_from : State → List ℕ → List (List ℕ)
cut_from state [] = [] ∷ []
cut_from state (b ∷ text) =
    if is_cut state b then [] ∷ cut_from Outside text
    else put_first (b ∷ []) (cut_from (state_after state b) text)

-- the one list of parts that a value has
unfoldable pub parts_of : List ℕ → List (List ℕ)
parts_of value = map (trimmed is_tab_or_space) (cut_from Outside value)

-- a value has one list of parts
abbrev pub HasOneCut : List ℕ → Type 0
HasOneCut value =
    IsParts value (parts_of value)
    × ((texts : List (List ℕ)) → IsParts value texts → texts ≡ parts_of value)

-- the texts that a rest is cut into, and none of nothing
abbrev pub cuts_left : Option (List ℕ) → List (List ℕ)
cuts_left None = []
cuts_left (Some text) = cut_from Outside text

-- the parts of what is left of a value, and none of nothing
abbrev pub parts_left_of : Option (List ℕ) → List (List ℕ)
parts_left_of None = []
parts_left_of (Some value) = parts_of value

-- the parts that are still to come
abbrev pub parts_left : Parts → List (List ℕ)
parts_left parts = parts_left_of (option_copied parts.rest)
