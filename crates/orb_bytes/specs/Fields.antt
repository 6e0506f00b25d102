-- The fields of a head: names and values, in their order (RFC 9110 5.1, 5.2).
use Rattle.std.specs.Prelude.{ℕ, Bool, List, map, filter, bytes_eq}
use Rattle.std.specs.Str.{str_to_ascii_lowercase}

-- the two names differ in the case of ASCII letters at most
abbrev pub same_name : List ℕ → List ℕ → Bool
same_name a b = bytes_eq (str_to_ascii_lowercase a) (str_to_ascii_lowercase b)

-- the values of the fields of that name, in order
abbrev pub values_of : List (List ℕ × List ℕ) → List ℕ → List (List ℕ)
values_of fields name = map (λ f. f.1) (filter (λ f. same_name f.0 name) fields)
