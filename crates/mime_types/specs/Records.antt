-- What a record of a text meets, and its parameters by name.
use Rattle.std.specs.Prelude.{◌≡◌, ℕ, Bool, true, ◌&&◌, not, List, [], ◌∷◌, Option, option_map, bytes_eq}
use Rattle.std.specs.List.{list_all, list_any, find}
use Rattle.std.specs.Char.{is_ascii_uppercase}
use Rattle.orb_bytes.specs.Bytes.{is_quoted_token_byte}
use Rattle.mime_types.specs.Mime.{Mime, is_token}

-- a token in ASCII lowercase
abbrev pub is_lowercase_token : List ℕ → Bool
is_lowercase_token text = is_token text && list_all (λ b. not (is_ascii_uppercase b)) text

-- a name that is such a token, and a value of HTTP quoted-string token code points
abbrev pub is_lowercase_parameter : List ℕ × List ℕ → Bool
is_lowercase_parameter pair = is_lowercase_token pair.0 && list_all is_quoted_token_byte pair.1

-- a pair has this name
abbrev pub has_name : List ℕ → List (List ℕ × List ℕ) → Bool
has_name name pairs = list_any (λ pair. bytes_eq pair.0 name) pairs

-- no two pairs have one name
abbrev pub names_differ : List (List ℕ × List ℕ) → Bool
names_differ [] = true
names_differ (pair ∷ pairs) = not (has_name pair.0 pairs) && names_differ pairs

-- type, subtype and names are tokens in ASCII lowercase, names differ, and values can stand between quotation marks
pub record IsRecord (m : Mime) : Type 0 where
  pub main : is_lowercase_token m.main ≡ true
  pub sub : is_lowercase_token m.sub ≡ true
  pub parameters : list_all is_lowercase_parameter m.parameters ≡ true
  pub names : names_differ m.parameters ≡ true

-- the value of the pair that has this name, if one has
abbrev pub value_of : List ℕ → List (List ℕ × List ℕ) → Option (List ℕ)
value_of name pairs = option_map (λ pair. pair.1) (find (λ pair. bytes_eq pair.0 name) pairs)
