-- JSON as the CORB explainer confirms it: the beginning of an object up to the colon after its first name.
use Rattle.std.specs.Prelude.{◌≡◌, ℕ, Bool, not, ◌&&◌, ◌==◌, nat_le, List, [], ◌∷◌, ◌++◌, true}
use Rattle.orb_bytes.specs.Ascii.{space, quotation_mark, colon, reverse_solidus, left_curly_bracket}
use Rattle.orb_bytes.specs.Bytes.{AllPass, is_http_whitespace}

-- a byte of 20 to FF
abbrev pub is_text_byte : ℕ → Bool
is_text_byte b = nat_le space b

-- a unit of a name: a byte as it stands, or one after a `\`
pub data NameUnit : Type 0 where
  Plain : ℕ → NameUnit
  Escaped : ℕ → NameUnit

abbrev pub IsUnit : NameUnit → Type 0
IsUnit (Plain b) = (is_text_byte b && (not (b == quotation_mark) && not (b == reverse_solidus))) ≡ true
IsUnit (Escaped b) = is_text_byte b ≡ true

abbrev pub AreUnits : List NameUnit → Type 0
AreUnits [] = Unit {0}
AreUnits (unit ∷ units) = IsUnit unit × AreUnits units

-- how units are spelled, before what follows
abbrev pub unit_text : NameUnit → List ℕ → List ℕ
unit_text (Plain b) rest = b ∷ rest
unit_text (Escaped b) rest = reverse_solidus ∷ b ∷ rest

abbrev pub units_text : List NameUnit → List ℕ → List ℕ
units_text [] rest = rest
units_text (unit ∷ units) rest = unit_text unit (units_text units rest)

-- the window is `{`, a name in quotation marks and `:`, each after white space (RFC 8259 2), and any rest
pub record SniffsJson (window : List ℕ) : Type 0 where
  pub before_brace : List ℕ
  pub before_name : List ℕ
  pub before_colon : List ℕ
  pub spaces : AllPass is_http_whitespace before_brace × AllPass is_http_whitespace before_name × AllPass is_http_whitespace before_colon
  pub name : List NameUnit
  pub good : AreUnits name
  pub rest : List ℕ
  pub cut : window
      ≡ before_brace ++ (left_curly_bracket ∷ (before_name ++ (quotation_mark ∷ units_text name (quotation_mark ∷ (before_colon ++ (colon ∷ rest))))))
