-- Fields of which nothing is trimmed, and the lengths of heads.
use Rattle.std.proofs.Common.{◌≡◌, ℕ, ◌+◌, ◌<◌, true, List, [], ◌∷◌, ◌++◌, length, map, refl, arith, length-append, ◌∙◌}
use Rattle.std.specs.List.{list_all}
use Rattle.httparse.specs.Grammar.{is_token_byte, is_value_byte, trim_ows}
use Rattle.orb_bytes.specs.Ascii.{space}
use Rattle.orb_bytes.specs.Ascii as ascii
use Rattle.http_exchange.specs.Fields.{pairs_of}
use Rattle.http_exchange.proofs.HeadTextLemmas.{AreWritable, as_read, trees_of, pairs-trees}

-- a field that can be written so: a token, and a value of which nothing is trimmed
pub record IsPlain (f : List ℕ × List ℕ) : Type 0 where
  pub some : 0 < length f.0
  pub name : list_all is_token_byte f.0 ≡ true
  pub value : list_all is_value_byte f.1 ≡ true
  pub bare : trim_ows (space ∷ f.1) ≡ f.1

abbrev pub ArePlain : List (List ℕ × List ℕ) → Type 0
ArePlain [] = Unit {0}
ArePlain (f ∷ fields) = IsPlain f × ArePlain fields

pub written : (fields : List (List ℕ × List ℕ)) → ArePlain fields → AreWritable fields
written [] are = tt
written (f ∷ fields) are = (record { some = are.0.some; name = are.0.name; value = are.0.value }, written fields are.1)

-- they are read as they are written
pub read_plain : (fields : List (List ℕ × List ℕ)) → ArePlain fields → pairs_of (trees_of fields) ≡ fields
read_plain fields are = pairs-trees fields ∙ same fields are
  where
    same : (fields : List (List ℕ × List ℕ)) → ArePlain fields → map as_read fields ≡ fields
    same [] are = refl
    same (f ∷ fields) are = rw (are.0.bare, same fields are.1) refl

-- the last field's value, and the two ends
pub length-last : (value : List ℕ) → length (((value ++ ascii.crlf) ++ []) ++ ascii.crlf) ≡ length value + 4
length-last value =
    omega (
      arith,
      length-append ((value ++ ascii.crlf) ++ []) ascii.crlf,
      length-append (value ++ ascii.crlf) [],
      length-append value ascii.crlf,
    )
