-- The text of a MIME type record (WHATWG MIME Sniffing 4.5, serialise a MIME type).
--
--   text      = type "/" subtype *parameter
--   parameter = ";" name "=" ( token / quoted-string )
--
-- The steps named below are those of the standard's algorithm.
use Rattle.std.specs.Prelude.{ℕ, if◌then◌else◌, List, ◌∷◌, ◌++◌}
use Rattle.std.specs.List.{flat_map}
use Rattle.orb_bytes.specs.Ascii.{solidus, semicolon, equals_sign}
use Rattle.orb_bytes.specs.Quoted.{quoted_text}
use Rattle.mime_types.specs.Mime.{Mime, is_token}

-- a value: as it is where it is a token, and else between quotation marks, the empty one too (step 2.4)
abbrev pub value_text : List ℕ → List ℕ
value_text value = if is_token value then value else quoted_text value

-- parameter = ";" name "=" value (step 2)
abbrev pub parameter_text : List ℕ × List ℕ → List ℕ
parameter_text pair = semicolon ∷ (pair.0 ++ (equals_sign ∷ value_text pair.1))

-- text = type "/" subtype *parameter (steps 1 and 2)
abbrev pub text_of : Mime → List ℕ
text_of m = m.main ++ (solidus ∷ (m.sub ++ flat_map parameter_text m.parameters))
