-- What is after a piece of an object's beginning; private contracts cite it.
use Rattle.std.specs.Prelude.{ℕ, ◌==◌, List, [], ◌∷◌, Option, Some, None, if◌then◌else◌}
use Rattle.std.specs.Option.{option_and_then}
use Rattle.orb_bytes.specs.Ascii.{quotation_mark, colon, reverse_solidus, left_curly_bracket}
use Rattle.orb_bytes.specs.Bytes.{is_http_whitespace}
use Rattle.orb_bytes.specs.Trim.{without_leading}
use Rattle.corb_sniffers.specs.Json.{is_text_byte}

abbrev pub rest_after_first : ℕ → List ℕ → Option (List ℕ)
rest_after_first byte [] = None
rest_after_first byte (b ∷ rest) = if b == byte then Some rest else None

-- after white space and the byte
abbrev pub rest_after_byte : ℕ → List ℕ → Option (List ℕ)
rest_after_byte byte text = rest_after_first byte (without_leading is_http_whitespace text)

-- after units and a quote
abbrev pub rest_after_name : List ℕ → Option (List ℕ)
rest_after_name [] = None
rest_after_name (b ∷ []) = if b == quotation_mark then Some [] else None
rest_after_name (b ∷ c ∷ rest) =
    if b == quotation_mark then Some (c ∷ rest)
    else if b == reverse_solidus then (if is_text_byte c then rest_after_name rest else None)
    else if is_text_byte b then rest_after_name (c ∷ rest) else None

-- after `{`, a name in quotes, and `:`
abbrev pub rest_after_colon : List ℕ → Option (List ℕ)
rest_after_colon window =
    option_and_then (rest_after_byte colon) (option_and_then rest_after_name (option_and_then (rest_after_byte quotation_mark) (rest_after_byte left_curly_bracket window)))
