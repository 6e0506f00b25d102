-- The texts of messages in HTTP/1.1 (RFC 9112), from their parts.
use Rattle.std.specs.Prelude.{ℕ, List, ◌∷◌, ◌++◌}
use Rattle.std.specs.List.{flat_map}
use Rattle.orb_bytes.specs.Ascii.{colon, space, crlf}

-- a field's line: its name, a colon, a space, and its value (RFC 9112 5)
abbrev pub field_line : List ℕ × List ℕ → List ℕ
field_line f = f.0 ++ (colon ∷ (space ∷ (f.1 ++ crlf)))

-- a head: its start line, its fields in order, and the empty line (RFC 9112 2.1)
abbrev pub head_text : (start : List ℕ) (fields : List (List ℕ × List ℕ)) → List ℕ
head_text start fields = start ++ (crlf ++ (flat_map field_line fields ++ crlf))
