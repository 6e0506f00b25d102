-- Where a head ends: after its first empty line (RFC 9112 2.1 and 2.2).
use Rattle.std.specs.Prelude.{ℕ, suc, Bool, List, [], ◌∷◌, ◌++◌, take, bytes_eq, Option, Some, None, if◌then◌else◌}
use Rattle.std.specs.Option.{option_map}
use Rattle.orb_bytes.specs.Ascii.{crlf}

-- the end of a line and an empty line: CR LF CR LF
abbrev pub head_end_bytes : List ℕ
head_end_bytes = crlf ++ crlf

-- the bytes begin with them
abbrev pub begins_with_end : List ℕ → Bool
begins_with_end bytes = bytes_eq (take 4 bytes) head_end_bytes

-- how many bytes there are up to the end of the first CR LF CR LF; None where there is none
unfoldable pub head_length : List ℕ → Option ℕ
head_length [] = None
head_length (b ∷ bytes) =
    if begins_with_end (b ∷ bytes) then Some 4 else option_map suc (head_length bytes)
