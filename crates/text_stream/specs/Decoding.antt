-- The characters that bytes are as UTF-8 (The Unicode Standard, Table 3-7). Where no well-formed
-- sequence begins, the one byte there reads as U+FFFD, and reading goes on after that byte. A byte
-- order mark at the very start (section 23.8) is dropped; only the first is.
use Rattle.std.specs.Prelude.{◌≡◌, ℕ, true, ◌++◌, encode_utf8_all, zero, suc, ◌-◌, List, [], ◌∷◌, Option, Some, None, drop, nat_eq, if◌then◌else◌}
use Rattle.std.specs.List.{starts_with}
use lib.Utf8.{scalars}
use Rattle.bstr.specs.Utf8.{Decoded, decoded, or_replacement}

-- how many bytes after its first the sequence has that begins there: none where none does
abbrev pub further_bytes_of : Option ℕ → ℕ → ℕ
further_bytes_of None size = 0
further_bytes_of (Some c) size = size - 1

abbrev pub further_bytes : Decoded → ℕ
further_bytes first = further_bytes_of first.char first.size

-- the characters after the first bytes, which belong to a character that was read
unfoldable pub characters_after : ℕ → List ℕ → List ℕ
characters_after n [] = []
characters_after zero (b ∷ bytes) =
    or_replacement (decoded (b ∷ bytes)).char ∷ characters_after (further_bytes (decoded (b ∷ bytes))) bytes
characters_after (suc n) (b ∷ bytes) = characters_after n bytes

-- EF BB BF
abbrev pub byte_order_mark : List ℕ
byte_order_mark = 0xEF ∷ 0xBB ∷ 0xBF ∷ []

abbrev pub without_mark : List ℕ → List ℕ
without_mark bytes = if starts_with nat_eq bytes byte_order_mark then drop 3 bytes else bytes

-- the characters of a whole text
unfoldable pub characters_of : List ℕ → List ℕ
characters_of bytes = characters_after 0 (without_mark bytes)

-- well-formed text reads as the characters that it writes, whatever follows it
abbrev pub ReadsAsWritten : List ℕ → List ℕ → Type 0
ReadsAsWritten text bytes =
    scalars text ≡ true → characters_after 0 (encode_utf8_all text ++ bytes) ≡ text ++ characters_after 0 bytes
