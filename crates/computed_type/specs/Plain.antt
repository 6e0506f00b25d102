-- Plain text and binary data.
use Rattle.std.specs.Prelude.{ℕ, Bool, false, ◌&&◌, ◌||◌, ◌==◌, not, nat_le, nat_eq, if◌then◌else◌, List, [], ◌∷◌, codes, bytes_eq}
use Rattle.std.specs.List.{list_any, starts_with}
use Rattle.orb_bytes.specs.Fields.{values_of}

abbrev pub is_between : ℕ → ℕ → ℕ → Bool
is_between least most b = nat_le least b && nat_le b most

-- a binary data byte (WHATWG MIME Sniffing 3)
abbrev pub is_binary_byte : ℕ → Bool
is_binary_byte b =
    is_between 0x00 0x08 b || (b == 0x0B || (is_between 0x0E 0x1A b || is_between 0x1C 0x1F b))

abbrev pub has_binary_byte : List ℕ → Bool
has_binary_byte window = list_any is_binary_byte window

-- the marks of UTF-16, big-endian and little-endian, and of UTF-8 (the Unicode Standard 23.8)
abbrev pub byte_order_marks : List (List ℕ)
byte_order_marks = (0xFE ∷ 0xFF ∷ []) ∷ (0xFF ∷ 0xFE ∷ []) ∷ (0xEF ∷ 0xBB ∷ 0xBF ∷ []) ∷ []

abbrev pub begins_with_mark : List ℕ → Bool
begins_with_mark window = list_any (starts_with nat_eq window) byte_order_marks

-- what the window is, where it is either (WHATWG MIME Sniffing 7.2)
unfoldable pub text_or_binary : List ℕ → List ℕ
text_or_binary window =
    if begins_with_mark window || not (has_binary_byte window) then codes "text/plain" else codes "application/octet-stream"

-- what servers have written without knowing the type (WHATWG MIME Sniffing 5.1, the check-for-apache-bug flag)
unfoldable pub default_values : List (List ℕ)
default_values =
    codes "text/plain"
    ∷ codes "text/plain; charset=ISO-8859-1"
    ∷ codes "text/plain; charset=iso-8859-1"
    ∷ codes "text/plain; charset=UTF-8"
    ∷ []

-- there is one value, and it is one of these, letter for letter
abbrev pub is_default_alone : List (List ℕ) → Bool
is_default_alone [] = false
is_default_alone (value ∷ []) = list_any (λ default. bytes_eq value default) default_values
is_default_alone (value ∷ (next ∷ values)) = false

-- there is one Content-Type field, and its value is one of these
abbrev pub is_default_plain : List (List ℕ × List ℕ) → Bool
is_default_plain fields = is_default_alone (values_of fields (codes "Content-Type"))
