-- The characters of scripts (ECMA-262 5.1, sections 7.2, 7.3, 7.6 and 7.8.3). A character is a
-- Unicode scalar value.
use Rattle.std.specs.Prelude.{ℕ, ◌+◌, ◌*◌, Bool, true, false, ◌&&◌, ◌||◌, not, nat_lt, if◌then◌else◌, Option, Some, None}
use Rattle.std.specs.Int.{is_in_range}
use Rattle.std.specs.Char.{digit_value, is_ascii_digit, is_ascii_hexdigit}
use Rattle.es5_lexer.specs.CodePoints.{digit_zero, digit_seven}
use Rattle.text_stream.specs.Classes.{class_of}
use Rattle.text_stream.specs.declared.classes.CharClass.{CharClass}
use Rattle.text_stream.specs.declared.classes.CharClass.TheVariants.{LineEnd, Space, NameStart, NamePart, Other}

abbrev pub is_line_end_class : CharClass → Bool
is_line_end_class LineEnd = true
is_line_end_class Space = false
is_line_end_class NameStart = false
is_line_end_class NamePart = false
is_line_end_class Other = false

abbrev pub is_space_class : CharClass → Bool
is_space_class LineEnd = false
is_space_class Space = true
is_space_class NameStart = false
is_space_class NamePart = false
is_space_class Other = false

abbrev pub is_start_class : CharClass → Bool
is_start_class LineEnd = false
is_start_class Space = false
is_start_class NameStart = true
is_start_class NamePart = false
is_start_class Other = false

abbrev pub is_part_class : CharClass → Bool
is_part_class LineEnd = false
is_part_class Space = false
is_part_class NameStart = true
is_part_class NamePart = true
is_part_class Other = false

-- LineTerminator (7.3)
abbrev pub is_line_end : ℕ → Bool
is_line_end c = is_line_end_class (class_of c)

-- WhiteSpace (7.2)
abbrev pub is_space : ℕ → Bool
is_space c = is_space_class (class_of c)

-- IdentifierStart, other than an escape (7.6)
abbrev pub is_start : ℕ → Bool
is_start c = is_start_class (class_of c)

-- IdentifierPart, other than an escape (7.6)
abbrev pub is_part : ℕ → Bool
is_part c = is_part_class (class_of c)

-- DecimalDigit (7.8.3)
abbrev pub is_digit : ℕ → Bool
is_digit c = is_ascii_digit c

-- HexDigit (7.8.3)
abbrev pub is_hex : ℕ → Bool
is_hex c = is_ascii_hexdigit c

-- OctalDigit (B.1.1)
abbrev pub is_octal : ℕ → Bool
is_octal c = is_in_range digit_zero digit_seven c

-- the number that four hexadecimal digits write
abbrev pub code_of : ℕ → ℕ → ℕ → ℕ → ℕ
code_of a b c d =
    ((digit_value a * 16 + digit_value b) * 16 + digit_value c) * 16 + digit_value d

-- it is a character: no half of a pair of UTF-16
abbrev pub is_character : ℕ → Bool
is_character n = nat_lt n 0xD800 || not (nat_lt n 0xE000)

-- the four are hexadecimal digits of a character of the set: UnicodeEscapeSequence (7.8.4) as 7.6
-- takes it
abbrev pub is_escape_of : (ℕ → Bool) → ℕ → ℕ → ℕ → ℕ → Bool
is_escape_of set a b c d =
    ((is_hex a && is_hex b) && (is_hex c && is_hex d)) && (is_character (code_of a b c d) && set (code_of a b c d))

-- the character of this number
abbrev pub char_of : ℕ → Option ℕ
char_of n = if nat_lt n 0xD800 then Some n else if nat_lt n 0xE000 then None else Some n

-- the character that the four write
abbrev pub escaped : ℕ → ℕ → ℕ → ℕ → Option ℕ
escaped a b c d =
    if (is_hex a && is_hex b) && (is_hex c && is_hex d) then char_of (code_of a b c d) else None
