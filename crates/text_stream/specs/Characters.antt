-- The characters that the classes name, by the names of their code points (Unicode; ECMA-262 5.1, tables 2 and 3).
use Rattle.std.specs.Prelude.{ℕ}

-- TAB
abbrev pub tab : ℕ
tab = 0x09

-- LF
abbrev pub line_feed : ℕ
line_feed = 0x0A

-- VT
abbrev pub vertical_tab : ℕ
vertical_tab = 0x0B

-- FF
abbrev pub form_feed : ℕ
form_feed = 0x0C

-- CR
abbrev pub carriage_return : ℕ
carriage_return = 0x0D

-- SP
abbrev pub space : ℕ
space = 0x20

-- `$`
abbrev pub dollar_sign : ℕ
dollar_sign = 0x24

-- `_`
abbrev pub low_line : ℕ
low_line = 0x5F

-- NBSP
abbrev pub no_break_space : ℕ
no_break_space = 0xA0

-- ZWNJ
abbrev pub zero_width_non_joiner : ℕ
zero_width_non_joiner = 0x200C

-- ZWJ
abbrev pub zero_width_joiner : ℕ
zero_width_joiner = 0x200D

-- LS
abbrev pub line_separator : ℕ
line_separator = 0x2028

-- PS
abbrev pub paragraph_separator : ℕ
paragraph_separator = 0x2029

-- BOM
abbrev pub zero_width_no_break_space : ℕ
zero_width_no_break_space = 0xFEFF

-- the last code point that one code unit of UTF-16 writes
abbrev pub last_of_one_unit : ℕ
last_of_one_unit = 0xFFFF
