-- The characters that the grammar of JSON names, by the names of their code points (Unicode). A definition writes these
-- names, and no character as a number but the bounds of a range.
use Rattle.std.specs.Prelude.{ℕ}

-- HT
abbrev pub horizontal_tab : ℕ
horizontal_tab = 0x09

-- LF
abbrev pub line_feed : ℕ
line_feed = 0x0A

-- CR
abbrev pub carriage_return : ℕ
carriage_return = 0x0D

-- SP
abbrev pub space : ℕ
space = 0x20

-- `"`
abbrev pub quotation_mark : ℕ
quotation_mark = 0x22

-- `+`
abbrev pub plus_sign : ℕ
plus_sign = 0x2B

-- `,`
abbrev pub comma : ℕ
comma = 0x2C

-- `-`
abbrev pub minus_sign : ℕ
minus_sign = 0x2D

-- `.`
abbrev pub full_stop : ℕ
full_stop = 0x2E

-- `/`
abbrev pub solidus : ℕ
solidus = 0x2F

-- `0`
abbrev pub digit_zero : ℕ
digit_zero = 0x30

-- `1`
abbrev pub digit_one : ℕ
digit_one = 0x31

-- `9`
abbrev pub digit_nine : ℕ
digit_nine = 0x39

-- `:`
abbrev pub colon : ℕ
colon = 0x3A

-- `E`
abbrev pub capital_e : ℕ
capital_e = 0x45

-- `[`
abbrev pub left_square_bracket : ℕ
left_square_bracket = 0x5B

-- `\`
abbrev pub reverse_solidus : ℕ
reverse_solidus = 0x5C

-- `]`
abbrev pub right_square_bracket : ℕ
right_square_bracket = 0x5D

-- `b`
abbrev pub small_b : ℕ
small_b = 0x62

-- `e`
abbrev pub small_e : ℕ
small_e = 0x65

-- `f`
abbrev pub small_f : ℕ
small_f = 0x66

-- `n`
abbrev pub small_n : ℕ
small_n = 0x6E

-- `r`
abbrev pub small_r : ℕ
small_r = 0x72

-- `t`
abbrev pub small_t : ℕ
small_t = 0x74

-- `u`
abbrev pub small_u : ℕ
small_u = 0x75

-- `{`
abbrev pub left_curly_bracket : ℕ
left_curly_bracket = 0x7B

-- `}`
abbrev pub right_curly_bracket : ℕ
right_curly_bracket = 0x7D
