-- The characters that the lexical grammar names, by the names of their code points (Unicode). A definition writes these
-- names, and no character as a number.
use Rattle.std.specs.Prelude.{ℕ}

-- LF
abbrev pub line_feed : ℕ
line_feed = 10

-- CR
abbrev pub carriage_return : ℕ
carriage_return = 13

-- `!`
abbrev pub exclamation_mark : ℕ
exclamation_mark = 33

-- `"`
abbrev pub quotation_mark : ℕ
quotation_mark = 34

-- `$`
abbrev pub dollar_sign : ℕ
dollar_sign = 36

-- `%`
abbrev pub percent_sign : ℕ
percent_sign = 37

-- `&`
abbrev pub ampersand : ℕ
ampersand = 38

-- `'`
abbrev pub apostrophe : ℕ
apostrophe = 39

-- `(`
abbrev pub left_parenthesis : ℕ
left_parenthesis = 40

-- `)`
abbrev pub right_parenthesis : ℕ
right_parenthesis = 41

-- `*`
abbrev pub asterisk : ℕ
asterisk = 42

-- `+`
abbrev pub plus_sign : ℕ
plus_sign = 43

-- `,`
abbrev pub comma : ℕ
comma = 44

-- `-`
abbrev pub hyphen_minus : ℕ
hyphen_minus = 45

-- `.`
abbrev pub full_stop : ℕ
full_stop = 46

-- `/`
abbrev pub solidus : ℕ
solidus = 47

-- `0`
abbrev pub digit_zero : ℕ
digit_zero = 48

-- `1`
abbrev pub digit_one : ℕ
digit_one = 49

-- `7`
abbrev pub digit_seven : ℕ
digit_seven = 55

-- `9`
abbrev pub digit_nine : ℕ
digit_nine = 57

-- `:`
abbrev pub colon : ℕ
colon = 58

-- `;`
abbrev pub semicolon : ℕ
semicolon = 59

-- `<`
abbrev pub less_than_sign : ℕ
less_than_sign = 60

-- `=`
abbrev pub equals_sign : ℕ
equals_sign = 61

-- `>`
abbrev pub greater_than_sign : ℕ
greater_than_sign = 62

-- `?`
abbrev pub question_mark : ℕ
question_mark = 63

-- `E`
abbrev pub capital_e : ℕ
capital_e = 69

-- `X`
abbrev pub capital_x : ℕ
capital_x = 88

-- `[`
abbrev pub left_square_bracket : ℕ
left_square_bracket = 91

-- `\`
abbrev pub reverse_solidus : ℕ
reverse_solidus = 92

-- `]`
abbrev pub right_square_bracket : ℕ
right_square_bracket = 93

-- `^`
abbrev pub circumflex_accent : ℕ
circumflex_accent = 94

-- `e`
abbrev pub small_e : ℕ
small_e = 101

-- `u`
abbrev pub small_u : ℕ
small_u = 117

-- `x`
abbrev pub small_x : ℕ
small_x = 120

-- `{`
abbrev pub left_curly_bracket : ℕ
left_curly_bracket = 123

-- `|`
abbrev pub vertical_line : ℕ
vertical_line = 124

-- `}`
abbrev pub right_curly_bracket : ℕ
right_curly_bracket = 125

-- `~`
abbrev pub tilde : ℕ
tilde = 126
