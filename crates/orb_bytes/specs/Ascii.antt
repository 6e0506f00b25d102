-- Bytes by the names of their code points (Unicode; the controls as RFC 20 has them). A definition writes these names,
-- and no byte as a number.
use Rattle.std.specs.Prelude.{ℕ, List, [], ◌∷◌}

-- NUL
abbrev pub nul : ℕ
nul = 0x00

-- HT
abbrev pub tab : ℕ
tab = 0x09

-- LF
abbrev pub line_feed : ℕ
line_feed = 0x0A

-- FF
abbrev pub form_feed : ℕ
form_feed = 0x0C

-- CR
abbrev pub carriage_return : ℕ
carriage_return = 0x0D

-- SP
abbrev pub space : ℕ
space = 0x20

-- `"`
abbrev pub quotation_mark : ℕ
quotation_mark = 0x22

-- `,`
abbrev pub comma : ℕ
comma = 0x2C

-- `-`
abbrev pub hyphen_minus : ℕ
hyphen_minus = 0x2D

-- `/`
abbrev pub solidus : ℕ
solidus = 0x2F

-- `:`
abbrev pub colon : ℕ
colon = 0x3A

-- `;`
abbrev pub semicolon : ℕ
semicolon = 0x3B

-- `=`
abbrev pub equals_sign : ℕ
equals_sign = 0x3D

-- `>`
abbrev pub greater_than_sign : ℕ
greater_than_sign = 0x3E

-- `\`
abbrev pub reverse_solidus : ℕ
reverse_solidus = 0x5C

-- `{`
abbrev pub left_curly_bracket : ℕ
left_curly_bracket = 0x7B

-- `~`, the last that is seen
abbrev pub tilde : ℕ
tilde = 0x7E

-- the least and the greatest byte that is no ASCII
abbrev pub least_past_ascii : ℕ
least_past_ascii = 0x80

abbrev pub greatest_byte : ℕ
greatest_byte = 0xFF

-- the end of a line: CR LF
abbrev pub crlf : List ℕ
crlf = carriage_return ∷ line_feed ∷ []
