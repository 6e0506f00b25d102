-- Punctuators (ECMA-262 5.1, section 7.7).
use Rattle.std.specs.Prelude.{ℕ, Bool, true, List, codes}
use Rattle.es5_lexer.specs.Suits.{is_div}
use Rattle.es5_lexer.specs.declared.tokens.Goal.{Goal}
use Rattle.es5_lexer.specs.declared.tokens.Punct.{Punct}
use Rattle.es5_lexer.specs.declared.tokens.Punct.TheVariants.{LeftBrace, RightBrace, LeftParen, RightParen, LeftBracket, RightBracket, Dot, Semicolon, Comma, Less, Greater, LessEqual, GreaterEqual, Equal, NotEqual, SameEqual, NotSame, Plus, Minus, Star, Percent, PlusPlus, MinusMinus, ShiftLeft, ShiftRight, ShiftRightZero, And, Or, Xor, Not, Tilde, AndAnd, OrOr, Question, Colon, Assign, PlusAssign, MinusAssign, StarAssign, PercentAssign, ShiftLeftAssign, ShiftRightAssign, ShiftRightZeroAssign, AndAssign, OrAssign, XorAssign, Slash, SlashAssign}

-- the text of each
abbrev pub spelling : Punct → List ℕ
spelling LeftBrace = codes "{"
spelling RightBrace = codes "}"
spelling LeftParen = codes "("
spelling RightParen = codes ")"
spelling LeftBracket = codes "["
spelling RightBracket = codes "]"
spelling Dot = codes "."
spelling Semicolon = codes ";"
spelling Comma = codes ","
spelling Less = codes "<"
spelling Greater = codes ">"
spelling LessEqual = codes "<="
spelling GreaterEqual = codes ">="
spelling Equal = codes "=="
spelling NotEqual = codes "!="
spelling SameEqual = codes "==="
spelling NotSame = codes "!=="
spelling Plus = codes "+"
spelling Minus = codes "-"
spelling Star = codes "*"
spelling Percent = codes "%"
spelling PlusPlus = codes "++"
spelling MinusMinus = codes "--"
spelling ShiftLeft = codes "<<"
spelling ShiftRight = codes ">>"
spelling ShiftRightZero = codes ">>>"
spelling And = codes "&"
spelling Or = codes "|"
spelling Xor = codes "^"
spelling Not = codes "!"
spelling Tilde = codes "~"
spelling AndAnd = codes "&&"
spelling OrOr = codes "||"
spelling Question = codes "?"
spelling Colon = codes ":"
spelling Assign = codes "="
spelling PlusAssign = codes "+="
spelling MinusAssign = codes "-="
spelling StarAssign = codes "*="
spelling PercentAssign = codes "%="
spelling ShiftLeftAssign = codes "<<="
spelling ShiftRightAssign = codes ">>="
spelling ShiftRightZeroAssign = codes ">>>="
spelling AndAssign = codes "&="
spelling OrAssign = codes "|="
spelling XorAssign = codes "^="
spelling Slash = codes "/"
spelling SlashAssign = codes "/="

-- it may stand under the goal: DivPunctuator (7.7), `/` and `/=`, under division alone
abbrev pub is_under : Goal → Punct → Bool
is_under g Slash = is_div g
is_under g SlashAssign = is_div g
is_under g _ = true
