-- The sets of tokens that the grammar of programs names (ECMA-262 5.1, sections 11 and 12).
use Rattle.std.specs.Prelude.{ℕ, Bool, true, false, not, nat_le, List, [], ◌∷◌}
use Rattle.es5_lexer.specs.declared.tokens.Word.{Word}
use Rattle.es5_lexer.specs.declared.tokens.Word.TheVariants.{In, Instanceof, Delete, Void, Typeof, This, Null, True, False, Function, While, With, Continue, Break}
use Rattle.es5_lexer.specs.declared.tokens.Punct.{Punct}
use Rattle.es5_lexer.specs.declared.tokens.Punct.TheVariants.{LeftBrace, Less, Greater, LessEqual, GreaterEqual, Equal, NotEqual, SameEqual, NotSame, Plus, Minus, Star, Percent, PlusPlus, MinusMinus, ShiftLeft, ShiftRight, ShiftRightZero, And, Or, Xor, Not, Tilde, AndAnd, OrOr, Assign, PlusAssign, MinusAssign, StarAssign, PercentAssign, ShiftLeftAssign, ShiftRightAssign, ShiftRightZeroAssign, AndAssign, OrAssign, XorAssign, Slash, SlashAssign}
use Rattle.es5_lexer.specs.declared.tokens.Token.{Token}
use Rattle.es5_lexer.specs.declared.tokens.Token.TheVariants.{Ident, Get, Set, Word as AWord, EscapedWord, Punct as APunct, Number, Text, Pattern}
use Rattle.es5_lexer.specs.declared.tokens.Lexeme.{Lexeme}

-- a token with its newline flag
abbrev pub lexeme : Token → Bool → Lexeme
lexeme t newline = record { token = t; newline = newline }

-- a punctuator and a reserved word with theirs
abbrev pub mark : Punct → Bool → Lexeme
mark p newline = lexeme (APunct p) newline

abbrev pub word : Word → Bool → Lexeme
word w newline = lexeme (AWord w) newline

-- Identifier: `get` and `set` are identifiers too
abbrev pub is_ident : Token → Bool
is_ident Ident = true
is_ident Get = true
is_ident Set = true
is_ident _ = false

-- IdentifierName
abbrev pub is_name : Token → Bool
is_name (AWord w) = true
is_name EscapedWord = true
is_name t = is_ident t

-- PropertyName
abbrev pub is_key : Token → Bool
is_key Number = true
is_key Text = true
is_key t = is_name t

-- the words that are primary expressions
abbrev pub is_primary_word : Word → Bool
is_primary_word This = true
is_primary_word Null = true
is_primary_word True = true
is_primary_word False = true
is_primary_word _ = false

-- a token that is a PrimaryExpression (11.1)
abbrev pub is_atom : Token → Bool
is_atom Number = true
is_atom Text = true
is_atom Pattern = true
is_atom (AWord w) = is_primary_word w
is_atom t = is_ident t

-- `++` and `--` (11.3)
abbrev pub is_update : Punct → Bool
is_update PlusPlus = true
is_update MinusMinus = true
is_update _ = false

-- the operators of UnaryExpression (11.4)
abbrev pub is_prefix : Token → Bool
is_prefix (AWord Delete) = true
is_prefix (AWord Void) = true
is_prefix (AWord Typeof) = true
is_prefix (APunct Plus) = true
is_prefix (APunct Minus) = true
is_prefix (APunct Tilde) = true
is_prefix (APunct Not) = true
is_prefix (APunct p) = is_update p
is_prefix _ = false

-- the levels of binary operators, loosest first: LogicalORExpression (11.11) 1,
-- LogicalANDExpression 2, BitwiseORExpression (11.10) 3, BitwiseXORExpression 4,
-- BitwiseANDExpression 5, EqualityExpression (11.9) 6, RelationalExpression (11.8) 7,
-- ShiftExpression (11.7) 8, AdditiveExpression (11.6) 9, MultiplicativeExpression (11.5) 10;
-- 0 of what is no binary operator
abbrev pub level_of_mark : Punct → ℕ
level_of_mark OrOr = 1
level_of_mark AndAnd = 2
level_of_mark Or = 3
level_of_mark Xor = 4
level_of_mark And = 5
level_of_mark Equal = 6
level_of_mark NotEqual = 6
level_of_mark SameEqual = 6
level_of_mark NotSame = 6
level_of_mark Less = 7
level_of_mark Greater = 7
level_of_mark LessEqual = 7
level_of_mark GreaterEqual = 7
level_of_mark ShiftLeft = 8
level_of_mark ShiftRight = 8
level_of_mark ShiftRightZero = 8
level_of_mark Plus = 9
level_of_mark Minus = 9
level_of_mark Star = 10
level_of_mark Slash = 10
level_of_mark Percent = 10
level_of_mark _ = 0

abbrev pub level : Token → ℕ
level (APunct p) = level_of_mark p
level (AWord In) = 7
level (AWord Instanceof) = 7
level _ = 0

-- it is a binary operator
abbrev pub is_binary : Token → Bool
is_binary t = nat_le 1 (level t)

-- the operator `in`, which the forms without it leave out
abbrev pub is_in : Token → Bool
is_in (AWord In) = true
is_in _ = false

-- AssignmentOperator (11.13), and `=`
abbrev pub is_assign : Punct → Bool
is_assign Assign = true
is_assign PlusAssign = true
is_assign MinusAssign = true
is_assign StarAssign = true
is_assign SlashAssign = true
is_assign PercentAssign = true
is_assign ShiftLeftAssign = true
is_assign ShiftRightAssign = true
is_assign ShiftRightZeroAssign = true
is_assign AndAssign = true
is_assign OrAssign = true
is_assign XorAssign = true
is_assign _ = false

-- `while` and `with`, whose statements have one form; `continue` and `break`, likewise
abbrev pub is_loop_word : Word → Bool
is_loop_word While = true
is_loop_word With = true
is_loop_word _ = false

abbrev pub is_jump_word : Word → Bool
is_jump_word Continue = true
is_jump_word Break = true
is_jump_word _ = false

-- the tokens begin on the line of the token before them: [no LineTerminator here]
abbrev pub is_on_line : List Lexeme → Bool
is_on_line [] = true
is_on_line (x ∷ rest) = not x.newline

-- the tokens that no ExpressionStatement begins with: [lookahead] of 12.4
abbrev pub begins_other : Token → Bool
begins_other (APunct LeftBrace) = true
begins_other (AWord Function) = true
begins_other _ = false

abbrev pub may_begin_statement : List Lexeme → Bool
may_begin_statement [] = true
may_begin_statement (x ∷ rest) = not (begins_other x.token)
