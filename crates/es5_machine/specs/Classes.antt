-- Single tokens, and what may end a statement, as the steps of the machine ask for them.
use Rattle.std.specs.Prelude.{Bool, true, false}
use Rattle.es5_lexer.specs.declared.tokens.Word.TheVariants.{Else, While, Finally, Case, Default, Function}
use Rattle.es5_lexer.specs.declared.tokens.Punct.TheVariants.{Question, Semicolon, Colon, Comma, Assign, LeftParen, RightParen, LeftBrace}
use Rattle.es5_lexer.specs.declared.tokens.Token.{Token}
use Rattle.es5_lexer.specs.declared.tokens.Token.TheVariants.{Word as AWord, Punct as APunct}
use Rattle.es5_trees.specs.Endings.{Ending, after_operand, after_update, after_name, after_word}
use Rattle.es5_machine.specs.declared.states.Ended.{Ended}
use Rattle.es5_machine.specs.declared.states.Ended.TheVariants.{ByOperand, ByUpdate, ByName, ByWord}

-- what ended, as the grammar of programs has it
abbrev pub ending_of : Ended → Ending
ending_of ByOperand = after_operand
ending_of ByUpdate = after_update
ending_of ByName = after_name
ending_of ByWord = after_word

abbrev pub is_question : Token → Bool
is_question (APunct Question) = true
is_question _ = false

abbrev pub is_semicolon : Token → Bool
is_semicolon (APunct Semicolon) = true
is_semicolon _ = false

abbrev pub is_colon : Token → Bool
is_colon (APunct Colon) = true
is_colon _ = false

abbrev pub is_comma : Token → Bool
is_comma (APunct Comma) = true
is_comma _ = false

abbrev pub is_equals : Token → Bool
is_equals (APunct Assign) = true
is_equals _ = false

abbrev pub is_left_paren : Token → Bool
is_left_paren (APunct LeftParen) = true
is_left_paren _ = false

abbrev pub is_right_paren : Token → Bool
is_right_paren (APunct RightParen) = true
is_right_paren _ = false

abbrev pub is_left_brace : Token → Bool
is_left_brace (APunct LeftBrace) = true
is_left_brace _ = false

abbrev pub is_else : Token → Bool
is_else (AWord Else) = true
is_else _ = false

abbrev pub is_while : Token → Bool
is_while (AWord While) = true
is_while _ = false

abbrev pub is_finally : Token → Bool
is_finally (AWord Finally) = true
is_finally _ = false

abbrev pub is_case : Token → Bool
is_case (AWord Case) = true
is_case _ = false

abbrev pub is_default : Token → Bool
is_default (AWord Default) = true
is_default _ = false

abbrev pub is_function : Token → Bool
is_function (AWord Function) = true
is_function _ = false
