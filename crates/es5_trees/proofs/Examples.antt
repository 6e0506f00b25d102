-- Programs by their trees: lists of tokens, `⏎` where a line ends before one.
use Rattle.std.proofs.Common.{true, false, [], ◌∷◌, refl, arith, rules, lit≤}
use Rattle.es5_lexer.specs.declared.tokens.Word.TheVariants.{New as NewWord, Var, If, Else, Do, While, For, In, Return, Continue}
use Rattle.es5_lexer.specs.declared.tokens.Punct.TheVariants.{LeftBrace, RightBrace, LeftParen, RightParen, LeftBracket, RightBracket, Dot, Semicolon, Comma, Question, Colon, Assign, Plus, PlusPlus, Slash}
use Rattle.es5_lexer.specs.declared.tokens.Token.TheVariants.{Ident, Get, Set, Number, Pattern}
use Rattle.es5_trees.specs.Words.{lexeme, mark, word}
use Rattle.es5_trees.specs.Trees.{semicolon, omitted, one, value, assign, plain, choice, operand, operation, unmarked, prefix, left, update, new_left, call_left, member, call, call_call, call_dot, primary, member_dot, new_member, no_args, args, body, atom, parens, array, object, one_item, one_prop, more_props, pair, getter, bare, one_decl, absent, present, braces, no_statement, more_statements, block, empty, variables, expression, if_else, do_while, for, for_in, jump, return_only, label, no_element, more_elements, statement}
use Rattle.es5_trees.specs.Programs.{IsProgram}

-- nothing
pub nothing : IsProgram []
nothing = record { program = no_element; good = tt; shallow = omega arith; spells = refl }

-- a=1
pub assignment : IsProgram (lexeme Ident false ∷ mark Assign false ∷ lexeme Number false ∷ [])
assignment = record {
  program = (more_elements (statement (expression (one (assign (new_left (member (primary (atom (lexeme Ident false))))) Assign false (value (plain (operand (unmarked (left (new_left (member (primary (atom (lexeme Number false)))))))))))) omitted)) no_element);
  good = search rules;
  shallow = lit≤ tt;
  spells = refl;
}

-- { 1⏎2 } 3
pub statements_on_lines : IsProgram (mark LeftBrace false ∷ lexeme Number false ∷ lexeme Number true ∷ mark RightBrace false ∷ lexeme Number false ∷ [])
statements_on_lines = record {
  program = (more_elements (statement (block (braces false (more_statements (expression (one (value (plain (operand (unmarked (left (new_left (member (primary (atom (lexeme Number false))))))))))) omitted) (more_statements (expression (one (value (plain (operand (unmarked (left (new_left (member (primary (atom (lexeme Number true))))))))))) omitted) no_statement)) false))) (more_elements (statement (expression (one (value (plain (operand (unmarked (left (new_left (member (primary (atom (lexeme Number false))))))))))) omitted)) no_element));
  good = search rules;
  shallow = lit≤ tt;
  spells = refl;
}

-- a = b⏎++c
pub update_on_the_next_line : IsProgram (lexeme Ident false ∷ mark Assign false ∷ lexeme Ident false ∷ mark PlusPlus true ∷ lexeme Ident false ∷ [])
update_on_the_next_line = record {
  program = (more_elements (statement (expression (one (assign (new_left (member (primary (atom (lexeme Ident false))))) Assign false (value (plain (operand (unmarked (left (new_left (member (primary (atom (lexeme Ident false)))))))))))) omitted)) (more_elements (statement (expression (one (value (plain (operand (prefix (mark PlusPlus true) (unmarked (left (new_left (member (primary (atom (lexeme Ident false)))))))))))) omitted)) no_element));
  good = search rules;
  shallow = lit≤ tt;
  spells = refl;
}

-- a++⏎(b)
pub parentheses_after_an_update : IsProgram (lexeme Ident false ∷ mark PlusPlus false ∷ mark LeftParen true ∷ lexeme Ident false ∷ mark RightParen false ∷ [])
parentheses_after_an_update = record {
  program = (more_elements (statement (expression (one (value (plain (operand (unmarked (update (new_left (member (primary (atom (lexeme Ident false))))) PlusPlus)))))) omitted)) (more_elements (statement (expression (one (value (plain (operand (unmarked (left (new_left (member (primary (parens true (one (value (plain (operand (unmarked (left (new_left (member (primary (atom (lexeme Ident false))))))))))) false)))))))))) omitted)) no_element));
  good = search rules;
  shallow = lit≤ tt;
  spells = refl;
}

-- a = b + c⏎(d + e).print()
pub a_call_on_the_next_line : IsProgram (lexeme Ident false ∷ mark Assign false ∷ lexeme Ident false ∷ mark Plus false ∷ lexeme Ident false ∷ mark LeftParen true ∷ lexeme Ident false ∷ mark Plus false ∷ lexeme Ident false ∷ mark RightParen false ∷ mark Dot false ∷ lexeme Ident false ∷ mark LeftParen false ∷ mark RightParen false ∷ [])
a_call_on_the_next_line = record {
  program = (more_elements (statement (expression (one (assign (new_left (member (primary (atom (lexeme Ident false))))) Assign false (value (plain (operation (operand (unmarked (left (new_left (member (primary (atom (lexeme Ident false)))))))) (mark Plus false) (operand (unmarked (left (call_left (call_call (call_dot (call (primary (atom (lexeme Ident false))) (args true (one (value (plain (operation (operand (unmarked (left (new_left (member (primary (atom (lexeme Ident false)))))))) (mark Plus false) (operand (unmarked (left (new_left (member (primary (atom (lexeme Ident false)))))))))))) false)) false (lexeme Ident false)) (no_args false false))))))))))) omitted)) no_element);
  good = search rules;
  shallow = lit≤ tt;
  spells = refl;
}

-- var a⏎(b)
pub parentheses_after_a_name : IsProgram (word Var false ∷ lexeme Ident false ∷ mark LeftParen true ∷ lexeme Ident false ∷ mark RightParen false ∷ [])
parentheses_after_a_name = record {
  program = (more_elements (statement (variables false (one_decl (bare (lexeme Ident false))) omitted)) (more_elements (statement (expression (one (value (plain (operand (unmarked (left (new_left (member (primary (parens true (one (value (plain (operand (unmarked (left (new_left (member (primary (atom (lexeme Ident false))))))))))) false)))))))))) omitted)) no_element));
  good = search rules;
  shallow = lit≤ tt;
  spells = refl;
}

-- var a⏎/x/
pub a_pattern_after_a_name : IsProgram (word Var false ∷ lexeme Ident false ∷ lexeme Pattern true ∷ [])
a_pattern_after_a_name = record {
  program = (more_elements (statement (variables false (one_decl (bare (lexeme Ident false))) omitted)) (more_elements (statement (expression (one (value (plain (operand (unmarked (left (new_left (member (primary (atom (lexeme Pattern true))))))))))) omitted)) no_element));
  good = search rules;
  shallow = lit≤ tt;
  spells = refl;
}

-- return⏎a + b
pub return_alone : IsProgram (word Return false ∷ lexeme Ident true ∷ mark Plus false ∷ lexeme Ident false ∷ [])
return_alone = record {
  program = (more_elements (statement (return_only false omitted)) (more_elements (statement (expression (one (value (plain (operation (operand (unmarked (left (new_left (member (primary (atom (lexeme Ident true)))))))) (mark Plus false) (operand (unmarked (left (new_left (member (primary (atom (lexeme Ident false)))))))))))) omitted)) no_element));
  good = search rules;
  shallow = lit≤ tt;
  spells = refl;
}

-- if (a) /b/.c; else d / e / f
pub a_pattern_and_divisions : IsProgram (word If false ∷ mark LeftParen false ∷ lexeme Ident false ∷ mark RightParen false ∷ lexeme Pattern false ∷ mark Dot false ∷ lexeme Ident false ∷ mark Semicolon false ∷ word Else false ∷ lexeme Ident false ∷ mark Slash false ∷ lexeme Ident false ∷ mark Slash false ∷ lexeme Ident false ∷ [])
a_pattern_and_divisions = record {
  program = (more_elements (statement (if_else false false (one (value (plain (operand (unmarked (left (new_left (member (primary (atom (lexeme Ident false))))))))))) false (expression (one (value (plain (operand (unmarked (left (new_left (member (member_dot (primary (atom (lexeme Pattern false))) false (lexeme Ident false)))))))))) (semicolon false)) false (expression (one (value (plain (operation (operation (operand (unmarked (left (new_left (member (primary (atom (lexeme Ident false)))))))) (mark Slash false) (operand (unmarked (left (new_left (member (primary (atom (lexeme Ident false))))))))) (mark Slash false) (operand (unmarked (left (new_left (member (primary (atom (lexeme Ident false)))))))))))) omitted))) no_element);
  good = search rules;
  shallow = lit≤ tt;
  spells = refl;
}

-- do ; while (a)⏎b
pub do_and_a_line : IsProgram (word Do false ∷ mark Semicolon false ∷ word While false ∷ mark LeftParen false ∷ lexeme Ident false ∷ mark RightParen false ∷ lexeme Ident true ∷ [])
do_and_a_line = record {
  program = (more_elements (statement (do_while false (empty false) false false (one (value (plain (operand (unmarked (left (new_left (member (primary (atom (lexeme Ident false))))))))))) false omitted)) (more_elements (statement (expression (one (value (plain (operand (unmarked (left (new_left (member (primary (atom (lexeme Ident true))))))))))) omitted)) no_element));
  good = search rules;
  shallow = lit≤ tt;
  spells = refl;
}

-- a: b: for (;;) continue⏎a
pub labels_and_a_jump : IsProgram (lexeme Ident false ∷ mark Colon false ∷ lexeme Ident false ∷ mark Colon false ∷ word For false ∷ mark LeftParen false ∷ mark Semicolon false ∷ mark Semicolon false ∷ mark RightParen false ∷ word Continue false ∷ lexeme Ident true ∷ [])
labels_and_a_jump = record {
  program = (more_elements (statement (label (lexeme Ident false) false (label (lexeme Ident false) false (for false false absent false absent false absent false (jump Continue false omitted))))) (more_elements (statement (expression (one (value (plain (operand (unmarked (left (new_left (member (primary (atom (lexeme Ident true))))))))))) omitted)) no_element));
  good = search rules;
  shallow = lit≤ tt;
  spells = refl;
}

-- x = { get get() { return⏎} , set: 1 }
pub accessors : IsProgram (lexeme Ident false ∷ mark Assign false ∷ mark LeftBrace false ∷ lexeme Get false ∷ lexeme Get false ∷ mark LeftParen false ∷ mark RightParen false ∷ mark LeftBrace false ∷ word Return false ∷ mark RightBrace true ∷ mark Comma false ∷ lexeme Set false ∷ mark Colon false ∷ lexeme Number false ∷ mark RightBrace false ∷ [])
accessors = record {
  program = (more_elements (statement (expression (one (assign (new_left (member (primary (atom (lexeme Ident false))))) Assign false (value (plain (operand (unmarked (left (new_left (member (primary (object false (more_props (getter false (lexeme Get false) false false (body false (more_elements (statement (return_only false omitted)) no_element) true)) false (one_prop (pair (lexeme Set false) false (value (plain (operand (unmarked (left (new_left (member (primary (atom (lexeme Number false))))))))))))) false))))))))))) omitted)) no_element);
  good = search rules;
  shallow = lit≤ tt;
  spells = refl;
}

-- for (a in b);
pub in_of_a_header : IsProgram (word For false ∷ mark LeftParen false ∷ lexeme Ident false ∷ word In false ∷ lexeme Ident false ∷ mark RightParen false ∷ mark Semicolon false ∷ [])
in_of_a_header = record {
  program = (more_elements (statement (for_in false false (new_left (member (primary (atom (lexeme Ident false))))) false (one (value (plain (operand (unmarked (left (new_left (member (primary (atom (lexeme Ident false))))))))))) false (empty false))) no_element);
  good = search rules;
  shallow = lit≤ tt;
  spells = refl;
}

-- for (a ? b in c : d;;);
pub in_of_a_conditional : IsProgram (word For false ∷ mark LeftParen false ∷ lexeme Ident false ∷ mark Question false ∷ lexeme Ident false ∷ word In false ∷ lexeme Ident false ∷ mark Colon false ∷ lexeme Ident false ∷ mark Semicolon false ∷ mark Semicolon false ∷ mark RightParen false ∷ mark Semicolon false ∷ [])
in_of_a_conditional = record {
  program = (more_elements (statement (for false false (present (one (value (choice (operand (unmarked (left (new_left (member (primary (atom (lexeme Ident false)))))))) false (value (plain (operation (operand (unmarked (left (new_left (member (primary (atom (lexeme Ident false)))))))) (word In false) (operand (unmarked (left (new_left (member (primary (atom (lexeme Ident false))))))))))) false (value (plain (operand (unmarked (left (new_left (member (primary (atom (lexeme Ident false)))))))))))))) false absent false absent false (empty false))) no_element);
  good = search rules;
  shallow = lit≤ tt;
  spells = refl;
}

-- new new a(b)(c).d;
pub new_and_arguments : IsProgram (word NewWord false ∷ word NewWord false ∷ lexeme Ident false ∷ mark LeftParen false ∷ lexeme Ident false ∷ mark RightParen false ∷ mark LeftParen false ∷ lexeme Ident false ∷ mark RightParen false ∷ mark Dot false ∷ lexeme Ident false ∷ mark Semicolon false ∷ [])
new_and_arguments = record {
  program = (more_elements (statement (expression (one (value (plain (operand (unmarked (left (new_left (member (member_dot (new_member false (new_member false (primary (atom (lexeme Ident false))) (args false (one (value (plain (operand (unmarked (left (new_left (member (primary (atom (lexeme Ident false))))))))))) false)) (args false (one (value (plain (operand (unmarked (left (new_left (member (primary (atom (lexeme Ident false))))))))))) false)) false (lexeme Ident false)))))))))) (semicolon false))) no_element);
  good = search rules;
  shallow = lit≤ tt;
  spells = refl;
}

-- [,,a,,];
pub elisions : IsProgram (mark LeftBracket false ∷ mark Comma false ∷ mark Comma false ∷ lexeme Ident false ∷ mark Comma false ∷ mark Comma false ∷ mark RightBracket false ∷ mark Semicolon false ∷ [])
elisions = record {
  program = (more_elements (statement (expression (one (value (plain (operand (unmarked (left (new_left (member (primary (array false (one_item (false ∷ false ∷ []) (value (plain (operand (unmarked (left (new_left (member (primary (atom (lexeme Ident false))))))))))) (false ∷ false ∷ []) false)))))))))) (semicolon false))) no_element);
  good = search rules;
  shallow = lit≤ tt;
  spells = refl;
}
