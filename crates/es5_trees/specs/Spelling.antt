-- The tokens of each tree, before what follows it.
use Rattle.std.specs.Prelude.{Bool, false, List, [], ◌∷◌}
use Rattle.es5_lexer.specs.declared.tokens.Word.TheVariants.{New as NewWord, Function as FunctionWord, Var, If, Else, Do, While, For, In, Return, Throw, Debugger, Switch, Case, Default, Try, Catch as CatchWord, Finally as FinallyWord}
use Rattle.es5_lexer.specs.declared.tokens.Punct.TheVariants.{LeftBrace, RightBrace, LeftParen, RightParen, LeftBracket, RightBracket, Dot, Semicolon, Comma, Question, Colon, Assign as Equals}
use Rattle.es5_lexer.specs.declared.tokens.Token.TheVariants.{Get, Set}
use Rattle.es5_lexer.specs.declared.tokens.Lexeme.{Lexeme}
use Rattle.es5_trees.specs.Words.{lexeme, mark, word}
use Rattle.es5_trees.specs.Trees.{Names, one_name, more_names, Params, no_params, params, End, semicolon, omitted, Expr, one, more, Assign, value, assign, Cond, plain, choice, Binary, operand, operation, Unary, unmarked, prefix, Postfix, left, update, Left, new_left, call_left, New, member, new_new, Call, call, call_call, call_index, call_dot, Member, primary, function_member, member_index, member_dot, new_member, Args, no_args, args, Function, nameless, named, Body, body, Primary, atom, parens, empty_array, array, empty_object, object, comma_object, Items, one_item, more_items, Props, one_prop, more_props, Prop, pair, getter, setter, Decl, bare, initialised, Decls, one_decl, more_decls, Optional, absent, present, Block, braces, Statements, no_statement, more_statements, Statement, block, empty, variables, expression, if_only, if_else, do_while, loop, for, for_var, for_in, for_var_in, jump, jump_to, return_only, return, throw, label, debugger, switch, switch_default, try_catch, try_finally, try_both, Cases, no_case, more_cases, Catch, catch, Finally, finally, Elements, no_element, more_elements, Element, statement, declaration}

abbrev pub names_text : Names → List Lexeme → List Lexeme
names_text (one_name x) rest = x ∷ rest
names_text (more_names x c xs) rest = x ∷ mark Comma c ∷ names_text xs rest

abbrev pub params_text : Params → List Lexeme → List Lexeme
params_text (no_params o c) rest = mark LeftParen o ∷ mark RightParen c ∷ rest
params_text (params o xs c) rest = mark LeftParen o ∷ names_text xs (mark RightParen c ∷ rest)

abbrev pub end_text : End → List Lexeme → List Lexeme
end_text (semicolon n) rest = mark Semicolon n ∷ rest
end_text omitted rest = rest

-- elisions: commas
abbrev pub commas : List Bool → List Lexeme → List Lexeme
commas [] rest = rest
commas (n ∷ ns) rest = mark Comma n ∷ commas ns rest

abbrev mutual
  pub expr_text : Expr → List Lexeme → List Lexeme
  expr_text (one a) rest = assign_text a rest
  expr_text (more a c e) rest = assign_text a (mark Comma c ∷ expr_text e rest)

  pub assign_text : Assign → List Lexeme → List Lexeme
  assign_text (value c) rest = cond_text c rest
  assign_text (assign l p n a) rest = left_text l (mark p n ∷ assign_text a rest)

  pub cond_text : Cond → List Lexeme → List Lexeme
  cond_text (plain b) rest = binary_text b rest
  cond_text (choice b q a c d) rest =
      binary_text b (mark Question q ∷ assign_text a (mark Colon c ∷ assign_text d rest))

  pub binary_text : Binary → List Lexeme → List Lexeme
  binary_text (operand u) rest = unary_text u rest
  binary_text (operation a x b) rest = binary_text a (x ∷ binary_text b rest)

  pub unary_text : Unary → List Lexeme → List Lexeme
  unary_text (unmarked p) rest = postfix_text p rest
  unary_text (prefix x u) rest = x ∷ unary_text u rest

  pub postfix_text : Postfix → List Lexeme → List Lexeme
  postfix_text (left l) rest = left_text l rest
  postfix_text (update l p) rest = left_text l (mark p false ∷ rest)

  pub left_text : Left → List Lexeme → List Lexeme
  left_text (new_left n) rest = new_text n rest
  left_text (call_left c) rest = call_text c rest

  pub new_text : New → List Lexeme → List Lexeme
  new_text (member m) rest = member_text m rest
  new_text (new_new n x) rest = word NewWord n ∷ new_text x rest

  pub call_text : Call → List Lexeme → List Lexeme
  call_text (call m a) rest = member_text m (args_text a rest)
  call_text (call_call c a) rest = call_text c (args_text a rest)
  call_text (call_index c o e d) rest =
      call_text c (mark LeftBracket o ∷ expr_text e (mark RightBracket d ∷ rest))
  call_text (call_dot c d x) rest = call_text c (mark Dot d ∷ x ∷ rest)

  pub member_text : Member → List Lexeme → List Lexeme
  member_text (primary p) rest = primary_text p rest
  member_text (function_member f) rest = function_text f rest
  member_text (member_index m o e d) rest =
      member_text m (mark LeftBracket o ∷ expr_text e (mark RightBracket d ∷ rest))
  member_text (member_dot m d x) rest = member_text m (mark Dot d ∷ x ∷ rest)
  member_text (new_member n m a) rest = word NewWord n ∷ member_text m (args_text a rest)

  pub args_text : Args → List Lexeme → List Lexeme
  args_text (no_args o c) rest = mark LeftParen o ∷ mark RightParen c ∷ rest
  args_text (args o e c) rest = mark LeftParen o ∷ expr_text e (mark RightParen c ∷ rest)

  pub function_text : Function → List Lexeme → List Lexeme
  function_text (nameless n ps b) rest = word FunctionWord n ∷ params_text ps (body_text b rest)
  function_text (named n x ps b) rest = word FunctionWord n ∷ x ∷ params_text ps (body_text b rest)

  pub body_text : Body → List Lexeme → List Lexeme
  body_text (body o es c) rest = mark LeftBrace o ∷ elements_text es (mark RightBrace c ∷ rest)

  pub primary_text : Primary → List Lexeme → List Lexeme
  primary_text (atom x) rest = x ∷ rest
  primary_text (parens o e c) rest = mark LeftParen o ∷ expr_text e (mark RightParen c ∷ rest)
  primary_text (empty_array o ns c) rest = mark LeftBracket o ∷ commas ns (mark RightBracket c ∷ rest)
  primary_text (array o is ns c) rest =
      mark LeftBracket o ∷ items_text is (commas ns (mark RightBracket c ∷ rest))
  primary_text (empty_object o c) rest = mark LeftBrace o ∷ mark RightBrace c ∷ rest
  primary_text (object o ps c) rest = mark LeftBrace o ∷ props_text ps (mark RightBrace c ∷ rest)
  primary_text (comma_object o ps n c) rest =
      mark LeftBrace o ∷ props_text ps (mark Comma n ∷ mark RightBrace c ∷ rest)

  pub items_text : Items → List Lexeme → List Lexeme
  items_text (one_item ns a) rest = commas ns (assign_text a rest)
  items_text (more_items ns a c is) rest = commas ns (assign_text a (mark Comma c ∷ items_text is rest))

  pub props_text : Props → List Lexeme → List Lexeme
  props_text (one_prop p) rest = prop_text p rest
  props_text (more_props p c ps) rest = prop_text p (mark Comma c ∷ props_text ps rest)

  pub prop_text : Prop → List Lexeme → List Lexeme
  prop_text (pair k c a) rest = k ∷ mark Colon c ∷ assign_text a rest
  prop_text (getter n k o c b) rest =
      lexeme Get n ∷ k ∷ mark LeftParen o ∷ mark RightParen c ∷ body_text b rest
  prop_text (setter n k o x c b) rest =
      lexeme Set n ∷ k ∷ mark LeftParen o ∷ x ∷ mark RightParen c ∷ body_text b rest

  pub decl_text : Decl → List Lexeme → List Lexeme
  decl_text (bare x) rest = x ∷ rest
  decl_text (initialised x n a) rest = x ∷ mark Equals n ∷ assign_text a rest

  pub decls_text : Decls → List Lexeme → List Lexeme
  decls_text (one_decl d) rest = decl_text d rest
  decls_text (more_decls d c ds) rest = decl_text d (mark Comma c ∷ decls_text ds rest)

  pub optional_text : Optional → List Lexeme → List Lexeme
  optional_text absent rest = rest
  optional_text (present e) rest = expr_text e rest

  pub block_text : Block → List Lexeme → List Lexeme
  block_text (braces o ss c) rest = mark LeftBrace o ∷ statements_text ss (mark RightBrace c ∷ rest)

  pub statements_text : Statements → List Lexeme → List Lexeme
  statements_text no_statement rest = rest
  statements_text (more_statements s ss) rest = statement_text s (statements_text ss rest)

  pub statement_text : Statement → List Lexeme → List Lexeme
  statement_text (block b) rest = block_text b rest
  statement_text (empty n) rest = mark Semicolon n ∷ rest
  statement_text (variables n ds t) rest = word Var n ∷ decls_text ds (end_text t rest)
  statement_text (expression e t) rest = expr_text e (end_text t rest)
  statement_text (if_only w o e c s) rest =
      word If w ∷ mark LeftParen o ∷ expr_text e (mark RightParen c ∷ statement_text s rest)
  statement_text (if_else w o e c s n t) rest =
      word If w ∷ mark LeftParen o ∷ expr_text e (mark RightParen c ∷ statement_text s (word Else n ∷ statement_text t rest))
  statement_text (do_while w s n o e c t) rest =
      word Do w ∷ statement_text s (word While n ∷ mark LeftParen o ∷ expr_text e (mark RightParen c ∷ end_text t rest))
  statement_text (loop x w o e c s) rest =
      word x w ∷ mark LeftParen o ∷ expr_text e (mark RightParen c ∷ statement_text s rest)
  statement_text (for w o a m b n d c s) rest =
      word For w ∷ mark LeftParen o ∷ optional_text a (mark Semicolon m ∷ optional_text b (mark Semicolon n ∷ optional_text d (mark RightParen c ∷ statement_text s rest)))
  statement_text (for_var w o v ds m b n d c s) rest =
      word For w ∷ mark LeftParen o ∷ word Var v ∷ decls_text ds (mark Semicolon m ∷ optional_text b (mark Semicolon n ∷ optional_text d (mark RightParen c ∷ statement_text s rest)))
  statement_text (for_in w o l n e c s) rest =
      word For w ∷ mark LeftParen o ∷ left_text l (word In n ∷ expr_text e (mark RightParen c ∷ statement_text s rest))
  statement_text (for_var_in w o v d n e c s) rest =
      word For w ∷ mark LeftParen o ∷ word Var v ∷ decl_text d (word In n ∷ expr_text e (mark RightParen c ∷ statement_text s rest))
  statement_text (jump x n t) rest = word x n ∷ end_text t rest
  statement_text (jump_to x n i t) rest = word x n ∷ lexeme i false ∷ end_text t rest
  statement_text (return_only n t) rest = word Return n ∷ end_text t rest
  statement_text (return n e t) rest = word Return n ∷ expr_text e (end_text t rest)
  statement_text (throw n e t) rest = word Throw n ∷ expr_text e (end_text t rest)
  statement_text (label x c s) rest = x ∷ mark Colon c ∷ statement_text s rest
  statement_text (debugger n t) rest = word Debugger n ∷ end_text t rest
  statement_text (switch w o e c l cs r) rest =
      word Switch w ∷ mark LeftParen o ∷ expr_text e (mark RightParen c ∷ mark LeftBrace l ∷ cases_text cs (mark RightBrace r ∷ rest))
  statement_text (switch_default w o e c l cs d n ss ds r) rest =
      word Switch w ∷ mark LeftParen o ∷ expr_text e (mark RightParen c ∷ mark LeftBrace l ∷ cases_text cs (word Default d ∷ mark Colon n ∷ statements_text ss (cases_text ds (mark RightBrace r ∷ rest))))
  statement_text (try_catch n b c) rest = word Try n ∷ block_text b (catch_text c rest)
  statement_text (try_finally n b f) rest = word Try n ∷ block_text b (finally_text f rest)
  statement_text (try_both n b c f) rest = word Try n ∷ block_text b (catch_text c (finally_text f rest))

  pub cases_text : Cases → List Lexeme → List Lexeme
  cases_text no_case rest = rest
  cases_text (more_cases w e c ss cs) rest =
      word Case w ∷ expr_text e (mark Colon c ∷ statements_text ss (cases_text cs rest))

  pub catch_text : Catch → List Lexeme → List Lexeme
  catch_text (catch w o x c b) rest =
      word CatchWord w ∷ mark LeftParen o ∷ x ∷ mark RightParen c ∷ block_text b rest

  pub finally_text : Finally → List Lexeme → List Lexeme
  finally_text (finally w b) rest = word FinallyWord w ∷ block_text b rest

  pub elements_text : Elements → List Lexeme → List Lexeme
  elements_text no_element rest = rest
  elements_text (more_elements e es) rest = element_text e (elements_text es rest)

  pub element_text : Element → List Lexeme → List Lexeme
  element_text (statement s) rest = statement_text s rest
  element_text (declaration n x ps b) rest = word FunctionWord n ∷ x ∷ params_text ps (body_text b rest)
