-- What a tree's rules ask besides its tokens, before what follows it: that operators stand at their
-- levels, that `in` stands only where it may, that each token is of its set, where a semicolon may be
-- left out, that no line ends where none may, and that the first branch of an `if` leaves no `else` to
-- another. What follows counts by its first token alone, at the end of a statement.
use Rattle.std.specs.Prelude.{◌≡◌, ℕ, suc, ◌≤◌, Bool, true, false, not, ◌||◌, List, ◌∷◌}
use Rattle.es5_lexer.specs.declared.tokens.Word.TheVariants.{Else, While, In, Default}
use Rattle.es5_lexer.specs.declared.tokens.Punct.TheVariants.{RightBrace, RightParen, LeftBrace, RightBracket, LeftBracket, LeftParen, Dot, Semicolon, Comma, Question, Colon}
use Rattle.es5_lexer.specs.declared.tokens.Token.{Token}
use Rattle.es5_lexer.specs.declared.tokens.Lexeme.{Lexeme}
use Rattle.es5_trees.specs.Words.{mark, word, is_ident, is_name, is_key, is_atom, is_update, is_prefix, level, is_in, is_assign, is_loop_word, is_jump_word, is_on_line, may_begin_statement}
use Rattle.es5_trees.specs.Trees.{Names, one_name, more_names, Params, no_params, params, Expr, one, more, Assign, value, assign, Cond, plain, choice, Binary, operand, operation, Unary, unmarked, prefix, Postfix, left, update, Left, new_left, call_left, New, member, new_new, Call, call, call_call, call_index, call_dot, Member, primary, function_member, member_index, member_dot, new_member, Args, no_args, args, Function, nameless, named, Body, body, Primary, atom, parens, empty_array, array, empty_object, object, comma_object, Items, one_item, more_items, Props, one_prop, more_props, Prop, pair, getter, setter, Decl, bare, initialised, Decls, one_decl, more_decls, Optional, absent, present, Block, braces, Statements, no_statement, more_statements, Statement, block, empty, variables, expression, if_only, if_else, do_while, loop, for, for_var, for_in, for_var_in, jump, jump_to, return_only, return, throw, label, debugger, switch, switch_default, try_catch, try_finally, try_both, Cases, no_case, more_cases, Catch, catch, Finally, finally, Elements, no_element, more_elements, Element, statement, declaration}
use Rattle.es5_trees.specs.Spelling.{end_text, commas, expr_text, assign_text, binary_text, args_text, items_text, props_text, decls_text, optional_text, statement_text, statements_text, cases_text, catch_text, finally_text, elements_text}
use Rattle.es5_trees.specs.Endings.{after_word, expr_ending, decls_ending, Ends, is_open}

-- identifiers
abbrev pub GoodNames : Names → Type 0
GoodNames (one_name x) = is_ident x.token ≡ true
GoodNames (more_names x c xs) = (is_ident x.token ≡ true) × GoodNames xs

abbrev pub GoodParams : Params → Type 0
GoodParams (no_params o c) = Unit {0}
GoodParams (params o xs c) = GoodNames xs

-- the operator may stand where `in` may or may not
abbrev pub may_stand : Bool → Token → Bool
may_stand with_in t = with_in || not (is_in t)

-- the first flag: whether the operator `in` may stand outside brackets
abbrev mutual
  pub GoodExpr : Bool → Expr → List Lexeme → Type 0
  GoodExpr i (one a) rest = GoodAssign i a rest
  GoodExpr i (more a c e) rest = GoodAssign i a (mark Comma c ∷ expr_text e rest) × GoodExpr i e rest

  pub GoodAssign : Bool → Assign → List Lexeme → Type 0
  GoodAssign i (value c) rest = GoodCond i c rest
  GoodAssign i (assign l p n a) rest =
      (is_assign p ≡ true) × GoodLeft l (mark p n ∷ assign_text a rest) × GoodAssign i a rest

  -- between `?` and `:` it may
  pub GoodCond : Bool → Cond → List Lexeme → Type 0
  GoodCond i (plain b) rest = GoodBinary i 1 b rest
  GoodCond i (choice b q a c d) rest =
      GoodBinary i 1 b (mark Question q ∷ assign_text a (mark Colon c ∷ assign_text d rest))
      × GoodAssign true a (mark Colon c ∷ assign_text d rest)
      × GoodAssign i d rest

  -- at a level or above it: the operand before an operator is at its level, the one after above it
  pub GoodBinary : Bool → ℕ → Binary → List Lexeme → Type 0
  GoodBinary i n (operand u) rest = GoodUnary u rest
  GoodBinary i n (operation a x b) rest =
      ((n ≤ level x.token) × (1 ≤ level x.token) × (may_stand i x.token ≡ true))
      × GoodBinary i (level x.token) a (x ∷ binary_text b rest)
      × GoodBinary i (suc (level x.token)) b rest

  pub GoodUnary : Unary → List Lexeme → Type 0
  GoodUnary (unmarked p) rest = GoodPostfix p rest
  GoodUnary (prefix x u) rest = (is_prefix x.token ≡ true) × GoodUnary u rest

  pub GoodPostfix : Postfix → List Lexeme → Type 0
  GoodPostfix (left l) rest = GoodLeft l rest
  GoodPostfix (update l p) rest = (is_update p ≡ true) × GoodLeft l (mark p false ∷ rest)

  pub GoodLeft : Left → List Lexeme → Type 0
  GoodLeft (new_left n) rest = GoodNew n rest
  GoodLeft (call_left c) rest = GoodCall c rest

  pub GoodNew : New → List Lexeme → Type 0
  GoodNew (member m) rest = GoodMember m rest
  GoodNew (new_new n x) rest = GoodNew x rest

  pub GoodCall : Call → List Lexeme → Type 0
  GoodCall (call m a) rest = GoodMember m (args_text a rest) × GoodArgs a rest
  GoodCall (call_call c a) rest = GoodCall c (args_text a rest) × GoodArgs a rest
  GoodCall (call_index c o e d) rest =
      GoodCall c (mark LeftBracket o ∷ expr_text e (mark RightBracket d ∷ rest))
      × GoodExpr true e (mark RightBracket d ∷ rest)
  GoodCall (call_dot c d x) rest = GoodCall c (mark Dot d ∷ x ∷ rest) × (is_name x.token ≡ true)

  pub GoodMember : Member → List Lexeme → Type 0
  GoodMember (primary p) rest = GoodPrimary p rest
  GoodMember (function_member f) rest = GoodFunction f rest
  GoodMember (member_index m o e d) rest =
      GoodMember m (mark LeftBracket o ∷ expr_text e (mark RightBracket d ∷ rest))
      × GoodExpr true e (mark RightBracket d ∷ rest)
  GoodMember (member_dot m d x) rest = GoodMember m (mark Dot d ∷ x ∷ rest) × (is_name x.token ≡ true)
  GoodMember (new_member n m a) rest = GoodMember m (args_text a rest) × GoodArgs a rest

  pub GoodArgs : Args → List Lexeme → Type 0
  GoodArgs (no_args o c) rest = Unit {0}
  GoodArgs (args o e c) rest = GoodExpr true e (mark RightParen c ∷ rest)

  pub GoodFunction : Function → List Lexeme → Type 0
  GoodFunction (nameless n ps b) rest = GoodParams ps × GoodBody b rest
  GoodFunction (named n x ps b) rest = (is_ident x.token ≡ true) × GoodParams ps × GoodBody b rest

  pub GoodBody : Body → List Lexeme → Type 0
  GoodBody (body o es c) rest = GoodElements es (mark RightBrace c ∷ rest)

  pub GoodPrimary : Primary → List Lexeme → Type 0
  GoodPrimary (atom x) rest = is_atom x.token ≡ true
  GoodPrimary (parens o e c) rest = GoodExpr true e (mark RightParen c ∷ rest)
  GoodPrimary (empty_array o ns c) rest = Unit {0}
  GoodPrimary (array o is ns c) rest = GoodItems is (commas ns (mark RightBracket c ∷ rest))
  GoodPrimary (empty_object o c) rest = Unit {0}
  GoodPrimary (object o ps c) rest = GoodProps ps (mark RightBrace c ∷ rest)
  GoodPrimary (comma_object o ps n c) rest = GoodProps ps (mark Comma n ∷ mark RightBrace c ∷ rest)

  pub GoodItems : Items → List Lexeme → Type 0
  GoodItems (one_item ns a) rest = GoodAssign true a rest
  GoodItems (more_items ns a c is) rest =
      GoodAssign true a (mark Comma c ∷ items_text is rest) × GoodItems is rest

  pub GoodProps : Props → List Lexeme → Type 0
  GoodProps (one_prop p) rest = GoodProp p rest
  GoodProps (more_props p c ps) rest = GoodProp p (mark Comma c ∷ props_text ps rest) × GoodProps ps rest

  pub GoodProp : Prop → List Lexeme → Type 0
  GoodProp (pair k c a) rest = (is_key k.token ≡ true) × GoodAssign true a rest
  GoodProp (getter n k o c b) rest = (is_key k.token ≡ true) × GoodBody b rest
  GoodProp (setter n k o x c b) rest =
      (is_key k.token ≡ true) × (is_ident x.token ≡ true) × GoodBody b rest

  pub GoodDecl : Bool → Decl → List Lexeme → Type 0
  GoodDecl i (bare x) rest = is_ident x.token ≡ true
  GoodDecl i (initialised x n a) rest = (is_ident x.token ≡ true) × GoodAssign i a rest

  pub GoodDecls : Bool → Decls → List Lexeme → Type 0
  GoodDecls i (one_decl d) rest = GoodDecl i d rest
  GoodDecls i (more_decls d c ds) rest =
      GoodDecl i d (mark Comma c ∷ decls_text ds rest) × GoodDecls i ds rest

  pub GoodOptional : Bool → Optional → List Lexeme → Type 0
  GoodOptional i absent rest = Unit {0}
  GoodOptional i (present e) rest = GoodExpr i e rest

  pub GoodBlock : Block → List Lexeme → Type 0
  GoodBlock (braces o ss c) rest = GoodStatements ss (mark RightBrace c ∷ rest)

  pub GoodStatements : Statements → List Lexeme → Type 0
  GoodStatements no_statement rest = Unit {0}
  GoodStatements (more_statements s ss) rest =
      GoodStatement s (statements_text ss rest) × GoodStatements ss rest

  pub GoodStatement : Statement → List Lexeme → Type 0
  GoodStatement (block b) rest = GoodBlock b rest
  GoodStatement (empty n) rest = Unit {0}
  GoodStatement (variables n ds t) rest =
      GoodDecls true ds (end_text t rest) × Ends (decls_ending ds) t rest
  GoodStatement (expression e t) rest =
      GoodExpr true e (end_text t rest)
      × (may_begin_statement (expr_text e (end_text t rest)) ≡ true)
      × Ends (expr_ending e) t rest
  GoodStatement (if_only w o e c s) rest =
      GoodExpr true e (mark RightParen c ∷ statement_text s rest) × GoodStatement s rest
  GoodStatement (if_else w o e c s n t) rest =
      (GoodExpr true e (mark RightParen c ∷ statement_text s (word Else n ∷ statement_text t rest)) × (is_open s ≡ false))
      × GoodStatement s (word Else n ∷ statement_text t rest)
      × GoodStatement t rest
  GoodStatement (do_while w s n o e c t) rest =
      GoodStatement s (word While n ∷ mark LeftParen o ∷ expr_text e (mark RightParen c ∷ end_text t rest))
      × GoodExpr true e (mark RightParen c ∷ end_text t rest)
      × Ends after_word t rest
  GoodStatement (loop x w o e c s) rest =
      (is_loop_word x ≡ true)
      × GoodExpr true e (mark RightParen c ∷ statement_text s rest)
      × GoodStatement s rest
  GoodStatement (for w o a m b n d c s) rest =
      (GoodOptional false a (mark Semicolon m ∷ optional_text b (mark Semicolon n ∷ optional_text d (mark RightParen c ∷ statement_text s rest)))
      × GoodOptional true b (mark Semicolon n ∷ optional_text d (mark RightParen c ∷ statement_text s rest))
      × GoodOptional true d (mark RightParen c ∷ statement_text s rest))
      × GoodStatement s rest
  GoodStatement (for_var w o v ds m b n d c s) rest =
      (GoodDecls false ds (mark Semicolon m ∷ optional_text b (mark Semicolon n ∷ optional_text d (mark RightParen c ∷ statement_text s rest)))
      × GoodOptional true b (mark Semicolon n ∷ optional_text d (mark RightParen c ∷ statement_text s rest))
      × GoodOptional true d (mark RightParen c ∷ statement_text s rest))
      × GoodStatement s rest
  GoodStatement (for_in w o l n e c s) rest =
      GoodLeft l (word In n ∷ expr_text e (mark RightParen c ∷ statement_text s rest))
      × GoodExpr true e (mark RightParen c ∷ statement_text s rest)
      × GoodStatement s rest
  GoodStatement (for_var_in w o v d n e c s) rest =
      GoodDecl false d (word In n ∷ expr_text e (mark RightParen c ∷ statement_text s rest))
      × GoodExpr true e (mark RightParen c ∷ statement_text s rest)
      × GoodStatement s rest
  GoodStatement (jump x n t) rest = (is_jump_word x ≡ true) × Ends after_word t rest
  GoodStatement (jump_to x n i t) rest =
      (is_jump_word x ≡ true) × (is_ident i ≡ true) × Ends after_word t rest
  GoodStatement (return_only n t) rest = Ends after_word t rest
  GoodStatement (return n e t) rest =
      GoodExpr true e (end_text t rest)
      × (is_on_line (expr_text e (end_text t rest)) ≡ true)
      × Ends (expr_ending e) t rest
  GoodStatement (throw n e t) rest =
      GoodExpr true e (end_text t rest)
      × (is_on_line (expr_text e (end_text t rest)) ≡ true)
      × Ends (expr_ending e) t rest
  GoodStatement (label x c s) rest = (is_ident x.token ≡ true) × GoodStatement s rest
  GoodStatement (debugger n t) rest = Ends after_word t rest
  GoodStatement (switch w o e c l cs r) rest =
      GoodExpr true e (mark RightParen c ∷ mark LeftBrace l ∷ cases_text cs (mark RightBrace r ∷ rest))
      × GoodCases cs (mark RightBrace r ∷ rest)
  GoodStatement (switch_default w o e c l cs d n ss ds r) rest =
      (GoodExpr true e (mark RightParen c ∷ mark LeftBrace l ∷ cases_text cs (word Default d ∷ mark Colon n ∷ statements_text ss (cases_text ds (mark RightBrace r ∷ rest))))
      × GoodCases cs (word Default d ∷ mark Colon n ∷ statements_text ss (cases_text ds (mark RightBrace r ∷ rest))))
      × GoodStatements ss (cases_text ds (mark RightBrace r ∷ rest))
      × GoodCases ds (mark RightBrace r ∷ rest)
  GoodStatement (try_catch n b c) rest = GoodBlock b (catch_text c rest) × GoodCatch c rest
  GoodStatement (try_finally n b f) rest = GoodBlock b (finally_text f rest) × GoodFinally f rest
  GoodStatement (try_both n b c f) rest =
      GoodBlock b (catch_text c (finally_text f rest)) × GoodCatch c (finally_text f rest) × GoodFinally f rest

  pub GoodCases : Cases → List Lexeme → Type 0
  GoodCases no_case rest = Unit {0}
  GoodCases (more_cases w e c ss cs) rest =
      GoodExpr true e (mark Colon c ∷ statements_text ss (cases_text cs rest))
      × GoodStatements ss (cases_text cs rest)
      × GoodCases cs rest

  pub GoodCatch : Catch → List Lexeme → Type 0
  GoodCatch (catch w o x c b) rest = (is_ident x.token ≡ true) × GoodBlock b rest

  pub GoodFinally : Finally → List Lexeme → Type 0
  GoodFinally (finally w b) rest = GoodBlock b rest

  pub GoodElements : Elements → List Lexeme → Type 0
  GoodElements no_element rest = Unit {0}
  GoodElements (more_elements e es) rest = GoodElement e (elements_text es rest) × GoodElements es rest

  pub GoodElement : Element → List Lexeme → Type 0
  GoodElement (statement s) rest = GoodStatement s rest
  GoodElement (declaration n x ps b) rest = (is_ident x.token ≡ true) × GoodParams ps × GoodBody b rest
