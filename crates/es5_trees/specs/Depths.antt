-- How many units are open at each token of a tree, before those of what follows it. A unit is a
-- pair of brackets, a conditional from `?` to `:`, the first branch of an `if`, or a `do` with its
-- body; the tokens at both ends are in it. Each clause is one of `Spelling`, with the number of units
-- in the place of the token.
use Rattle.std.specs.Prelude.{ℕ, suc, max, Bool, List, [], ◌∷◌}
use Rattle.es5_trees.specs.Trees.{Names, one_name, more_names, Params, no_params, params, End, semicolon, omitted, Expr, one, more, Assign, value, assign, Cond, plain, choice, Binary, operand, operation, Unary, unmarked, prefix, Postfix, left, update, Left, new_left, call_left, New, member, new_new, Call, call, call_call, call_index, call_dot, Member, primary, function_member, member_index, member_dot, new_member, Args, no_args, args, Function, nameless, named, Body, body, Primary, atom, parens, empty_array, array, empty_object, object, comma_object, Items, one_item, more_items, Props, one_prop, more_props, Prop, pair, getter, setter, Decl, bare, initialised, Decls, one_decl, more_decls, Optional, absent, present, Block, braces, Statements, no_statement, more_statements, Statement, block, empty, variables, expression, if_only, if_else, do_while, loop, for, for_var, for_in, for_var_in, jump, jump_to, return_only, return, throw, label, debugger, switch, switch_default, try_catch, try_finally, try_both, Cases, no_case, more_cases, Catch, catch, Finally, finally, Elements, no_element, more_elements, Element, statement, declaration}

-- the greatest of the numbers: how deep a list of tokens nests
abbrev pub greatest : List ℕ → ℕ
greatest [] = 0
greatest (n ∷ ns) = max n (greatest ns)

abbrev pub names_depths : ℕ → Names → List ℕ → List ℕ
names_depths units (one_name x) rest = units ∷ rest
names_depths units (more_names x c xs) rest = units ∷ units ∷ names_depths units xs rest

abbrev pub params_depths : ℕ → Params → List ℕ → List ℕ
params_depths units (no_params o c) rest = suc units ∷ suc units ∷ rest
params_depths units (params o xs c) rest =
    suc units ∷ names_depths (suc units) xs (suc units ∷ rest)

abbrev pub end_depths : ℕ → End → List ℕ → List ℕ
end_depths units (semicolon n) rest = units ∷ rest
end_depths units omitted rest = rest

-- elisions: commas
abbrev pub commas_depths : ℕ → List Bool → List ℕ → List ℕ
commas_depths units [] rest = rest
commas_depths units (n ∷ ns) rest = units ∷ commas_depths units ns rest

abbrev mutual
  pub expr_depths : ℕ → Expr → List ℕ → List ℕ
  expr_depths units (one a) rest = assign_depths units a rest
  expr_depths units (more a c e) rest = assign_depths units a (units ∷ expr_depths units e rest)

  pub assign_depths : ℕ → Assign → List ℕ → List ℕ
  assign_depths units (value c) rest = cond_depths units c rest
  assign_depths units (assign l p n a) rest =
      left_depths units l (units ∷ assign_depths units a rest)

  pub cond_depths : ℕ → Cond → List ℕ → List ℕ
  cond_depths units (plain b) rest = binary_depths units b rest
  cond_depths units (choice b q a c d) rest =
      binary_depths units b (suc units ∷ assign_depths (suc units) a (suc units ∷ assign_depths units d rest))

  pub binary_depths : ℕ → Binary → List ℕ → List ℕ
  binary_depths units (operand u) rest = unary_depths units u rest
  binary_depths units (operation a x b) rest =
      binary_depths units a (units ∷ binary_depths units b rest)

  pub unary_depths : ℕ → Unary → List ℕ → List ℕ
  unary_depths units (unmarked p) rest = postfix_depths units p rest
  unary_depths units (prefix x u) rest = units ∷ unary_depths units u rest

  pub postfix_depths : ℕ → Postfix → List ℕ → List ℕ
  postfix_depths units (left l) rest = left_depths units l rest
  postfix_depths units (update l p) rest = left_depths units l (units ∷ rest)

  pub left_depths : ℕ → Left → List ℕ → List ℕ
  left_depths units (new_left n) rest = new_depths units n rest
  left_depths units (call_left c) rest = call_depths units c rest

  pub new_depths : ℕ → New → List ℕ → List ℕ
  new_depths units (member m) rest = member_depths units m rest
  new_depths units (new_new n x) rest = units ∷ new_depths units x rest

  pub call_depths : ℕ → Call → List ℕ → List ℕ
  call_depths units (call m a) rest = member_depths units m (args_depths units a rest)
  call_depths units (call_call c a) rest = call_depths units c (args_depths units a rest)
  call_depths units (call_index c o e d) rest =
      call_depths units c (suc units ∷ expr_depths (suc units) e (suc units ∷ rest))
  call_depths units (call_dot c d x) rest = call_depths units c (units ∷ units ∷ rest)

  pub member_depths : ℕ → Member → List ℕ → List ℕ
  member_depths units (primary p) rest = primary_depths units p rest
  member_depths units (function_member f) rest = function_depths units f rest
  member_depths units (member_index m o e d) rest =
      member_depths units m (suc units ∷ expr_depths (suc units) e (suc units ∷ rest))
  member_depths units (member_dot m d x) rest = member_depths units m (units ∷ units ∷ rest)
  member_depths units (new_member n m a) rest =
      units ∷ member_depths units m (args_depths units a rest)

  pub args_depths : ℕ → Args → List ℕ → List ℕ
  args_depths units (no_args o c) rest = suc units ∷ suc units ∷ rest
  args_depths units (args o e c) rest = suc units ∷ expr_depths (suc units) e (suc units ∷ rest)

  pub function_depths : ℕ → Function → List ℕ → List ℕ
  function_depths units (nameless n ps b) rest =
      units ∷ params_depths units ps (body_depths units b rest)
  function_depths units (named n x ps b) rest =
      units ∷ units ∷ params_depths units ps (body_depths units b rest)

  pub body_depths : ℕ → Body → List ℕ → List ℕ
  body_depths units (body o es c) rest =
      suc units ∷ elements_depths (suc units) es (suc units ∷ rest)

  pub primary_depths : ℕ → Primary → List ℕ → List ℕ
  primary_depths units (atom x) rest = units ∷ rest
  primary_depths units (parens o e c) rest =
      suc units ∷ expr_depths (suc units) e (suc units ∷ rest)
  primary_depths units (empty_array o ns c) rest =
      suc units ∷ commas_depths (suc units) ns (suc units ∷ rest)
  primary_depths units (array o is ns c) rest =
      suc units ∷ items_depths (suc units) is (commas_depths (suc units) ns (suc units ∷ rest))
  primary_depths units (empty_object o c) rest = suc units ∷ suc units ∷ rest
  primary_depths units (object o ps c) rest =
      suc units ∷ props_depths (suc units) ps (suc units ∷ rest)
  primary_depths units (comma_object o ps n c) rest =
      suc units ∷ props_depths (suc units) ps (suc units ∷ suc units ∷ rest)

  pub items_depths : ℕ → Items → List ℕ → List ℕ
  items_depths units (one_item ns a) rest = commas_depths units ns (assign_depths units a rest)
  items_depths units (more_items ns a c is) rest =
      commas_depths units ns (assign_depths units a (units ∷ items_depths units is rest))

  pub props_depths : ℕ → Props → List ℕ → List ℕ
  props_depths units (one_prop p) rest = prop_depths units p rest
  props_depths units (more_props p c ps) rest =
      prop_depths units p (units ∷ props_depths units ps rest)

  pub prop_depths : ℕ → Prop → List ℕ → List ℕ
  prop_depths units (pair k c a) rest = units ∷ units ∷ assign_depths units a rest
  prop_depths units (getter n k o c b) rest =
      units ∷ units ∷ suc units ∷ suc units ∷ body_depths units b rest
  prop_depths units (setter n k o x c b) rest =
      units ∷ units ∷ suc units ∷ suc units ∷ suc units ∷ body_depths units b rest

  pub decl_depths : ℕ → Decl → List ℕ → List ℕ
  decl_depths units (bare x) rest = units ∷ rest
  decl_depths units (initialised x n a) rest = units ∷ units ∷ assign_depths units a rest

  pub decls_depths : ℕ → Decls → List ℕ → List ℕ
  decls_depths units (one_decl d) rest = decl_depths units d rest
  decls_depths units (more_decls d c ds) rest =
      decl_depths units d (units ∷ decls_depths units ds rest)

  pub optional_depths : ℕ → Optional → List ℕ → List ℕ
  optional_depths units absent rest = rest
  optional_depths units (present e) rest = expr_depths units e rest

  pub block_depths : ℕ → Block → List ℕ → List ℕ
  block_depths units (braces o ss c) rest =
      suc units ∷ statements_depths (suc units) ss (suc units ∷ rest)

  pub statements_depths : ℕ → Statements → List ℕ → List ℕ
  statements_depths units no_statement rest = rest
  statements_depths units (more_statements s ss) rest =
      statement_depths units s (statements_depths units ss rest)

  pub statement_depths : ℕ → Statement → List ℕ → List ℕ
  statement_depths units (block b) rest = block_depths units b rest
  statement_depths units (empty n) rest = units ∷ rest
  statement_depths units (variables n ds t) rest =
      units ∷ decls_depths units ds (end_depths units t rest)
  statement_depths units (expression e t) rest = expr_depths units e (end_depths units t rest)
  statement_depths units (if_only w o e c s) rest =
      units ∷ suc units ∷ expr_depths (suc units) e (suc units ∷ statement_depths (suc units) s rest)
  statement_depths units (if_else w o e c s n t) rest =
      units ∷ suc units ∷ expr_depths (suc units) e (suc units ∷ statement_depths (suc units) s (units ∷ statement_depths units t rest))
  statement_depths units (do_while w s n o e c t) rest =
      suc units ∷ statement_depths (suc units) s (units ∷ suc units ∷ expr_depths (suc units) e (suc units ∷ end_depths units t rest))
  statement_depths units (loop x w o e c s) rest =
      units ∷ suc units ∷ expr_depths (suc units) e (suc units ∷ statement_depths units s rest)
  statement_depths units (for w o a m b n d c s) rest =
      units ∷ suc units ∷ optional_depths (suc units) a (suc units ∷ optional_depths (suc units) b (suc units ∷ optional_depths (suc units) d (suc units ∷ statement_depths units s rest)))
  statement_depths units (for_var w o v ds m b n d c s) rest =
      units ∷ suc units ∷ suc units ∷ decls_depths (suc units) ds (suc units ∷ optional_depths (suc units) b (suc units ∷ optional_depths (suc units) d (suc units ∷ statement_depths units s rest)))
  statement_depths units (for_in w o l n e c s) rest =
      units ∷ suc units ∷ left_depths (suc units) l (suc units ∷ expr_depths (suc units) e (suc units ∷ statement_depths units s rest))
  statement_depths units (for_var_in w o v d n e c s) rest =
      units ∷ suc units ∷ suc units ∷ decl_depths (suc units) d (suc units ∷ expr_depths (suc units) e (suc units ∷ statement_depths units s rest))
  statement_depths units (jump x n t) rest = units ∷ end_depths units t rest
  statement_depths units (jump_to x n i t) rest = units ∷ units ∷ end_depths units t rest
  statement_depths units (return_only n t) rest = units ∷ end_depths units t rest
  statement_depths units (return n e t) rest = units ∷ expr_depths units e (end_depths units t rest)
  statement_depths units (throw n e t) rest = units ∷ expr_depths units e (end_depths units t rest)
  statement_depths units (label x c s) rest = units ∷ units ∷ statement_depths units s rest
  statement_depths units (debugger n t) rest = units ∷ end_depths units t rest
  statement_depths units (switch w o e c l cs r) rest =
      units ∷ suc units ∷ expr_depths (suc units) e (suc units ∷ suc units ∷ cases_depths (suc units) cs (suc units ∷ rest))
  statement_depths units (switch_default w o e c l cs d n ss ds r) rest =
      units ∷ suc units ∷ expr_depths (suc units) e (suc units ∷ suc units ∷ cases_depths (suc units) cs (suc units ∷ suc units ∷ statements_depths (suc units) ss (cases_depths (suc units) ds (suc units ∷ rest))))
  statement_depths units (try_catch n b c) rest =
      units ∷ block_depths units b (catch_depths units c rest)
  statement_depths units (try_finally n b f) rest =
      units ∷ block_depths units b (finally_depths units f rest)
  statement_depths units (try_both n b c f) rest =
      units ∷ block_depths units b (catch_depths units c (finally_depths units f rest))

  pub cases_depths : ℕ → Cases → List ℕ → List ℕ
  cases_depths units no_case rest = rest
  cases_depths units (more_cases w e c ss cs) rest =
      units ∷ expr_depths units e (units ∷ statements_depths units ss (cases_depths units cs rest))

  pub catch_depths : ℕ → Catch → List ℕ → List ℕ
  catch_depths units (catch w o x c b) rest =
      units ∷ suc units ∷ suc units ∷ suc units ∷ block_depths units b rest

  pub finally_depths : ℕ → Finally → List ℕ → List ℕ
  finally_depths units (finally w b) rest = units ∷ block_depths units b rest

  pub elements_depths : ℕ → Elements → List ℕ → List ℕ
  elements_depths units no_element rest = rest
  elements_depths units (more_elements e es) rest =
      element_depths units e (elements_depths units es rest)

  pub element_depths : ℕ → Element → List ℕ → List ℕ
  element_depths units (statement s) rest = statement_depths units s rest
  element_depths units (declaration n x ps b) rest =
      units ∷ units ∷ params_depths units ps (body_depths units b rest)
