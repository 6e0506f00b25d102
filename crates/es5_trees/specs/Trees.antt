-- The trees of programs (ECMA-262 5.1, sections 11 to 14): a constructor for each alternative of a
-- rule. Each token of a rule is there by its newline flag, a `Bool`, or, where it is one of several,
-- as a lexeme; a token before which no line may end has no flag. `specs/Good` has what else a rule
-- asks.
use Rattle.std.specs.Prelude.{Bool, List}
use Rattle.es5_lexer.specs.declared.tokens.Word.{Word}
use Rattle.es5_lexer.specs.declared.tokens.Punct.{Punct}
use Rattle.es5_lexer.specs.declared.tokens.Token.{Token}
use Rattle.es5_lexer.specs.declared.tokens.Lexeme.{Lexeme}

-- FormalParameterList (13): identifiers with commas between
pub data Names : Type 0 where
  one_name : Lexeme → Names
  more_names : Lexeme → (comma : Bool) → Names → Names

-- in parentheses, perhaps none
pub data Params : Type 0 where
  no_params : (opens closes : Bool) → Params
  params : (opens : Bool) → Names → (closes : Bool) → Params

-- the end of a statement: `;`, or nothing (7.9)
pub data End : Type 0 where
  semicolon : Bool → End
  omitted : End

mutual
  -- Expression (11.14)
  pub data Expr : Type 0 where
    one : Assign → Expr
    more : Assign → (comma : Bool) → Expr → Expr

  -- AssignmentExpression (11.13)
  pub data Assign : Type 0 where
    value : Cond → Assign
    assign : Left → Punct → Bool → Assign → Assign

  -- ConditionalExpression (11.12)
  pub data Cond : Type 0 where
    plain : Binary → Cond
    choice : Binary → (question : Bool) → Assign → (colon : Bool) → Assign → Cond

  -- LogicalORExpression to MultiplicativeExpression (11.5 to 11.11), told apart by their level
  pub data Binary : Type 0 where
    operand : Unary → Binary
    operation : Binary → Lexeme → Binary → Binary

  -- UnaryExpression (11.4)
  pub data Unary : Type 0 where
    unmarked : Postfix → Unary
    prefix : Lexeme → Unary → Unary

  -- PostfixExpression (11.3): no line ends before `++` and `--`
  pub data Postfix : Type 0 where
    left : Left → Postfix
    update : Left → Punct → Postfix

  -- LeftHandSideExpression (11.2)
  pub data Left : Type 0 where
    new_left : New → Left
    call_left : Call → Left

  -- NewExpression
  pub data New : Type 0 where
    member : Member → New
    new_new : Bool → New → New

  -- CallExpression
  pub data Call : Type 0 where
    call : Member → Args → Call
    call_call : Call → Args → Call
    call_index : Call → (opens : Bool) → Expr → (closes : Bool) → Call
    call_dot : Call → (dot : Bool) → Lexeme → Call

  -- MemberExpression
  pub data Member : Type 0 where
    primary : Primary → Member
    function_member : Function → Member
    member_index : Member → (opens : Bool) → Expr → (closes : Bool) → Member
    member_dot : Member → (dot : Bool) → Lexeme → Member
    new_member : Bool → Member → Args → Member

  -- Arguments
  pub data Args : Type 0 where
    no_args : (opens closes : Bool) → Args
    args : (opens : Bool) → Expr → (closes : Bool) → Args

  -- FunctionExpression (13), with a name or without
  pub data Function : Type 0 where
    nameless : Bool → Params → Body → Function
    named : Bool → Lexeme → Params → Body → Function

  -- FunctionBody in its braces
  pub data Body : Type 0 where
    body : (opens : Bool) → Elements → (closes : Bool) → Body

  -- PrimaryExpression (11.1)
  pub data Primary : Type 0 where
    atom : Lexeme → Primary
    parens : (opens : Bool) → Expr → (closes : Bool) → Primary
    empty_array : (opens : Bool) → (elisions : List Bool) → (closes : Bool) → Primary
    array : (opens : Bool) → Items → (elisions : List Bool) → (closes : Bool) → Primary
    empty_object : (opens closes : Bool) → Primary
    object : (opens : Bool) → Props → (closes : Bool) → Primary
    comma_object : (opens : Bool) → Props → (comma closes : Bool) → Primary

  -- ElementList (11.1.4): elisions before each element
  pub data Items : Type 0 where
    one_item : (elisions : List Bool) → Assign → Items
    more_items : (elisions : List Bool) → Assign → (comma : Bool) → Items → Items

  -- PropertyNameAndValueList (11.1.5)
  pub data Props : Type 0 where
    one_prop : Prop → Props
    more_props : Prop → (comma : Bool) → Props → Props

  -- PropertyAssignment
  pub data Prop : Type 0 where
    pair : Lexeme → (colon : Bool) → Assign → Prop
    getter : Bool → Lexeme → (opens closes : Bool) → Body → Prop
    setter : Bool → Lexeme → (opens : Bool) → Lexeme → (closes : Bool) → Body → Prop

  -- VariableDeclaration (12.2)
  pub data Decl : Type 0 where
    bare : Lexeme → Decl
    initialised : Lexeme → (equals : Bool) → Assign → Decl

  -- VariableDeclarationList
  pub data Decls : Type 0 where
    one_decl : Decl → Decls
    more_decls : Decl → (comma : Bool) → Decls → Decls

  -- a part of a `for` header that may be absent
  pub data Optional : Type 0 where
    absent : Optional
    present : Expr → Optional

  -- Block (12.1)
  pub data Block : Type 0 where
    braces : (opens : Bool) → Statements → (closes : Bool) → Block

  -- StatementList
  pub data Statements : Type 0 where
    no_statement : Statements
    more_statements : Statement → Statements → Statements

  -- Statement (12)
  pub data Statement : Type 0 where
    block : Block → Statement
    empty : Bool → Statement
    variables : Bool → Decls → End → Statement
    expression : Expr → End → Statement
    if_only : (word opens : Bool) → Expr → (closes : Bool) → Statement → Statement
    if_else : (word opens : Bool) → Expr → (closes : Bool) → Statement → (other : Bool) → Statement → Statement
    do_while : (word : Bool) → Statement → (while opens : Bool) → Expr → (closes : Bool) → End → Statement
    -- `while` or `with`
    loop : Word → (word opens : Bool) → Expr → (closes : Bool) → Statement → Statement
    for : (word opens : Bool) → Optional → (first : Bool) → Optional → (second : Bool) → Optional → (closes : Bool) → Statement → Statement
    for_var : (word opens var : Bool) → Decls → (first : Bool) → Optional → (second : Bool) → Optional → (closes : Bool) → Statement → Statement
    for_in : (word opens : Bool) → Left → (of : Bool) → Expr → (closes : Bool) → Statement → Statement
    for_var_in : (word opens var : Bool) → Decl → (of : Bool) → Expr → (closes : Bool) → Statement → Statement
    -- `continue` or `break`, without an identifier and with one
    jump : Word → Bool → End → Statement
    jump_to : Word → Bool → Token → End → Statement
    return_only : Bool → End → Statement
    return : Bool → Expr → End → Statement
    throw : Bool → Expr → End → Statement
    label : Lexeme → (colon : Bool) → Statement → Statement
    debugger : Bool → End → Statement
    switch : (word opens : Bool) → Expr → (closes brace : Bool) → Cases → (end : Bool) → Statement
    switch_default : (word opens : Bool) → Expr → (closes brace : Bool) → Cases → (default colon : Bool) → Statements → Cases → (end : Bool) → Statement
    try_catch : Bool → Block → Catch → Statement
    try_finally : Bool → Block → Finally → Statement
    try_both : Bool → Block → Catch → Finally → Statement

  -- CaseClauses (12.11)
  pub data Cases : Type 0 where
    no_case : Cases
    more_cases : (word : Bool) → Expr → (colon : Bool) → Statements → Cases → Cases

  -- Catch and Finally (12.14)
  pub data Catch : Type 0 where
    catch : (word opens : Bool) → Lexeme → (closes : Bool) → Block → Catch

  pub data Finally : Type 0 where
    finally : (word : Bool) → Block → Finally

  -- SourceElements (14): Program
  pub data Elements : Type 0 where
    no_element : Elements
    more_elements : Element → Elements → Elements

  -- SourceElement: a Statement or a FunctionDeclaration (13)
  pub data Element : Type 0 where
    statement : Statement → Element
    declaration : Bool → Lexeme → Params → Body → Element
