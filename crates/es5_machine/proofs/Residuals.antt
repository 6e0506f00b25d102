-- What may follow where the machine stands, in the terms of the grammar: types of lists of tokens that
-- hold the trees which are still to come. One line says it for each state and one for each frame; none
-- mentions what the machine does at a token.
use Rattle.std.proofs.Common.{◌≡◌, Bool, true, false, Option, List, [], ◌∷◌}
use Rattle.es5_lexer.specs.declared.tokens.Word.{Word}
use Rattle.es5_lexer.specs.declared.tokens.Word.TheVariants.{New as NewWord, Var, Else, While, In, Return, Throw, Default, Catch as CatchWord, Finally as FinallyWord}
use Rattle.es5_lexer.specs.declared.tokens.Punct.{Punct}
use Rattle.es5_lexer.specs.declared.tokens.Punct.TheVariants.{LeftBrace, RightBrace, LeftParen, RightParen, RightBracket, Dot, Semicolon, Comma, Question, Colon}
use Rattle.es5_lexer.specs.declared.tokens.Token.TheVariants.{Get, Set}
use Rattle.es5_lexer.specs.declared.tokens.Lexeme.{Lexeme}
use Rattle.es5_trees.specs.Words.{lexeme, mark, word, is_ident, is_key, is_jump_word}
use Rattle.es5_trees.specs.Trees.{Names, Params, End, Expr, Assign, Unary, Left, Call, Member, Body, Items, Props, Decl, Decls, Optional, Block, Statements, Statement, Cases, Elements}
use Rattle.es5_trees.specs.Spelling.{names_text, params_text, end_text, commas, expr_text, assign_text, unary_text, left_text, call_text, member_text, body_text, items_text, props_text, decl_text, decls_text, optional_text, block_text, statements_text, statement_text, cases_text, elements_text}
use Rattle.es5_trees.specs.Endings.{Ending, after_operand, after_update, after_word, unary_ending, assign_ending, expr_ending, decls_ending, Ends as EndsWith, is_open}
use Rattle.es5_trees.specs.Good.{GoodNames, GoodParams, GoodExpr, GoodAssign, GoodUnary, GoodLeft, GoodCall, GoodMember, GoodBody, GoodItems, GoodProps, GoodDecl, GoodDecls, GoodOptional, GoodBlock, GoodStatements, GoodStatement, GoodCases, GoodElements}
use Rattle.es5_machine.specs.declared.states.Role.{Role}
use Rattle.es5_machine.specs.declared.states.Role.TheVariants.{Plain, Target, Header}
use Rattle.es5_machine.specs.declared.states.Ends.{Ends}
use Rattle.es5_machine.specs.declared.states.Ends.TheVariants.{ByFrame, BySemicolon, ByDeclaration}
use Rattle.es5_machine.specs.declared.states.Part.{Part}
use Rattle.es5_machine.specs.declared.states.Part.TheVariants.{If, Loop, Switch, DoWhile, Init, First, Next, Test}
use Rattle.es5_machine.specs.declared.states.BlockKind.{BlockKind}
use Rattle.es5_machine.specs.declared.states.BlockKind.TheVariants.{Try as TryBlock, Catch as CatchBlock}
use Rattle.es5_machine.specs.declared.states.Phase.{Phase}
use Rattle.es5_machine.specs.declared.states.Phase.TheVariants.{NoClause, InClause, Defaulted}
use Rattle.es5_machine.specs.declared.states.Owner.{Owner}
use Rattle.es5_machine.specs.declared.states.Owner.TheVariants.{Declaration, Expression, Getter, Setter, Handler}
use Rattle.es5_machine.specs.declared.states.Frame.{Frame}
use Rattle.es5_machine.specs.declared.states.Frame.TheVariants.{Paren, Index, Array, Object, Conditional, Head, Parameters, Braces, Block as BlockFrame, Clauses, Branch, Do}
use Rattle.es5_machine.specs.declared.states.Control.{Control}
use Rattle.es5_machine.specs.declared.states.Control.TheVariants.{Between, Need, AfterCatch, AtEnd, AfterJump, AfterReturn, AfterThrow, AfterTry, AfterDefault, Open, Binding, Bound, Operand, Callee, AfterLeft, AfterName, AfterDot, AfterUpdate, AfterAccessor, MayLack, Properties, AfterKey, AfterGet, AfterSet, DeclarationName, FunctionName, FirstParameter, NextParameter, AfterParameter, Dead}
use Rattle.es5_machine.specs.declared.states.Answer.{Answer}
use Rattle.es5_machine.specs.declared.states.Answer.TheVariants.{Refuse, Go, Push, Pop, Swap}
use Rattle.es5_machine.specs.Steps.{top_of, popped, in_stands}
use Rattle.es5_trees.specs.Chains.{Tail, tail_text, GoodTail, chain_ending}

-- a tree is spelled, and K holds of the rest

pub data MarkThen (p : Punct) (K : List Lexeme → Type 0) : List Lexeme → Type 0 where
  mark_then : (m : Bool) (rest : List Lexeme) → K rest → MarkThen p K (mark p m ∷ rest)

pub data IdentThen (K : List Lexeme → Type 0) : List Lexeme → Type 0 where
  ident_then : (x : Lexeme) (rest : List Lexeme) → is_ident x.token ≡ true → K rest → IdentThen K (x ∷ rest)

-- expressions; `i` says whether `in` may stand, and K may know what the tree ended in

pub data AssignThen (i : Bool) (K : Ending → List Lexeme → Type 0) : List Lexeme → Type 0 where
  assign_then : (a : Assign) (rest : List Lexeme) → GoodAssign i a rest → K (assign_ending a) rest → AssignThen i K (assign_text a rest)

-- after a chain of operands that ended so: the expression is whole, or `?` goes on with it
pub data CondRest (i : Bool) (K : Ending → List Lexeme → Type 0) (k : Ending) : List Lexeme → Type 0 where
  ends_so : (rest : List Lexeme) → K k rest → CondRest i K k rest
  chooses : (q : Bool) (a : Assign) (c : Bool) (d : Assign) (rest : List Lexeme) → GoodAssign true a (mark Colon c ∷ assign_text d rest) → GoodAssign i d rest → K (assign_ending d) rest → CondRest i K k (mark Question q ∷ assign_text a (mark Colon c ∷ assign_text d rest))

pub data ChainThen (i : Bool) (K : Ending → List Lexeme → Type 0) : List Lexeme → Type 0 where
  chain_then : (u : Unary) (tail : Tail) (rest : List Lexeme) → GoodUnary u (tail_text tail rest) → GoodTail i tail rest → CondRest i K (chain_ending u tail) rest → ChainThen i K (unary_text u (tail_text tail rest))

-- an Expression and the mark that ends it
pub data ExprThen (i : Bool) (p : Punct) (K : List Lexeme → Type 0) : List Lexeme → Type 0 where
  expr_then : (e : Expr) (m : Bool) (rest : List Lexeme) → GoodExpr i e (mark p m ∷ rest) → K rest → ExprThen i p K (expr_text e (mark p m ∷ rest))

-- the same after its first AssignmentExpression
pub data MoreThen (i : Bool) (p : Punct) (K : List Lexeme → Type 0) : List Lexeme → Type 0 where
  closes : (m : Bool) (rest : List Lexeme) → K rest → MoreThen i p K (mark p m ∷ rest)
  goes_on : (c : Bool) (e : Expr) (m : Bool) (rest : List Lexeme) → GoodExpr i e (mark p m ∷ rest) → K rest → MoreThen i p K (mark Comma c ∷ expr_text e (mark p m ∷ rest))

-- a part that may be absent and the mark that ends it
pub data OptionalThen (i : Bool) (p : Punct) (K : List Lexeme → Type 0) : List Lexeme → Type 0 where
  optional_then : (o : Optional) (m : Bool) (rest : List Lexeme) → GoodOptional i o (mark p m ∷ rest) → K rest → OptionalThen i p K (optional_text o (mark p m ∷ rest))

-- in an array literal
pub data ItemsThen (K : List Lexeme → Type 0) : List Lexeme → Type 0 where
  no_items : (ns : List Bool) (c : Bool) (rest : List Lexeme) → K rest → ItemsThen K (commas ns (mark RightBracket c ∷ rest))
  some_items : (is : Items) (ns : List Bool) (c : Bool) (rest : List Lexeme) → GoodItems is (commas ns (mark RightBracket c ∷ rest)) → K rest → ItemsThen K (items_text is (commas ns (mark RightBracket c ∷ rest)))

pub data ItemsMore (K : List Lexeme → Type 0) : List Lexeme → Type 0 where
  items_end : (ns : List Bool) (c : Bool) (rest : List Lexeme) → K rest → ItemsMore K (commas ns (mark RightBracket c ∷ rest))
  items_on : (n : Bool) (is : Items) (ns : List Bool) (c : Bool) (rest : List Lexeme) → GoodItems is (commas ns (mark RightBracket c ∷ rest)) → K rest → ItemsMore K (mark Comma n ∷ items_text is (commas ns (mark RightBracket c ∷ rest)))

-- in an object literal
pub data PropsThen (K : List Lexeme → Type 0) : List Lexeme → Type 0 where
  no_props : (c : Bool) (rest : List Lexeme) → K rest → PropsThen K (mark RightBrace c ∷ rest)
  some_props : (ps : Props) (c : Bool) (rest : List Lexeme) → GoodProps ps (mark RightBrace c ∷ rest) → K rest → PropsThen K (props_text ps (mark RightBrace c ∷ rest))
  comma_props : (ps : Props) (n c : Bool) (rest : List Lexeme) → GoodProps ps (mark Comma n ∷ mark RightBrace c ∷ rest) → K rest → PropsThen K (props_text ps (mark Comma n ∷ mark RightBrace c ∷ rest))

pub data PropsMore (K : List Lexeme → Type 0) : List Lexeme → Type 0 where
  props_end : (c : Bool) (rest : List Lexeme) → K rest → PropsMore K (mark RightBrace c ∷ rest)
  props_on : (n : Bool) (rest : List Lexeme) → PropsThen K rest → PropsMore K (mark Comma n ∷ rest)

-- names in parentheses
pub data NamesThen (K : List Lexeme → Type 0) : List Lexeme → Type 0 where
  names_then : (xs : Names) (c : Bool) (rest : List Lexeme) → GoodNames xs → K rest → NamesThen K (names_text xs (mark RightParen c ∷ rest))

pub data FirstNames (K : List Lexeme → Type 0) : List Lexeme → Type 0 where
  no_names : (c : Bool) (rest : List Lexeme) → K rest → FirstNames K (mark RightParen c ∷ rest)
  some_names : (rest : List Lexeme) → NamesThen K rest → FirstNames K rest

pub data MoreNames (K : List Lexeme → Type 0) : List Lexeme → Type 0 where
  names_end : (c : Bool) (rest : List Lexeme) → K rest → MoreNames K (mark RightParen c ∷ rest)
  names_on : (n : Bool) (rest : List Lexeme) → NamesThen K rest → MoreNames K (mark Comma n ∷ rest)

pub data ParamsThen (K : List Lexeme → Type 0) : List Lexeme → Type 0 where
  params_then : (ps : Params) (rest : List Lexeme) → GoodParams ps → K rest → ParamsThen K (params_text ps rest)

-- bodies and blocks
pub data BodyThen (K : List Lexeme → Type 0) : List Lexeme → Type 0 where
  body_then : (b : Body) (rest : List Lexeme) → GoodBody b rest → K rest → BodyThen K (body_text b rest)

pub data BlockThen (K : List Lexeme → Type 0) : List Lexeme → Type 0 where
  block_then : (b : Block) (rest : List Lexeme) → GoodBlock b rest → K rest → BlockThen K (block_text b rest)

-- after the `function` of an expression
pub data FunctionThen (K : List Lexeme → Type 0) : List Lexeme → Type 0 where
  nameless_then : (rest : List Lexeme) → ParamsThen (λ v. BodyThen K v) rest → FunctionThen K rest
  named_then : (x : Lexeme) (rest : List Lexeme) → is_ident x.token ≡ true → ParamsThen (λ v. BodyThen K v) rest → FunctionThen K (x ∷ rest)

-- lists of statements and elements
pub data StatementsThen (K : List Lexeme → Type 0) : List Lexeme → Type 0 where
  statements_then : (ss : Statements) (rest : List Lexeme) → GoodStatements ss rest → K rest → StatementsThen K (statements_text ss rest)

pub data ElementsThen (K : List Lexeme → Type 0) : List Lexeme → Type 0 where
  elements_then : (es : Elements) (rest : List Lexeme) → GoodElements es rest → K rest → ElementsThen K (elements_text es rest)

pub data Nothing : List Lexeme → Type 0 where
  nothing_left : Nothing []

-- ends of statements
pub data EndThen (k : Ending) (K : List Lexeme → Type 0) : List Lexeme → Type 0 where
  end_then : (t : End) (rest : List Lexeme) → EndsWith k t rest → K rest → EndThen k K (end_text t rest)

pub data ExprEnd (K : List Lexeme → Type 0) : List Lexeme → Type 0 where
  expr_end : (e : Expr) (t : End) (rest : List Lexeme) → GoodExpr true e (end_text t rest) → EndsWith (expr_ending e) t rest → K rest → ExprEnd K (expr_text e (end_text t rest))

pub data ExprMore (k : Ending) (K : List Lexeme → Type 0) : List Lexeme → Type 0 where
  expr_ends : (rest : List Lexeme) → EndThen k K rest → ExprMore k K rest
  expr_on : (n : Bool) (rest : List Lexeme) → ExprEnd K rest → ExprMore k K (mark Comma n ∷ rest)

pub data DeclsEnd (K : List Lexeme → Type 0) : List Lexeme → Type 0 where
  decls_end : (ds : Decls) (t : End) (rest : List Lexeme) → GoodDecls true ds (end_text t rest) → EndsWith (decls_ending ds) t rest → K rest → DeclsEnd K (decls_text ds (end_text t rest))

pub data DeclsMore (k : Ending) (K : List Lexeme → Type 0) : List Lexeme → Type 0 where
  decls_ends : (rest : List Lexeme) → EndThen k K rest → DeclsMore k K rest
  decls_on : (n : Bool) (rest : List Lexeme) → DeclsEnd K rest → DeclsMore k K (mark Comma n ∷ rest)

-- a statement; A knows whether it ended in an open `if`
pub data StatementThen (A : Bool → List Lexeme → Type 0) : List Lexeme → Type 0 where
  statement_then : (s : Statement) (rest : List Lexeme) → GoodStatement s rest → A (is_open s) rest → StatementThen A (statement_text s rest)

-- after the first branch of an `if`, which did or didn't end in an open one
pub data BranchAfter (A : Bool → List Lexeme → Type 0) (o : Bool) : List Lexeme → Type 0 where
  if_ends : (rest : List Lexeme) → A true rest → BranchAfter A o rest
  else_comes : o ≡ false → (m : Bool) (rest : List Lexeme) → StatementThen A rest → BranchAfter A o (word Else m ∷ rest)

-- after the body of a `do`
pub data DoThen (K : List Lexeme → Type 0) : List Lexeme → Type 0 where
  do_then : (m : Bool) (rest : List Lexeme) → MarkThen LeftParen (λ v. ExprThen true RightParen (λ u. EndThen after_word K u) v) rest → DoThen K (word While m ∷ rest)

-- the parts of a `for` header: L holds after its first semicolon, I after `in`
pub data HeadDecls (L : List Lexeme → Type 0) : List Lexeme → Type 0 where
  head_decls : (ds : Decls) (m : Bool) (rest : List Lexeme) → GoodDecls false ds (mark Semicolon m ∷ rest) → L rest → HeadDecls L (decls_text ds (mark Semicolon m ∷ rest))

pub data HeadMore (L : List Lexeme → Type 0) : List Lexeme → Type 0 where
  head_ends : (m : Bool) (rest : List Lexeme) → L rest → HeadMore L (mark Semicolon m ∷ rest)
  head_on : (n : Bool) (rest : List Lexeme) → HeadDecls L rest → HeadMore L (mark Comma n ∷ rest)

pub data FirstDecls (L I : List Lexeme → Type 0) : List Lexeme → Type 0 where
  first_decls : (rest : List Lexeme) → HeadDecls L rest → FirstDecls L I rest
  decl_in : (d : Decl) (m : Bool) (rest : List Lexeme) → GoodDecl false d (word In m ∷ rest) → I rest → FirstDecls L I (decl_text d (word In m ∷ rest))

pub data FirstMore (L I : List Lexeme → Type 0) : List Lexeme → Type 0 where
  first_more : (rest : List Lexeme) → HeadMore L rest → FirstMore L I rest
  first_in : (m : Bool) (rest : List Lexeme) → I rest → FirstMore L I (word In m ∷ rest)

-- an expression or the left-hand side of `in` that begins a header
pub data HeaderThen (L I : List Lexeme → Type 0) : List Lexeme → Type 0 where
  header_expr : (rest : List Lexeme) → ExprThen false Semicolon L rest → HeaderThen L I rest
  header_in : (l : Left) (m : Bool) (rest : List Lexeme) → GoodLeft l (word In m ∷ rest) → I rest → HeaderThen L I (left_text l (word In m ∷ rest))

pub data InitThen (L I : List Lexeme → Type 0) : List Lexeme → Type 0 where
  init_absent : (m : Bool) (rest : List Lexeme) → L rest → InitThen L I (mark Semicolon m ∷ rest)
  init_header : (rest : List Lexeme) → HeaderThen L I rest → InitThen L I rest
  init_var : (m : Bool) (rest : List Lexeme) → FirstDecls L I rest → InitThen L I (word Var m ∷ rest)

-- in the braces of a `switch`: after `default`, and before it
pub data CasesThen (K : List Lexeme → Type 0) : List Lexeme → Type 0 where
  cases_then : (cs : Cases) (m : Bool) (rest : List Lexeme) → GoodCases cs (mark RightBrace m ∷ rest) → K rest → CasesThen K (cases_text cs (mark RightBrace m ∷ rest))

pub data ClausesThen (K : List Lexeme → Type 0) : List Lexeme → Type 0 where
  clauses_then : (rest : List Lexeme) → CasesThen K rest → ClausesThen K rest
  default_then : (cs : Cases) (d n : Bool) (ss : Statements) (ds : Cases) (m : Bool) (rest : List Lexeme) → GoodCases cs (word Default d ∷ mark Colon n ∷ statements_text ss (cases_text ds (mark RightBrace m ∷ rest))) → GoodStatements ss (cases_text ds (mark RightBrace m ∷ rest)) → GoodCases ds (mark RightBrace m ∷ rest) → K rest → ClausesThen K (cases_text cs (word Default d ∷ mark Colon n ∷ statements_text ss (cases_text ds (mark RightBrace m ∷ rest))))

-- after the block of a `catch`, and after that of a `try`
pub data FinallyThen (K : List Lexeme → Type 0) : List Lexeme → Type 0 where
  finally_then : (m : Bool) (rest : List Lexeme) → BlockThen K rest → FinallyThen K (word FinallyWord m ∷ rest)

pub data AfterCatchThen (K : List Lexeme → Type 0) : List Lexeme → Type 0 where
  no_finally : (rest : List Lexeme) → K rest → AfterCatchThen K rest
  some_finally : (rest : List Lexeme) → FinallyThen K rest → AfterCatchThen K rest

pub data HandlersThen (K : List Lexeme → Type 0) : List Lexeme → Type 0 where
  handler_finally : (rest : List Lexeme) → FinallyThen K rest → HandlersThen K rest
  handler_catch : (m : Bool) (rest : List Lexeme) → MarkThen LeftParen (λ u. IdentThen (λ v. MarkThen RightParen (λ w. BlockThen (λ z. AfterCatchThen K z) w) v) u) rest → HandlersThen K (word CatchWord m ∷ rest)

-- what was read of a LeftHandSideExpression: the `new`s before it, innermost first, and a member; or a
-- call

pub data HeadOfLeft : Type 0 where
  in_member : List Bool → Member → HeadOfLeft
  in_call : Call → HeadOfLeft

abbrev pub news_text : List Bool → List Lexeme → List Lexeme
news_text [] w = w
news_text (n ∷ ns) w = news_text ns (word NewWord n ∷ w)

abbrev pub head_text : HeadOfLeft → List Lexeme → List Lexeme
head_text (in_member ns m) w = news_text ns (member_text m w)
head_text (in_call c) w = call_text c w

abbrev pub GoodHead : HeadOfLeft → List Lexeme → Type 0
GoodHead (in_member ns m) w = GoodMember m w
GoodHead (in_call c) w = GoodCall c w

-- what may follow over a frame

abbrev pub Anything : List Lexeme → Type 0
Anything w = Unit {0}

pub record Context : Type 1 where
  -- after a statement, which did or didn't end in an open `if`
  pub after : Bool → List Lexeme → Type 0
  -- after an expression that ended so, and that the frame on top ends
  pub frame : Ending → List Lexeme → Type 0
  -- where the operand begins that begins a header
  pub header : List Lexeme → Type 0
  -- where an operand may lack
  pub lacking : List Lexeme → Type 0
  pub properties : List Lexeme → Type 0
  -- where the name of a variable must come
  pub bindings : List Lexeme → Type 0
  -- after `(` of names, after a comma there, after a name
  pub first : List Lexeme → Type 0
  pub next : List Lexeme → Type 0
  pub later : List Lexeme → Type 0

-- of an expression, by what ends it
abbrev pub EndedBy : Ends → Context → Ending → List Lexeme → Type 0
EndedBy ByFrame c k w = c.frame k w
EndedBy BySemicolon c k w = ExprMore k (λ v. c.after false v) w
EndedBy ByDeclaration c k w = DeclsMore k (λ v. c.after false v) w

abbrev pub HeaderBy : Ends → Context → List Lexeme → Type 0
HeaderBy ByFrame c w = c.header w
HeaderBy _ c w = Anything w

-- where an operand begins, by its role
abbrev pub RegionBy : Role → Ends → Option Frame → Context → List Lexeme → Type 0
RegionBy Plain e top c w = ChainThen (in_stands e top) (λ k v. EndedBy e c k v) w
RegionBy Target e top c w = AssignThen (in_stands e top) (λ k v. EndedBy e c k v) w
RegionBy Header e top c w = HeaderBy e c w

-- after a LeftHandSideExpression, whatever it is
abbrev pub LeftBy : Role → Ends → Option Frame → Context → List Lexeme → Type 0
LeftBy r e top c w = (h : HeadOfLeft) → GoodHead h w → RegionBy r e top c (head_text h w)

abbrev pub bracketed : (Ending → List Lexeme → Type 0) → (List Lexeme → Type 0) → (List Lexeme → Type 0) → Context
bracketed frame lacking properties = record {
  after = λ o w. Anything w;
  frame = frame;
  header = Anything;
  lacking = lacking;
  properties = properties;
  bindings = Anything;
  first = Anything;
  next = Anything;
  later = Anything;
}

abbrev pub among : (Bool → List Lexeme → Type 0) → (Ending → List Lexeme → Type 0) → Context
among after frame = record {
  after = after;
  frame = frame;
  header = Anything;
  lacking = Anything;
  properties = Anything;
  bindings = Anything;
  first = Anything;
  next = Anything;
  later = Anything;
}

abbrev pub heading : (Ending → List Lexeme → Type 0) → (List Lexeme → Type 0) → (List Lexeme → Type 0) → (List Lexeme → Type 0) → Context
heading frame header lacking bindings = record {
  after = λ o w. Anything w;
  frame = frame;
  header = header;
  lacking = lacking;
  properties = Anything;
  bindings = bindings;
  first = Anything;
  next = Anything;
  later = Anything;
}

abbrev pub naming : (List Lexeme → Type 0) → (List Lexeme → Type 0) → (List Lexeme → Type 0) → Context
naming first next later = record {
  after = λ o w. Anything w;
  frame = λ k w. Anything w;
  header = Anything;
  lacking = Anything;
  properties = Anything;
  bindings = Anything;
  first = first;
  next = next;
  later = later;
}

-- after the braces of a body and of a block
abbrev pub AfterBody : Owner → Option Frame → Context → List Lexeme → Type 0
AfterBody (Expression r e) top c w = LeftBy r e top c w
AfterBody Getter top c w = c.frame after_operand w
AfterBody Setter top c w = c.frame after_operand w
AfterBody _ top c w = c.after false w

abbrev pub AfterBlock : BlockKind → Context → List Lexeme → Type 0
AfterBlock TryBlock c w = HandlersThen (λ v. c.after false v) w
AfterBlock CatchBlock c w = AfterCatchThen (λ v. c.after false v) w
AfterBlock _ c w = c.after false w

-- after the parentheses of names
abbrev pub AfterNames : Owner → Option Frame → Context → List Lexeme → Type 0
AfterNames Handler top c w = BlockThen (λ v. AfterBlock CatchBlock c v) w
AfterNames o top c w = BodyThen (λ v. AfterBody o top c v) w

abbrev pub FirstOf : Owner → (List Lexeme → Type 0) → List Lexeme → Type 0
FirstOf Getter K w = MarkThen RightParen K w
FirstOf Setter K w = IdentThen (λ v. MarkThen RightParen K v) w
FirstOf Handler K w = IdentThen (λ v. MarkThen RightParen K v) w
FirstOf _ K w = FirstNames K w

abbrev pub NextOf : Owner → (List Lexeme → Type 0) → List Lexeme → Type 0
NextOf Getter K w = Anything w
NextOf Setter K w = Anything w
NextOf Handler K w = Anything w
NextOf _ K w = NamesThen K w

abbrev pub LaterOf : Owner → (List Lexeme → Type 0) → List Lexeme → Type 0
LaterOf Getter K w = MarkThen RightParen K w
LaterOf Setter K w = MarkThen RightParen K w
LaterOf Handler K w = MarkThen RightParen K w
LaterOf _ K w = MoreNames K w

-- the body of a loop, and the parts of a `for` before it
abbrev pub LoopBody : Context → List Lexeme → Type 0
LoopBody c w = StatementThen c.after w

abbrev pub LastPart : Context → List Lexeme → Type 0
LastPart c w = OptionalThen true RightParen (λ v. LoopBody c v) w

abbrev pub TestPart : Context → List Lexeme → Type 0
TestPart c w = OptionalThen true Semicolon (λ v. LastPart c v) w

abbrev pub InPart : Context → List Lexeme → Type 0
InPart c w = ExprThen true RightParen (λ v. LoopBody c v) w

-- in the braces of a `switch`
abbrev pub InClauses : Phase → Context → List Lexeme → Type 0
InClauses NoClause c w = ClausesThen (λ v. c.after false v) w
InClauses InClause c w = StatementsThen (λ u. ClausesThen (λ v. c.after false v) u) w
InClauses Defaulted c w = StatementsThen (λ u. CasesThen (λ v. c.after false v) u) w

-- in the parentheses of a statement: after an expression, where the first begins, where one may lack,
-- and where the name of a variable must come
abbrev pub InHead : Part → Context → List Lexeme → Type 0
InHead If c w = MoreThen true RightParen (λ v. StatementThen (λ o u. BranchAfter c.after o u) v) w
InHead Loop c w = MoreThen true RightParen (λ v. LoopBody c v) w
InHead Switch c w = MoreThen true RightParen (λ v. MarkThen LeftBrace (λ u. InClauses NoClause c u) v) w
InHead DoWhile c w = MoreThen true RightParen (λ v. EndThen after_word (λ u. c.after false u) v) w
InHead Init c w = MoreThen false Semicolon (λ v. TestPart c v) w
InHead First c w = FirstMore (λ v. TestPart c v) (λ v. InPart c v) w
InHead Next c w = HeadMore (λ v. TestPart c v) w
InHead Test c w = MoreThen true Semicolon (λ v. LastPart c v) w

abbrev pub HeadStart : Part → Context → List Lexeme → Type 0
HeadStart Init c w = HeaderThen (λ v. TestPart c v) (λ v. InPart c v) w
HeadStart _ c w = Anything w

abbrev pub HeadLacking : Part → Context → List Lexeme → Type 0
HeadLacking Init c w = InitThen (λ v. TestPart c v) (λ v. InPart c v) w
HeadLacking Test c w = TestPart c w
HeadLacking Loop c w = LastPart c w
HeadLacking _ c w = Anything w

abbrev pub HeadBindings : Part → Context → List Lexeme → Type 0
HeadBindings First c w = FirstDecls (λ v. TestPart c v) (λ v. InPart c v) w
HeadBindings Next c w = HeadDecls (λ v. TestPart c v) w
HeadBindings _ c w = Anything w

abbrev pub layer : Frame → Option Frame → Context → Context
layer (Paren r e) top c =
    bracketed (λ k w. MoreThen true RightParen (λ v. LeftBy r e top c v) w) (λ w. OptionalThen true RightParen (λ v. LeftBy r e top c v) w) Anything
layer (Index r e) top c =
    bracketed (λ k w. MoreThen true RightBracket (λ v. LeftBy r e top c v) w) Anything Anything
layer (Array r e) top c =
    bracketed (λ k w. ItemsMore (λ v. LeftBy r e top c v) w) (λ w. ItemsThen (λ v. LeftBy r e top c v) w) Anything
layer (Object r e) top c =
    bracketed (λ k w. PropsMore (λ v. LeftBy r e top c v) w) Anything (λ w. PropsThen (λ v. LeftBy r e top c v) w)
layer (Conditional e) top c =
    bracketed (λ k w. MarkThen Colon (λ v. RegionBy Target e top c v) w) Anything Anything
layer (Head p) top c =
    heading (λ k w. InHead p c w) (λ w. HeadStart p c w) (λ w. HeadLacking p c w) (λ w. HeadBindings p c w)
layer (Parameters o) top c =
    naming (λ w. FirstOf o (λ v. AfterNames o top c v) w) (λ w. NextOf o (λ v. AfterNames o top c v) w) (λ w. LaterOf o (λ v. AfterNames o top c v) w)
layer (Braces o) top c =
    among (λ q w. ElementsThen (λ u. MarkThen RightBrace (λ v. AfterBody o top c v) u) w) (λ k w. Anything w)
layer (BlockFrame b) top c =
    among (λ q w. StatementsThen (λ u. MarkThen RightBrace (λ v. AfterBlock b c v) u) w) (λ k w. Anything w)
layer (Clauses p) top c =
    among (λ q w. InClauses p c w) (λ k w. MoreThen true Colon (λ v. InClauses p c v) w)
layer Branch top c = among (λ o w. BranchAfter c.after o w) (λ k w. Anything w)
layer Do top c = among (λ o w. DoThen (λ v. c.after false v) w) (λ k w. Anything w)

abbrev pub context : List Frame → Context
context [] = among (λ o w. ElementsThen Nothing w) (λ k w. Anything w)
context (f ∷ fs) = layer f (top_of fs) (context fs)

-- what may follow where the machine stands

abbrev pub After : List Frame → List Lexeme → Type 0
After fs w = (context fs).after false w

abbrev pub Region : Role → Ends → List Frame → List Lexeme → Type 0
Region r e fs w = RegionBy r e (top_of fs) (context fs) w

abbrev pub LeftRest : Role → Ends → List Frame → List Lexeme → Type 0
LeftRest r e fs w = LeftBy r e (top_of fs) (context fs) w

abbrev pub EndedRest : Ends → List Frame → Ending → List Lexeme → Type 0
EndedRest e fs k w = EndedBy e (context fs) k w

-- after a UnaryExpression that ended so
abbrev pub UnaryRest : Ending → Ends → List Frame → List Lexeme → Type 0
UnaryRest k e fs w =
    (u : Unary) → unary_ending u ≡ k → GoodUnary u w → ChainThen (in_stands e (top_of fs)) (λ j v. EndedRest e fs j v) (unary_text u w)

abbrev pub StatementRest : List Frame → List Lexeme → Type 0
StatementRest fs w = StatementThen (context fs).after w

abbrev pub BindingRest : Ends → List Frame → List Lexeme → Type 0
BindingRest ByFrame fs w = (context fs).bindings w
BindingRest BySemicolon fs w = Anything w
BindingRest ByDeclaration fs w = DeclsEnd (λ v. After fs v) w

-- after the bracket that opens the frame on top
abbrev pub StartRest : Frame → List Frame → List Lexeme → Type 0
StartRest (Head Init) fs w = (context (Head Init ∷ fs)).lacking w
StartRest (Head p) fs w = Region Target ByFrame (Head p ∷ fs) w
StartRest (Parameters o) fs w = (context (Parameters o ∷ fs)).first w
StartRest f fs w = After (f ∷ fs) w

abbrev pub OpenRest : Frame → List Frame → List Lexeme → Type 0
OpenRest (Head p) fs w = MarkThen LeftParen (λ v. StartRest (Head p) fs v) w
OpenRest (Parameters o) fs w = MarkThen LeftParen (λ v. StartRest (Parameters o) fs v) w
OpenRest (Braces o) fs w = MarkThen LeftBrace (λ v. StartRest (Braces o) fs v) w
OpenRest (BlockFrame b) fs w = MarkThen LeftBrace (λ v. StartRest (BlockFrame b) fs v) w
OpenRest (Clauses p) fs w = MarkThen LeftBrace (λ v. StartRest (Clauses p) fs v) w
OpenRest _ fs w = Anything w

abbrev pub Rest : Control → List Frame → List Lexeme → Type 0
Rest Between fs w = After fs w
Rest Need fs w = StatementRest fs w
Rest AfterCatch fs w = AfterCatchThen (λ v. After fs v) w
Rest AtEnd fs w = EndThen after_word (λ v. After fs v) w
Rest AfterJump fs w = (x : Word) (m : Bool) → is_jump_word x ≡ true → StatementRest fs (word x m ∷ w)
Rest AfterReturn fs w = (m : Bool) → StatementRest fs (word Return m ∷ w)
Rest AfterThrow fs w = (m : Bool) → StatementRest fs (word Throw m ∷ w)
Rest AfterTry fs w = HandlersThen (λ v. After fs v) w
Rest AfterDefault fs w = MarkThen Colon (λ v. After fs v) w
Rest (Open f) fs w = OpenRest f fs w
Rest (Binding e) fs w = BindingRest e fs w
Rest (Bound e) fs w = (x : Lexeme) → is_ident x.token ≡ true → BindingRest e fs (x ∷ w)
Rest (Operand r e) fs w = Region r e fs w
Rest (Callee r e) fs w = (ns : List Bool) → Region r e fs (news_text ns w)
Rest (AfterLeft r e) fs w = LeftRest r e fs w
Rest AfterName fs w = (x : Lexeme) → is_ident x.token ≡ true → StatementRest fs (x ∷ w)
Rest (AfterDot r e) fs w = (h : HeadOfLeft) (d : Bool) → GoodHead h (mark Dot d ∷ w) → Region r e fs (head_text h (mark Dot d ∷ w))
Rest (AfterUpdate e) fs w = UnaryRest after_update e fs w
Rest AfterAccessor fs w = (context fs).frame after_operand w
Rest MayLack fs w = (context fs).lacking w
Rest Properties fs w = (context fs).properties w
Rest AfterKey fs w = (x : Lexeme) → is_key x.token ≡ true → (context fs).properties (x ∷ w)
Rest AfterGet fs w = (n : Bool) → (context fs).properties (lexeme Get n ∷ w)
Rest AfterSet fs w = (n : Bool) → (context fs).properties (lexeme Set n ∷ w)
Rest DeclarationName fs w = IdentThen (λ u. ParamsThen (λ v. AfterNames Declaration (top_of fs) (context fs) v) u) w
Rest (FunctionName r e) fs w = FunctionThen (λ v. LeftRest r e fs v) w
Rest FirstParameter fs w = (context fs).first w
Rest NextParameter fs w = (context fs).next w
Rest AfterParameter fs w = (context fs).later w
Rest Dead fs w = ⊥

-- what may follow after a token, by the machine's answer
abbrev pub Means : Answer → List Frame → List Lexeme → Type 0
Means Refuse fs w = ⊥
Means (Go c) fs w = Rest c fs w
Means (Push f c) fs w = Rest c (f ∷ fs) w
Means (Pop c) fs w = Rest c (popped fs) w
Means (Swap f c) fs w = Rest c (f ∷ popped fs) w
