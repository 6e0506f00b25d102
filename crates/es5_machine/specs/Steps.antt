-- What the machine does at a token: a clause for each row of its functions. The grammar that they
-- recognise stands in `es5_trees`, and knows nothing of them.
use Rattle.std.specs.Prelude.{Bool, true, false, not, ◌&&◌, ◌||◌, if◌then◌else◌, nat_lt, Option, Some, None, List, [], ◌∷◌, length}
use Rattle.es5_lexer.specs.declared.tokens.Goal.{Goal}
use Rattle.es5_lexer.specs.declared.tokens.Goal.TheVariants.{Div, RegExp}
use Rattle.es5_lexer.specs.declared.tokens.Word.{Word}
use Rattle.es5_lexer.specs.declared.tokens.Word.TheVariants.{New, Function, Var, If as IfWord, Do as DoWord, While, With, For, Continue, Break, Return, Throw, Debugger, Switch as SwitchWord, Try as TryWord, In, Catch as CatchWord, Finally as FinallyWord}
use Rattle.es5_lexer.specs.declared.tokens.Punct.{Punct}
use Rattle.es5_lexer.specs.declared.tokens.Punct.TheVariants.{LeftBrace, RightBrace, LeftParen, RightParen, LeftBracket, RightBracket, Dot, Semicolon, Comma, Colon}
use Rattle.es5_lexer.specs.declared.tokens.Token.{Token}
use Rattle.es5_lexer.specs.declared.tokens.Token.TheVariants.{Get, Set, Word as AWord, Punct as APunct}
use Rattle.es5_lexer.specs.declared.tokens.Lexeme.{Lexeme}
use Rattle.es5_trees.specs.Words.{is_ident, is_name, is_key, is_atom, is_prefix, is_update, is_assign, is_binary, is_in}
use Rattle.es5_trees.specs.Endings.{is_held, is_right_brace}
use Rattle.es5_trees.specs.Good.{may_stand}
use Rattle.es5_machine.specs.Classes.{ending_of, is_question, is_semicolon, is_colon, is_comma, is_equals, is_left_paren, is_right_paren, is_left_brace, is_else, is_while, is_finally, is_case, is_default, is_function}
use Rattle.es5_machine.specs.declared.states.Role.{Role}
use Rattle.es5_machine.specs.declared.states.Role.TheVariants.{Plain, Target, Header}
use Rattle.es5_machine.specs.declared.states.Ends.{Ends}
use Rattle.es5_machine.specs.declared.states.Ends.TheVariants.{ByFrame, BySemicolon, ByDeclaration}
use Rattle.es5_machine.specs.declared.states.Part.TheVariants.{If, Loop, Switch, DoWhile, Init, First, Next, Test}
use Rattle.es5_machine.specs.declared.states.BlockKind.{BlockKind}
use Rattle.es5_machine.specs.declared.states.BlockKind.TheVariants.{Simple, Try, Catch, Finally}
use Rattle.es5_machine.specs.declared.states.Phase.{Phase}
use Rattle.es5_machine.specs.declared.states.Phase.TheVariants.{NoClause, InClause, Defaulted}
use Rattle.es5_machine.specs.declared.states.Owner.{Owner}
use Rattle.es5_machine.specs.declared.states.Owner.TheVariants.{Declaration, Expression, Getter, Setter, Handler}
use Rattle.es5_machine.specs.declared.states.Frame.{Frame}
use Rattle.es5_machine.specs.declared.states.Frame.TheVariants.{Paren, Index, Array, Object, Conditional, Head, Parameters, Braces, Block, Clauses, Branch, Do}
use Rattle.es5_machine.specs.declared.states.Control.{Control}
use Rattle.es5_machine.specs.declared.states.Control.TheVariants.{Between, Need, AfterCatch, AtEnd, AfterJump, AfterReturn, AfterThrow, AfterTry, AfterDefault, Open, Binding, Bound, Operand, Callee, AfterLeft, AfterName, AfterDot, AfterUpdate, AfterAccessor, MayLack, Properties, AfterKey, AfterGet, AfterSet, DeclarationName, FunctionName, FirstParameter, NextParameter, AfterParameter, Dead}
use Rattle.es5_machine.specs.declared.states.Answer.{Answer}
use Rattle.es5_machine.specs.declared.states.Answer.TheVariants.{Refuse, Go, Push, Pop, Swap}
use Rattle.es5_machine.specs.declared.states.Ended.{Ended}
use Rattle.es5_machine.specs.declared.states.Ended.TheVariants.{ByOperand, ByUpdate, ByName, ByWord}

-- where an expression begins that the frame on top ends
abbrev pub inside : Control
inside = Operand Target ByFrame

-- the operator `in` may stand
abbrev pub in_stands_over : Option Frame → Bool
in_stands_over (Some (Head Init)) = false
in_stands_over (Some (Head First)) = false
in_stands_over (Some (Head Next)) = false
in_stands_over _ = true

abbrev pub in_stands : Ends → Option Frame → Bool
in_stands ByFrame top = in_stands_over top
in_stands _ top = true

-- operands

abbrev pub opening : Role → Ends → Token → Answer
opening r e (AWord New) = Go (Callee r e)
opening r e (AWord Function) = Go (FunctionName r e)
opening r e (APunct LeftParen) = Push (Paren r e) inside
opening r e (APunct LeftBracket) = Push (Array r e) MayLack
opening r e (APunct LeftBrace) = Push (Object r e) Properties
opening r e _ = Refuse

abbrev pub callee : Role → Ends → Token → Answer
callee r e t = if is_atom t then Go (AfterLeft r e) else opening r e t

abbrev pub operand : Role → Ends → Token → Answer
operand r e t = if is_prefix t then Go (Operand Plain e) else callee r e t

-- the end of an expression

abbrev pub comma : Frame → Answer
comma (Paren r e) = Go inside
comma (Index r e) = Go inside
comma (Array r e) = Go MayLack
comma (Object r e) = Go Properties
comma (Head First) = Swap (Head Next) (Binding ByFrame)
comma (Head Next) = Go (Binding ByFrame)
comma (Head p) = Go inside
comma (Clauses p) = Go inside
comma _ = Refuse

abbrev pub right_paren : Frame → Answer
right_paren (Paren r e) = Pop (AfterLeft r e)
right_paren (Head If) = Swap Branch Need
right_paren (Head Loop) = Pop Need
right_paren (Head Switch) = Pop (Open (Clauses NoClause))
right_paren (Head DoWhile) = Pop AtEnd
right_paren _ = Refuse

abbrev pub right_bracket : Frame → Answer
right_bracket (Index r e) = Pop (AfterLeft r e)
right_bracket (Array r e) = Pop (AfterLeft r e)
right_bracket _ = Refuse

abbrev pub right_brace : Frame → Answer
right_brace (Object r e) = Pop (AfterLeft r e)
right_brace _ = Refuse

abbrev pub semicolon : Frame → Answer
semicolon (Head Init) = Swap (Head Test) MayLack
semicolon (Head First) = Swap (Head Test) MayLack
semicolon (Head Next) = Swap (Head Test) MayLack
semicolon (Head Test) = Swap (Head Loop) MayLack
semicolon _ = Refuse

abbrev pub colon : Frame → Answer
colon (Conditional e) = Pop (Operand Target e)
colon (Clauses p) = Go Between
colon _ = Refuse

abbrev pub close_mark : Frame → Punct → Answer
close_mark f Comma = comma f
close_mark f RightParen = right_paren f
close_mark f RightBracket = right_bracket f
close_mark f RightBrace = right_brace f
close_mark f Semicolon = semicolon f
close_mark f Colon = colon f
close_mark f _ = Refuse

-- `in` after the one declaration of a header
abbrev pub close_word : Frame → Word → Answer
close_word (Head First) In = Swap (Head Loop) inside
close_word _ _ = Refuse

abbrev pub close_frame : Frame → Token → Answer
close_frame f (APunct p) = close_mark f p
close_frame f (AWord w) = close_word f w
close_frame f _ = Refuse

abbrev pub close_statement : Control → Token → Answer
close_statement c (APunct Comma) = Go c
close_statement c (APunct Semicolon) = Go Between
close_statement c _ = Refuse

abbrev pub close : Ends → Option Frame → Token → Answer
close ByFrame (Some f) t = close_frame f t
close ByFrame None t = Refuse
close BySemicolon top t = close_statement (Operand Target BySemicolon) t
close ByDeclaration top t = close_statement (Binding ByDeclaration) t

-- after an operand

-- `in` after the LeftHandSideExpression that began a header
abbrev pub ends_header : Role → Token → Bool
ends_header Header t = is_in t
ends_header _ t = false

abbrev pub last : Role → Ends → Option Frame → Token → Answer
last r e top t = if ends_header r t then Swap (Head Loop) inside else close e top t

-- a binary operator, `in` only where it may stand
abbrev pub is_operator : Ends → Option Frame → Token → Bool
is_operator e top t = is_binary t && may_stand (in_stands e top) t

abbrev pub after : Role → Ends → Option Frame → Token → Answer
after r e top t =
    if is_operator e top t then Go (Operand Plain e)
    else if is_question t then Push (Conditional e) inside else last r e top t

-- an operator of assignment
abbrev pub assigned : Role → Ends → Answer
assigned Plain e = Refuse
assigned _ e = Go (Operand Target e)

-- `++` or `--`
abbrev pub updated : Ends → Bool → Answer
updated e true = Refuse
updated e false = Go (AfterUpdate e)

abbrev pub suffix : Role → Ends → Option Frame → Punct → Answer
suffix r e top Dot = Go (AfterDot r e)
suffix r e top LeftBracket = Push (Index r e) inside
suffix r e top LeftParen = Push (Paren r e) MayLack
suffix r e top p = after r e top (APunct p)

abbrev pub left_mark : Role → Ends → Option Frame → Punct → Bool → Answer
left_mark r e top p newline =
    if is_update p then updated e newline
    else if is_assign p then assigned r e else suffix r e top p

abbrev pub left : Role → Ends → Option Frame → Token → Bool → Answer
left r e top (APunct p) newline = left_mark r e top p newline
left r e top t newline = after r e top t

abbrev pub dot : Role → Ends → Token → Answer
dot r e t = if is_name t then Go (AfterLeft r e) else Refuse

-- where an operand may be absent

abbrev pub lacks_element : Token → Bool
lacks_element (APunct Comma) = true
lacks_element (APunct RightBracket) = true
lacks_element _ = false

-- the frame goes on without one
abbrev pub goes_without : Frame → Token → Bool
goes_without (Paren r e) t = is_right_paren t
goes_without (Array r e) t = lacks_element t
goes_without (Head Init) t = is_semicolon t
goes_without (Head Test) t = is_semicolon t
goes_without (Head Loop) t = is_right_paren t
goes_without _ _ = false

abbrev pub first_role : Frame → Role
first_role (Head Init) = Header
first_role _ = Target

abbrev pub begins_declarations : Frame → Token → Bool
begins_declarations (Head Init) (AWord Var) = true
begins_declarations _ _ = false

abbrev pub first_inside : Frame → Token → Answer
first_inside f t =
    if begins_declarations f t then Swap (Head First) (Binding ByFrame) else operand (first_role f) ByFrame t

abbrev pub lacking : Frame → Token → Answer
lacking f t = if goes_without f t then close_frame f t else first_inside f t

abbrev pub may_lack : Option Frame → Token → Answer
may_lack None t = Refuse
may_lack (Some f) t = lacking f t

-- properties

abbrev pub key : Token → Answer
key t = if is_key t then Go AfterKey else Refuse

abbrev pub property : Token → Answer
property Get = Go AfterGet
property Set = Go AfterSet
property t = key t

abbrev pub properties : Option Frame → Token → Answer
properties top t = if is_right_brace t then close ByFrame top t else property t

abbrev pub after_key : Token → Answer
after_key t = if is_colon t then Go inside else Refuse

abbrev pub accessor : Owner → Token → Answer
accessor o t = if is_key t then Go (Open (Parameters o)) else after_key t

-- names in parentheses

abbrev pub body_of : Owner → Frame
body_of Handler = Block Catch
body_of o = Braces o

abbrev pub declaration_name : Token → Answer
declaration_name t = if is_ident t then Go (Open (Parameters Declaration)) else Refuse

abbrev pub function_name : Role → Ends → Token → Answer
function_name r e t =
    if is_ident t then Go (Open (Parameters (Expression r e)))
    else if is_left_paren t then Push (Parameters (Expression r e)) FirstParameter else Refuse

abbrev pub has_names : Owner → Bool
has_names Getter = false
has_names _ = true

-- it may have no names
abbrev pub may_be_empty : Owner → Bool
may_be_empty Setter = false
may_be_empty Handler = false
may_be_empty _ = true

abbrev pub has_many : Owner → Bool
has_many Declaration = true
has_many (Expression r e) = true
has_many _ = false

abbrev pub first_of : Owner → Token → Answer
first_of o t =
    if is_ident t && has_names o then Go AfterParameter
    else if is_right_paren t && may_be_empty o then Pop (Open (body_of o)) else Refuse

abbrev pub first_parameter : Option Frame → Token → Answer
first_parameter (Some (Parameters o)) t = first_of o t
first_parameter _ _ = Refuse

abbrev pub next_parameter : Token → Answer
next_parameter t = if is_ident t then Go AfterParameter else Refuse

abbrev pub next_of : Owner → Token → Answer
next_of o t =
    if is_right_paren t then Pop (Open (body_of o))
    else if is_comma t && has_many o then Go NextParameter else Refuse

abbrev pub after_parameter : Option Frame → Token → Answer
after_parameter (Some (Parameters o)) t = next_of o t
after_parameter _ _ = Refuse

-- statements

abbrev pub statement_mark : Punct → Answer
statement_mark LeftBrace = Push (Block Simple) Between
statement_mark Semicolon = Go Between
statement_mark p = operand Target BySemicolon (APunct p)

abbrev pub statement_word : Word → Answer
statement_word Var = Go (Binding ByDeclaration)
statement_word IfWord = Go (Open (Head If))
statement_word While = Go (Open (Head Loop))
statement_word With = Go (Open (Head Loop))
statement_word For = Go (Open (Head Init))
statement_word SwitchWord = Go (Open (Head Switch))
statement_word DoWord = Push Do Need
statement_word Continue = Go AfterJump
statement_word Break = Go AfterJump
statement_word Return = Go AfterReturn
statement_word Throw = Go AfterThrow
statement_word Debugger = Go AtEnd
statement_word TryWord = Go (Open (Block Try))
statement_word Function = Refuse
statement_word w = operand Target BySemicolon (AWord w)

abbrev pub statement_other : Token → Answer
statement_other t = if is_ident t then Go AfterName else operand Target BySemicolon t

abbrev pub statement : Token → Answer
statement (APunct p) = statement_mark p
statement (AWord w) = statement_word w
statement t = statement_other t

abbrev pub element : Token → Answer
element t = if is_function t then Go DeclarationName else statement t

abbrev pub after_body : Owner → Control
after_body (Expression r e) = AfterLeft r e
after_body Getter = AfterAccessor
after_body Setter = AfterAccessor
after_body _ = Between

abbrev pub after_block : BlockKind → Control
after_block Try = AfterTry
after_block Catch = AfterCatch
after_block _ = Between

abbrev pub with_clause : Phase → Phase
with_clause NoClause = InClause
with_clause p = p

abbrev pub default_clause : Phase → Answer
default_clause Defaulted = Refuse
default_clause _ = Swap (Clauses Defaulted) AfterDefault

abbrev pub clause_statement : Phase → Token → Answer
clause_statement NoClause t = Refuse
clause_statement _ t = statement t

abbrev pub in_clauses : Phase → Token → Answer
in_clauses p t =
    if is_right_brace t then Pop Between
    else if is_case t then Swap (Clauses (with_clause p)) inside
    else if is_default t then default_clause p else clause_statement p t

abbrev pub within : Frame → Token → Answer
within (Braces o) t = if is_right_brace t then Pop (after_body o) else element t
within (Block b) t = if is_right_brace t then Pop (after_block b) else statement t
within (Clauses p) t = in_clauses p t
within Branch t = if is_else t then Pop Need else Refuse
within Do t = if is_while t then Pop (Open (Head DoWhile)) else Refuse
within _ t = Refuse

abbrev pub between : Option Frame → Token → Answer
between None t = element t
between (Some f) t = within f t

abbrev pub after_catch : Option Frame → Token → Answer
after_catch top t = if is_finally t then Go (Open (Block Finally)) else between top t

abbrev pub at_end : Token → Answer
at_end t = if is_semicolon t then Go Between else Refuse

abbrev pub after_jump : Token → Bool → Answer
after_jump t newline = if is_ident t && not newline then Go AtEnd else at_end t

abbrev pub after_throw : Token → Bool → Answer
after_throw t newline = if newline then Refuse else operand Target BySemicolon t

abbrev pub after_return : Token → Bool → Answer
after_return t newline = if is_semicolon t then Go Between else after_throw t newline

abbrev pub after_try : Token → Answer
after_try (AWord CatchWord) = Go (Open (Parameters Handler))
after_try (AWord FinallyWord) = Go (Open (Block Finally))
after_try _ = Refuse

abbrev pub after_default : Token → Answer
after_default t = if is_colon t then Go Between else Refuse

abbrev pub opens : Frame → Token → Bool
opens (Head p) t = is_left_paren t
opens (Parameters o) t = is_left_paren t
opens (Braces o) t = is_left_brace t
opens (Block b) t = is_left_brace t
opens (Clauses p) t = is_left_brace t
opens _ t = false

abbrev pub start : Frame → Control
start (Head Init) = MayLack
start (Head p) = inside
start (Parameters o) = FirstParameter
start _ = Between

abbrev pub open_with : Frame → Token → Answer
open_with f t = if opens f t then Push f (start f) else Refuse

abbrev pub binding : Ends → Token → Answer
binding e t = if is_ident t then Go (Bound e) else Refuse

abbrev pub bound : Ends → Option Frame → Token → Answer
bound e top t = if is_equals t then Go (Operand Target e) else close e top t

-- after an identifier that begins a statement
abbrev pub after_name : Option Frame → Token → Bool → Answer
after_name top t newline = if is_colon t then Go Need else left Target BySemicolon top t newline

-- a token at each state

abbrev pub consume : Control → Option Frame → Token → Bool → Answer
consume Between top t newline = between top t
consume Need top t newline = statement t
consume AfterCatch top t newline = after_catch top t
consume AtEnd top t newline = at_end t
consume AfterJump top t newline = after_jump t newline
consume AfterReturn top t newline = after_return t newline
consume AfterThrow top t newline = after_throw t newline
consume AfterTry top t newline = after_try t
consume AfterDefault top t newline = after_default t
consume (Open f) top t newline = open_with f t
consume (Binding e) top t newline = binding e t
consume (Bound e) top t newline = bound e top t
consume (Operand r e) top t newline = operand r e t
consume (Callee r e) top t newline = callee r e t
consume (AfterLeft r e) top t newline = left r e top t newline
consume AfterName top t newline = after_name top t newline
consume (AfterDot r e) top t newline = dot r e t
consume (AfterUpdate e) top t newline = after Plain e top t
consume AfterAccessor top t newline = close ByFrame top t
consume MayLack top t newline = may_lack top t
consume Properties top t newline = properties top t
consume AfterKey top t newline = after_key t
consume AfterGet top t newline = accessor Getter t
consume AfterSet top t newline = accessor Setter t
consume DeclarationName top t newline = declaration_name t
consume (FunctionName r e) top t newline = function_name r e t
consume FirstParameter top t newline = first_parameter top t
consume NextParameter top t newline = next_parameter t
consume AfterParameter top t newline = after_parameter top t
consume Dead top t newline = Refuse

-- semicolons that are left out

-- the statement at hand is complete but for its semicolon, and what it ends in
abbrev pub ended : Control → Option Ended
ended (AfterLeft r BySemicolon) = Some ByOperand
ended (AfterLeft r ByDeclaration) = Some ByOperand
ended AfterName = Some ByOperand
ended (AfterUpdate BySemicolon) = Some ByUpdate
ended (AfterUpdate ByDeclaration) = Some ByUpdate
ended (Bound ByDeclaration) = Some ByName
ended AtEnd = Some ByWord
ended AfterJump = Some ByWord
ended AfterReturn = Some ByWord
ended _ = None

-- a semicolon may be left out before the token
abbrev pub omits : Option Ended → Token → Bool → Bool
omits None t newline = false
omits (Some k) t newline = is_right_brace t || (newline && not (is_held (ending_of k) t))

abbrev pub refuses : Answer → Bool
refuses Refuse = true
refuses _ = false

-- where the machine stands before the token: after the statement, where its semicolon is left out
abbrev pub before : Control → Option Frame → Token → Bool → Control
before c top t newline =
    if omits (ended c) t newline && refuses (consume c top t newline) then Between else c

-- the branches of `if` statements on top end before the token
abbrev pub leaves : Control → Token → Bool
leaves Between t = not (is_else t)
leaves AfterCatch t = not (is_else t || is_finally t)
leaves _ t = false

abbrev pub has_ended : Option Ended → Bool
has_ended None = false
has_ended (Some k) = true

-- the list may end here, but for branches that are open
abbrev pub may_end : Control → Bool
may_end Between = true
may_end AfterCatch = true
may_end c = has_ended (ended c)

-- how a slash that comes next is read
abbrev pub goal_of : Control → Goal
goal_of (AfterLeft r e) = Div
goal_of AfterName = Div
goal_of (AfterUpdate e) = Div
goal_of _ = RegExp

-- the state and the frames, the one on top first
pub record Config : Type 0 where
  pub control : Control
  pub frames : List Frame

abbrev pub at : Control → List Frame → Config
at c fs = record { control = c; frames = fs }

abbrev pub top_of : List Frame → Option Frame
top_of [] = None
top_of (f ∷ fs) = Some f

abbrev pub popped : List Frame → List Frame
popped [] = []
popped (f ∷ fs) = fs

abbrev pub without_branches : List Frame → List Frame
without_branches (Branch ∷ fs) = without_branches fs
without_branches fs = fs

abbrev pub settled : Control → List Frame → Token → List Frame
settled c fs t = if leaves c t then without_branches fs else fs

-- at most 1,024 units are open
abbrev pub moved : Answer → List Frame → Config
moved Refuse fs = at Dead fs
moved (Go c) fs = at c fs
moved (Push f c) fs = if nat_lt (length fs) 1024 then at c (f ∷ fs) else at Dead fs
moved (Pop c) fs = at c (popped fs)
moved (Swap f c) fs = at c (f ∷ popped fs)

abbrev pub step_from : Control → List Frame → Lexeme → Config
step_from c fs x =
    moved (consume c (top_of (settled c fs x.token)) x.token x.newline) (settled c fs x.token)

abbrev pub step : Config → Lexeme → Config
step c x = step_from (before c.control (top_of c.frames) x.token x.newline) c.frames x

abbrev pub run : Config → List Lexeme → Config
run c [] = c
run c (x ∷ tokens) = run (step c x) tokens

abbrev pub is_empty : List Frame → Bool
is_empty [] = true
is_empty _ = false

abbrev pub accepts : Config → Bool
accepts c = may_end c.control && is_empty (without_branches c.frames)

-- nothing was read
abbrev pub begun : Config
begun = at Between []
