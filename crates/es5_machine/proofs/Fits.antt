-- What each state wants on top of the stack and each frame below it: kept by every step. A state over
-- another frame would have no way to an end.
use Rattle.std.proofs.Common.{◌≡◌, Bool, true, false, not, ◌&&◌, ◌||◌, if◌then◌else◌, Option, Some, None, List, [], ◌∷◌, refl}
use Rattle.es5_lexer.specs.declared.tokens.Word.{Word}
use Rattle.es5_lexer.specs.declared.tokens.Word.TheVariants.{New as NewWord, Function as FunctionWord, Var, If as IfWord, Else, Do as DoWord, While, With, For, In, Continue, Break, Return, Throw, Debugger, Switch as SwitchWord, Try as TryWord, Catch as CatchWord, Finally as FinallyWord}
use Rattle.es5_lexer.specs.declared.tokens.Punct.{Punct}
use Rattle.es5_lexer.specs.declared.tokens.Punct.TheVariants.{LeftBrace, RightBrace, LeftParen, RightParen, LeftBracket, RightBracket, Dot, Semicolon, Comma, Colon}
use Rattle.es5_lexer.specs.declared.tokens.Token.{Token}
use Rattle.es5_lexer.specs.declared.tokens.Token.TheVariants.{Get, Set, Word as AWord, Punct as APunct}
use Rattle.es5_lexer.specs.declared.tokens.Lexeme.{Lexeme}
use Rattle.es5_trees.specs.Words.{is_ident, is_name, is_key, is_atom, is_update, is_prefix, is_assign}
use Rattle.es5_trees.specs.Endings.{is_right_brace}
use Rattle.es5_machine.specs.Classes.{is_question, is_semicolon, is_colon, is_comma, is_equals, is_left_paren, is_right_paren, is_else, is_finally, is_case, is_default, is_function}
use Rattle.es5_machine.specs.declared.states.Role.{Role}
use Rattle.es5_machine.specs.declared.states.Role.TheVariants.{Plain, Target, Header}
use Rattle.es5_machine.specs.declared.states.Ends.{Ends}
use Rattle.es5_machine.specs.declared.states.Ends.TheVariants.{ByFrame, BySemicolon, ByDeclaration}
use Rattle.es5_machine.specs.declared.states.Part.TheVariants.{If, Loop, Switch, DoWhile, Init, First, Next, Test}
use Rattle.es5_machine.specs.declared.states.BlockKind.{BlockKind}
use Rattle.es5_machine.specs.declared.states.BlockKind.TheVariants.{Simple, Try as TryBlock, Catch as CatchBlock, Finally as FinallyBlock}
use Rattle.es5_machine.specs.declared.states.Phase.{Phase}
use Rattle.es5_machine.specs.declared.states.Phase.TheVariants.{NoClause, InClause, Defaulted}
use Rattle.es5_machine.specs.declared.states.Owner.{Owner}
use Rattle.es5_machine.specs.declared.states.Owner.TheVariants.{Declaration, Expression, Getter, Setter, Handler}
use Rattle.es5_machine.specs.declared.states.Frame.{Frame}
use Rattle.es5_machine.specs.declared.states.Frame.TheVariants.{Paren, Index, Array, Object, Conditional, Head, Parameters, Braces, Block as BlockFrame, Clauses, Branch, Do}
use Rattle.es5_machine.specs.declared.states.Control.{Control}
use Rattle.es5_machine.specs.declared.states.Control.TheVariants.{Between, Need, AfterCatch, AtEnd, AfterJump, AfterReturn, AfterThrow, AfterTry, AfterDefault, Open, Binding, Bound, Operand, Callee, AfterLeft, AfterName, AfterDot, AfterUpdate, AfterAccessor, MayLack, Properties, AfterKey, AfterGet, AfterSet, DeclarationName, FunctionName, FirstParameter, NextParameter, AfterParameter, Dead}
use Rattle.es5_machine.specs.declared.states.Answer.{Answer}
use Rattle.es5_machine.specs.declared.states.Answer.TheVariants.{Refuse, Go, Push, Pop, Swap}
use Rattle.es5_machine.specs.declared.states.Ended.{Ended}
use Rattle.es5_machine.specs.Steps as steps
use Rattle.es5_machine.specs.Steps.{Config, at, top_of, popped, without_branches, settled, in_stands, inside, ended, omits, refuses, leaves}
use Rattle.es5_machine.proofs.ExpressionSoundness.{differ, and_left, and_right}
use Rattle.es5_machine.proofs.Free.{moved, step, run}

-- the frame on top holds statements, or an expression that it ends

abbrev pub holds_statements : Option Frame → Bool
holds_statements None = true
holds_statements (Some (Braces o)) = true
holds_statements (Some (BlockFrame b)) = true
holds_statements (Some (Clauses p)) = true
holds_statements (Some Branch) = true
holds_statements (Some Do) = true
holds_statements _ = false

abbrev pub holds_expression : Option Frame → Bool
holds_expression (Some (Paren r e)) = true
holds_expression (Some (Index r e)) = true
holds_expression (Some (Array r e)) = true
holds_expression (Some (Object r e)) = true
holds_expression (Some (Conditional e)) = true
holds_expression (Some (Head p)) = true
holds_expression (Some (Clauses p)) = true
holds_expression _ = false

abbrev pub holds : Ends → Option Frame → Bool
holds ByFrame top = holds_expression top
holds _ top = holds_statements top

abbrev pub begins_header : Ends → Option Frame → Bool
begins_header ByFrame (Some (Head Init)) = true
begins_header _ _ = false

abbrev pub holds_role : Role → Ends → Option Frame → Bool
holds_role Header e top = begins_header e top
holds_role _ e top = holds e top

abbrev pub is_object : Option Frame → Bool
is_object (Some (Object r e)) = true
is_object _ = false

abbrev pub is_names : Option Frame → Bool
is_names (Some (Parameters o)) = true
is_names _ = false

abbrev pub is_many : Option Frame → Bool
is_many (Some (Parameters o)) = steps.has_many o
is_many _ = false

abbrev pub is_clauses : Option Frame → Bool
is_clauses (Some (Clauses p)) = true
is_clauses _ = false

abbrev pub is_lacking : Option Frame → Bool
is_lacking (Some (Paren r e)) = true
is_lacking (Some (Array r e)) = true
is_lacking (Some (Head Init)) = true
is_lacking (Some (Head Test)) = true
is_lacking (Some (Head Loop)) = true
is_lacking _ = false

abbrev pub owned : Owner → Option Frame → Bool
owned (Expression r e) top = holds_role r e top
owned Getter top = is_object top
owned Setter top = is_object top
owned _ top = holds_statements top

-- what a frame may stand on
abbrev pub below : Frame → Option Frame → Bool
below (Paren r e) top = holds_role r e top
below (Index r e) top = holds_role r e top
below (Array r e) top = holds_role r e top
below (Object r e) top = holds_role r e top
below (Conditional e) top = holds e top
below (Parameters o) top = owned o top
below (Braces o) top = owned o top
below _ top = holds_statements top

-- the frames that a bracket opens
abbrev pub is_opened : Frame → Bool
is_opened (Head p) = true
is_opened (Parameters o) = true
is_opened (Braces o) = true
is_opened (BlockFrame b) = true
is_opened (Clauses p) = true
is_opened _ = false

-- what a state wants on top
abbrev pub fits : Control → Option Frame → Bool
fits (Open f) top = is_opened f && below f top
fits (Binding e) top = holds e top
fits (Bound e) top = holds e top
fits (Operand r e) top = holds_role r e top
fits (Callee r e) top = holds_role r e top
fits (AfterLeft r e) top = holds_role r e top
fits (AfterDot r e) top = holds_role r e top
fits (AfterUpdate e) top = holds e top
fits AfterAccessor top = is_object top
fits MayLack top = is_lacking top
fits Properties top = is_object top
fits AfterKey top = is_object top
fits AfterGet top = is_object top
fits AfterSet top = is_object top
fits (FunctionName r e) top = holds_role r e top
fits FirstParameter top = is_names top
fits NextParameter top = is_many top
fits AfterParameter top = is_names top
fits AfterDefault top = is_clauses top
fits Dead top = true
fits _ top = holds_statements top

abbrev pub Stacked : List Frame → Type 0
Stacked [] = Unit {0}
Stacked (f ∷ fs) = (below f (top_of fs) ≡ true) × Stacked fs

pub record Fits (v : Config) : Type 0 where
  pub on : fits v.control (top_of v.frames) ≡ true
  pub stacked : Stacked v.frames

-- what an answer has to keep
abbrev Keeps : Answer → Option Frame → Type 0
Keeps Refuse top = Unit {0}
Keeps (Go c) top = fits c top ≡ true
Keeps (Push f c) top = (below f top ≡ true) × (fits c (Some f) ≡ true)
Keeps (Pop c) None = ⊥
Keeps (Pop c) (Some f) = (under : Option Frame) → below f under ≡ true → fits c under ≡ true
Keeps (Swap g c) None = ⊥
Keeps (Swap g c) (Some f) =
    ((under : Option Frame) → below f under ≡ true → below g under ≡ true) × (fits c (Some g) ≡ true)

pub role_holds : (r : Role) (e : Ends) (top : Option Frame) → holds_role r e top ≡ true → holds e top ≡ true
role_holds Plain e top h = h
role_holds Target e top h = h
role_holds Header ByFrame (Some (Head Init)) h = refl
role_holds Header ByFrame _ h = absurd (differ h)
role_holds Header BySemicolon top h = absurd (differ h)
role_holds Header ByDeclaration top h = absurd (differ h)

-- expressions

opening_keeps : (r : Role) (e : Ends) (top : Option Frame) (t : Token) → holds_role r e top ≡ true → Keeps (steps.opening r e t) top
opening_keeps r e top (AWord NewWord) h = h
opening_keeps r e top (AWord FunctionWord) h = h
opening_keeps r e top (APunct LeftParen) h = (h, refl)
opening_keeps r e top (APunct LeftBracket) h = (h, refl)
opening_keeps r e top (APunct LeftBrace) h = (h, refl)
opening_keeps r e top _ h = tt

callee_keeps : (r : Role) (e : Ends) (top : Option Frame) (t : Token) → holds_role r e top ≡ true → Keeps (steps.callee r e t) top
callee_keeps r e top t h = by (is_atom t)
  where
    by : (b : Bool) → Keeps (if b then Go (AfterLeft r e) else steps.opening r e t) top
    by true = h
    by false = opening_keeps r e top t h

operand_keeps : (r : Role) (e : Ends) (top : Option Frame) (t : Token) → holds_role r e top ≡ true → Keeps (steps.operand r e t) top
operand_keeps r e top t h = by (is_prefix t)
  where
    by : (b : Bool) → Keeps (if b then Go (Operand Plain e) else steps.callee r e t) top
    by true = role_holds r e top h
    by false = callee_keeps r e top t h

comma_keeps : (f : Frame) → Keeps (steps.comma f) (Some f)
comma_keeps (Paren r e) = refl
comma_keeps (Index r e) = refl
comma_keeps (Array r e) = refl
comma_keeps (Object r e) = refl
comma_keeps (Head First) = (λ u h. h, refl)
comma_keeps (Head Next) = refl
comma_keeps (Head _) = refl
comma_keeps (Clauses p) = refl
comma_keeps _ = tt

right_paren_keeps : (f : Frame) → Keeps (steps.right_paren f) (Some f)
right_paren_keeps (Paren r e) = λ u h. h
right_paren_keeps (Head If) = (λ u h. h, refl)
right_paren_keeps (Head Loop) = λ u h. h
right_paren_keeps (Head Switch) = λ u h. h
right_paren_keeps (Head DoWhile) = λ u h. h
right_paren_keeps _ = tt

right_bracket_keeps : (f : Frame) → Keeps (steps.right_bracket f) (Some f)
right_bracket_keeps (Index r e) = λ u h. h
right_bracket_keeps (Array r e) = λ u h. h
right_bracket_keeps _ = tt

right_brace_keeps : (f : Frame) → Keeps (steps.right_brace f) (Some f)
right_brace_keeps (Object r e) = λ u h. h
right_brace_keeps _ = tt

semicolon_keeps : (f : Frame) → Keeps (steps.semicolon f) (Some f)
semicolon_keeps (Head Init) = (λ u h. h, refl)
semicolon_keeps (Head First) = (λ u h. h, refl)
semicolon_keeps (Head Next) = (λ u h. h, refl)
semicolon_keeps (Head Test) = (λ u h. h, refl)
semicolon_keeps _ = tt

colon_keeps : (f : Frame) → Keeps (steps.colon f) (Some f)
colon_keeps (Conditional e) = λ u h. h
colon_keeps (Clauses p) = refl
colon_keeps _ = tt

mark_keeps : (f : Frame) (p : Punct) → Keeps (steps.close_mark f p) (Some f)
mark_keeps f Comma = comma_keeps f
mark_keeps f RightParen = right_paren_keeps f
mark_keeps f RightBracket = right_bracket_keeps f
mark_keeps f RightBrace = right_brace_keeps f
mark_keeps f Semicolon = semicolon_keeps f
mark_keeps f Colon = colon_keeps f
mark_keeps f _ = tt

word_keeps : (f : Frame) (x : Word) → Keeps (steps.close_word f x) (Some f)
word_keeps (Head First) In = (λ u h. h, refl)
word_keeps _ _ = tt

frame_keeps : (f : Frame) (t : Token) → Keeps (steps.close_frame f t) (Some f)
frame_keeps f (APunct p) = mark_keeps f p
frame_keeps f (AWord x) = word_keeps f x
frame_keeps f _ = tt

close_keeps : (e : Ends) (top : Option Frame) (t : Token) → holds e top ≡ true → Keeps (steps.close e top t) top
close_keeps ByFrame None t h = tt
close_keeps ByFrame (Some f) t h = frame_keeps f t
close_keeps BySemicolon top (APunct Comma) h = h
close_keeps BySemicolon top (APunct Semicolon) h = h
close_keeps BySemicolon top _ h = tt
close_keeps ByDeclaration top (APunct Comma) h = h
close_keeps ByDeclaration top (APunct Semicolon) h = h
close_keeps ByDeclaration top _ h = tt

header_keeps : (r : Role) (e : Ends) (top : Option Frame) (t : Token) → steps.ends_header r t ≡ true → holds_role r e top ≡ true → Keeps (Swap (Head Loop) inside) top
header_keeps Plain e top t s h = absurd (differ s)
header_keeps Target e top t s h = absurd (differ s)
header_keeps Header ByFrame (Some (Head Init)) t s h = (λ u k. k, refl)
header_keeps Header ByFrame _ t s h = absurd (differ h)
header_keeps Header BySemicolon top t s h = absurd (differ h)
header_keeps Header ByDeclaration top t s h = absurd (differ h)

last_keeps : (r : Role) (e : Ends) (top : Option Frame) (t : Token) → holds_role r e top ≡ true → Keeps (steps.last r e top t) top
last_keeps r e top t h = by (steps.ends_header r t) refl
  where
    by : (b : Bool) → steps.ends_header r t ≡ b → Keeps (if b then Swap (Head Loop) inside else steps.close e top t) top
    by true s = header_keeps r e top t s h
    by false s = close_keeps e top t (role_holds r e top h)

after_keeps : (r : Role) (e : Ends) (top : Option Frame) (t : Token) → holds_role r e top ≡ true → Keeps (steps.after r e top t) top
after_keeps r e top t h = by (steps.is_operator e top t) (is_question t)
  where
    by : (a b : Bool) → Keeps (if a then Go (Operand Plain e) else if b then Push (Conditional e) inside else steps.last r e top t) top
    by true b = role_holds r e top h
    by false true = (role_holds r e top h, refl)
    by false false = last_keeps r e top t h

assigned_keeps : (r : Role) (e : Ends) (top : Option Frame) → holds_role r e top ≡ true → Keeps (steps.assigned r e) top
assigned_keeps Plain e top h = tt
assigned_keeps Target e top h = h
assigned_keeps Header e top h = role_holds Header e top h

updated_keeps : (e : Ends) (top : Option Frame) (n : Bool) → holds e top ≡ true → Keeps (steps.updated e n) top
updated_keeps e top true h = tt
updated_keeps e top false h = h

suffix_keeps : (r : Role) (e : Ends) (top : Option Frame) (p : Punct) → holds_role r e top ≡ true → Keeps (steps.suffix r e top p) top
suffix_keeps r e top Dot h = h
suffix_keeps r e top LeftBracket h = (h, refl)
suffix_keeps r e top LeftParen h = (h, refl)
suffix_keeps r e top p h = after_keeps r e top (APunct p) h

left_mark_keeps : (r : Role) (e : Ends) (top : Option Frame) (p : Punct) (n : Bool) → holds_role r e top ≡ true → Keeps (steps.left_mark r e top p n) top
left_mark_keeps r e top p n h = by (is_update p) (is_assign p)
  where
    by : (a b : Bool) → Keeps (if a then steps.updated e n else if b then steps.assigned r e else steps.suffix r e top p) top
    by true b = updated_keeps e top n (role_holds r e top h)
    by false true = assigned_keeps r e top h
    by false false = suffix_keeps r e top p h

left_keeps : (r : Role) (e : Ends) (top : Option Frame) (t : Token) (n : Bool) → holds_role r e top ≡ true → Keeps (steps.left r e top t n) top
left_keeps r e top (APunct p) n h = left_mark_keeps r e top p n h
left_keeps r e top t n h = after_keeps r e top t h

-- an answer after a test
go_keeps : (b : Bool) (c : Control) (top : Option Frame) → fits c top ≡ true → Keeps (if b then Go c else Refuse) top
go_keeps true c top h = h
go_keeps false c top h = tt

lacking_keeps : (f : Frame) (t : Token) → is_lacking (Some f) ≡ true → Keeps (steps.lacking f t) (Some f)
lacking_keeps f t h = by (steps.goes_without f t)
  where
    operand_inside : (g : Frame) → is_lacking (Some g) ≡ true → Keeps (steps.operand (steps.first_role g) ByFrame t) (Some g)
    operand_inside (Paren r e) k = operand_keeps Target ByFrame (Some (Paren r e)) t refl
    operand_inside (Array r e) k = operand_keeps Target ByFrame (Some (Array r e)) t refl
    operand_inside (Head Init) k = operand_keeps Header ByFrame (Some (Head Init)) t refl
    operand_inside (Head Test) k = operand_keeps Target ByFrame (Some (Head Test)) t refl
    operand_inside (Head Loop) k = operand_keeps Target ByFrame (Some (Head Loop)) t refl
    operand_inside _ k = absurd (differ k)

    declares : (g : Frame) (s : Token) → steps.begins_declarations g s ≡ true → Keeps (Swap (Head First) (Binding ByFrame)) (Some g)
    declares (Head Init) s k = (λ u l. l, refl)
    declares _ s k = absurd (differ k)

    first : (b : Bool) → steps.begins_declarations f t ≡ b → Keeps (if b then Swap (Head First) (Binding ByFrame) else steps.operand (steps.first_role f) ByFrame t) (Some f)
    first true k = declares f t k
    first false k = operand_inside f h

    by : (b : Bool) → Keeps (if b then steps.close_frame f t else steps.first_inside f t) (Some f)
    by true = frame_keeps f t
    by false = first (steps.begins_declarations f t) refl

may_lack_keeps : (top : Option Frame) (t : Token) → is_lacking top ≡ true → Keeps (steps.may_lack top t) top
may_lack_keeps None t h = tt
may_lack_keeps (Some f) t h = lacking_keeps f t h

-- properties

property_keeps : (top : Option Frame) (t : Token) → is_object top ≡ true → Keeps (steps.property t) top
property_keeps top Get h = h
property_keeps top Set h = h
property_keeps top t h = go_keeps (is_key t) AfterKey top h

pub object_holds : (top : Option Frame) → is_object top ≡ true → holds_expression top ≡ true
object_holds (Some (Object r e)) h = refl
object_holds _ h = absurd (differ h)

properties_keeps : (top : Option Frame) (t : Token) → is_object top ≡ true → Keeps (steps.properties top t) top
properties_keeps top t h = by (is_right_brace t)
  where
    by : (b : Bool) → Keeps (if b then steps.close ByFrame top t else steps.property t) top
    by true = close_keeps ByFrame top t (object_holds top h)
    by false = property_keeps top t h

after_key_keeps : (top : Option Frame) (t : Token) → is_object top ≡ true → Keeps (steps.after_key t) top
after_key_keeps top t h = go_keeps (is_colon t) inside top (object_holds top h)

accessor_keeps : (o : Owner) (top : Option Frame) (t : Token) → owned o top ≡ true → is_object top ≡ true → Keeps (steps.accessor o t) top
accessor_keeps o top t own h = by (is_key t)
  where
    by : (b : Bool) → Keeps (if b then Go (Open (Parameters o)) else steps.after_key t) top
    by true = own
    by false = after_key_keeps top t h

-- names in parentheses

body_keeps : (o : Owner) → Keeps (Pop (Open (steps.body_of o))) (Some (Parameters o))
body_keeps Declaration = λ u h. h
body_keeps (Expression r e) = λ u h. h
body_keeps Getter = λ u h. h
body_keeps Setter = λ u h. h
body_keeps Handler = λ u h. h

first_keeps : (top : Option Frame) (t : Token) → is_names top ≡ true → Keeps (steps.first_parameter top t) top
first_keeps (Some (Parameters o)) t h = by (is_ident t && steps.has_names o) (is_right_paren t && steps.may_be_empty o)
  where
    by : (a b : Bool) → Keeps (if a then Go AfterParameter else if b then Pop (Open (steps.body_of o)) else Refuse) (Some (Parameters o))
    by true b = refl
    by false true = body_keeps o
    by false false = tt
first_keeps _ t h = absurd (differ h)

many_names : (top : Option Frame) → is_many top ≡ true → is_names top ≡ true
many_names (Some (Parameters o)) h = refl
many_names _ h = absurd (differ h)

later_keeps : (top : Option Frame) (t : Token) → is_names top ≡ true → Keeps (steps.after_parameter top t) top
later_keeps (Some (Parameters o)) t h = by (is_right_paren t) (is_comma t) (steps.has_many o) refl
  where
    by : (a b d : Bool) → steps.has_many o ≡ d → Keeps (if a then Pop (Open (steps.body_of o)) else if b && d then Go NextParameter else Refuse) (Some (Parameters o))
    by true b d m = body_keeps o
    by false true true m = m
    by false true false m = tt
    by false false d m = tt
later_keeps _ t h = absurd (differ h)

function_name_keeps : (r : Role) (e : Ends) (top : Option Frame) (t : Token) → holds_role r e top ≡ true → Keeps (steps.function_name r e t) top
function_name_keeps r e top t h = by (is_ident t) (is_left_paren t)
  where
    by : (a b : Bool) → Keeps (if a then Go (Open (Parameters (Expression r e))) else if b then Push (Parameters (Expression r e)) FirstParameter else Refuse) top
    by true b = h
    by false true = (h, refl)
    by false false = tt

bound_keeps : (e : Ends) (top : Option Frame) (t : Token) → holds e top ≡ true → Keeps (steps.bound e top t) top
bound_keeps e top t h = by (is_equals t)
  where
    by : (b : Bool) → Keeps (if b then Go (Operand Target e) else steps.close e top t) top
    by true = h
    by false = close_keeps e top t h

-- statements

statement_mark_keeps : (top : Option Frame) (p : Punct) → holds_statements top ≡ true → Keeps (steps.statement_mark p) top
statement_mark_keeps top LeftBrace h = (h, refl)
statement_mark_keeps top Semicolon h = h
statement_mark_keeps top p h = operand_keeps Target BySemicolon top (APunct p) h

statement_word_keeps : (top : Option Frame) (x : Word) → holds_statements top ≡ true → Keeps (steps.statement_word x) top
statement_word_keeps top Var h = h
statement_word_keeps top IfWord h = h
statement_word_keeps top While h = h
statement_word_keeps top With h = h
statement_word_keeps top For h = h
statement_word_keeps top SwitchWord h = h
statement_word_keeps top DoWord h = (h, refl)
statement_word_keeps top Continue h = h
statement_word_keeps top Break h = h
statement_word_keeps top Return h = h
statement_word_keeps top Throw h = h
statement_word_keeps top Debugger h = h
statement_word_keeps top TryWord h = h
statement_word_keeps top FunctionWord h = tt
statement_word_keeps top x h = operand_keeps Target BySemicolon top (AWord x) h

statement_keeps : (top : Option Frame) (t : Token) → holds_statements top ≡ true → Keeps (steps.statement t) top
statement_keeps top (APunct p) h = statement_mark_keeps top p h
statement_keeps top (AWord x) h = statement_word_keeps top x h
statement_keeps top t h = by (is_ident t)
  where
    by : (b : Bool) → Keeps (if b then Go AfterName else steps.operand Target BySemicolon t) top
    by true = h
    by false = operand_keeps Target BySemicolon top t h

element_keeps : (top : Option Frame) (t : Token) → holds_statements top ≡ true → Keeps (steps.element t) top
element_keeps top t h = by (is_function t)
  where
    by : (b : Bool) → Keeps (if b then Go DeclarationName else steps.statement t) top
    by true = h
    by false = statement_keeps top t h

after_body_keeps : (o : Owner) → Keeps (Pop (steps.after_body o)) (Some (Braces o))
after_body_keeps Declaration = λ u h. h
after_body_keeps (Expression r e) = λ u h. h
after_body_keeps Getter = λ u h. h
after_body_keeps Setter = λ u h. h
after_body_keeps Handler = λ u h. h

after_block_keeps : (b : BlockKind) → Keeps (Pop (steps.after_block b)) (Some (BlockFrame b))
after_block_keeps Simple = λ u h. h
after_block_keeps TryBlock = λ u h. h
after_block_keeps CatchBlock = λ u h. h
after_block_keeps FinallyBlock = λ u h. h

clause_statement_keeps : (p : Phase) (t : Token) → Keeps (steps.clause_statement p t) (Some (Clauses p))
clause_statement_keeps NoClause t = tt
clause_statement_keeps InClause t = statement_keeps (Some (Clauses InClause)) t refl
clause_statement_keeps Defaulted t = statement_keeps (Some (Clauses Defaulted)) t refl

default_keeps : (p : Phase) → Keeps (steps.default_clause p) (Some (Clauses p))
default_keeps NoClause = (λ u h. h, refl)
default_keeps InClause = (λ u h. h, refl)
default_keeps Defaulted = tt

clauses_keeps : (p : Phase) (t : Token) → Keeps (steps.in_clauses p t) (Some (Clauses p))
clauses_keeps p t = by (is_right_brace t) (is_case t) (is_default t)
  where
    by : (a b c : Bool) → Keeps (if a then Pop Between else if b then Swap (Clauses (steps.with_clause p)) inside else if c then steps.default_clause p else steps.clause_statement p t) (Some (Clauses p))
    by true b c = λ u h. h
    by false true c = (λ u h. h, refl)
    by false false true = default_keeps p
    by false false false = clause_statement_keeps p t

within_keeps : (f : Frame) (t : Token) → Keeps (steps.within f t) (Some f)
within_keeps (Braces o) t = by (is_right_brace t)
  where
    by : (b : Bool) → Keeps (if b then Pop (steps.after_body o) else steps.element t) (Some (Braces o))
    by true = after_body_keeps o
    by false = element_keeps (Some (Braces o)) t refl
within_keeps (BlockFrame k) t = by (is_right_brace t)
  where
    by : (b : Bool) → Keeps (if b then Pop (steps.after_block k) else steps.statement t) (Some (BlockFrame k))
    by true = after_block_keeps k
    by false = statement_keeps (Some (BlockFrame k)) t refl
within_keeps (Clauses p) t = clauses_keeps p t
within_keeps Branch (AWord Else) = λ u h. h
within_keeps Branch _ = tt
within_keeps Do (AWord While) = λ u h. h
within_keeps Do _ = tt
within_keeps _ t = tt

between_keeps : (top : Option Frame) (t : Token) → Keeps (steps.between top t) top
between_keeps None t = element_keeps None t refl
between_keeps (Some f) t = within_keeps f t

after_catch_keeps : (top : Option Frame) (t : Token) → holds_statements top ≡ true → Keeps (steps.after_catch top t) top
after_catch_keeps top t h = by (is_finally t)
  where
    by : (b : Bool) → Keeps (if b then Go (Open (BlockFrame FinallyBlock)) else steps.between top t) top
    by true = h
    by false = between_keeps top t

after_jump_keeps : (top : Option Frame) (t : Token) (n : Bool) → holds_statements top ≡ true → Keeps (steps.after_jump t n) top
after_jump_keeps top t n h = by (is_ident t && not n)
  where
    by : (b : Bool) → Keeps (if b then Go AtEnd else steps.at_end t) top
    by true = h
    by false = go_keeps (is_semicolon t) Between top h

after_throw_keeps : (top : Option Frame) (t : Token) (n : Bool) → holds_statements top ≡ true → Keeps (steps.after_throw t n) top
after_throw_keeps top t true h = tt
after_throw_keeps top t false h = operand_keeps Target BySemicolon top t h

after_return_keeps : (top : Option Frame) (t : Token) (n : Bool) → holds_statements top ≡ true → Keeps (steps.after_return t n) top
after_return_keeps top t n h = by (is_semicolon t)
  where
    by : (b : Bool) → Keeps (if b then Go Between else steps.after_throw t n) top
    by true = h
    by false = after_throw_keeps top t n h

after_try_keeps : (top : Option Frame) (t : Token) → holds_statements top ≡ true → Keeps (steps.after_try t) top
after_try_keeps top (AWord CatchWord) h = h
after_try_keeps top (AWord FinallyWord) h = h
after_try_keeps top _ h = tt

pub clauses_hold : (top : Option Frame) → is_clauses top ≡ true → holds_statements top ≡ true
clauses_hold (Some (Clauses p)) h = refl
clauses_hold _ h = absurd (differ h)

start_fits : (f : Frame) → is_opened f ≡ true → fits (steps.start f) (Some f) ≡ true
start_fits (Head Init) h = refl
start_fits (Head _) h = refl
start_fits (Parameters o) h = refl
start_fits (Braces o) h = refl
start_fits (BlockFrame b) h = refl
start_fits (Clauses p) h = refl
start_fits _ h = absurd (differ h)

open_keeps : (f : Frame) (top : Option Frame) (t : Token) → is_opened f && below f top ≡ true → Keeps (steps.open_with f t) top
open_keeps f top t h = by (steps.opens f t)
  where
    by : (b : Bool) → Keeps (if b then Push f (steps.start f) else Refuse) top
    by true = (and_right (is_opened f) (below f top) h, start_fits f (and_left (is_opened f) (below f top) h))
    by false = tt

after_name_keeps : (top : Option Frame) (t : Token) (n : Bool) → holds_statements top ≡ true → Keeps (steps.after_name top t n) top
after_name_keeps top t n h = by (is_colon t)
  where
    by : (b : Bool) → Keeps (if b then Go Need else steps.left Target BySemicolon top t n) top
    by true = h
    by false = left_keeps Target BySemicolon top t n h

consume_keeps : (c : Control) (top : Option Frame) (t : Token) (n : Bool) → fits c top ≡ true → Keeps (steps.consume c top t n) top
consume_keeps Between top t n h = between_keeps top t
consume_keeps Need top t n h = statement_keeps top t h
consume_keeps AfterCatch top t n h = after_catch_keeps top t h
consume_keeps AtEnd top t n h = go_keeps (is_semicolon t) Between top h
consume_keeps AfterJump top t n h = after_jump_keeps top t n h
consume_keeps AfterReturn top t n h = after_return_keeps top t n h
consume_keeps AfterThrow top t n h = after_throw_keeps top t n h
consume_keeps AfterTry top t n h = after_try_keeps top t h
consume_keeps AfterDefault top t n h = go_keeps (is_colon t) Between top (clauses_hold top h)
consume_keeps (Open f) top t n h = open_keeps f top t h
consume_keeps (Binding e) top t n h = go_keeps (is_ident t) (Bound e) top h
consume_keeps (Bound e) top t n h = bound_keeps e top t h
consume_keeps (Operand r e) top t n h = operand_keeps r e top t h
consume_keeps (Callee r e) top t n h = callee_keeps r e top t h
consume_keeps (AfterLeft r e) top t n h = left_keeps r e top t n h
consume_keeps AfterName top t n h = after_name_keeps top t n h
consume_keeps (AfterDot r e) top t n h = go_keeps (is_name t) (AfterLeft r e) top h
consume_keeps (AfterUpdate e) top t n h = after_keeps Plain e top t h
consume_keeps AfterAccessor top t n h = close_keeps ByFrame top t (object_holds top h)
consume_keeps MayLack top t n h = may_lack_keeps top t h
consume_keeps Properties top t n h = properties_keeps top t h
consume_keeps AfterKey top t n h = after_key_keeps top t h
consume_keeps AfterGet top t n h = accessor_keeps Getter top t h h
consume_keeps AfterSet top t n h = accessor_keeps Setter top t h h
consume_keeps DeclarationName top t n h = go_keeps (is_ident t) (Open (Parameters Declaration)) top h
consume_keeps (FunctionName r e) top t n h = function_name_keeps r e top t h
consume_keeps FirstParameter top t n h = first_keeps top t h
consume_keeps NextParameter top t n h = go_keeps (is_ident t) AfterParameter top (many_names top h)
consume_keeps AfterParameter top t n h = later_keeps top t h
consume_keeps Dead top t n h = tt

-- a step and a run

moved_fits : (a : Answer) (fs : List Frame) → Keeps a (top_of fs) → Stacked fs → Fits (moved a fs).config
moved_fits Refuse fs k s = record { on = refl; stacked = s }
moved_fits (Go c) fs k s = record { on = k; stacked = s }
moved_fits (Push f c) fs k s = record { on = k.1; stacked = (k.0, s) }
moved_fits (Pop c) [] k s = absurd k
moved_fits (Pop c) (f ∷ fs) k s = record { on = k (top_of fs) s.0; stacked = s.1 }
moved_fits (Swap g c) [] k s = absurd k
moved_fits (Swap g c) (f ∷ fs) k s = record { on = k.1; stacked = (k.0 (top_of fs) s.0, s.1) }

branches_fit : (fs : List Frame) → holds_statements (top_of fs) ≡ true → Stacked fs → (holds_statements (top_of (without_branches fs)) ≡ true) × Stacked (without_branches fs)
branches_fit [] h s = (h, s)
branches_fit (Branch ∷ fs) h s = branches_fit fs s.0 s.1
branches_fit (_ ∷ fs) h s = (h, s)

settled_fits : (c : Control) (fs : List Frame) (t : Token) → fits c (top_of fs) ≡ true → Stacked fs → (fits c (top_of (settled c fs t)) ≡ true) × Stacked (settled c fs t)
settled_fits Between fs t h s = by (not (is_else t))
  where
    by : (b : Bool) → (holds_statements (top_of (if b then without_branches fs else fs)) ≡ true) × Stacked (if b then without_branches fs else fs)
    by true = branches_fit fs h s
    by false = (h, s)
settled_fits AfterCatch fs t h s = by (not (is_else t || is_finally t))
  where
    by : (b : Bool) → (holds_statements (top_of (if b then without_branches fs else fs)) ≡ true) × Stacked (if b then without_branches fs else fs)
    by true = branches_fit fs h s
    by false = (h, s)
settled_fits _ fs t h s = (h, s)

ended_fits : (c : Control) (top : Option Frame) → steps.has_ended (ended c) ≡ true → fits c top ≡ true → holds_statements top ≡ true
ended_fits (AfterLeft r BySemicolon) top e h = role_holds r BySemicolon top h
ended_fits (AfterLeft r ByDeclaration) top e h = role_holds r ByDeclaration top h
ended_fits AfterName top e h = h
ended_fits (AfterUpdate BySemicolon) top e h = h
ended_fits (AfterUpdate ByDeclaration) top e h = h
ended_fits (Bound ByDeclaration) top e h = h
ended_fits AtEnd top e h = h
ended_fits AfterJump top e h = h
ended_fits AfterReturn top e h = h
ended_fits _ top e h = absurd (differ e)

omits_ended : (o : Option Ended) (t : Token) (n : Bool) → omits o t n ≡ true → steps.has_ended o ≡ true
omits_ended None t n h = h
omits_ended (Some k) t n h = refl

before_fits : (c : Control) (top : Option Frame) (t : Token) (n : Bool) → fits c top ≡ true → fits (steps.before c top t n) top ≡ true
before_fits c top t n h = by (omits (ended c) t n) (refuses (steps.consume c top t n)) refl
  where
    by : (a b : Bool) → omits (ended c) t n ≡ a → fits (if a && b then Between else c) top ≡ true
    by true true o = ended_fits c top (omits_ended (ended c) t n o) h
    by true false o = h
    by false b o = h

step_fits : (v : Config) (x : Lexeme) → Fits v → Fits (step v x).config
step_fits v x h =
    let c = steps.before v.control (top_of v.frames) x.token x.newline in
    let s = settled_fits c v.frames x.token (before_fits v.control (top_of v.frames) x.token x.newline h.on) h.stacked in
    moved_fits (steps.consume c (top_of (settled c v.frames x.token)) x.token x.newline) (settled c v.frames x.token) (consume_keeps c (top_of (settled c v.frames x.token)) x.token x.newline s.0) s.1

pub run_fits : (w : List Lexeme) (v : Config) → Fits v → Fits (run v w)
run_fits [] v h = h
run_fits (x ∷ w) v h = run_fits w (step v x).config (step_fits v x h)
