-- A completion of each state: first its own expression or statement ends, then each frame, from the top
-- down. It is accepted, whatever the depth, so that a machine that isn't dead has read what begins a program.
use Rattle.std.proofs.Common.{◌≡◌, Bool, true, false, if◌then◌else◌, Some, List, [], ◌∷◌, refl, sym, ap, ◌∙◌}
use Rattle.es5_lexer.specs.declared.tokens.Word.TheVariants.{While, Finally as FinallyWord}
use Rattle.es5_lexer.specs.declared.tokens.Punct.{Punct}
use Rattle.es5_lexer.specs.declared.tokens.Punct.TheVariants.{LeftBrace, RightBrace, LeftParen, RightParen, RightBracket, Semicolon, Colon}
use Rattle.es5_lexer.specs.declared.tokens.Token.TheVariants.{Ident, Punct as APunct}
use Rattle.es5_lexer.specs.declared.tokens.Lexeme.{Lexeme}
use Rattle.es5_trees.specs.Words.{lexeme, mark, word}
use Rattle.es5_trees.specs.Endings.{after_operand, after_update, after_name}
use Rattle.es5_machine.specs.declared.states.Role.{Role}
use Rattle.es5_machine.specs.declared.states.Role.TheVariants.{Target}
use Rattle.es5_machine.specs.declared.states.Ends.{Ends}
use Rattle.es5_machine.specs.declared.states.Ends.TheVariants.{ByFrame, BySemicolon, ByDeclaration}
use Rattle.es5_machine.specs.declared.states.Part.{Part}
use Rattle.es5_machine.specs.declared.states.Part.TheVariants.{If, Loop, Switch, DoWhile, Init, First, Next, Test}
use Rattle.es5_machine.specs.declared.states.BlockKind.{BlockKind}
use Rattle.es5_machine.specs.declared.states.BlockKind.TheVariants.{Simple, Try as TryBlock, Catch as CatchBlock, Finally as FinallyBlock}
use Rattle.es5_machine.specs.declared.states.Phase.{Phase}
use Rattle.es5_machine.specs.declared.states.Phase.TheVariants.{NoClause}
use Rattle.es5_machine.specs.declared.states.Owner.{Owner}
use Rattle.es5_machine.specs.declared.states.Owner.TheVariants.{Declaration, Expression, Getter, Setter, Handler}
use Rattle.es5_machine.specs.declared.states.Frame.{Frame}
use Rattle.es5_machine.specs.declared.states.Frame.TheVariants.{Paren, Index, Array, Object, Conditional, Head, Parameters, Braces, Block as BlockFrame, Clauses, Branch, Do}
use Rattle.es5_machine.specs.declared.states.Control.{Control}
use Rattle.es5_machine.specs.declared.states.Control.TheVariants.{Between, Need, AfterCatch, AtEnd, AfterJump, AfterReturn, AfterThrow, AfterTry, AfterDefault, Open, Binding, Bound, Operand, Callee, AfterLeft, AfterName, AfterDot, AfterUpdate, AfterAccessor, MayLack, Properties, AfterKey, AfterGet, AfterSet, DeclarationName, FunctionName, FirstParameter, NextParameter, AfterParameter, Dead}
use Rattle.es5_machine.specs.declared.states.Answer.{Answer}
use Rattle.es5_machine.specs.declared.states.Answer.TheVariants.{Refuse, Go, Push, Pop, Swap}
use Rattle.es5_machine.specs.Steps as steps
use Rattle.es5_machine.specs.Steps.{Config, at, top_of, popped, without_branches, settled, in_stands, inside, ended, omits, refuses, leaves}
use Rattle.es5_machine.proofs.ExpressionSoundness.{differ, and_left, and_right}
use Rattle.es5_machine.proofs.Free.{moved, Accepted}
use Rattle.es5_machine.proofs.Moves.{on, on_between, is_closing, by_close, declared_close, no_else, branch_ends, catch_ends}
use Rattle.es5_machine.proofs.Fits.{holds_statements, holds_expression, holds, holds_role, is_object, is_names, is_many, is_clauses, is_lacking, owned, below, is_opened, fits, Stacked, Fits, role_holds, object_holds, clauses_hold}

-- what may end a script over a frame: where a statement has ended, and where what the frame on top ends
-- has; over parentheses of names, after the `(` and after a name
pub record Closing : Type 0 where
  pub statement : List Lexeme
  pub frame : List Lexeme

abbrev a_mark : Punct → Lexeme
a_mark p = mark p false

abbrev a_name : Lexeme
a_name = lexeme Ident false

abbrev rest_of : Ends → Closing → List Lexeme
rest_of ByFrame c = c.frame
rest_of _ c = a_mark Semicolon ∷ c.statement

abbrev braces_then : List Lexeme → List Lexeme
braces_then w = a_mark LeftBrace ∷ a_mark RightBrace ∷ w

abbrev finally_then : List Lexeme → List Lexeme
finally_then w = word FinallyWord false ∷ braces_then w

abbrev body_rest : Owner → Closing → List Lexeme
body_rest (Expression r e) c = rest_of e c
body_rest Getter c = c.frame
body_rest Setter c = c.frame
body_rest _ c = c.statement

abbrev block_rest : BlockKind → Closing → List Lexeme
block_rest TryBlock c = finally_then c.statement
block_rest _ c = c.statement

abbrev names_rest : Owner → Closing → List Lexeme
names_rest o c = a_mark RightParen ∷ braces_then (body_rest o c)

abbrev first_rest : Owner → List Lexeme → List Lexeme
first_rest Setter w = a_name ∷ w
first_rest Handler w = a_name ∷ w
first_rest _ w = w

abbrev head_rest : Part → List Lexeme → List Lexeme
head_rest Switch w = a_mark RightParen ∷ braces_then w
head_rest Init w = a_mark Semicolon ∷ a_mark Semicolon ∷ a_mark RightParen ∷ a_mark Semicolon ∷ w
head_rest First w = a_mark Semicolon ∷ a_mark Semicolon ∷ a_mark RightParen ∷ a_mark Semicolon ∷ w
head_rest Next w = a_mark Semicolon ∷ a_mark Semicolon ∷ a_mark RightParen ∷ a_mark Semicolon ∷ w
head_rest Test w = a_mark Semicolon ∷ a_mark RightParen ∷ a_mark Semicolon ∷ w
head_rest _ w = a_mark RightParen ∷ a_mark Semicolon ∷ w

abbrev while_then : List Lexeme → List Lexeme
while_then w =
    word While false ∷ a_mark LeftParen ∷ a_name ∷ a_mark RightParen ∷ a_mark Semicolon ∷ w

abbrev framed : List Lexeme → Closing
framed w = record { statement = []; frame = w }

abbrev closing : Frame → Closing → Closing
closing (Paren r e) c = framed (a_mark RightParen ∷ rest_of e c)
closing (Index r e) c = framed (a_mark RightBracket ∷ rest_of e c)
closing (Array r e) c = framed (a_mark RightBracket ∷ rest_of e c)
closing (Object r e) c = framed (a_mark RightBrace ∷ rest_of e c)
closing (Conditional e) c = framed (a_mark Colon ∷ a_name ∷ rest_of e c)
closing (Head p) c = framed (head_rest p c.statement)
closing (Parameters o) c = record { statement = first_rest o (names_rest o c); frame = names_rest o c }
closing (Braces o) c = record { statement = a_mark RightBrace ∷ body_rest o c; frame = [] }
closing (BlockFrame b) c = record { statement = a_mark RightBrace ∷ block_rest b c; frame = [] }
closing (Clauses p) c =
    record { statement = a_mark RightBrace ∷ c.statement; frame = a_mark Colon ∷ a_mark RightBrace ∷ c.statement }
closing Branch c = record { statement = c.statement; frame = [] }
closing Do c = record { statement = while_then c.statement; frame = [] }

abbrev closings : List Frame → Closing
closings [] = record { statement = []; frame = [] }
closings (f ∷ fs) = closing f (closings fs)

-- after the bracket that opens a frame
abbrev opened_rest : Frame → Closing → List Lexeme
opened_rest (Head Init) c = (closing (Head Init) c).frame
opened_rest (Head p) c = a_name ∷ (closing (Head p) c).frame
opened_rest f c = (closing f c).statement

abbrev open_mark : Frame → Punct
open_mark (Head p) = LeftParen
open_mark (Parameters o) = LeftParen
open_mark _ = LeftBrace

abbrev function_rest : List Lexeme → List Lexeme
function_rest w = a_mark LeftParen ∷ a_mark RightParen ∷ braces_then w

-- a completion of each state
abbrev completion_of : Control → Closing → List Lexeme
completion_of Between c = c.statement
completion_of AfterCatch c = c.statement
completion_of AfterThrow c = a_name ∷ a_mark Semicolon ∷ c.statement
completion_of AfterTry c = finally_then c.statement
completion_of AfterDefault c = a_mark Colon ∷ c.statement
completion_of (Open f) c = a_mark (open_mark f) ∷ opened_rest f c
completion_of (Binding e) c = a_name ∷ rest_of e c
completion_of (Bound e) c = rest_of e c
completion_of (Operand r e) c = a_name ∷ rest_of e c
completion_of (Callee r e) c = a_name ∷ rest_of e c
completion_of (AfterLeft r e) c = rest_of e c
completion_of (AfterDot r e) c = a_name ∷ rest_of e c
completion_of (AfterUpdate e) c = rest_of e c
completion_of AfterAccessor c = c.frame
completion_of MayLack c = c.frame
completion_of Properties c = c.frame
completion_of AfterKey c = a_mark Colon ∷ a_name ∷ c.frame
completion_of AfterGet c = a_mark Colon ∷ a_name ∷ c.frame
completion_of AfterSet c = a_mark Colon ∷ a_name ∷ c.frame
completion_of DeclarationName c = a_name ∷ function_rest c.statement
completion_of (FunctionName r e) c = a_name ∷ function_rest (rest_of e c)
completion_of FirstParameter c = c.statement
completion_of NextParameter c = a_name ∷ c.frame
completion_of AfterParameter c = c.frame
completion_of _ c = a_mark Semicolon ∷ c.statement

pub completion : Config → List Lexeme
completion v = completion_of v.control (closings v.frames)

-- a token that the state takes

takes_one : (c : Control) (fs : List Frame) (x : Lexeme) (w : List Lexeme) (a : Answer) → steps.consume c (top_of fs) x.token x.newline ≡ a → refuses a ≡ false → leaves c x.token ≡ false → Accepted (moved a fs).config w → Accepted (at c fs) (x ∷ w)
takes_one c fs x w a is takes_it stay k = (on c fs x w a is takes_it stay (k, refl)).0

takes_between : (fs : List Frame) (x : Lexeme) (w : List Lexeme) (a : Answer) → without_branches fs ≡ fs → steps.between (top_of fs) x.token ≡ a → refuses a ≡ false → Accepted (moved a fs).config w → Accepted (at Between fs) (x ∷ w)
takes_between fs x w a whole is takes_it k = (on_between fs x w a whole is takes_it (k, refl)).0

-- after an expression or a name the list is accepted
record ExpressionEnds (e : Ends) (fs : List Frame) (w : List Lexeme) : Type 0 where
  pub left : (r : Role) → Accepted (at (AfterLeft r e) fs) w
  pub update : Accepted (at (AfterUpdate e) fs) w
  pub bound : Accepted (at (Bound e) fs) w

ends_by : (e : Ends) (fs : List Frame) (p : Punct) (w : List Lexeme) → is_closing p ≡ true → refuses (steps.close e (top_of fs) (APunct p)) ≡ false → Accepted (moved (steps.close e (top_of fs) (APunct p)) fs).config w → ExpressionEnds e fs (a_mark p ∷ w)
ends_by e fs p w closing takes_it k = record {
  left = λ r. ((by_close after_operand e fs p false w closing takes_it (k, refl)).by r).0;
  update = (by_close after_update e fs p false w closing takes_it (k, refl)).by.0;
  bound = (declared_close after_name e fs p false w closing takes_it (k, refl)).by.0;
}

-- what closes the frames is accepted, where they stand as they must
record Closed (fs : List Frame) : Type 0 where
  pub statement : holds_statements (top_of fs) ≡ true → Accepted (at Between fs) (closings fs).statement
  pub frame : holds_expression (top_of fs) ≡ true → ExpressionEnds ByFrame fs (closings fs).frame
  pub object : is_object (top_of fs) ≡ true → Accepted (at AfterAccessor fs) (closings fs).frame
  pub first : is_names (top_of fs) ≡ true → Accepted (at FirstParameter fs) (closings fs).statement
  pub later : is_names (top_of fs) ≡ true → Accepted (at AfterParameter fs) (closings fs).frame

rest_ends : (e : Ends) (fs : List Frame) → Closed fs → holds e (top_of fs) ≡ true → ExpressionEnds e fs (rest_of e (closings fs))
rest_ends ByFrame fs c h = c.frame h
rest_ends BySemicolon fs c h = ends_by BySemicolon fs Semicolon (closings fs).statement refl refl (c.statement h)
rest_ends ByDeclaration fs c h = ends_by ByDeclaration fs Semicolon (closings fs).statement refl refl (c.statement h)

left_rest : (r : Role) (e : Ends) (fs : List Frame) → Closed fs → holds_role r e (top_of fs) ≡ true → Accepted (at (AfterLeft r e) fs) (rest_of e (closings fs))
left_rest r e fs c h = (rest_ends e fs c (role_holds r e (top_of fs) h)).left r

-- a name where an operand must begin
name_left : (r : Role) (e : Ends) (fs : List Frame) (w : List Lexeme) → Accepted (at (AfterLeft r e) fs) w → Accepted (at (Operand r e) fs) (a_name ∷ w)
name_left r e fs w k = takes_one (Operand r e) fs a_name w (Go (AfterLeft r e)) refl refl refl k

-- braces of a body and of a block
body_closes : (o : Owner) (fs : List Frame) (w : List Lexeme) → Accepted (at (steps.after_body o) fs) w → Accepted (at (Open (Braces o)) fs) (braces_then w)
body_closes o fs w k =
    takes_one (Open (Braces o)) fs (a_mark LeftBrace) (a_mark RightBrace ∷ w) (Push (Braces o) Between) refl refl refl
    (takes_between (Braces o ∷ fs) (a_mark RightBrace) w (Pop (steps.after_body o)) refl refl refl k)

block_closes : (b : BlockKind) (fs : List Frame) (w : List Lexeme) → Accepted (at (steps.after_block b) fs) w → Accepted (at (Open (BlockFrame b)) fs) (braces_then w)
block_closes b fs w k =
    takes_one (Open (BlockFrame b)) fs (a_mark LeftBrace) (a_mark RightBrace ∷ w) (Push (BlockFrame b) Between) refl refl refl
    (takes_between (BlockFrame b ∷ fs) (a_mark RightBrace) w (Pop (steps.after_block b)) refl refl refl k)

try_closes : (fs : List Frame) (w : List Lexeme) → Accepted (at Between fs) w → Accepted (at AfterTry fs) (finally_then w)
try_closes fs w k =
    takes_one AfterTry fs (word FinallyWord false) (braces_then w) (Go (Open (BlockFrame FinallyBlock))) refl refl refl (block_closes FinallyBlock fs w k)

catch_closes : (fs : List Frame) (w : List Lexeme) → Accepted (at Between fs) w → Accepted (at AfterCatch fs) w
catch_closes fs w k = (catch_ends fs w (k, refl)).0

body_ends : (o : Owner) (fs : List Frame) → Closed fs → owned o (top_of fs) ≡ true → Accepted (at (steps.after_body o) fs) (body_rest o (closings fs))
body_ends Declaration fs c h = c.statement h
body_ends (Expression r e) fs c h = left_rest r e fs c h
body_ends Getter fs c h = c.object h
body_ends Setter fs c h = c.object h
body_ends Handler fs c h = c.statement h

block_ends : (b : BlockKind) (fs : List Frame) → Closed fs → holds_statements (top_of fs) ≡ true → Accepted (at (steps.after_block b) fs) (block_rest b (closings fs))
block_ends Simple fs c h = c.statement h
block_ends TryBlock fs c h = try_closes fs (closings fs).statement (c.statement h)
block_ends CatchBlock fs c h = catch_closes fs (closings fs).statement (c.statement h)
block_ends FinallyBlock fs c h = c.statement h

-- after the parentheses of names
names_body : (o : Owner) (fs : List Frame) → Closed fs → owned o (top_of fs) ≡ true → Accepted (at (Open (steps.body_of o)) fs) (braces_then (body_rest o (closings fs)))
names_body Declaration fs c h = body_closes Declaration fs (body_rest Declaration (closings fs)) (body_ends Declaration fs c h)
names_body (Expression r e) fs c h = body_closes (Expression r e) fs (body_rest (Expression r e) (closings fs)) (body_ends (Expression r e) fs c h)
names_body Getter fs c h = body_closes Getter fs (body_rest Getter (closings fs)) (body_ends Getter fs c h)
names_body Setter fs c h = body_closes Setter fs (body_rest Setter (closings fs)) (body_ends Setter fs c h)
names_body Handler fs c h = block_closes CatchBlock fs (block_rest CatchBlock (closings fs)) (block_ends CatchBlock fs c h)

names_close : (o : Owner) (fs : List Frame) → Closed fs → owned o (top_of fs) ≡ true → Accepted (at AfterParameter (Parameters o ∷ fs)) (names_rest o (closings fs))
names_close o fs c h =
    takes_one AfterParameter (Parameters o ∷ fs) (a_mark RightParen) (braces_then (body_rest o (closings fs))) (Pop (Open (steps.body_of o))) refl refl refl (names_body o fs c h)

empty_names : (o : Owner) (fs : List Frame) → steps.may_be_empty o ≡ true → Closed fs → owned o (top_of fs) ≡ true → Accepted (at FirstParameter (Parameters o ∷ fs)) (names_rest o (closings fs))
empty_names o fs e c h =
    takes_one FirstParameter (Parameters o ∷ fs) (a_mark RightParen) (braces_then (body_rest o (closings fs))) (Pop (Open (steps.body_of o))) (ap (λ b. if b then Pop (Open (steps.body_of o)) else Refuse) e) refl refl (names_body o fs c h)

one_name_closes : (o : Owner) (fs : List Frame) → steps.has_names o ≡ true → Closed fs → owned o (top_of fs) ≡ true → Accepted (at FirstParameter (Parameters o ∷ fs)) (a_name ∷ names_rest o (closings fs))
one_name_closes o fs n c h =
    takes_one FirstParameter (Parameters o ∷ fs) a_name (names_rest o (closings fs)) (Go AfterParameter) (ap (λ b. if b then Go AfterParameter else Refuse) n) refl refl (names_close o fs c h)

first_closes : (o : Owner) (fs : List Frame) → Closed fs → owned o (top_of fs) ≡ true → Accepted (at FirstParameter (Parameters o ∷ fs)) (first_rest o (names_rest o (closings fs)))
first_closes Declaration fs c h = empty_names Declaration fs refl c h
first_closes (Expression r e) fs c h = empty_names (Expression r e) fs refl c h
first_closes Getter fs c h = empty_names Getter fs refl c h
first_closes Setter fs c h = one_name_closes Setter fs refl c h
first_closes Handler fs c h = one_name_closes Handler fs refl c h

-- parentheses of statements
need_closes : (fs : List Frame) (w : List Lexeme) → Accepted (at Between fs) w → Accepted (at Need fs) (a_mark Semicolon ∷ w)
need_closes fs w k = takes_one Need fs (a_mark Semicolon) w (Go Between) refl refl refl k

end_closes : (fs : List Frame) (w : List Lexeme) → Accepted (at Between fs) w → Accepted (at AtEnd fs) (a_mark Semicolon ∷ w)
end_closes fs w k = takes_one AtEnd fs (a_mark Semicolon) w (Go Between) refl refl refl k

loop_lacks : (fs : List Frame) (w : List Lexeme) → Accepted (at Between fs) w → Accepted (at MayLack (Head Loop ∷ fs)) (head_rest Loop w)
loop_lacks fs w k = takes_one MayLack (Head Loop ∷ fs) (a_mark RightParen) (a_mark Semicolon ∷ w) (Pop Need) refl refl refl (need_closes fs w k)

test_lacks : (fs : List Frame) (w : List Lexeme) → Accepted (at Between fs) w → Accepted (at MayLack (Head Test ∷ fs)) (head_rest Test w)
test_lacks fs w k = takes_one MayLack (Head Test ∷ fs) (a_mark Semicolon) (head_rest Loop w) (Swap (Head Loop) MayLack) refl refl refl (loop_lacks fs w k)

init_lacks : (fs : List Frame) (w : List Lexeme) → Accepted (at Between fs) w → Accepted (at MayLack (Head Init ∷ fs)) (head_rest Init w)
init_lacks fs w k = takes_one MayLack (Head Init ∷ fs) (a_mark Semicolon) (head_rest Test w) (Swap (Head Test) MayLack) refl refl refl (test_lacks fs w k)

-- no completion begins with `else`
closing_no_else : (fs : List Frame) → no_else (closings fs).statement ≡ true
closing_no_else [] = refl
closing_no_else (Branch ∷ fs) = closing_no_else fs
closing_no_else (Parameters Setter ∷ fs) = refl
closing_no_else (Parameters Handler ∷ fs) = refl
closing_no_else (_ ∷ fs) = refl

switch_closes : (fs : List Frame) (w : List Lexeme) → Accepted (at Between fs) w → Accepted (at (Open (Clauses NoClause)) fs) (braces_then w)
switch_closes fs w k =
    takes_one (Open (Clauses NoClause)) fs (a_mark LeftBrace) (a_mark RightBrace ∷ w) (Push (Clauses NoClause) Between) refl refl refl
    (takes_between (Clauses NoClause ∷ fs) (a_mark RightBrace) w (Pop Between) refl refl refl k)

head_closes : (p : Part) (fs : List Frame) → Accepted (at Between fs) (closings fs).statement → ExpressionEnds ByFrame (Head p ∷ fs) (head_rest p (closings fs).statement)
head_closes If fs k =
    ends_by ByFrame (Head If ∷ fs) RightParen (a_mark Semicolon ∷ (closings fs).statement) refl refl
    (need_closes (Branch ∷ fs) (closings fs).statement (branch_ends fs (closings fs).statement (closing_no_else fs) (k, refl)).0)
head_closes Loop fs k = ends_by ByFrame (Head Loop ∷ fs) RightParen (a_mark Semicolon ∷ (closings fs).statement) refl refl (need_closes fs (closings fs).statement k)
head_closes Switch fs k = ends_by ByFrame (Head Switch ∷ fs) RightParen (braces_then (closings fs).statement) refl refl (switch_closes fs (closings fs).statement k)
head_closes DoWhile fs k = ends_by ByFrame (Head DoWhile ∷ fs) RightParen (a_mark Semicolon ∷ (closings fs).statement) refl refl (end_closes fs (closings fs).statement k)
head_closes Init fs k = ends_by ByFrame (Head Init ∷ fs) Semicolon (head_rest Test (closings fs).statement) refl refl (test_lacks fs (closings fs).statement k)
head_closes First fs k = ends_by ByFrame (Head First ∷ fs) Semicolon (head_rest Test (closings fs).statement) refl refl (test_lacks fs (closings fs).statement k)
head_closes Next fs k = ends_by ByFrame (Head Next ∷ fs) Semicolon (head_rest Test (closings fs).statement) refl refl (test_lacks fs (closings fs).statement k)
head_closes Test fs k = ends_by ByFrame (Head Test ∷ fs) Semicolon (head_rest Loop (closings fs).statement) refl refl (loop_lacks fs (closings fs).statement k)

while_closes : (fs : List Frame) (w : List Lexeme) → Accepted (at Between fs) w → Accepted (at Between (Do ∷ fs)) (while_then w)
while_closes fs w k =
    takes_between (Do ∷ fs) (word While false) (a_mark LeftParen ∷ a_name ∷ a_mark RightParen ∷ a_mark Semicolon ∷ w) (Pop (Open (Head DoWhile))) refl refl refl
    (takes_one (Open (Head DoWhile)) fs (a_mark LeftParen) (a_name ∷ a_mark RightParen ∷ a_mark Semicolon ∷ w) (Push (Head DoWhile) inside) refl refl refl
    (name_left Target ByFrame (Head DoWhile ∷ fs) (a_mark RightParen ∷ a_mark Semicolon ∷ w)
    ((ends_by ByFrame (Head DoWhile ∷ fs) RightParen (a_mark Semicolon ∷ w) refl refl (end_closes fs w k)).left Target)))

clauses_close : (p : Phase) (fs : List Frame) (w : List Lexeme) → Accepted (at Between fs) w → Accepted (at Between (Clauses p ∷ fs)) (a_mark RightBrace ∷ w)
clauses_close p fs w k = takes_between (Clauses p ∷ fs) (a_mark RightBrace) w (Pop Between) refl refl refl k

-- frame by frame

expression_closed : (f : Frame) (fs : List Frame) → holds_statements (Some f) ≡ false → is_object (Some f) ≡ false → is_names (Some f) ≡ false → ExpressionEnds ByFrame (f ∷ fs) (closings (f ∷ fs)).frame → Closed (f ∷ fs)
expression_closed f fs s o n k = record {
  statement = λ h. absurd (differ (sym s ∙ h));
  frame = λ h. k;
  object = λ h. absurd (differ (sym o ∙ h));
  first = λ h. absurd (differ (sym n ∙ h));
  later = λ h. absurd (differ (sym n ∙ h));
}

statement_closed : (f : Frame) (fs : List Frame) → holds_expression (Some f) ≡ false → is_object (Some f) ≡ false → is_names (Some f) ≡ false → Accepted (at Between (f ∷ fs)) (closings (f ∷ fs)).statement → Closed (f ∷ fs)
statement_closed f fs x o n k = record {
  statement = λ h. k;
  frame = λ h. absurd (differ (sym x ∙ h));
  object = λ h. absurd (differ (sym o ∙ h));
  first = λ h. absurd (differ (sym n ∙ h));
  later = λ h. absurd (differ (sym n ∙ h));
}

frame_closed : (f : Frame) (fs : List Frame) → Closed fs → below f (top_of fs) ≡ true → Closed (f ∷ fs)
frame_closed (Paren r e) fs c b =
    expression_closed (Paren r e) fs refl refl refl (ends_by ByFrame (Paren r e ∷ fs) RightParen (rest_of e (closings fs)) refl refl (left_rest r e fs c b))
frame_closed (Index r e) fs c b =
    expression_closed (Index r e) fs refl refl refl (ends_by ByFrame (Index r e ∷ fs) RightBracket (rest_of e (closings fs)) refl refl (left_rest r e fs c b))
frame_closed (Array r e) fs c b =
    expression_closed (Array r e) fs refl refl refl (ends_by ByFrame (Array r e ∷ fs) RightBracket (rest_of e (closings fs)) refl refl (left_rest r e fs c b))
frame_closed (Object r e) fs c b = record {
  statement = λ h. absurd (differ h);
  frame = λ h. ends_by ByFrame (Object r e ∷ fs) RightBrace (rest_of e (closings fs)) refl refl (left_rest r e fs c b);
  object = λ h. takes_one AfterAccessor (Object r e ∷ fs) (a_mark RightBrace) (rest_of e (closings fs)) (Pop (AfterLeft r e)) refl refl refl (left_rest r e fs c b);
  first = λ h. absurd (differ h);
  later = λ h. absurd (differ h);
}
frame_closed (Conditional e) fs c b =
    expression_closed (Conditional e) fs refl refl refl
    (ends_by ByFrame (Conditional e ∷ fs) Colon (a_name ∷ rest_of e (closings fs)) refl refl
    (name_left Target e fs (rest_of e (closings fs)) ((rest_ends e fs c b).left Target)))
frame_closed (Head p) fs c b = expression_closed (Head p) fs refl refl refl (head_closes p fs (c.statement b))
frame_closed (Parameters o) fs c b = record {
  statement = λ h. absurd (differ h);
  frame = λ h. absurd (differ h);
  object = λ h. absurd (differ h);
  first = λ h. first_closes o fs c b;
  later = λ h. names_close o fs c b;
}
frame_closed (Braces o) fs c b =
    statement_closed (Braces o) fs refl refl refl (takes_between (Braces o ∷ fs) (a_mark RightBrace) (body_rest o (closings fs)) (Pop (steps.after_body o)) refl refl refl (body_ends o fs c b))
frame_closed (BlockFrame k) fs c b =
    statement_closed (BlockFrame k) fs refl refl refl (takes_between (BlockFrame k ∷ fs) (a_mark RightBrace) (block_rest k (closings fs)) (Pop (steps.after_block k)) refl refl refl (block_ends k fs c b))
frame_closed (Clauses p) fs c b = record {
  statement = λ h. clauses_close p fs (closings fs).statement (c.statement b);
  frame = λ h. ends_by ByFrame (Clauses p ∷ fs) Colon (a_mark RightBrace ∷ (closings fs).statement) refl refl (clauses_close p fs (closings fs).statement (c.statement b));
  object = λ h. absurd (differ h);
  first = λ h. absurd (differ h);
  later = λ h. absurd (differ h);
}
frame_closed Branch fs c b =
    statement_closed Branch fs refl refl refl (branch_ends fs (closings fs).statement (closing_no_else fs) (c.statement b, refl)).0
frame_closed Do fs c b = statement_closed Do fs refl refl refl (while_closes fs (closings fs).statement (c.statement b))

closed : (fs : List Frame) → Stacked fs → Closed fs
closed [] s = record {
  statement = λ h. refl;
  frame = λ h. absurd (differ h);
  object = λ h. absurd (differ h);
  first = λ h. absurd (differ h);
  later = λ h. absurd (differ h);
}
closed (f ∷ fs) s = frame_closed f fs (closed fs s.1) s.0

-- state by state

head_opens : (p : Part) (fs : List Frame) → Closed fs → holds_statements (top_of fs) ≡ true → steps.start (Head p) ≡ inside → Accepted (at (Open (Head p)) fs) (a_mark LeftParen ∷ a_name ∷ head_rest p (closings fs).statement)
head_opens p fs c b is =
    takes_one (Open (Head p)) fs (a_mark LeftParen) (a_name ∷ head_rest p (closings fs).statement) (Push (Head p) inside) (ap (λ d. Push (Head p) d) is) refl refl
    (name_left Target ByFrame (Head p ∷ fs) (head_rest p (closings fs).statement) ((head_closes p fs (c.statement b)).left Target))

open_closes : (f : Frame) (fs : List Frame) → Closed fs → is_opened f ≡ true → below f (top_of fs) ≡ true → Accepted (at (Open f) fs) (a_mark (open_mark f) ∷ opened_rest f (closings fs))
open_closes (Head Init) fs c o b =
    takes_one (Open (Head Init)) fs (a_mark LeftParen) (head_rest Init (closings fs).statement) (Push (Head Init) MayLack) refl refl refl (init_lacks fs (closings fs).statement (c.statement b))
open_closes (Head If) fs c o b = head_opens If fs c b refl
open_closes (Head Loop) fs c o b = head_opens Loop fs c b refl
open_closes (Head Switch) fs c o b = head_opens Switch fs c b refl
open_closes (Head DoWhile) fs c o b = head_opens DoWhile fs c b refl
open_closes (Head First) fs c o b = head_opens First fs c b refl
open_closes (Head Next) fs c o b = head_opens Next fs c b refl
open_closes (Head Test) fs c o b = head_opens Test fs c b refl
open_closes (Parameters o) fs c p b =
    takes_one (Open (Parameters o)) fs (a_mark LeftParen) (first_rest o (names_rest o (closings fs))) (Push (Parameters o) FirstParameter) refl refl refl (first_closes o fs c b)
open_closes (Braces o) fs c p b = body_closes o fs (body_rest o (closings fs)) (body_ends o fs c b)
open_closes (BlockFrame k) fs c o b = block_closes k fs (block_rest k (closings fs)) (block_ends k fs c b)
open_closes (Clauses p) fs c o b =
    takes_one (Open (Clauses p)) fs (a_mark LeftBrace) (a_mark RightBrace ∷ (closings fs).statement) (Push (Clauses p) Between) refl refl refl (clauses_close p fs (closings fs).statement (c.statement b))
open_closes _ fs c o b = absurd (differ o)

lacking_closes : (fs : List Frame) → Stacked fs → Closed fs → is_lacking (top_of fs) ≡ true → Accepted (at MayLack fs) (closings fs).frame
lacking_closes [] s c h = absurd (differ h)
lacking_closes (Paren r e ∷ fs) s c h =
    takes_one MayLack (Paren r e ∷ fs) (a_mark RightParen) (rest_of e (closings fs)) (Pop (AfterLeft r e)) refl refl refl (left_rest r e fs (closed fs s.1) s.0)
lacking_closes (Array r e ∷ fs) s c h =
    takes_one MayLack (Array r e ∷ fs) (a_mark RightBracket) (rest_of e (closings fs)) (Pop (AfterLeft r e)) refl refl refl (left_rest r e fs (closed fs s.1) s.0)
lacking_closes (Head Init ∷ fs) s c h = init_lacks fs (closings fs).statement ((closed fs s.1).statement s.0)
lacking_closes (Head Test ∷ fs) s c h = test_lacks fs (closings fs).statement ((closed fs s.1).statement s.0)
lacking_closes (Head Loop ∷ fs) s c h = loop_lacks fs (closings fs).statement ((closed fs s.1).statement s.0)
lacking_closes (_ ∷ fs) s c h = absurd (differ h)

properties_close : (fs : List Frame) → Stacked fs → is_object (top_of fs) ≡ true → Accepted (at Properties fs) (closings fs).frame
properties_close [] s h = absurd (differ h)
properties_close (Object r e ∷ fs) s h =
    takes_one Properties (Object r e ∷ fs) (a_mark RightBrace) (rest_of e (closings fs)) (Pop (AfterLeft r e)) refl refl refl (left_rest r e fs (closed fs s.1) s.0)
properties_close (_ ∷ fs) s h = absurd (differ h)

key_closes : (d : Control) (fs : List Frame) → ((n : Bool) → steps.consume d (top_of fs) (APunct Colon) n ≡ Go inside) → leaves d (APunct Colon) ≡ false → Closed fs → is_object (top_of fs) ≡ true → Accepted (at d fs) (a_mark Colon ∷ a_name ∷ (closings fs).frame)
key_closes d fs is stay c h =
    takes_one d fs (a_mark Colon) (a_name ∷ (closings fs).frame) (Go inside) (is false) refl stay
    (name_left Target ByFrame fs (closings fs).frame ((c.frame (object_holds (top_of fs) h)).left Target))

function_closes : (o : Owner) (fs : List Frame) → steps.may_be_empty o ≡ true → Closed fs → owned o (top_of fs) ≡ true → Accepted (at (Open (Parameters o)) fs) (a_mark LeftParen ∷ names_rest o (closings fs))
function_closes o fs e c h =
    takes_one (Open (Parameters o)) fs (a_mark LeftParen) (names_rest o (closings fs)) (Push (Parameters o) FirstParameter) refl refl refl (empty_names o fs e c h)

next_closes : (fs : List Frame) → Stacked fs → is_many (top_of fs) ≡ true → Accepted (at NextParameter fs) (a_name ∷ (closings fs).frame)
next_closes [] s h = absurd (differ h)
next_closes (Parameters o ∷ fs) s h =
    takes_one NextParameter (Parameters o ∷ fs) a_name (names_rest o (closings fs)) (Go AfterParameter) refl refl refl (names_close o fs (closed fs s.1) s.0)
next_closes (_ ∷ fs) s h = absurd (differ h)

default_closes : (fs : List Frame) → Closed fs → is_clauses (top_of fs) ≡ true → Accepted (at AfterDefault fs) (a_mark Colon ∷ (closings fs).statement)
default_closes fs c h =
    takes_one AfterDefault fs (a_mark Colon) (closings fs).statement (Go Between) refl refl refl (c.statement (clauses_hold (top_of fs) h))

control_closes : (d : Control) (fs : List Frame) → (d ≡ Dead → ⊥) → Stacked fs → Closed fs → fits d (top_of fs) ≡ true → Accepted (at d fs) (completion_of d (closings fs))
control_closes Between fs lives s c h = c.statement h
control_closes Need fs lives s c h = need_closes fs (closings fs).statement (c.statement h)
control_closes AfterCatch fs lives s c h = catch_closes fs (closings fs).statement (c.statement h)
control_closes AtEnd fs lives s c h = end_closes fs (closings fs).statement (c.statement h)
control_closes AfterJump fs lives s c h = takes_one AfterJump fs (a_mark Semicolon) (closings fs).statement (Go Between) refl refl refl (c.statement h)
control_closes AfterReturn fs lives s c h = takes_one AfterReturn fs (a_mark Semicolon) (closings fs).statement (Go Between) refl refl refl (c.statement h)
control_closes AfterThrow fs lives s c h =
    takes_one AfterThrow fs a_name (a_mark Semicolon ∷ (closings fs).statement) (Go (AfterLeft Target BySemicolon)) refl refl refl (left_rest Target BySemicolon fs c h)
control_closes AfterTry fs lives s c h = try_closes fs (closings fs).statement (c.statement h)
control_closes AfterDefault fs lives s c h = default_closes fs c h
control_closes (Open f) fs lives s c h =
    open_closes f fs c (and_left (is_opened f) (below f (top_of fs)) h) (and_right (is_opened f) (below f (top_of fs)) h)
control_closes (Binding e) fs lives s c h = takes_one (Binding e) fs a_name (rest_of e (closings fs)) (Go (Bound e)) refl refl refl (rest_ends e fs c h).bound
control_closes (Bound e) fs lives s c h = (rest_ends e fs c h).bound
control_closes (Operand r e) fs lives s c h = name_left r e fs (rest_of e (closings fs)) (left_rest r e fs c h)
control_closes (Callee r e) fs lives s c h = takes_one (Callee r e) fs a_name (rest_of e (closings fs)) (Go (AfterLeft r e)) refl refl refl (left_rest r e fs c h)
control_closes (AfterLeft r e) fs lives s c h = left_rest r e fs c h
control_closes AfterName fs lives s c h = takes_one AfterName fs (a_mark Semicolon) (closings fs).statement (Go Between) refl refl refl (c.statement h)
control_closes (AfterDot r e) fs lives s c h = takes_one (AfterDot r e) fs a_name (rest_of e (closings fs)) (Go (AfterLeft r e)) refl refl refl (left_rest r e fs c h)
control_closes (AfterUpdate e) fs lives s c h = (rest_ends e fs c h).update
control_closes AfterAccessor fs lives s c h = c.object h
control_closes MayLack fs lives s c h = lacking_closes fs s c h
control_closes Properties fs lives s c h = properties_close fs s h
control_closes AfterKey fs lives s c h = key_closes AfterKey fs (λ n. refl) refl c h
control_closes AfterGet fs lives s c h = key_closes AfterGet fs (λ n. refl) refl c h
control_closes AfterSet fs lives s c h = key_closes AfterSet fs (λ n. refl) refl c h
control_closes DeclarationName fs lives s c h =
    takes_one DeclarationName fs a_name (function_rest (closings fs).statement) (Go (Open (Parameters Declaration))) refl refl refl (function_closes Declaration fs refl c h)
control_closes (FunctionName r e) fs lives s c h =
    takes_one (FunctionName r e) fs a_name (function_rest (rest_of e (closings fs))) (Go (Open (Parameters (Expression r e)))) refl refl refl (function_closes (Expression r e) fs refl c h)
control_closes FirstParameter fs lives s c h = c.first h
control_closes NextParameter fs lives s c h = next_closes fs s h
control_closes AfterParameter fs lives s c h = c.later h
control_closes Dead fs lives s c h = absurd (lives refl)

-- a state that isn't dead has a completion
pub completes : (v : Config) → (v.control ≡ Dead → ⊥) → Fits v → Accepted v (completion v)
unfolding completion
completes v lives h = control_closes v.control v.frames lives h.stacked (closed v.frames h.stacked) h.on
