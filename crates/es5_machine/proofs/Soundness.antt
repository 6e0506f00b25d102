-- What may follow where statements are under way, and the whole run: what the machine accepts is a
-- program, however deep it nests.
use Rattle.std.proofs.Common.{◌≡◌, Bool, true, false, not, ◌&&◌, ◌||◌, if◌then◌else◌, Option, Some, None, List, [], ◌∷◌, refl, ap}
use Rattle.es5_lexer.specs.declared.tokens.Word.{Word}
use Rattle.es5_lexer.specs.declared.tokens.Word.TheVariants.{Function as FunctionWord, Var, If as IfWord, Else, Do as DoWord, While, With, For, Continue, Break, Return, Throw, Debugger, Switch as SwitchWord, Case, Default, Try as TryWord, Catch as CatchWord, Finally as FinallyWord}
use Rattle.es5_lexer.specs.declared.tokens.Punct.{Punct}
use Rattle.es5_lexer.specs.declared.tokens.Punct.TheVariants.{LeftBrace, RightBrace, LeftParen, RightParen, Semicolon, Colon}
use Rattle.es5_lexer.specs.declared.tokens.Token.{Token}
use Rattle.es5_lexer.specs.declared.tokens.Token.TheVariants.{Ident, Get, Set, Word as AWord, Punct as APunct}
use Rattle.es5_lexer.specs.declared.tokens.Lexeme.{Lexeme}
use Rattle.es5_trees.specs.Words.{lexeme, mark, word, is_ident, is_atom, is_loop_word, is_on_line, begins_other, may_begin_statement}
use Rattle.es5_trees.specs.Trees.{semicolon, omitted, primary, atom, absent, present, no_statement, more_statements, block, empty, variables, expression, if_only, if_else, do_while, loop, for, for_var, for_in, for_var_in, jump, jump_to, return_only, return, throw, label, debugger, switch, switch_default, try_catch, try_finally, try_both, no_case, more_cases, catch, finally, Elements, no_element, more_elements, statement, declaration}
use Rattle.es5_trees.specs.Spelling.{elements_text}
use Rattle.es5_trees.specs.Endings.{after_operand, after_update, after_word, may_omit}
use Rattle.es5_trees.specs.Good.{GoodElements}
use Rattle.es5_machine.specs.Classes.{ending_of, is_else, is_finally}
use Rattle.es5_machine.specs.declared.states.Role.TheVariants.{Target}
use Rattle.es5_machine.specs.declared.states.Ends.TheVariants.{ByFrame, BySemicolon, ByDeclaration}
use Rattle.es5_machine.specs.declared.states.Part.TheVariants.{If, Loop, Switch, DoWhile, Init}
use Rattle.es5_machine.specs.declared.states.BlockKind.{BlockKind}
use Rattle.es5_machine.specs.declared.states.BlockKind.TheVariants.{Simple, Try as TryBlock, Catch as CatchBlock, Finally as FinallyBlock}
use Rattle.es5_machine.specs.declared.states.Phase.{Phase}
use Rattle.es5_machine.specs.declared.states.Phase.TheVariants.{NoClause, InClause, Defaulted}
use Rattle.es5_machine.specs.declared.states.Owner.{Owner}
use Rattle.es5_machine.specs.declared.states.Owner.TheVariants.{Declaration, Expression, Getter, Setter, Handler}
use Rattle.es5_machine.specs.declared.states.Frame.{Frame}
use Rattle.es5_machine.specs.declared.states.Frame.TheVariants.{Head, Parameters, Braces, Block as BlockFrame, Clauses, Branch, Do}
use Rattle.es5_machine.specs.declared.states.Control.{Control}
use Rattle.es5_machine.specs.declared.states.Control.TheVariants.{Between, Need, AfterCatch, AtEnd, AfterJump, AfterReturn, AfterThrow, AfterTry, AfterDefault, Open, Binding, Bound, Operand, Callee, AfterLeft, AfterName, AfterDot, AfterUpdate, AfterAccessor, MayLack, Properties, AfterKey, AfterGet, AfterSet, DeclarationName, FunctionName, FirstParameter, NextParameter, AfterParameter, Dead}
use Rattle.es5_machine.specs.declared.states.Answer.{Answer}
use Rattle.es5_machine.specs.declared.states.Answer.TheVariants.{Refuse, Go, Push, Pop, Swap}
use Rattle.es5_machine.specs.declared.states.Ended.{Ended}
use Rattle.es5_machine.specs.Steps as steps
use Rattle.es5_machine.specs.Steps.{Config, at, top_of, popped, without_branches, settled, in_stands, inside, ended, omits, refuses, leaves}
use Rattle.es5_machine.proofs.Residuals.{MarkThen, mark_then, IdentThen, ident_then, ExprThen, expr_then, optional_then, ParamsThen, params_then, BodyThen, body_then, BlockThen, block_then, StatementsThen, statements_then, ElementsThen, elements_then, Nothing, nothing_left, EndThen, end_then, ExprEnd, expr_end, expr_ends, DeclsEnd, decls_end, decls_ends, StatementThen, statement_then, BranchAfter, if_ends, else_comes, DoThen, do_then, head_decls, first_decls, decl_in, header_expr, header_in, InitThen, init_absent, init_header, init_var, CasesThen, cases_then, ClausesThen, clauses_then, default_then, FinallyThen, finally_then, no_finally, some_finally, HandlersThen, handler_finally, handler_catch, in_member, Context, AfterBody, AfterBlock, LoopBody, TestPart, InPart, InClauses, context, After, Region, LeftRest, StatementRest, StartRest, OpenRest, Rest, Means}
use Rattle.es5_machine.proofs.ExpressionSoundness.{differ, and_left, and_right, expr_of, expr_end_of, left_ends, unary_ends, operand_back, close_back, update_back, left_back, callee_rest, dot_back, lacking_back, properties_back, key_back, get_back, set_back, block_from, first_back, next_back, later_back, declaration_name_back, function_name_back, binding_back, bound_ends, bound_back}
use Rattle.es5_machine.proofs.Free.{moved, step_from, Accepted}

-- a statement begins a list

statement_first : (K : List Lexeme → Type 0) (v : List Lexeme) → StatementThen (λ o u. ElementsThen K u) v → ElementsThen K v
statement_first K _ (statement_then s _ g (elements_then es rest h k)) = elements_then (more_elements (statement s) es) rest (g, h) k

statements_first : (K : List Lexeme → Type 0) (v : List Lexeme) → StatementThen (λ o u. StatementsThen K u) v → StatementsThen K v
statements_first K _ (statement_then s _ g (statements_then ss rest h k)) = statements_then (more_statements s ss) rest (g, h) k

declaration_first : (K : List Lexeme → Type 0) (n : Bool) (w : List Lexeme) → IdentThen (λ u. ParamsThen (λ v. BodyThen (λ z. ElementsThen K z) v) u) w → ElementsThen K (word FunctionWord n ∷ w)
declaration_first K n _ (ident_then x _ is (params_then ps _ gp (body_then b _ gb (elements_then es rest h k)))) =
    elements_then (more_elements (declaration n x ps b) es) rest ((is, gp, gb), h) k

-- expression statements

ended_expression : (A : Bool → List Lexeme → Type 0) (v : List Lexeme) → may_begin_statement v ≡ true → ExprEnd (λ u. A false u) v → StatementThen A v
ended_expression A _ begins (expr_end e t rest g ends k) = statement_then (expression e t) rest (g, begins, ends) k

expression_back : (fs : List Frame) (x : Lexeme) (w : List Lexeme) → begins_other x.token ≡ false → Region Target BySemicolon fs (x ∷ w) → StatementRest fs (x ∷ w)
expression_back fs x w other m =
    ended_expression (context fs).after (x ∷ w) (ap not other) (expr_end_of (λ v. After fs v) (x ∷ w) m)

ident_atom : (t : Token) → is_ident t ≡ true → is_atom t ≡ true
ident_atom Ident h = refl
ident_atom Get h = refl
ident_atom Set h = refl
ident_atom _ h = absurd (differ h)

ident_begins : (t : Token) → is_ident t ≡ true → begins_other t ≡ false
ident_begins Ident h = refl
ident_begins Get h = refl
ident_begins Set h = refl
ident_begins _ h = absurd (differ h)

named_statement : (fs : List Frame) (x : Lexeme) (v : List Lexeme) → is_ident x.token ≡ true → LeftRest Target BySemicolon fs v → StatementRest fs (x ∷ v)
named_statement fs x v is k =
    expression_back fs x v (ident_begins x.token is) (k (in_member [] (primary (atom x))) (ident_atom x.token is))

-- statements with parentheses

block_back : (A : Bool → List Lexeme → Type 0) (v : List Lexeme) → BlockThen (λ u. A false u) v → StatementThen A v
block_back A _ (block_then b rest g k) = statement_then (block b) rest g k

variables_back : (A : Bool → List Lexeme → Type 0) (n : Bool) (w : List Lexeme) → DeclsEnd (λ u. A false u) w → StatementThen A (word Var n ∷ w)
variables_back A n _ (decls_end ds t rest g e k) = statement_then (variables n ds t) rest (g, e) k

if_parts : (A : Bool → List Lexeme → Type 0) (n o : Bool) (v : List Lexeme) → ExprThen true RightParen (λ u. StatementThen (λ q z. BranchAfter A q z) u) v → StatementThen A (word IfWord n ∷ mark LeftParen o ∷ v)
if_parts A n o _ (expr_then e c _ g (statement_then s _ gs (if_ends rest k))) = statement_then (if_only n o e c s) rest (g, gs) k
if_parts A n o _ (expr_then e c _ g (statement_then s _ gs (else_comes closed m _ (statement_then t rest gt k)))) =
    statement_then (if_else n o e c s m t) rest ((g, closed), gs, gt) k

if_back : (fs : List Frame) (n : Bool) (w : List Lexeme) → OpenRest (Head If) fs w → StatementRest fs (word IfWord n ∷ w)
if_back fs n _ (mark_then o v m) = if_parts (context fs).after n o v (expr_of true RightParen (λ u. StatementThen (λ q z. BranchAfter (context fs).after q z) u) v m)

loop_parts : (A : Bool → List Lexeme → Type 0) (x : Word) (n o : Bool) (v : List Lexeme) → is_loop_word x ≡ true → ExprThen true RightParen (λ u. StatementThen A u) v → StatementThen A (word x n ∷ mark LeftParen o ∷ v)
loop_parts A x n o _ is (expr_then e c _ g (statement_then s rest gs k)) = statement_then (loop x n o e c s) rest (is, g, gs) k

loop_back : (fs : List Frame) (x : Word) (n : Bool) (w : List Lexeme) → is_loop_word x ≡ true → OpenRest (Head Loop) fs w → StatementRest fs (word x n ∷ w)
loop_back fs x n _ is (mark_then o v m) = loop_parts (context fs).after x n o v is (expr_of true RightParen (λ u. LoopBody (context fs) u) v m)

for_parts : (c : Context) (n o : Bool) (v : List Lexeme) → InitThen (λ u. TestPart c u) (λ u. InPart c u) v → StatementThen c.after (word For n ∷ mark LeftParen o ∷ v)
for_parts c n o _ (init_absent m _ (optional_then b l _ gb (optional_then d r _ gd (statement_then s rest gs k)))) =
    statement_then (for n o absent m b l d r s) rest ((tt, gb, gd), gs) k
for_parts c n o _ (init_header _ (header_expr _ (expr_then e m _ g (optional_then b l _ gb (optional_then d r _ gd (statement_then s rest gs k)))))) =
    statement_then (for n o (present e) m b l d r s) rest ((g, gb, gd), gs) k
for_parts c n o _ (init_header _ (header_in h m _ g (expr_then e r _ ge (statement_then s rest gs k)))) =
    statement_then (for_in n o h m e r s) rest (g, ge, gs) k
for_parts c n o _ (init_var a _ (first_decls _ (head_decls ds m _ g (optional_then b l _ gb (optional_then d r _ gd (statement_then s rest gs k)))))) =
    statement_then (for_var n o a ds m b l d r s) rest ((g, gb, gd), gs) k
for_parts c n o _ (init_var a _ (decl_in d m _ g (expr_then e r _ ge (statement_then s rest gs k)))) =
    statement_then (for_var_in n o a d m e r s) rest (g, ge, gs) k

for_back : (fs : List Frame) (n : Bool) (w : List Lexeme) → OpenRest (Head Init) fs w → StatementRest fs (word For n ∷ w)
for_back fs n _ (mark_then o v m) = for_parts (context fs) n o v m

switch_parts : (A : Bool → List Lexeme → Type 0) (n o : Bool) (v : List Lexeme) → ExprThen true RightParen (λ u. MarkThen LeftBrace (λ z. ClausesThen (λ y. A false y) z) u) v → StatementThen A (word SwitchWord n ∷ mark LeftParen o ∷ v)
switch_parts A n o _ (expr_then e c _ g (mark_then l _ (clauses_then _ (cases_then cs r rest gc k)))) =
    statement_then (switch n o e c l cs r) rest (g, gc) k
switch_parts A n o _ (expr_then e c _ g (mark_then l _ (default_then cs d m ss ds r rest gc gs gd k))) =
    statement_then (switch_default n o e c l cs d m ss ds r) rest ((g, gc), gs, gd) k

switch_back : (fs : List Frame) (n : Bool) (w : List Lexeme) → OpenRest (Head Switch) fs w → StatementRest fs (word SwitchWord n ∷ w)
switch_back fs n _ (mark_then o v m) = switch_parts (context fs).after n o v (expr_of true RightParen (λ u. MarkThen LeftBrace (λ z. ClausesThen (λ y. After fs y) z) u) v m)

do_back : (A : Bool → List Lexeme → Type 0) (n : Bool) (w : List Lexeme) → StatementThen (λ o v. DoThen (λ u. A false u) v) w → StatementThen A (word DoWord n ∷ w)
do_back A n _ (statement_then s _ g (do_then m _ (mark_then o _ (expr_then e c _ ge (end_then t rest ends k))))) =
    statement_then (do_while n s m o e c t) rest (g, ge, ends) k

debugger_back : (A : Bool → List Lexeme → Type 0) (n : Bool) (w : List Lexeme) → EndThen after_word (λ u. A false u) w → StatementThen A (word Debugger n ∷ w)
debugger_back A n _ (end_then t rest ends k) = statement_then (debugger n t) rest ends k

try_parts : (A : Bool → List Lexeme → Type 0) (n : Bool) (w : List Lexeme) → BlockThen (λ v. HandlersThen (λ u. A false u) v) w → StatementThen A (word TryWord n ∷ w)
try_parts A n _ (block_then b _ g (handler_finally _ (finally_then m _ (block_then d rest gd k)))) =
    statement_then (try_finally n b (finally m d)) rest (g, gd) k
try_parts A n _ (block_then b _ g (handler_catch m _ (mark_then o _ (ident_then x _ is (mark_then c _ (block_then d _ gd (no_finally rest k))))))) =
    statement_then (try_catch n b (catch m o x c d)) rest (g, (is, gd)) k
try_parts A n _ (block_then b _ g (handler_catch m _ (mark_then o _ (ident_then x _ is (mark_then c _ (block_then d _ gd (some_finally _ (finally_then l _ (block_then f rest gf k))))))))) =
    statement_then (try_both n b (catch m o x c d) (finally l f)) rest (g, (is, gd), gf) k

-- the first token of a statement

mark_first : (fs : List Frame) (p : Punct) (n : Bool) (w : List Lexeme) → Means (steps.statement_mark p) fs w → StatementRest fs (mark p n ∷ w)
mark_first fs LeftBrace n w m = block_back (context fs).after (mark LeftBrace n ∷ w) (block_from (λ v. After fs v) (mark LeftBrace n ∷ w) (mark_then n w m))
mark_first fs Semicolon n w m = statement_then (empty n) w tt m
mark_first fs p n w m = expression_back fs (mark p n) w refl (operand_back Target BySemicolon fs (APunct p) n w m)

word_first : (fs : List Frame) (x : Word) (n : Bool) (w : List Lexeme) → Means (steps.statement_word x) fs w → StatementRest fs (word x n ∷ w)
word_first fs Var n w m = variables_back (context fs).after n w m
word_first fs IfWord n w m = if_back fs n w m
word_first fs While n w m = loop_back fs While n w refl m
word_first fs With n w m = loop_back fs With n w refl m
word_first fs For n w m = for_back fs n w m
word_first fs SwitchWord n w m = switch_back fs n w m
word_first fs DoWord n w m = do_back (context fs).after n w m
word_first fs Continue n w m = m Continue n refl
word_first fs Break n w m = m Break n refl
word_first fs Return n w m = m n
word_first fs Throw n w m = m n
word_first fs Debugger n w m = debugger_back (context fs).after n w m
word_first fs TryWord n w m = try_parts (context fs).after n w (block_from (λ v. HandlersThen (λ u. After fs u) v) w m)
word_first fs FunctionWord n w m = absurd m
word_first fs x n w m = expression_back fs (word x n) w refl (operand_back Target BySemicolon fs (AWord x) n w m)

statement_back : (fs : List Frame) (t : Token) (n : Bool) (w : List Lexeme) → Means (steps.statement t) fs w → StatementRest fs (lexeme t n ∷ w)
statement_back fs (APunct p) n w m = mark_first fs p n w m
statement_back fs (AWord x) n w m = word_first fs x n w m
statement_back fs Ident n w m = m (lexeme Ident n) refl
statement_back fs Get n w m = m (lexeme Get n) refl
statement_back fs Set n w m = m (lexeme Set n) refl
statement_back fs t n w m = expression_back fs (lexeme t n) w refl (operand_back Target BySemicolon fs t n w m)

-- between statements

program_back : (t : Token) (n : Bool) (w : List Lexeme) → Means (steps.element t) [] w → After [] (lexeme t n ∷ w)
program_back (AWord FunctionWord) n w m = declaration_first Nothing n w m
program_back t n w m = statement_first Nothing (lexeme t n ∷ w) (statement_back [] t n w m)

body_ends : (o : Owner) (fs : List Frame) (w : List Lexeme) → Rest (steps.after_body o) fs w → AfterBody o (top_of fs) (context fs) w
body_ends Declaration fs w m = m
body_ends (Expression r e) fs w m = m
body_ends Getter fs w m = m
body_ends Setter fs w m = m
body_ends Handler fs w m = m

braces_back : (o : Owner) (fs : List Frame) (t : Token) (n : Bool) (w : List Lexeme) → Means (steps.within (Braces o) t) (Braces o ∷ fs) w → After (Braces o ∷ fs) (lexeme t n ∷ w)
braces_back o fs (APunct RightBrace) n w m = elements_then no_element (mark RightBrace n ∷ w) tt (mark_then n w (body_ends o fs w m))
braces_back o fs (AWord FunctionWord) n w m = declaration_first (λ u. MarkThen RightBrace (λ v. AfterBody o (top_of fs) (context fs) v) u) n w m
braces_back o fs t n w m = statement_first (λ u. MarkThen RightBrace (λ v. AfterBody o (top_of fs) (context fs) v) u) (lexeme t n ∷ w) (statement_back (Braces o ∷ fs) t n w m)

block_ends : (b : BlockKind) (fs : List Frame) (w : List Lexeme) → Rest (steps.after_block b) fs w → AfterBlock b (context fs) w
block_ends Simple fs w m = m
block_ends TryBlock fs w m = m
block_ends CatchBlock fs w m = m
block_ends FinallyBlock fs w m = m

in_block_back : (b : BlockKind) (fs : List Frame) (t : Token) (n : Bool) (w : List Lexeme) → Means (steps.within (BlockFrame b) t) (BlockFrame b ∷ fs) w → After (BlockFrame b ∷ fs) (lexeme t n ∷ w)
in_block_back b fs (APunct RightBrace) n w m = statements_then no_statement (mark RightBrace n ∷ w) tt (mark_then n w (block_ends b fs w m))
in_block_back b fs t n w m = statements_first (λ u. MarkThen RightBrace (λ v. AfterBlock b (context fs) v) u) (lexeme t n ∷ w) (statement_back (BlockFrame b ∷ fs) t n w m)

clauses_end : (p : Phase) (c : Context) (n : Bool) (w : List Lexeme) → c.after false w → InClauses p c (mark RightBrace n ∷ w)
clauses_end NoClause c n w k = clauses_then (mark RightBrace n ∷ w) (cases_then no_case n w tt k)
clauses_end InClause c n w k = statements_then no_statement (mark RightBrace n ∷ w) tt (clauses_then (mark RightBrace n ∷ w) (cases_then no_case n w tt k))
clauses_end Defaulted c n w k = statements_then no_statement (mark RightBrace n ∷ w) tt (cases_then no_case n w tt k)

case_clauses : (K : List Lexeme → Type 0) (n : Bool) (w : List Lexeme) → ExprThen true Colon (λ v. StatementsThen (λ u. ClausesThen K u) v) w → ClausesThen K (word Case n ∷ w)
case_clauses K n _ (expr_then e c _ g (statements_then ss _ gs (clauses_then _ (cases_then cs m rest gc k)))) =
    clauses_then _ (cases_then (more_cases n e c ss cs) m rest (g, gs, gc) k)
case_clauses K n _ (expr_then e c _ g (statements_then ss _ gs (default_then cs d l others ds m rest gc go gd k))) =
    default_then (more_cases n e c ss cs) d l others ds m rest (g, gs, gc) go gd k

case_cases : (K : List Lexeme → Type 0) (n : Bool) (w : List Lexeme) → ExprThen true Colon (λ v. StatementsThen (λ u. CasesThen K u) v) w → CasesThen K (word Case n ∷ w)
case_cases K n _ (expr_then e c _ g (statements_then ss _ gs (cases_then cs m rest gc k))) =
    cases_then (more_cases n e c ss cs) m rest (g, gs, gc) k

case_back : (p : Phase) (fs : List Frame) (n : Bool) (w : List Lexeme) → Region Target ByFrame (Clauses (steps.with_clause p) ∷ fs) w → InClauses p (context fs) (word Case n ∷ w)
case_back NoClause fs n w m = case_clauses (λ v. After fs v) n w (expr_of true Colon (λ v. InClauses InClause (context fs) v) w m)
case_back InClause fs n w m = statements_then no_statement (word Case n ∷ w) tt (case_clauses (λ v. After fs v) n w (expr_of true Colon (λ v. InClauses InClause (context fs) v) w m))
case_back Defaulted fs n w m = statements_then no_statement (word Case n ∷ w) tt (case_cases (λ v. After fs v) n w (expr_of true Colon (λ v. InClauses Defaulted (context fs) v) w m))

default_clauses : (K : List Lexeme → Type 0) (n : Bool) (w : List Lexeme) → MarkThen Colon (λ v. StatementsThen (λ u. CasesThen K u) v) w → ClausesThen K (word Default n ∷ w)
default_clauses K n _ (mark_then c _ (statements_then ss _ gs (cases_then cs m rest gc k))) = default_then no_case n c ss cs m rest tt gs gc k

default_back : (p : Phase) (fs : List Frame) (n : Bool) (w : List Lexeme) → Means (steps.default_clause p) (Clauses p ∷ fs) w → InClauses p (context fs) (word Default n ∷ w)
default_back NoClause fs n w m = default_clauses (λ v. After fs v) n w m
default_back InClause fs n w m = statements_then no_statement (word Default n ∷ w) tt (default_clauses (λ v. After fs v) n w m)
default_back Defaulted fs n w m = absurd m

clause_statement_back : (p : Phase) (fs : List Frame) (t : Token) (n : Bool) (w : List Lexeme) → Means (steps.clause_statement p t) (Clauses p ∷ fs) w → InClauses p (context fs) (lexeme t n ∷ w)
clause_statement_back NoClause fs t n w m = absurd m
clause_statement_back InClause fs t n w m = statements_first (λ u. ClausesThen (λ v. After fs v) u) (lexeme t n ∷ w) (statement_back (Clauses InClause ∷ fs) t n w m)
clause_statement_back Defaulted fs t n w m = statements_first (λ u. CasesThen (λ v. After fs v) u) (lexeme t n ∷ w) (statement_back (Clauses Defaulted ∷ fs) t n w m)

in_clauses_back : (p : Phase) (fs : List Frame) (t : Token) (n : Bool) (w : List Lexeme) → Means (steps.in_clauses p t) (Clauses p ∷ fs) w → After (Clauses p ∷ fs) (lexeme t n ∷ w)
in_clauses_back p fs (APunct RightBrace) n w m = clauses_end p (context fs) n w m
in_clauses_back p fs (AWord Case) n w m = case_back p fs n w m
in_clauses_back p fs (AWord Default) n w m = default_back p fs n w m
in_clauses_back p fs t n w m = clause_statement_back p fs t n w m

while_back : (fs : List Frame) (n : Bool) (w : List Lexeme) → OpenRest (Head DoWhile) fs w → DoThen (λ v. After fs v) (word While n ∷ w)
while_back fs n _ (mark_then o v m) = do_then n _ (mark_then o v (expr_of true RightParen (λ u. EndThen after_word (λ z. After fs z) u) v m))

between_back : (fs : List Frame) (t : Token) (n : Bool) (w : List Lexeme) → Means (steps.between (top_of fs) t) fs w → After fs (lexeme t n ∷ w)
between_back [] t n w m = program_back t n w m
between_back (Braces o ∷ fs) t n w m = braces_back o fs t n w m
between_back (BlockFrame b ∷ fs) t n w m = in_block_back b fs t n w m
between_back (Clauses p ∷ fs) t n w m = in_clauses_back p fs t n w m
between_back (Branch ∷ fs) (AWord Else) n w m = else_comes refl n w m
between_back (Branch ∷ fs) _ n w m = absurd m
between_back (Do ∷ fs) (AWord While) n w m = while_back fs n w m
between_back (Do ∷ fs) _ n w m = absurd m
between_back (_ ∷ fs) t n w m = tt

finally_back : (fs : List Frame) (n : Bool) (w : List Lexeme) → OpenRest (BlockFrame FinallyBlock) fs w → FinallyThen (λ v. After fs v) (word FinallyWord n ∷ w)
finally_back fs n w m = finally_then n w (block_from (λ v. After fs v) w m)

after_catch_back : (fs : List Frame) (t : Token) (n : Bool) (w : List Lexeme) → Means (steps.after_catch (top_of fs) t) fs w → Rest AfterCatch fs (lexeme t n ∷ w)
after_catch_back fs (AWord FinallyWord) n w m = some_finally (word FinallyWord n ∷ w) (finally_back fs n w m)
after_catch_back fs t n w m = no_finally (lexeme t n ∷ w) (between_back fs t n w m)

-- the words of statements

at_end_back : (fs : List Frame) (t : Token) (n : Bool) (w : List Lexeme) → Means (steps.at_end t) fs w → Rest AtEnd fs (lexeme t n ∷ w)
at_end_back fs (APunct Semicolon) n w m = end_then (semicolon n) w tt m
at_end_back fs _ n w m = absurd m

jump_ends : (fs : List Frame) (v : List Lexeme) → EndThen after_word (λ u. After fs u) v → Rest AfterJump fs v
jump_ends fs _ (end_then t rest ends k) x d is = statement_then (jump x d t) rest (is, ends) k

jump_to_back : (fs : List Frame) (t : Token) (w : List Lexeme) → is_ident t ≡ true → EndThen after_word (λ u. After fs u) w → Rest AfterJump fs (lexeme t false ∷ w)
jump_to_back fs t _ ident (end_then e rest ends k) x d is = statement_then (jump_to x d t e) rest (is, ident, ends) k

jump_back : (fs : List Frame) (t : Token) (n : Bool) (w : List Lexeme) → Means (steps.after_jump t n) fs w → Rest AfterJump fs (lexeme t n ∷ w)
jump_back fs t n w m = by (is_ident t) n refl m
  where
    by : (a b : Bool) → is_ident t ≡ a → Means (if a && not b then Go AtEnd else steps.at_end t) fs w → Rest AfterJump fs (lexeme t b ∷ w)
    by true false is k = jump_to_back fs t w is k
    by true true is k = jump_ends fs (lexeme t true ∷ w) (at_end_back fs t true w k)
    by false b is k = jump_ends fs (lexeme t b ∷ w) (at_end_back fs t b w k)

returned : (A : Bool → List Lexeme → Type 0) (d : Bool) (v : List Lexeme) → is_on_line v ≡ true → ExprEnd (λ u. A false u) v → StatementThen A (word Return d ∷ v)
returned A d _ line (expr_end e t rest g ends k) = statement_then (return d e t) rest (g, line, ends) k

thrown : (A : Bool → List Lexeme → Type 0) (d : Bool) (v : List Lexeme) → is_on_line v ≡ true → ExprEnd (λ u. A false u) v → StatementThen A (word Throw d ∷ v)
thrown A d _ line (expr_end e t rest g ends k) = statement_then (throw d e t) rest (g, line, ends) k

on_line_back : (fs : List Frame) (t : Token) (n : Bool) (w : List Lexeme) → Means (steps.after_throw t n) fs w → (is_on_line (lexeme t n ∷ w) ≡ true) × ExprEnd (λ u. After fs u) (lexeme t n ∷ w)
on_line_back fs t true w m = absurd m
on_line_back fs t false w m = (refl, expr_end_of (λ u. After fs u) (lexeme t false ∷ w) (operand_back Target BySemicolon fs t false w m))

throw_back : (fs : List Frame) (t : Token) (n : Bool) (w : List Lexeme) → Means (steps.after_throw t n) fs w → Rest AfterThrow fs (lexeme t n ∷ w)
throw_back fs t n w m d = let h = on_line_back fs t n w m in thrown (context fs).after d (lexeme t n ∷ w) h.0 h.1

return_ends : (fs : List Frame) (v : List Lexeme) → EndThen after_word (λ u. After fs u) v → Rest AfterReturn fs v
return_ends fs _ (end_then t rest ends k) d = statement_then (return_only d t) rest ends k

return_back : (fs : List Frame) (t : Token) (n : Bool) (w : List Lexeme) → Means (steps.after_return t n) fs w → Rest AfterReturn fs (lexeme t n ∷ w)
return_back fs (APunct Semicolon) n w m d = return_ends fs (mark Semicolon n ∷ w) (end_then (semicolon n) w tt m) d
return_back fs t n w m d = let h = on_line_back fs t n w m in returned (context fs).after d (lexeme t n ∷ w) h.0 h.1

after_try_back : (fs : List Frame) (t : Token) (n : Bool) (w : List Lexeme) → Means (steps.after_try t) fs w → Rest AfterTry fs (lexeme t n ∷ w)
after_try_back fs (AWord CatchWord) n w m = handler_catch n w m
after_try_back fs (AWord FinallyWord) n w m = handler_finally (word FinallyWord n ∷ w) (finally_back fs n w m)
after_try_back fs _ n w m = absurd m

after_default_back : (fs : List Frame) (t : Token) (n : Bool) (w : List Lexeme) → Means (steps.after_default t) fs w → Rest AfterDefault fs (lexeme t n ∷ w)
after_default_back fs (APunct Colon) n w m = mark_then n w m
after_default_back fs _ n w m = absurd m

start_rest : (f : Frame) (fs : List Frame) (w : List Lexeme) → Rest (steps.start f) (f ∷ fs) w → StartRest f fs w
start_rest (Head Init) fs w m = m
start_rest (Head _) fs w m = m
start_rest (Parameters o) fs w m = m
start_rest _ fs w m = m

open_back : (f : Frame) (fs : List Frame) (t : Token) (n : Bool) (w : List Lexeme) → Means (steps.open_with f t) fs w → OpenRest f fs (lexeme t n ∷ w)
open_back (Head p) fs (APunct LeftParen) n w m = mark_then n w (start_rest (Head p) fs w m)
open_back (Head p) fs _ n w m = absurd m
open_back (Parameters o) fs (APunct LeftParen) n w m = mark_then n w m
open_back (Parameters o) fs _ n w m = absurd m
open_back (Braces o) fs (APunct LeftBrace) n w m = mark_then n w m
open_back (Braces o) fs _ n w m = absurd m
open_back (BlockFrame b) fs (APunct LeftBrace) n w m = mark_then n w m
open_back (BlockFrame b) fs _ n w m = absurd m
open_back (Clauses p) fs (APunct LeftBrace) n w m = mark_then n w m
open_back (Clauses p) fs _ n w m = absurd m
open_back _ fs t n w m = tt

label_back : (A : Bool → List Lexeme → Type 0) (x : Lexeme) (n : Bool) (w : List Lexeme) → is_ident x.token ≡ true → StatementThen A w → StatementThen A (x ∷ mark Colon n ∷ w)
label_back A x n _ is (statement_then s rest g k) = statement_then (label x n s) rest (is, g) k

name_back : (fs : List Frame) (t : Token) (n : Bool) (w : List Lexeme) → Means (steps.after_name (top_of fs) t n) fs w → Rest AfterName fs (lexeme t n ∷ w)
name_back fs (APunct Colon) n w m x is = label_back (context fs).after x n w is m
name_back fs t n w m x is = named_statement fs x (lexeme t n ∷ w) is (left_back Target BySemicolon fs t n w m)

-- where the rest may follow after the machine's answer, the token and the rest may follow before it
pub consume_back : (c : Control) (fs : List Frame) (x : Lexeme) (w : List Lexeme) → Means (steps.consume c (top_of fs) x.token x.newline) fs w → Rest c fs (x ∷ w)
consume_back Between fs x w m = between_back fs x.token x.newline w m
consume_back Need fs x w m = statement_back fs x.token x.newline w m
consume_back AfterCatch fs x w m = after_catch_back fs x.token x.newline w m
consume_back AtEnd fs x w m = at_end_back fs x.token x.newline w m
consume_back AfterJump fs x w m = jump_back fs x.token x.newline w m
consume_back AfterReturn fs x w m = return_back fs x.token x.newline w m
consume_back AfterThrow fs x w m = throw_back fs x.token x.newline w m
consume_back AfterTry fs x w m = after_try_back fs x.token x.newline w m
consume_back AfterDefault fs x w m = after_default_back fs x.token x.newline w m
consume_back (Open f) fs x w m = open_back f fs x.token x.newline w m
consume_back (Binding e) fs x w m = binding_back e fs x.token x.newline w m
consume_back (Bound e) fs x w m = bound_back e fs x.token x.newline w m
consume_back (Operand r e) fs x w m = operand_back r e fs x.token x.newline w m
consume_back (Callee r e) fs x w m = callee_rest r e fs x.token x.newline w m
consume_back (AfterLeft r e) fs x w m = left_back r e fs x.token x.newline w m
consume_back AfterName fs x w m = name_back fs x.token x.newline w m
consume_back (AfterDot r e) fs x w m = dot_back r e fs x.token x.newline w m
consume_back (AfterUpdate e) fs x w m = update_back e fs x.token x.newline w m
consume_back AfterAccessor fs x w m = close_back ByFrame fs after_operand x.token x.newline w m
consume_back MayLack fs x w m = lacking_back fs x.token x.newline w m
consume_back Properties fs x w m = properties_back fs x.token x.newline w m
consume_back AfterKey fs x w m = key_back fs x.token x.newline w m
consume_back AfterGet fs x w m = get_back fs x.token x.newline w m
consume_back AfterSet fs x w m = set_back fs x.token x.newline w m
consume_back DeclarationName fs x w m = declaration_name_back fs x.token x.newline w m
consume_back (FunctionName r e) fs x w m = function_name_back r e fs x.token x.newline w m
consume_back FirstParameter fs x w m = first_back fs x.token x.newline w m
consume_back NextParameter fs x w m = next_back fs x.token x.newline w m
consume_back AfterParameter fs x w m = later_back fs x.token x.newline w m
consume_back Dead fs x w m = m

-- a semicolon that is left out

pub OmitsAt : Option Ended → List Lexeme → Type 0
OmitsAt None v = ⊥
OmitsAt (Some k) v = may_omit (ending_of k) v ≡ true

name_ends : (fs : List Frame) (v : List Lexeme) → EndThen after_operand (λ u. After fs u) v → Rest AfterName fs v
name_ends fs v h x is = named_statement fs x v is (left_ends Target BySemicolon fs v (expr_ends v h))

pub omit_back : (c : Control) (fs : List Frame) (v : List Lexeme) → OmitsAt (ended c) v → After fs v → Rest c fs v
unfolding OmitsAt
omit_back (AfterLeft r BySemicolon) fs v h a = left_ends r BySemicolon fs v (expr_ends v (end_then omitted v h a))
omit_back (AfterLeft r ByDeclaration) fs v h a = left_ends r ByDeclaration fs v (decls_ends v (end_then omitted v h a))
omit_back AfterName fs v h a = name_ends fs v (end_then omitted v h a)
omit_back (AfterUpdate BySemicolon) fs v h a = unary_ends after_update BySemicolon fs v (expr_ends v (end_then omitted v h a))
omit_back (AfterUpdate ByDeclaration) fs v h a = unary_ends after_update ByDeclaration fs v (decls_ends v (end_then omitted v h a))
omit_back (Bound ByDeclaration) fs v h a = bound_ends ByDeclaration fs v (decls_ends v (end_then omitted v h a))
omit_back AtEnd fs v h a = end_then omitted v h a
omit_back AfterJump fs v h a = jump_ends fs v (end_then omitted v h a)
omit_back AfterReturn fs v h a = return_ends fs v (end_then omitted v h a)
omit_back _ fs v h a = absurd h

-- branches that end

after_open : (fs : List Frame) (w : List Lexeme) → After (without_branches fs) w → (context fs).after true w
after_open [] w h = h
after_open (Branch ∷ fs) w h = if_ends w (after_open fs w h)
after_open (_ ∷ fs) w h = h

after_closed : (fs : List Frame) (w : List Lexeme) → After (without_branches fs) w → After fs w
after_closed [] w h = h
after_closed (Branch ∷ fs) w h = if_ends w (after_open fs w h)
after_closed (_ ∷ fs) w h = h

catch_closed : (fs : List Frame) (w : List Lexeme) → Rest AfterCatch (without_branches fs) w → Rest AfterCatch fs w
catch_closed fs _ (no_finally v h) = no_finally v (after_closed fs v h)
catch_closed fs _ (some_finally _ (finally_then m _ (block_then b rest g k))) = some_finally _ (finally_then m _ (block_then b rest g (after_closed fs rest k)))

settle_back : (c : Control) (fs : List Frame) (x : Lexeme) (w : List Lexeme) → Rest c (settled c fs x.token) (x ∷ w) → Rest c fs (x ∷ w)
settle_back Between fs x w m = by (not (is_else x.token)) m
  where
    by : (b : Bool) → Rest Between (if b then without_branches fs else fs) (x ∷ w) → Rest Between fs (x ∷ w)
    by true k = after_closed fs (x ∷ w) k
    by false k = k
settle_back AfterCatch fs x w m = by (not (is_else x.token || is_finally x.token)) m
  where
    by : (b : Bool) → Rest AfterCatch (if b then without_branches fs else fs) (x ∷ w) → Rest AfterCatch fs (x ∷ w)
    by true k = catch_closed fs (x ∷ w) k
    by false k = k
settle_back _ fs x w m = m

-- the whole run

empty_after : (fs : List Frame) → steps.is_empty fs ≡ true → After fs []
empty_after [] h = elements_then no_element [] tt nothing_left
empty_after (f ∷ fs) h = absurd (differ h)

ended_at : (o : Option Ended) → steps.has_ended o ≡ true → OmitsAt o []
unfolding OmitsAt
ended_at None h = absurd (differ h)
ended_at (Some k) h = refl

ends_rest : (c : Control) (fs : List Frame) → steps.may_end c ≡ true → After fs [] → Rest c fs []
ends_rest Between fs h a = a
ends_rest AfterCatch fs h a = no_finally [] a
ends_rest c fs h a = omit_back c fs [] (ended_at (ended c) h) a

omits_at : (o : Option Ended) (x : Lexeme) (w : List Lexeme) → omits o x.token x.newline ≡ true → OmitsAt o (x ∷ w)
unfolding OmitsAt
omits_at None x w h = absurd (differ h)
omits_at (Some k) x w h = h

means : (a : Answer) (fs : List Frame) (w : List Lexeme) → Accepted (moved a fs).config w → ((c : Control) (gs : List Frame) → Accepted (at c gs) w → Rest c gs w) → Means a fs w
means Refuse fs w h rec = rec Dead fs h
means (Go c) fs w h rec = rec c fs h
means (Push f c) fs w h rec = rec c (f ∷ fs) h
means (Pop c) [] w h rec = rec c [] h
means (Pop c) (f ∷ fs) w h rec = rec c fs h
means (Swap f c) [] w h rec = rec c (f ∷ []) h
means (Swap f c) (g ∷ fs) w h rec = rec c (f ∷ fs) h

plain_back : (c : Control) (fs : List Frame) (x : Lexeme) (w : List Lexeme) → Accepted (step_from c fs x).config w → ((d : Control) (gs : List Frame) → Accepted (at d gs) w → Rest d gs w) → Rest c fs (x ∷ w)
plain_back c fs x w h rec =
    settle_back c fs x w (consume_back c (settled c fs x.token) x w (means (steps.consume c (top_of (settled c fs x.token)) x.token x.newline) (settled c fs x.token) w h rec))

-- what the machine accepts may follow
pub sound : (w : List Lexeme) (c : Control) (fs : List Frame) → Accepted (at c fs) w → Rest c fs w
sound [] c fs h =
    ends_rest c fs (and_left (steps.may_end c) (steps.is_empty (without_branches fs)) h) (after_closed fs [] (empty_after (without_branches fs) (and_right (steps.may_end c) (steps.is_empty (without_branches fs)) h)))
sound (x ∷ w) c fs h =
    by (omits (ended c) x.token x.newline && refuses (steps.consume c (top_of fs) x.token x.newline)) refl (λ d gs k. sound w d gs k) h
  where
    by : (b : Bool) → omits (ended c) x.token x.newline && refuses (steps.consume c (top_of fs) x.token x.newline) ≡ b → ((d : Control) (gs : List Frame) → Accepted (at d gs) w → Rest d gs w) → Accepted (step_from (if b then Between else c) fs x).config w → Rest c fs (x ∷ w)
    by true is rec k = omit_back c fs (x ∷ w) (omits_at (ended c) x w (and_left (omits (ended c) x.token x.newline) (refuses (steps.consume c (top_of fs) x.token x.newline)) is)) (plain_back Between fs x w k rec)
    by false is rec k = plain_back c fs x w k rec

-- the tokens are those of a program, however deep
pub record Spelled (w : List Lexeme) : Type 0 where
  pub program : Elements
  pub good : GoodElements program []
  pub spells : w ≡ elements_text program []

spelled : (w : List Lexeme) → ElementsThen Nothing w → Spelled w
spelled _ (elements_then es _ g nothing_left) = record { program = es; good = g; spells = refl }

pub accepted_spelled : (w : List Lexeme) → Accepted steps.begun w → Spelled w
accepted_spelled w h = spelled w (sound w Between [] h)
