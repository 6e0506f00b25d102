-- Each program is accepted, and its tokens stand as deep as the depths of its tree say: a clause for each
-- clause of the spelling, from what is accepted after a tree to what is accepted before it.
use Rattle.std.proofs.Common.{◌≡◌, ℕ, suc, Bool, true, false, not, ◌&&◌, if◌then◌else◌, Some, List, [], ◌∷◌, length, refl, sym, ap, subst}
use Rattle.es5_lexer.specs.declared.tokens.Word.{Word}
use Rattle.es5_lexer.specs.declared.tokens.Word.TheVariants.{New as NewWord, Function as FunctionWord, Var, If as IfWord, Else, Do as DoWord, While, With, For, In, Continue, Break, Return, Throw, Debugger, Switch as SwitchWord, Case, Default, Try as TryWord, Catch as CatchWord, Finally as FinallyWord}
use Rattle.es5_lexer.specs.declared.tokens.Punct.{Punct}
use Rattle.es5_lexer.specs.declared.tokens.Punct.TheVariants.{LeftBrace, RightBrace, LeftParen, RightParen, LeftBracket, RightBracket, Dot, Semicolon, Comma, Question, Colon, Assign as Equals}
use Rattle.es5_lexer.specs.declared.tokens.Token.{Token}
use Rattle.es5_lexer.specs.declared.tokens.Token.TheVariants.{Ident, Get, Set, Word as AWord, Punct as APunct}
use Rattle.es5_lexer.specs.declared.tokens.Lexeme.{Lexeme}
use Rattle.es5_trees.specs.Words.{lexeme, mark, word, is_ident, is_name, is_key, level, is_loop_word, is_jump_word}
use Rattle.es5_trees.specs.Trees.{Names, one_name, more_names, Params, no_params, params, Expr, one, more, Assign, value, assign, Cond, plain, choice, Binary, operand, operation, Unary, unmarked, prefix, Postfix, left, update, Left, new_left, call_left, New, member, new_new, Call, call, call_call, call_index, call_dot, Member, primary, function_member, member_index, member_dot, new_member, Args, no_args, args, Function, nameless, named, Body, body, Primary, atom, parens, empty_array, array, empty_object, object, comma_object, Items, one_item, more_items, Props, one_prop, more_props, Prop, pair, getter, setter, Decl, bare, initialised, Decls, one_decl, more_decls, Optional, absent, present, Block, braces, Statements, no_statement, more_statements, Statement, block, empty, variables, expression, if_only, if_else, do_while, loop, for, for_var, for_in, for_var_in, jump, jump_to, return_only, return, throw, label, debugger, switch, switch_default, try_catch, try_finally, try_both, Cases, no_case, more_cases, Catch, catch, Finally, finally, Elements, no_element, more_elements, Element, statement, declaration}
use Rattle.es5_trees.specs.Spelling.{names_text, params_text, end_text, commas, expr_text, assign_text, cond_text, binary_text, unary_text, postfix_text, left_text, new_text, call_text, member_text, args_text, function_text, body_text, primary_text, items_text, props_text, prop_text, decl_text, decls_text, optional_text, block_text, statements_text, statement_text, cases_text, catch_text, finally_text, elements_text, element_text}
use Rattle.es5_trees.specs.Endings.{Ending, postfix_ending, unary_ending, binary_ending, assign_ending, cond_ending, expr_ending, decl_ending, decls_ending, is_open}
use Rattle.es5_trees.specs.Good.{GoodNames, GoodParams, GoodExpr, GoodAssign, GoodCond, GoodBinary, GoodUnary, GoodPostfix, GoodLeft, GoodNew, GoodCall, GoodMember, GoodArgs, GoodFunction, GoodBody, GoodPrimary, GoodItems, GoodProps, GoodProp, GoodDecl, GoodDecls, GoodOptional, GoodBlock, GoodStatements, GoodStatement, GoodCases, GoodCatch, GoodFinally, GoodElements, GoodElement}
use Rattle.es5_machine.specs.Classes.{is_left_paren, is_right_paren}
use Rattle.es5_machine.specs.declared.states.Role.{Role}
use Rattle.es5_machine.specs.declared.states.Role.TheVariants.{Plain, Target, Header}
use Rattle.es5_machine.specs.declared.states.Ends.{Ends}
use Rattle.es5_machine.specs.declared.states.Ends.TheVariants.{ByFrame, BySemicolon, ByDeclaration}
use Rattle.es5_machine.specs.declared.states.Part.TheVariants.{If, Loop, Switch, DoWhile, Init, First, Next, Test}
use Rattle.es5_machine.specs.declared.states.BlockKind.{BlockKind}
use Rattle.es5_machine.specs.declared.states.BlockKind.TheVariants.{Simple, Try as TryBlock, Catch as CatchBlock, Finally as FinallyBlock}
use Rattle.es5_machine.specs.declared.states.Phase.{Phase}
use Rattle.es5_machine.specs.declared.states.Phase.TheVariants.{NoClause, InClause, Defaulted}
use Rattle.es5_machine.specs.declared.states.Owner.{Owner}
use Rattle.es5_machine.specs.declared.states.Owner.TheVariants.{Declaration, Expression, Getter, Setter, Handler}
use Rattle.es5_machine.specs.declared.states.Frame.{Frame}
use Rattle.es5_machine.specs.declared.states.Frame.TheVariants.{Paren, Index, Array, Object, Conditional, Head, Parameters, Braces, Block as BlockFrame, Clauses, Branch, Do}
use Rattle.es5_machine.specs.declared.states.Control.{Control}
use Rattle.es5_machine.specs.declared.states.Control.TheVariants.{Between, Need, AfterCatch, AtEnd, AfterJump, AfterReturn, AfterThrow, AfterTry, AfterDefault, Open, Binding, Bound, Operand, Callee, AfterLeft, AfterName, AfterDot, AfterAccessor, MayLack, Properties, AfterKey, AfterGet, AfterSet, DeclarationName, FunctionName, FirstParameter, NextParameter, AfterParameter}
use Rattle.es5_machine.specs.declared.states.Answer.TheVariants.{Refuse, Go, Push, Pop, Swap}
use Rattle.es5_machine.specs.Steps as steps
use Rattle.es5_machine.specs.Steps.{Config, at, top_of, popped, without_branches, settled, in_stands, inside, ended, omits, refuses, leaves}
use Rattle.es5_trees.specs.Depths.{names_depths, params_depths, expr_depths, assign_depths, cond_depths, binary_depths, unary_depths, postfix_depths, left_depths, new_depths, call_depths, member_depths, args_depths, function_depths, body_depths, primary_depths, items_depths, props_depths, prop_depths, decl_depths, decls_depths, optional_depths, block_depths, statements_depths, statement_depths, cases_depths, catch_depths, finally_depths, elements_depths, element_depths, commas_depths}
use Rattle.es5_machine.proofs.ExpressionSoundness.{differ}
use Rattle.es5_machine.proofs.Free.{moved, Accepts, Taken}
use Rattle.es5_machine.proofs.Moves.{both, takes, on, on_between, is_closing, Goes, by_close, TakesComma, by_comma, by_operator, by_question, by_assign, by_update, starts, begins, atom_begins, prefix_begins, tested, lacks, is_list, list_whole, need_between, no_else, NoElse, list_ends, branch_ends, catch_ends, end_goes, GoesDecl, assigned_goes, declared_close, declared_ends, declared_in, at_end_goes, jump_end_goes, return_end_goes, statement_begins, return_begins, throw_begins}

-- names in parentheses

ident_first : {hs : List ℕ} (o : Owner) (fs : List Frame) (x : Lexeme) (w : List Lexeme) → steps.has_names o ≡ true → is_ident x.token ≡ true → Accepts (at AfterParameter (Parameters o ∷ fs)) w hs → Accepts (at FirstParameter (Parameters o ∷ fs)) (x ∷ w) (suc (length fs) ∷ hs)
ident_first o fs x w h is k =
    tested FirstParameter AfterParameter (Parameters o ∷ fs) x w (is_ident x.token && steps.has_names o) (if is_right_paren x.token && steps.may_be_empty o then Pop (Open (steps.body_of o)) else Refuse) refl (both (is_ident x.token) (steps.has_names o) is h) refl k

names_end : {hs : List ℕ} (o : Owner) (fs : List Frame) (c : Bool) (w : List Lexeme) → Accepts (at (Open (steps.body_of o)) fs) w hs → Accepts (at AfterParameter (Parameters o ∷ fs)) (mark RightParen c ∷ w) (suc (length fs) ∷ hs)
names_end o fs c w k = on AfterParameter (Parameters o ∷ fs) (mark RightParen c) w (Pop (Open (steps.body_of o))) refl refl refl (takes k)

names_on : {hs : List ℕ} (o : Owner) (fs : List Frame) (n : Bool) (w : List Lexeme) → steps.has_many o ≡ true → Accepts (at NextParameter (Parameters o ∷ fs)) w hs → Accepts (at AfterParameter (Parameters o ∷ fs)) (mark Comma n ∷ w) (suc (length fs) ∷ hs)
names_on o fs n w h k = on AfterParameter (Parameters o ∷ fs) (mark Comma n) w (Go NextParameter) (ap (λ b. if b then Go NextParameter else Refuse) h) refl refl (takes k)

names_next : {hs : List ℕ} (xs : Names) (o : Owner) (fs : List Frame) (c : Bool) (w : List Lexeme) → steps.has_many o ≡ true → GoodNames xs → Accepts (at (Open (steps.body_of o)) fs) w hs → Accepts (at NextParameter (Parameters o ∷ fs)) (names_text xs (mark RightParen c ∷ w)) (names_depths (suc (length fs)) xs (suc (length fs) ∷ hs))
names_next (one_name x) o fs c w h g k =
    tested NextParameter AfterParameter (Parameters o ∷ fs) x (mark RightParen c ∷ w) (is_ident x.token) Refuse refl g refl (names_end o fs c w k)
names_next (more_names x n xs) o fs c w h g k =
    tested NextParameter AfterParameter (Parameters o ∷ fs) x (mark Comma n ∷ names_text xs (mark RightParen c ∷ w)) (is_ident x.token) Refuse refl g.0 refl
    (names_on o fs n (names_text xs (mark RightParen c ∷ w)) h (names_next xs o fs c w h g.1 k))

names_first : {hs : List ℕ} (xs : Names) (o : Owner) (fs : List Frame) (c : Bool) (w : List Lexeme) → steps.has_names o ≡ true → steps.has_many o ≡ true → GoodNames xs → Accepts (at (Open (steps.body_of o)) fs) w hs → Accepts (at FirstParameter (Parameters o ∷ fs)) (names_text xs (mark RightParen c ∷ w)) (names_depths (suc (length fs)) xs (suc (length fs) ∷ hs))
names_first (one_name x) o fs c w n h g k = ident_first o fs x (mark RightParen c ∷ w) n g (names_end o fs c w k)
names_first (more_names x m xs) o fs c w n h g k =
    ident_first o fs x (mark Comma m ∷ names_text xs (mark RightParen c ∷ w)) n g.0
    (names_on o fs m (names_text xs (mark RightParen c ∷ w)) h (names_next xs o fs c w h g.1 k))

params_goes : {hs : List ℕ} (ps : Params) (c : Control) (o : Owner) (fs : List Frame) (w : List Lexeme) → ((n : Bool) → steps.consume c (top_of fs) (APunct LeftParen) n ≡ Push (Parameters o) FirstParameter) → leaves c (APunct LeftParen) ≡ false → steps.has_names o ≡ true → steps.may_be_empty o ≡ true → steps.has_many o ≡ true → GoodParams ps → Accepts (at (Open (steps.body_of o)) fs) w hs → Accepts (at c fs) (params_text ps w) (params_depths (length fs) ps hs)
params_goes (no_params a d) c o fs w opens stay n e m g k =
    on c fs (mark LeftParen a) (mark RightParen d ∷ w) (Push (Parameters o) FirstParameter) (opens a) refl stay
    (takes (on FirstParameter (Parameters o ∷ fs) (mark RightParen d) w (Pop (Open (steps.body_of o))) (ap (λ b. if b then Pop (Open (steps.body_of o)) else Refuse) e) refl refl (takes k)))
params_goes (params a xs d) c o fs w opens stay n e m g k =
    on c fs (mark LeftParen a) (names_text xs (mark RightParen d ∷ w)) (Push (Parameters o) FirstParameter) (opens a) refl stay
    (takes (names_first xs o fs d w n m g k))

-- members, arrays and properties

dot_goes : {hs : List ℕ} (r : Role) (e : Ends) (fs : List Frame) (d : Bool) (x : Lexeme) (w : List Lexeme) → is_name x.token ≡ true → Accepts (at (AfterLeft r e) fs) w hs → Accepts (at (AfterLeft r e) fs) (mark Dot d ∷ x ∷ w) (length fs ∷ length fs ∷ hs)
dot_goes r e fs d x w is k =
    on (AfterLeft r e) fs (mark Dot d) (x ∷ w) (Go (AfterDot r e)) refl refl refl
    (takes (tested (AfterDot r e) (AfterLeft r e) fs x w (is_name x.token) Refuse refl is refl k))

index_opens : {hs : List ℕ} (r : Role) (e : Ends) (fs : List Frame) (o : Bool) (w : List Lexeme) → Accepts (at inside (Index r e ∷ fs)) w hs → Accepts (at (AfterLeft r e) fs) (mark LeftBracket o ∷ w) (suc (length fs) ∷ hs)
index_opens r e fs o w k = on (AfterLeft r e) fs (mark LeftBracket o) w (Push (Index r e) inside) refl refl refl (takes k)

array_close : {hs : List ℕ} (r : Role) (e : Ends) (fs : List Frame) (c : Bool) (w : List Lexeme) → Accepts (at (AfterLeft r e) fs) w hs → Accepts (at MayLack (Array r e ∷ fs)) (mark RightBracket c ∷ w) (suc (length fs) ∷ hs)
array_close r e fs c w k = on MayLack (Array r e ∷ fs) (mark RightBracket c) w (Pop (AfterLeft r e)) refl refl refl (takes k)

elisions_go : {hs : List ℕ} (ns : List Bool) (r : Role) (e : Ends) (fs : List Frame) (v : List Lexeme) → Accepts (at MayLack (Array r e ∷ fs)) v hs → Accepts (at MayLack (Array r e ∷ fs)) (commas ns v) (commas_depths (suc (length fs)) ns hs)
elisions_go [] r e fs v k = k
elisions_go (n ∷ ns) r e fs v k =
    on MayLack (Array r e ∷ fs) (mark Comma n) (commas ns v) (Go MayLack) refl refl refl (takes (elisions_go ns r e fs v k))

array_end : {hs : List ℕ} (ns : List Bool) (k : Ending) (r : Role) (e : Ends) (fs : List Frame) (c : Bool) (w : List Lexeme) → Accepts (at (AfterLeft r e) fs) w hs → Goes k ByFrame (Array r e ∷ fs) (commas ns (mark RightBracket c ∷ w)) (commas_depths (suc (length fs)) ns (suc (length fs) ∷ hs))
array_end [] k r e fs c w h = by_close k ByFrame (Array r e ∷ fs) RightBracket c w refl refl (takes h)
array_end (n ∷ ns) k r e fs c w h =
    by_close k ByFrame (Array r e ∷ fs) Comma n (commas ns (mark RightBracket c ∷ w)) refl refl
    (takes (elisions_go ns r e fs (mark RightBracket c ∷ w) (array_close r e fs c w h)))

-- after a property the rest is accepted
record PropEnds (r : Role) (e : Ends) (fs : List Frame) (w : List Lexeme) (hs : List ℕ) : Type 0 where
  pub goes : (k : Ending) → Goes k ByFrame (Object r e ∷ fs) w hs
  pub whole : Accepts (at AfterAccessor (Object r e ∷ fs)) w hs

prop_ends : {hs : List ℕ} (p : Punct) (r : Role) (e : Ends) (fs : List Frame) (n : Bool) (w : List Lexeme) → is_closing p ≡ true → refuses (steps.close_mark (Object r e) p) ≡ false → Taken (moved (steps.close_mark (Object r e) p) (Object r e ∷ fs)) w hs → PropEnds r e fs (mark p n ∷ w) hs
prop_ends p r e fs n w c t h = record {
  goes = λ k. by_close k ByFrame (Object r e ∷ fs) p n w c t h;
  whole = on AfterAccessor (Object r e ∷ fs) (mark p n) w (steps.close_mark (Object r e) p) refl t refl h;
}

colon_goes : {hs : List ℕ} (c : Control) (r : Role) (e : Ends) (fs : List Frame) (n : Bool) (w : List Lexeme) → ((m : Bool) → steps.consume c (Some (Object r e)) (APunct Colon) m ≡ Go inside) → leaves c (APunct Colon) ≡ false → Accepts (at inside (Object r e ∷ fs)) w hs → Accepts (at c (Object r e ∷ fs)) (mark Colon n ∷ w) (suc (length fs) ∷ hs)
colon_goes c r e fs n w is stay k = on c (Object r e ∷ fs) (mark Colon n) w (Go inside) (is n) refl stay (takes k)

key_goes : {hs : List ℕ} (r : Role) (e : Ends) (fs : List Frame) (t : Token) (m n : Bool) (w : List Lexeme) → is_key t ≡ true → Accepts (at inside (Object r e ∷ fs)) w hs → Accepts (at Properties (Object r e ∷ fs)) (lexeme t m ∷ mark Colon n ∷ w) (suc (length fs) ∷ suc (length fs) ∷ hs)
key_goes r e fs Get m n w is k =
    on Properties (Object r e ∷ fs) (lexeme Get m) (mark Colon n ∷ w) (Go AfterGet) refl refl refl (takes (colon_goes AfterGet r e fs n w (λ x. refl) refl k))
key_goes r e fs Set m n w is k =
    on Properties (Object r e ∷ fs) (lexeme Set m) (mark Colon n ∷ w) (Go AfterSet) refl refl refl (takes (colon_goes AfterSet r e fs n w (λ x. refl) refl k))
key_goes r e fs (APunct p) m n w is k = absurd (differ is)
key_goes r e fs t m n w is k =
    tested Properties AfterKey (Object r e ∷ fs) (lexeme t m) (mark Colon n ∷ w) (is_key t) Refuse refl is refl (colon_goes AfterKey r e fs n w (λ x. refl) refl k)

-- words of statements

loop_word : (x : Word) → is_loop_word x ≡ true → steps.statement_word x ≡ Go (Open (Head Loop))
loop_word While h = refl
loop_word With h = refl
loop_word _ h = absurd (differ h)

jump_word : (x : Word) → is_jump_word x ≡ true → steps.statement_word x ≡ Go AfterJump
jump_word Continue h = refl
jump_word Break h = refl
jump_word _ h = absurd (differ h)

ident_statement : (t : Token) → is_ident t ≡ true → steps.statement t ≡ Go AfterName
ident_statement Ident h = refl
ident_statement Get h = refl
ident_statement Set h = refl
ident_statement _ h = absurd (differ h)

else_none : (o : Bool) (w : List Lexeme) → no_else w ≡ true → NoElse o w
else_none true w h = h
else_none false w h = tt

closed_none : (o : Bool) (w : List Lexeme) → o ≡ false → NoElse o w
closed_none true w h = absurd (differ (sym h))
closed_none false w h = tt

-- declarations with commas between
TakesDecls : Ends → List Frame → Type 0
TakesDecls e fs = steps.close e (top_of fs) (APunct Comma) ≡ Go (Binding e)

declared_comma : {ds : List ℕ} (k : Ending) (e : Ends) (fs : List Frame) (n : Bool) (w : List Lexeme) → TakesDecls e fs → Accepts (at (Binding e) fs) w ds → GoesDecl k e fs (mark Comma n ∷ w) (length fs ∷ ds)
unfolding TakesDecls
declared_comma {ds} k e fs n w c h =
    declared_close k e fs Comma n w refl (ap refuses c) (subst (λ a. Taken (moved a fs) w (length fs ∷ ds)) (sym c) (takes h))

-- a function may be declared
TakesFunction : List Frame → Type 0
TakesFunction fs = steps.between (top_of fs) (AWord FunctionWord) ≡ Go DeclarationName

-- the braces of a switch end
clauses_close : {hs : List ℕ} (p : Phase) (fs : List Frame) (n : Bool) (w : List Lexeme) → Accepts (at Between fs) w hs → Accepts (at Between (Clauses p ∷ fs)) (mark RightBrace n ∷ w) (suc (length fs) ∷ hs)
clauses_close p fs n w k = on_between (Clauses p ∷ fs) (mark RightBrace n) w (Pop Between) refl refl refl (takes k)

-- `default`, before which there was none
default_goes : {hs : List ℕ} (p : Phase) (fs : List Frame) (d n : Bool) (w : List Lexeme) → steps.default_clause p ≡ Swap (Clauses Defaulted) AfterDefault → Accepts (at Between (Clauses Defaulted ∷ fs)) w hs → Accepts (at Between (Clauses p ∷ fs)) (word Default d ∷ mark Colon n ∷ w) (suc (length fs) ∷ suc (length fs) ∷ hs)
default_goes p fs d n w is k =
    on_between (Clauses p ∷ fs) (word Default d) (mark Colon n ∷ w) (Swap (Clauses Defaulted) AfterDefault) refl is refl
    (takes (on AfterDefault (Clauses Defaulted ∷ fs) (mark Colon n) w (Go Between) refl refl refl (takes k)))

-- trees: from what is accepted after to what is accepted before

mutual
  unfolding TakesDecls TakesFunction

  expr_goes : {hs : List ℕ} (v : Expr) (r : Role) (e : Ends) (fs : List Frame) (i : Bool) (w : List Lexeme) → GoodExpr i v w → in_stands e (top_of fs) ≡ i → steps.assigned r e ≡ Go (Operand Target e) → TakesComma e fs → Goes (expr_ending v) e fs w hs → Accepts (at (Operand r e) fs) (expr_text v w) (expr_depths (length fs) v hs)
  expr_goes (one a) r e fs i w g s m c k = assign_goes a r e fs i w g s m k
  expr_goes (more a n v) r e fs i w g s m c k =
      assign_goes a r e fs i (mark Comma n ∷ expr_text v w) g.0 s m
      (by_comma (assign_ending a) e fs n (expr_text v w) c (expr_goes v Target e fs i w g.1 s refl c k))

  assign_goes : {hs : List ℕ} (a : Assign) (r : Role) (e : Ends) (fs : List Frame) (i : Bool) (w : List Lexeme) → GoodAssign i a w → in_stands e (top_of fs) ≡ i → steps.assigned r e ≡ Go (Operand Target e) → Goes (assign_ending a) e fs w hs → Accepts (at (Operand r e) fs) (assign_text a w) (assign_depths (length fs) a hs)
  assign_goes (value c) r e fs i w g s m k = cond_goes c r e fs i w g s k
  assign_goes (assign l p n a) r e fs i w g s m k =
      left_goes l r e fs (mark p n ∷ assign_text a w) g.1
      (by_assign r e fs p n (assign_text a w) g.0 m (assign_goes a Target e fs i w g.2 s refl k))

  cond_goes : {hs : List ℕ} (c : Cond) (r : Role) (e : Ends) (fs : List Frame) (i : Bool) (w : List Lexeme) → GoodCond i c w → in_stands e (top_of fs) ≡ i → Goes (cond_ending c) e fs w hs → Accepts (at (Operand r e) fs) (cond_text c w) (cond_depths (length fs) c hs)
  cond_goes (plain b) r e fs i w g s k = binary_goes b r e fs i 1 w g s k
  cond_goes (choice b q a c d) r e fs i w g s k =
      binary_goes b r e fs i 1 (mark Question q ∷ assign_text a (mark Colon c ∷ assign_text d w)) g.0 s
      (by_question (binary_ending b) e fs q (assign_text a (mark Colon c ∷ assign_text d w))
      (assign_goes a Target ByFrame (Conditional e ∷ fs) true (mark Colon c ∷ assign_text d w) g.1 refl refl
      (by_close (assign_ending a) ByFrame (Conditional e ∷ fs) Colon c (assign_text d w) refl refl
      (takes (assign_goes d Target e fs i w g.2 s refl k)))))

  binary_goes : {hs : List ℕ} (b : Binary) (r : Role) (e : Ends) (fs : List Frame) (i : Bool) (n : ℕ) (w : List Lexeme) → GoodBinary i n b w → in_stands e (top_of fs) ≡ i → Goes (binary_ending b) e fs w hs → Accepts (at (Operand r e) fs) (binary_text b w) (binary_depths (length fs) b hs)
  binary_goes (operand u) r e fs i n w g s k = unary_goes u r e fs w g k
  binary_goes (operation a x b) r e fs i n w g s k =
      binary_goes a r e fs i (level x.token) (x ∷ binary_text b w) g.1 s
      (by_operator (binary_ending a) e fs i x (binary_text b w) s g.0.1 g.0.2 (binary_goes b Plain e fs i (suc (level x.token)) w g.2 s k))

  unary_goes : {hs : List ℕ} (u : Unary) (r : Role) (e : Ends) (fs : List Frame) (w : List Lexeme) → GoodUnary u w → Goes (unary_ending u) e fs w hs → Accepts (at (Operand r e) fs) (unary_text u w) (unary_depths (length fs) u hs)
  unary_goes (unmarked p) r e fs w g k = postfix_goes p r e fs w g k
  unary_goes (prefix x u) r e fs w g k = prefix_begins r e fs x (unary_text u w) g.0 (unary_goes u Plain e fs w g.1 k)

  postfix_goes : {hs : List ℕ} (p : Postfix) (r : Role) (e : Ends) (fs : List Frame) (w : List Lexeme) → GoodPostfix p w → Goes (postfix_ending p) e fs w hs → Accepts (at (Operand r e) fs) (postfix_text p w) (postfix_depths (length fs) p hs)
  postfix_goes (left l) r e fs w g k = left_goes l r e fs w g (k.by r)
  postfix_goes (update l p) r e fs w g k = left_goes l r e fs (mark p false ∷ w) g.1 (by_update r e fs p w g.0 k.by)

  left_goes : {hs : List ℕ} (l : Left) (r : Role) (e : Ends) (fs : List Frame) (w : List Lexeme) → GoodLeft l w → Accepts (at (AfterLeft r e) fs) w hs → Accepts (at (Operand r e) fs) (left_text l w) (left_depths (length fs) l hs)
  left_goes (new_left n) r e fs w g k = new_goes n false r e fs w g k
  left_goes (call_left c) r e fs w g k = call_goes c r e fs w g k

  new_goes : {hs : List ℕ} (x : New) (b : Bool) (r : Role) (e : Ends) (fs : List Frame) (w : List Lexeme) → GoodNew x w → Accepts (at (AfterLeft r e) fs) w hs → Accepts (at (starts b r e) fs) (new_text x w) (new_depths (length fs) x hs)
  new_goes (member m) b r e fs w g k = member_goes m b r e fs w g k
  new_goes (new_new n x) b r e fs w g k =
      begins b r e fs (AWord NewWord) n (new_text x w) (Go (Callee r e)) refl refl refl (takes (new_goes x true r e fs w g k))

  call_goes : {hs : List ℕ} (c : Call) (r : Role) (e : Ends) (fs : List Frame) (w : List Lexeme) → GoodCall c w → Accepts (at (AfterLeft r e) fs) w hs → Accepts (at (Operand r e) fs) (call_text c w) (call_depths (length fs) c hs)
  call_goes (call m a) r e fs w g k = member_goes m false r e fs (args_text a w) g.0 (args_goes a r e fs w g.1 k)
  call_goes (call_call c a) r e fs w g k = call_goes c r e fs (args_text a w) g.0 (args_goes a r e fs w g.1 k)
  call_goes (call_index c o v d) r e fs w g k =
      call_goes c r e fs (mark LeftBracket o ∷ expr_text v (mark RightBracket d ∷ w)) g.0
      (index_opens r e fs o (expr_text v (mark RightBracket d ∷ w))
      (expr_goes v Target ByFrame (Index r e ∷ fs) true (mark RightBracket d ∷ w) g.1 refl refl refl
      (by_close (expr_ending v) ByFrame (Index r e ∷ fs) RightBracket d w refl refl (takes k))))
  call_goes (call_dot c d x) r e fs w g k = call_goes c r e fs (mark Dot d ∷ x ∷ w) g.0 (dot_goes r e fs d x w g.1 k)

  member_goes : {hs : List ℕ} (m : Member) (b : Bool) (r : Role) (e : Ends) (fs : List Frame) (w : List Lexeme) → GoodMember m w → Accepts (at (AfterLeft r e) fs) w hs → Accepts (at (starts b r e) fs) (member_text m w) (member_depths (length fs) m hs)
  member_goes (primary p) b r e fs w g k = primary_goes p b r e fs w g k
  member_goes (function_member f) b r e fs w g k = function_goes f b r e fs w g k
  member_goes (member_index m o v d) b r e fs w g k =
      member_goes m b r e fs (mark LeftBracket o ∷ expr_text v (mark RightBracket d ∷ w)) g.0
      (index_opens r e fs o (expr_text v (mark RightBracket d ∷ w))
      (expr_goes v Target ByFrame (Index r e ∷ fs) true (mark RightBracket d ∷ w) g.1 refl refl refl
      (by_close (expr_ending v) ByFrame (Index r e ∷ fs) RightBracket d w refl refl (takes k))))
  member_goes (member_dot m d x) b r e fs w g k = member_goes m b r e fs (mark Dot d ∷ x ∷ w) g.0 (dot_goes r e fs d x w g.1 k)
  member_goes (new_member n m a) b r e fs w g k =
      begins b r e fs (AWord NewWord) n (member_text m (args_text a w)) (Go (Callee r e)) refl refl refl
      (takes (member_goes m true r e fs (args_text a w) g.0 (args_goes a r e fs w g.1 k)))

  args_goes : {hs : List ℕ} (a : Args) (r : Role) (e : Ends) (fs : List Frame) (w : List Lexeme) → GoodArgs a w → Accepts (at (AfterLeft r e) fs) w hs → Accepts (at (AfterLeft r e) fs) (args_text a w) (args_depths (length fs) a hs)
  args_goes (no_args o c) r e fs w g k =
      on (AfterLeft r e) fs (mark LeftParen o) (mark RightParen c ∷ w) (Push (Paren r e) MayLack) refl refl refl
      (takes (on MayLack (Paren r e ∷ fs) (mark RightParen c) w (Pop (AfterLeft r e)) refl refl refl (takes k)))
  args_goes (args o v c) r e fs w g k =
      on (AfterLeft r e) fs (mark LeftParen o) (expr_text v (mark RightParen c ∷ w)) (Push (Paren r e) MayLack) refl refl refl
      (takes (lacks (Paren r e) fs (expr_text v (mark RightParen c ∷ w))
      (expr_goes v Target ByFrame (Paren r e ∷ fs) true (mark RightParen c ∷ w) g refl refl refl
      (by_close (expr_ending v) ByFrame (Paren r e ∷ fs) RightParen c w refl refl (takes k)))))

  function_goes : {hs : List ℕ} (f : Function) (b : Bool) (r : Role) (e : Ends) (fs : List Frame) (w : List Lexeme) → GoodFunction f w → Accepts (at (AfterLeft r e) fs) w hs → Accepts (at (starts b r e) fs) (function_text f w) (function_depths (length fs) f hs)
  function_goes (nameless n ps c) b r e fs w g k =
      begins b r e fs (AWord FunctionWord) n (params_text ps (body_text c w)) (Go (FunctionName r e)) refl refl refl
      (takes (params_goes ps (FunctionName r e) (Expression r e) fs (body_text c w) (λ m. refl) refl refl refl refl g.0
      (body_goes c (Expression r e) fs w g.1 k)))
  function_goes (named n x ps c) b r e fs w g k =
      begins b r e fs (AWord FunctionWord) n (x ∷ params_text ps (body_text c w)) (Go (FunctionName r e)) refl refl refl
      (takes (tested (FunctionName r e) (Open (Parameters (Expression r e))) fs x (params_text ps (body_text c w)) (is_ident x.token) (if is_left_paren x.token then Push (Parameters (Expression r e)) FirstParameter else Refuse) refl g.0 refl
      (params_goes ps (Open (Parameters (Expression r e))) (Expression r e) fs (body_text c w) (λ m. refl) refl refl refl refl g.1
      (body_goes c (Expression r e) fs w g.2 k))))

  body_goes : {hs : List ℕ} (b : Body) (o : Owner) (fs : List Frame) (w : List Lexeme) → GoodBody b w → Accepts (at (steps.after_body o) fs) w hs → Accepts (at (Open (Braces o)) fs) (body_text b w) (body_depths (length fs) b hs)
  body_goes (body a es c) o fs w g k =
      on (Open (Braces o)) fs (mark LeftBrace a) (elements_text es (mark RightBrace c ∷ w)) (Push (Braces o) Between) refl refl refl
      (takes (elements_goes es (Braces o ∷ fs) (mark RightBrace c ∷ w) refl refl g
      (on_between (Braces o ∷ fs) (mark RightBrace c) w (Pop (steps.after_body o)) refl refl refl (takes k))))

  primary_goes : {hs : List ℕ} (p : Primary) (b : Bool) (r : Role) (e : Ends) (fs : List Frame) (w : List Lexeme) → GoodPrimary p w → Accepts (at (AfterLeft r e) fs) w hs → Accepts (at (starts b r e) fs) (primary_text p w) (primary_depths (length fs) p hs)
  primary_goes (atom x) b r e fs w g k = atom_begins b r e fs x w g k
  primary_goes (parens o v c) b r e fs w g k =
      begins b r e fs (APunct LeftParen) o (expr_text v (mark RightParen c ∷ w)) (Push (Paren r e) inside) refl refl refl
      (takes (expr_goes v Target ByFrame (Paren r e ∷ fs) true (mark RightParen c ∷ w) g refl refl refl
      (by_close (expr_ending v) ByFrame (Paren r e ∷ fs) RightParen c w refl refl (takes k))))
  primary_goes (empty_array o ns c) b r e fs w g k =
      begins b r e fs (APunct LeftBracket) o (commas ns (mark RightBracket c ∷ w)) (Push (Array r e) MayLack) refl refl refl
      (takes (elisions_go ns r e fs (mark RightBracket c ∷ w) (array_close r e fs c w k)))
  primary_goes (array o is ns c) b r e fs w g k =
      begins b r e fs (APunct LeftBracket) o (items_text is (commas ns (mark RightBracket c ∷ w))) (Push (Array r e) MayLack) refl refl refl
      (takes (items_goes is r e fs (commas ns (mark RightBracket c ∷ w)) g (λ j. array_end ns j r e fs c w k)))
  primary_goes (empty_object o c) b r e fs w g k =
      begins b r e fs (APunct LeftBrace) o (mark RightBrace c ∷ w) (Push (Object r e) Properties) refl refl refl
      (takes (on Properties (Object r e ∷ fs) (mark RightBrace c) w (Pop (AfterLeft r e)) refl refl refl (takes k)))
  primary_goes (object o ps c) b r e fs w g k =
      begins b r e fs (APunct LeftBrace) o (props_text ps (mark RightBrace c ∷ w)) (Push (Object r e) Properties) refl refl refl
      (takes (props_goes ps r e fs (mark RightBrace c ∷ w) g (prop_ends RightBrace r e fs c w refl refl (takes k))))
  primary_goes (comma_object o ps n c) b r e fs w g k =
      begins b r e fs (APunct LeftBrace) o (props_text ps (mark Comma n ∷ mark RightBrace c ∷ w)) (Push (Object r e) Properties) refl refl refl
      (takes (props_goes ps r e fs (mark Comma n ∷ mark RightBrace c ∷ w) g
      (prop_ends Comma r e fs n (mark RightBrace c ∷ w) refl refl
      (takes (on Properties (Object r e ∷ fs) (mark RightBrace c) w (Pop (AfterLeft r e)) refl refl refl (takes k))))))

  items_goes : {hs : List ℕ} (is : Items) (r : Role) (e : Ends) (fs : List Frame) (w : List Lexeme) → GoodItems is w → ((j : Ending) → Goes j ByFrame (Array r e ∷ fs) w hs) → Accepts (at MayLack (Array r e ∷ fs)) (items_text is w) (items_depths (suc (length fs)) is hs)
  items_goes (one_item ns a) r e fs w g k =
      elisions_go ns r e fs (assign_text a w)
      (lacks (Array r e) fs (assign_text a w) (assign_goes a Target ByFrame (Array r e ∷ fs) true w g refl refl (k (assign_ending a))))
  items_goes (more_items ns a c is) r e fs w g k =
      elisions_go ns r e fs (assign_text a (mark Comma c ∷ items_text is w))
      (lacks (Array r e) fs (assign_text a (mark Comma c ∷ items_text is w))
      (assign_goes a Target ByFrame (Array r e ∷ fs) true (mark Comma c ∷ items_text is w) g.0 refl refl
      (by_close (assign_ending a) ByFrame (Array r e ∷ fs) Comma c (items_text is w) refl refl (takes (items_goes is r e fs w g.1 k)))))

  props_goes : {hs : List ℕ} (ps : Props) (r : Role) (e : Ends) (fs : List Frame) (w : List Lexeme) → GoodProps ps w → PropEnds r e fs w hs → Accepts (at Properties (Object r e ∷ fs)) (props_text ps w) (props_depths (suc (length fs)) ps hs)
  props_goes (one_prop p) r e fs w g k = prop_goes p r e fs w g k
  props_goes (more_props p c ps) r e fs w g k =
      prop_goes p r e fs (mark Comma c ∷ props_text ps w) g.0
      (prop_ends Comma r e fs c (props_text ps w) refl refl (takes (props_goes ps r e fs w g.1 k)))

  prop_goes : {hs : List ℕ} (p : Prop) (r : Role) (e : Ends) (fs : List Frame) (w : List Lexeme) → GoodProp p w → PropEnds r e fs w hs → Accepts (at Properties (Object r e ∷ fs)) (prop_text p w) (prop_depths (suc (length fs)) p hs)
  prop_goes (pair x c a) r e fs w g k =
      key_goes r e fs x.token x.newline c (assign_text a w) g.0 (assign_goes a Target ByFrame (Object r e ∷ fs) true w g.1 refl refl (k.goes (assign_ending a)))
  prop_goes (getter n x o c b) r e fs w g k =
      on Properties (Object r e ∷ fs) (lexeme Get n) (x ∷ mark LeftParen o ∷ mark RightParen c ∷ body_text b w) (Go AfterGet) refl refl refl
      (takes (tested AfterGet (Open (Parameters Getter)) (Object r e ∷ fs) x (mark LeftParen o ∷ mark RightParen c ∷ body_text b w) (is_key x.token) (steps.after_key x.token) refl g.0 refl
      (on (Open (Parameters Getter)) (Object r e ∷ fs) (mark LeftParen o) (mark RightParen c ∷ body_text b w) (Push (Parameters Getter) FirstParameter) refl refl refl
      (takes (on FirstParameter (Parameters Getter ∷ Object r e ∷ fs) (mark RightParen c) (body_text b w) (Pop (Open (Braces Getter))) refl refl refl
      (takes (body_goes b Getter (Object r e ∷ fs) w g.1 k.whole)))))))
  prop_goes (setter n x o y c b) r e fs w g k =
      on Properties (Object r e ∷ fs) (lexeme Set n) (x ∷ mark LeftParen o ∷ y ∷ mark RightParen c ∷ body_text b w) (Go AfterSet) refl refl refl
      (takes (tested AfterSet (Open (Parameters Setter)) (Object r e ∷ fs) x (mark LeftParen o ∷ y ∷ mark RightParen c ∷ body_text b w) (is_key x.token) (steps.after_key x.token) refl g.0 refl
      (on (Open (Parameters Setter)) (Object r e ∷ fs) (mark LeftParen o) (y ∷ mark RightParen c ∷ body_text b w) (Push (Parameters Setter) FirstParameter) refl refl refl
      (takes (ident_first Setter (Object r e ∷ fs) y (mark RightParen c ∷ body_text b w) refl g.1
      (names_end Setter (Object r e ∷ fs) c (body_text b w) (body_goes b Setter (Object r e ∷ fs) w g.2 k.whole)))))))

  decl_goes : {hs : List ℕ} (d : Decl) (e : Ends) (fs : List Frame) (i : Bool) (w : List Lexeme) → GoodDecl i d w → in_stands e (top_of fs) ≡ i → GoesDecl (decl_ending d) e fs w hs → Accepts (at (Binding e) fs) (decl_text d w) (decl_depths (length fs) d hs)
  decl_goes (bare x) e fs i w g s k = tested (Binding e) (Bound e) fs x w (is_ident x.token) Refuse refl g refl k.by
  decl_goes (initialised x n a) e fs i w g s k =
      tested (Binding e) (Bound e) fs x (mark Equals n ∷ assign_text a w) (is_ident x.token) Refuse refl g.0 refl
      (on (Bound e) fs (mark Equals n) (assign_text a w) (Go (Operand Target e)) refl refl refl
      (takes (assign_goes a Target e fs i w g.1 s refl (assigned_goes a e fs w k))))

  decls_goes : {hs : List ℕ} (ds : Decls) (e : Ends) (fs : List Frame) (i : Bool) (w : List Lexeme) → GoodDecls i ds w → in_stands e (top_of fs) ≡ i → TakesDecls e fs → GoesDecl (decls_ending ds) e fs w hs → Accepts (at (Binding e) fs) (decls_text ds w) (decls_depths (length fs) ds hs)
  decls_goes (one_decl d) e fs i w g s c k = decl_goes d e fs i w g s k
  decls_goes (more_decls d n ds) e fs i w g s c k =
      decl_goes d e fs i (mark Comma n ∷ decls_text ds w) g.0 s
      (declared_comma (decl_ending d) e fs n (decls_text ds w) c (decls_goes ds e fs i w g.1 s c k))

  first_decls_go : {hs : List ℕ} (ds : Decls) (fs : List Frame) (w : List Lexeme) → GoodDecls false ds w → ((j : Ending) → GoesDecl j ByFrame (Head First ∷ fs) w hs) → ((j : Ending) → GoesDecl j ByFrame (Head Next ∷ fs) w hs) → Accepts (at (Binding ByFrame) (Head First ∷ fs)) (decls_text ds w) (decls_depths (suc (length fs)) ds hs)
  first_decls_go (one_decl d) fs w g k l = decl_goes d ByFrame (Head First ∷ fs) false w g refl (k (decl_ending d))
  first_decls_go (more_decls d n ds) fs w g k l =
      decl_goes d ByFrame (Head First ∷ fs) false (mark Comma n ∷ decls_text ds w) g.0 refl
      (declared_close (decl_ending d) ByFrame (Head First ∷ fs) Comma n (decls_text ds w) refl refl
      (takes (decls_goes ds ByFrame (Head Next ∷ fs) false w g.1 refl refl (l (decls_ending ds)))))

  optional_goes : {hs : List ℕ} (o : Optional) (p : Punct) (f : Frame) (fs : List Frame) (i m : Bool) (w : List Lexeme) → GoodOptional i o (mark p m ∷ w) → in_stands ByFrame (Some f) ≡ i → steps.assigned (steps.first_role f) ByFrame ≡ Go (Operand Target ByFrame) → TakesComma ByFrame (f ∷ fs) → is_closing p ≡ true → refuses (steps.close_mark f p) ≡ false → steps.lacking f (APunct p) ≡ steps.close_mark f p → Taken (moved (steps.close_mark f p) (f ∷ fs)) w hs → Accepts (at MayLack (f ∷ fs)) (optional_text o (mark p m ∷ w)) (optional_depths (suc (length fs)) o hs)
  optional_goes absent p f fs i m w g s a c closing takes_it lacking k =
      on MayLack (f ∷ fs) (mark p m) w (steps.close_mark f p) lacking takes_it refl k
  optional_goes (present v) p f fs i m w g s a c closing takes_it lacking k =
      lacks f fs (expr_text v (mark p m ∷ w))
      (expr_goes v (steps.first_role f) ByFrame (f ∷ fs) i (mark p m ∷ w) g s a c
      (by_close (expr_ending v) ByFrame (f ∷ fs) p m w closing takes_it k))

  block_goes : {hs : List ℕ} (b : Block) (c : Control) (kind : BlockKind) (fs : List Frame) (w : List Lexeme) → ((n : Bool) → steps.consume c (top_of fs) (APunct LeftBrace) n ≡ Push (BlockFrame kind) Between) → leaves c (APunct LeftBrace) ≡ false → GoodBlock b w → Accepts (at (steps.after_block kind) fs) w hs → Accepts (at c fs) (block_text b w) (block_depths (length fs) b hs)
  block_goes (braces o ss d) c kind fs w opens stay g k =
      on c fs (mark LeftBrace o) (statements_text ss (mark RightBrace d ∷ w)) (Push (BlockFrame kind) Between) (opens o) refl stay
      (takes (statements_goes ss (BlockFrame kind ∷ fs) (mark RightBrace d ∷ w) refl g
      (on_between (BlockFrame kind ∷ fs) (mark RightBrace d) w (Pop (steps.after_block kind)) refl refl refl (takes k))))

  statements_goes : {hs : List ℕ} (ss : Statements) (fs : List Frame) (w : List Lexeme) → is_list fs ≡ true → GoodStatements ss w → Accepts (at Between fs) w hs → Accepts (at Between fs) (statements_text ss w) (statements_depths (length fs) ss hs)
  statements_goes no_statement fs w l g k = k
  statements_goes (more_statements s ss) fs w l g k =
      let rest = statements_goes ss fs w l g.1 k in
      need_between fs (statement_text s (statements_text ss w)) l
      (statement_goes s fs (statements_text ss w) g.0 (list_ends fs (is_open s) (statements_text ss w) l rest) rest)

  statement_goes : {hs : List ℕ} (s : Statement) (fs : List Frame) (w : List Lexeme) → GoodStatement s w → NoElse (is_open s) w → Accepts (at Between fs) w hs → Accepts (at Need fs) (statement_text s w) (statement_depths (length fs) s hs)
  statement_goes (block b) fs w g ne k = block_goes b Need Simple fs w (λ n. refl) refl g k
  statement_goes (empty n) fs w g ne k = on Need fs (mark Semicolon n) w (Go Between) refl refl refl (takes k)
  statement_goes (variables n ds t) fs w g ne k =
      on Need fs (word Var n) (decls_text ds (end_text t w)) (Go (Binding ByDeclaration)) refl refl refl
      (takes (decls_goes ds ByDeclaration fs true (end_text t w) g.0 refl refl (declared_ends (decls_ending ds) fs t w g.1 k)))
  statement_goes (expression v t) fs w g ne k =
      statement_begins fs (expr_text v (end_text t w)) g.1
      (expr_goes v Target BySemicolon fs true (end_text t w) g.0 refl refl refl (end_goes (expr_ending v) fs t w g.2 k))
  statement_goes (if_only a o v c s) fs w g ne k =
      on Need fs (word IfWord a) (mark LeftParen o ∷ expr_text v (mark RightParen c ∷ statement_text s w)) (Go (Open (Head If))) refl refl refl
      (takes (on (Open (Head If)) fs (mark LeftParen o) (expr_text v (mark RightParen c ∷ statement_text s w)) (Push (Head If) inside) refl refl refl
      (takes (expr_goes v Target ByFrame (Head If ∷ fs) true (mark RightParen c ∷ statement_text s w) g.0 refl refl refl
      (by_close (expr_ending v) ByFrame (Head If ∷ fs) RightParen c (statement_text s w) refl refl
      (takes (statement_goes s (Branch ∷ fs) w g.1 (else_none (is_open s) w ne) (branch_ends fs w ne k))))))))
  statement_goes (if_else a o v c s n t) fs w g ne k =
      on Need fs (word IfWord a) (mark LeftParen o ∷ expr_text v (mark RightParen c ∷ statement_text s (word Else n ∷ statement_text t w))) (Go (Open (Head If))) refl refl refl
      (takes (on (Open (Head If)) fs (mark LeftParen o) (expr_text v (mark RightParen c ∷ statement_text s (word Else n ∷ statement_text t w))) (Push (Head If) inside) refl refl refl
      (takes (expr_goes v Target ByFrame (Head If ∷ fs) true (mark RightParen c ∷ statement_text s (word Else n ∷ statement_text t w)) g.0.0 refl refl refl
      (by_close (expr_ending v) ByFrame (Head If ∷ fs) RightParen c (statement_text s (word Else n ∷ statement_text t w)) refl refl
      (takes (statement_goes s (Branch ∷ fs) (word Else n ∷ statement_text t w) g.1 (closed_none (is_open s) (word Else n ∷ statement_text t w) g.0.1)
      (on Between (Branch ∷ fs) (word Else n) (statement_text t w) (Pop Need) refl refl refl (takes (statement_goes t fs w g.2 ne k))))))))))
  statement_goes (do_while a s n o v c t) fs w g ne k =
      on Need fs (word DoWord a) (statement_text s (word While n ∷ mark LeftParen o ∷ expr_text v (mark RightParen c ∷ end_text t w))) (Push Do Need) refl refl refl
      (takes (statement_goes s (Do ∷ fs) (word While n ∷ mark LeftParen o ∷ expr_text v (mark RightParen c ∷ end_text t w)) g.0 (else_none (is_open s) (word While n ∷ mark LeftParen o ∷ expr_text v (mark RightParen c ∷ end_text t w)) refl)
      (on_between (Do ∷ fs) (word While n) (mark LeftParen o ∷ expr_text v (mark RightParen c ∷ end_text t w)) (Pop (Open (Head DoWhile))) refl refl refl
      (takes (on (Open (Head DoWhile)) fs (mark LeftParen o) (expr_text v (mark RightParen c ∷ end_text t w)) (Push (Head DoWhile) inside) refl refl refl
      (takes (expr_goes v Target ByFrame (Head DoWhile ∷ fs) true (mark RightParen c ∷ end_text t w) g.1 refl refl refl
      (by_close (expr_ending v) ByFrame (Head DoWhile ∷ fs) RightParen c (end_text t w) refl refl (takes (at_end_goes fs t w g.2 k))))))))))
  statement_goes (loop x a o v c s) fs w g ne k =
      on Need fs (word x a) (mark LeftParen o ∷ expr_text v (mark RightParen c ∷ statement_text s w)) (Go (Open (Head Loop))) (loop_word x g.0) refl refl
      (takes (on (Open (Head Loop)) fs (mark LeftParen o) (expr_text v (mark RightParen c ∷ statement_text s w)) (Push (Head Loop) inside) refl refl refl
      (takes (expr_goes v Target ByFrame (Head Loop ∷ fs) true (mark RightParen c ∷ statement_text s w) g.1 refl refl refl
      (by_close (expr_ending v) ByFrame (Head Loop ∷ fs) RightParen c (statement_text s w) refl refl (takes (statement_goes s fs w g.2 ne k)))))))
  statement_goes (for a o x m y n z c s) fs w g ne k =
      on Need fs (word For a) (mark LeftParen o ∷ optional_text x (mark Semicolon m ∷ optional_text y (mark Semicolon n ∷ optional_text z (mark RightParen c ∷ statement_text s w)))) (Go (Open (Head Init))) refl refl refl
      (takes (on (Open (Head Init)) fs (mark LeftParen o) (optional_text x (mark Semicolon m ∷ optional_text y (mark Semicolon n ∷ optional_text z (mark RightParen c ∷ statement_text s w)))) (Push (Head Init) MayLack) refl refl refl
      (takes (optional_goes x Semicolon (Head Init) fs false m (optional_text y (mark Semicolon n ∷ optional_text z (mark RightParen c ∷ statement_text s w))) g.0.0 refl refl refl refl refl refl
      (takes (optional_goes y Semicolon (Head Test) fs true n (optional_text z (mark RightParen c ∷ statement_text s w)) g.0.1 refl refl refl refl refl refl
      (takes (optional_goes z RightParen (Head Loop) fs true c (statement_text s w) g.0.2 refl refl refl refl refl refl
      (takes (statement_goes s fs w g.1 ne k))))))))))
  statement_goes (for_var a o v ds m y n z c s) fs w g ne k =
      let rest = optional_goes y Semicolon (Head Test) fs true n (optional_text z (mark RightParen c ∷ statement_text s w)) g.0.1 refl refl refl refl refl refl (takes (optional_goes z RightParen (Head Loop) fs true c (statement_text s w) g.0.2 refl refl refl refl refl refl (takes (statement_goes s fs w g.1 ne k)))) in
      on Need fs (word For a) (mark LeftParen o ∷ word Var v ∷ decls_text ds (mark Semicolon m ∷ optional_text y (mark Semicolon n ∷ optional_text z (mark RightParen c ∷ statement_text s w)))) (Go (Open (Head Init))) refl refl refl
      (takes (on (Open (Head Init)) fs (mark LeftParen o) (word Var v ∷ decls_text ds (mark Semicolon m ∷ optional_text y (mark Semicolon n ∷ optional_text z (mark RightParen c ∷ statement_text s w)))) (Push (Head Init) MayLack) refl refl refl
      (takes (on MayLack (Head Init ∷ fs) (word Var v) (decls_text ds (mark Semicolon m ∷ optional_text y (mark Semicolon n ∷ optional_text z (mark RightParen c ∷ statement_text s w)))) (Swap (Head First) (Binding ByFrame)) refl refl refl
      (takes (first_decls_go ds fs (mark Semicolon m ∷ optional_text y (mark Semicolon n ∷ optional_text z (mark RightParen c ∷ statement_text s w))) g.0.0
      (λ j. declared_close j ByFrame (Head First ∷ fs) Semicolon m (optional_text y (mark Semicolon n ∷ optional_text z (mark RightParen c ∷ statement_text s w))) refl refl (takes rest))
      (λ j. declared_close j ByFrame (Head Next ∷ fs) Semicolon m (optional_text y (mark Semicolon n ∷ optional_text z (mark RightParen c ∷ statement_text s w))) refl refl (takes rest))))))))
  statement_goes (for_in a o l n v c s) fs w g ne k =
      on Need fs (word For a) (mark LeftParen o ∷ left_text l (word In n ∷ expr_text v (mark RightParen c ∷ statement_text s w))) (Go (Open (Head Init))) refl refl refl
      (takes (on (Open (Head Init)) fs (mark LeftParen o) (left_text l (word In n ∷ expr_text v (mark RightParen c ∷ statement_text s w))) (Push (Head Init) MayLack) refl refl refl
      (takes (lacks (Head Init) fs (left_text l (word In n ∷ expr_text v (mark RightParen c ∷ statement_text s w)))
      (left_goes l Header ByFrame (Head Init ∷ fs) (word In n ∷ expr_text v (mark RightParen c ∷ statement_text s w)) g.0
      (on (AfterLeft Header ByFrame) (Head Init ∷ fs) (word In n) (expr_text v (mark RightParen c ∷ statement_text s w)) (Swap (Head Loop) inside) refl refl refl
      (takes (expr_goes v Target ByFrame (Head Loop ∷ fs) true (mark RightParen c ∷ statement_text s w) g.1 refl refl refl
      (by_close (expr_ending v) ByFrame (Head Loop ∷ fs) RightParen c (statement_text s w) refl refl (takes (statement_goes s fs w g.2 ne k)))))))))))
  statement_goes (for_var_in a o v d n x c s) fs w g ne k =
      on Need fs (word For a) (mark LeftParen o ∷ word Var v ∷ decl_text d (word In n ∷ expr_text x (mark RightParen c ∷ statement_text s w))) (Go (Open (Head Init))) refl refl refl
      (takes (on (Open (Head Init)) fs (mark LeftParen o) (word Var v ∷ decl_text d (word In n ∷ expr_text x (mark RightParen c ∷ statement_text s w))) (Push (Head Init) MayLack) refl refl refl
      (takes (on MayLack (Head Init ∷ fs) (word Var v) (decl_text d (word In n ∷ expr_text x (mark RightParen c ∷ statement_text s w))) (Swap (Head First) (Binding ByFrame)) refl refl refl
      (takes (decl_goes d ByFrame (Head First ∷ fs) false (word In n ∷ expr_text x (mark RightParen c ∷ statement_text s w)) g.0 refl
      (declared_in (decl_ending d) fs n (expr_text x (mark RightParen c ∷ statement_text s w))
      (expr_goes x Target ByFrame (Head Loop ∷ fs) true (mark RightParen c ∷ statement_text s w) g.1 refl refl refl
      (by_close (expr_ending x) ByFrame (Head Loop ∷ fs) RightParen c (statement_text s w) refl refl (takes (statement_goes s fs w g.2 ne k)))))))))))
  statement_goes (jump x n t) fs w g ne k =
      on Need fs (word x n) (end_text t w) (Go AfterJump) (jump_word x g.0) refl refl (takes (jump_end_goes fs t w g.1 k))
  statement_goes (jump_to x n i t) fs w g ne k =
      on Need fs (word x n) (lexeme i false ∷ end_text t w) (Go AfterJump) (jump_word x g.0) refl refl
      (takes (tested AfterJump AtEnd fs (lexeme i false) (end_text t w) (is_ident i && not false) (steps.at_end i) refl (both (is_ident i) (not false) g.1 refl) refl (at_end_goes fs t w g.2 k)))
  statement_goes (return_only n t) fs w g ne k =
      on Need fs (word Return n) (end_text t w) (Go AfterReturn) refl refl refl (takes (return_end_goes fs t w g k))
  statement_goes (return n v t) fs w g ne k =
      on Need fs (word Return n) (expr_text v (end_text t w)) (Go AfterReturn) refl refl refl
      (takes (return_begins fs (expr_text v (end_text t w)) g.1
      (expr_goes v Target BySemicolon fs true (end_text t w) g.0 refl refl refl (end_goes (expr_ending v) fs t w g.2 k))))
  statement_goes (throw n v t) fs w g ne k =
      on Need fs (word Throw n) (expr_text v (end_text t w)) (Go AfterThrow) refl refl refl
      (takes (throw_begins fs (expr_text v (end_text t w)) g.1
      (expr_goes v Target BySemicolon fs true (end_text t w) g.0 refl refl refl (end_goes (expr_ending v) fs t w g.2 k))))
  statement_goes (label x c s) fs w g ne k =
      on Need fs x (mark Colon c ∷ statement_text s w) (Go AfterName) (ident_statement x.token g.0) refl refl
      (takes (on AfterName fs (mark Colon c) (statement_text s w) (Go Need) refl refl refl (takes (statement_goes s fs w g.1 ne k))))
  statement_goes (debugger n t) fs w g ne k =
      on Need fs (word Debugger n) (end_text t w) (Go AtEnd) refl refl refl (takes (at_end_goes fs t w g k))
  statement_goes (switch a o v c l cs r) fs w g ne k =
      on Need fs (word SwitchWord a) (mark LeftParen o ∷ expr_text v (mark RightParen c ∷ mark LeftBrace l ∷ cases_text cs (mark RightBrace r ∷ w))) (Go (Open (Head Switch))) refl refl refl
      (takes (on (Open (Head Switch)) fs (mark LeftParen o) (expr_text v (mark RightParen c ∷ mark LeftBrace l ∷ cases_text cs (mark RightBrace r ∷ w))) (Push (Head Switch) inside) refl refl refl
      (takes (expr_goes v Target ByFrame (Head Switch ∷ fs) true (mark RightParen c ∷ mark LeftBrace l ∷ cases_text cs (mark RightBrace r ∷ w)) g.0 refl refl refl
      (by_close (expr_ending v) ByFrame (Head Switch ∷ fs) RightParen c (mark LeftBrace l ∷ cases_text cs (mark RightBrace r ∷ w)) refl refl
      (takes (on (Open (Clauses NoClause)) fs (mark LeftBrace l) (cases_text cs (mark RightBrace r ∷ w)) (Push (Clauses NoClause) Between) refl refl refl
      (takes (cases_goes cs NoClause InClause fs (mark RightBrace r ∷ w) refl refl refl g.1 (clauses_close NoClause fs r w k) (clauses_close InClause fs r w k))))))))))
  statement_goes (switch_default a o v c l cs d n ss ds r) fs w g ne k =
      let rest = statements_goes ss (Clauses Defaulted ∷ fs) (cases_text ds (mark RightBrace r ∷ w)) refl g.1 (cases_goes ds Defaulted Defaulted fs (mark RightBrace r ∷ w) refl refl refl g.2 (clauses_close Defaulted fs r w k) (clauses_close Defaulted fs r w k)) in
      on Need fs (word SwitchWord a) (mark LeftParen o ∷ expr_text v (mark RightParen c ∷ mark LeftBrace l ∷ cases_text cs (word Default d ∷ mark Colon n ∷ statements_text ss (cases_text ds (mark RightBrace r ∷ w))))) (Go (Open (Head Switch))) refl refl refl
      (takes (on (Open (Head Switch)) fs (mark LeftParen o) (expr_text v (mark RightParen c ∷ mark LeftBrace l ∷ cases_text cs (word Default d ∷ mark Colon n ∷ statements_text ss (cases_text ds (mark RightBrace r ∷ w))))) (Push (Head Switch) inside) refl refl refl
      (takes (expr_goes v Target ByFrame (Head Switch ∷ fs) true (mark RightParen c ∷ mark LeftBrace l ∷ cases_text cs (word Default d ∷ mark Colon n ∷ statements_text ss (cases_text ds (mark RightBrace r ∷ w)))) g.0.0 refl refl refl
      (by_close (expr_ending v) ByFrame (Head Switch ∷ fs) RightParen c (mark LeftBrace l ∷ cases_text cs (word Default d ∷ mark Colon n ∷ statements_text ss (cases_text ds (mark RightBrace r ∷ w)))) refl refl
      (takes (on (Open (Clauses NoClause)) fs (mark LeftBrace l) (cases_text cs (word Default d ∷ mark Colon n ∷ statements_text ss (cases_text ds (mark RightBrace r ∷ w)))) (Push (Clauses NoClause) Between) refl refl refl
      (takes (cases_goes cs NoClause InClause fs (word Default d ∷ mark Colon n ∷ statements_text ss (cases_text ds (mark RightBrace r ∷ w))) refl refl refl g.0.1
      (default_goes NoClause fs d n (statements_text ss (cases_text ds (mark RightBrace r ∷ w))) refl rest)
      (default_goes InClause fs d n (statements_text ss (cases_text ds (mark RightBrace r ∷ w))) refl rest))))))))))
  statement_goes (try_catch n b c) fs w g ne k =
      on Need fs (word TryWord n) (block_text b (catch_text c w)) (Go (Open (BlockFrame TryBlock))) refl refl refl
      (takes (block_goes b (Open (BlockFrame TryBlock)) TryBlock fs (catch_text c w) (λ m. refl) refl g.0 (catch_goes c fs w g.1 (catch_ends fs w k))))
  statement_goes (try_finally n b f) fs w g ne k =
      on Need fs (word TryWord n) (block_text b (finally_text f w)) (Go (Open (BlockFrame TryBlock))) refl refl refl
      (takes (block_goes b (Open (BlockFrame TryBlock)) TryBlock fs (finally_text f w) (λ m. refl) refl g.0 (finally_goes f AfterTry fs w (λ m. refl) refl g.1 k)))
  statement_goes (try_both n b c f) fs w g ne k =
      on Need fs (word TryWord n) (block_text b (catch_text c (finally_text f w))) (Go (Open (BlockFrame TryBlock))) refl refl refl
      (takes (block_goes b (Open (BlockFrame TryBlock)) TryBlock fs (catch_text c (finally_text f w)) (λ m. refl) refl g.0
      (catch_goes c fs (finally_text f w) g.1 (finally_goes f AfterCatch fs w (λ m. refl) refl g.2 k))))

  cases_goes : {hs : List ℕ} (cs : Cases) (p q : Phase) (fs : List Frame) (w : List Lexeme) → steps.with_clause p ≡ q → steps.with_clause q ≡ q → is_list (Clauses q ∷ fs) ≡ true → GoodCases cs w → Accepts (at Between (Clauses p ∷ fs)) w hs → Accepts (at Between (Clauses q ∷ fs)) w hs → Accepts (at Between (Clauses p ∷ fs)) (cases_text cs w) (cases_depths (suc (length fs)) cs hs)
  cases_goes no_case p q fs w pq qq l g kp kq = kp
  cases_goes (more_cases a v c ss cs) p q fs w pq qq l g kp kq =
      on_between (Clauses p ∷ fs) (word Case a) (expr_text v (mark Colon c ∷ statements_text ss (cases_text cs w))) (Swap (Clauses q) inside) refl (ap (λ z. Swap (Clauses z) inside) pq) refl
      (takes (expr_goes v Target ByFrame (Clauses q ∷ fs) true (mark Colon c ∷ statements_text ss (cases_text cs w)) g.0 refl refl refl
      (by_close (expr_ending v) ByFrame (Clauses q ∷ fs) Colon c (statements_text ss (cases_text cs w)) refl refl
      (takes (statements_goes ss (Clauses q ∷ fs) (cases_text cs w) l g.1 (cases_goes cs q q fs w qq qq l g.2 kq kq))))))

  catch_goes : {hs : List ℕ} (c : Catch) (fs : List Frame) (w : List Lexeme) → GoodCatch c w → Accepts (at AfterCatch fs) w hs → Accepts (at AfterTry fs) (catch_text c w) (catch_depths (length fs) c hs)
  catch_goes (catch a o x d b) fs w g k =
      on AfterTry fs (word CatchWord a) (mark LeftParen o ∷ x ∷ mark RightParen d ∷ block_text b w) (Go (Open (Parameters Handler))) refl refl refl
      (takes (on (Open (Parameters Handler)) fs (mark LeftParen o) (x ∷ mark RightParen d ∷ block_text b w) (Push (Parameters Handler) FirstParameter) refl refl refl
      (takes (ident_first Handler fs x (mark RightParen d ∷ block_text b w) refl g.0
      (names_end Handler fs d (block_text b w) (block_goes b (Open (BlockFrame CatchBlock)) CatchBlock fs w (λ m. refl) refl g.1 k))))))

  finally_goes : {hs : List ℕ} (f : Finally) (c : Control) (fs : List Frame) (w : List Lexeme) → ((n : Bool) → steps.consume c (top_of fs) (AWord FinallyWord) n ≡ Go (Open (BlockFrame FinallyBlock))) → leaves c (AWord FinallyWord) ≡ false → GoodFinally f w → Accepts (at Between fs) w hs → Accepts (at c fs) (finally_text f w) (finally_depths (length fs) f hs)
  finally_goes (finally a b) c fs w opens stay g k =
      on c fs (word FinallyWord a) (block_text b w) (Go (Open (BlockFrame FinallyBlock))) (opens a) refl stay
      (takes (block_goes b (Open (BlockFrame FinallyBlock)) FinallyBlock fs w (λ m. refl) refl g k))

  elements_goes : {hs : List ℕ} (es : Elements) (fs : List Frame) (w : List Lexeme) → is_list fs ≡ true → TakesFunction fs → GoodElements es w → Accepts (at Between fs) w hs → Accepts (at Between fs) (elements_text es w) (elements_depths (length fs) es hs)
  elements_goes no_element fs w l d g k = k
  elements_goes (more_elements e es) fs w l d g k = element_goes e fs (elements_text es w) l d g.0 (elements_goes es fs w l d g.1 k)

  element_goes : {hs : List ℕ} (e : Element) (fs : List Frame) (w : List Lexeme) → is_list fs ≡ true → TakesFunction fs → GoodElement e w → Accepts (at Between fs) w hs → Accepts (at Between fs) (element_text e w) (element_depths (length fs) e hs)
  element_goes (statement s) fs w l d g k =
      need_between fs (statement_text s w) l (statement_goes s fs w g (list_ends fs (is_open s) w l k) k)
  element_goes (declaration n x ps b) fs w l d g k =
      on_between fs (word FunctionWord n) (x ∷ params_text ps (body_text b w)) (Go DeclarationName) (list_whole fs l) d refl
      (takes (tested DeclarationName (Open (Parameters Declaration)) fs x (params_text ps (body_text b w)) (is_ident x.token) Refuse refl g.0 refl
      (params_goes ps (Open (Parameters Declaration)) Declaration fs (body_text b w) (λ m. refl) refl refl refl refl g.1
      (body_goes b Declaration fs w g.2 k))))

-- each program is accepted, and its tokens stand as deep as its tree has them
pub program_goes : (es : Elements) → GoodElements es [] → Accepts steps.begun (elements_text es []) (elements_depths 0 es [])
unfolding TakesFunction
program_goes es g = elements_goes es [] [] refl refl g (refl, refl)
