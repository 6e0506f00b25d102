-- What may follow where an expression is under way, token by token: where the rest may follow after the
-- machine's answer, the token and the rest may follow before it.
use Rattle.std.proofs.Common.{◌≡◌, Bool, true, false, ◌&&◌, if◌then◌else◌, List, [], ◌∷◌, refl, sym, subst}
use Rattle.es5_lexer.specs.declared.tokens.Word.{Word}
use Rattle.es5_lexer.specs.declared.tokens.Word.TheVariants.{New as NewWord, Function as FunctionWord, Var, In}
use Rattle.es5_lexer.specs.declared.tokens.Punct.{Punct}
use Rattle.es5_lexer.specs.declared.tokens.Punct.TheVariants.{LeftBrace, RightBrace, LeftParen, RightParen, LeftBracket, RightBracket, Dot, Semicolon, Comma, Question, Colon, Assign as Equals}
use Rattle.es5_lexer.specs.declared.tokens.Token.{Token}
use Rattle.es5_lexer.specs.declared.tokens.Token.TheVariants.{Get, Set, Word as AWord, Punct as APunct}
use Rattle.es5_lexer.specs.declared.tokens.Lexeme.{Lexeme}
use Rattle.es5_trees.specs.Words.{lexeme, mark, word, is_ident, is_name, is_key, is_atom, is_update, is_prefix, level, is_binary, is_assign}
use Rattle.es5_trees.specs.Trees.{one_name, more_names, no_params, params, semicolon, one, more, value, assign, plain, choice, unmarked, prefix, left, update, Left, new_left, call_left, New, member, new_new, call, call_call, call_index, call_dot, primary, function_member, member_index, member_dot, new_member, no_args, args, nameless, named, body, atom, parens, empty_array, array, empty_object, object, comma_object, one_item, more_items, one_prop, more_props, Prop, pair, getter, setter, Decl, bare, initialised, one_decl, more_decls, absent, present, braces}
use Rattle.es5_trees.specs.Spelling.{assign_text, unary_text, left_text, new_text, prop_text, decl_text}
use Rattle.es5_trees.specs.Endings.{Ending, after_operand, after_update, after_name, decl_ending}
use Rattle.es5_trees.specs.Good.{may_stand, GoodLeft, GoodNew, GoodProp, GoodDecl}
use Rattle.es5_machine.specs.Classes.{is_question, is_left_paren, is_right_paren}
use Rattle.es5_machine.specs.declared.states.Role.{Role}
use Rattle.es5_machine.specs.declared.states.Role.TheVariants.{Plain, Target, Header}
use Rattle.es5_machine.specs.declared.states.Ends.{Ends}
use Rattle.es5_machine.specs.declared.states.Ends.TheVariants.{ByFrame, BySemicolon, ByDeclaration}
use Rattle.es5_machine.specs.declared.states.Part.TheVariants.{If, Loop, Switch, DoWhile, Init, First, Next, Test}
use Rattle.es5_machine.specs.declared.states.Owner.{Owner}
use Rattle.es5_machine.specs.declared.states.Owner.TheVariants.{Declaration, Expression, Getter, Setter, Handler}
use Rattle.es5_machine.specs.declared.states.Frame.{Frame}
use Rattle.es5_machine.specs.declared.states.Frame.TheVariants.{Paren, Index, Array, Object, Conditional, Head, Parameters, Clauses}
use Rattle.es5_machine.specs.declared.states.Control.TheVariants.{Open, Binding, Bound, Operand, Callee, AfterLeft, AfterDot, AfterKey, AfterGet, AfterSet, DeclarationName, FunctionName, FirstParameter, NextParameter, AfterParameter}
use Rattle.es5_machine.specs.declared.states.Answer.TheVariants.{Refuse, Go, Push, Pop}
use Rattle.es5_machine.specs.Steps as steps
use Rattle.es5_machine.specs.Steps.{Config, at, top_of, popped, without_branches, settled, in_stands, inside, ended, omits, refuses, leaves}
use Rattle.std.proofs.lemmas.Bool.{leb-true}
use Rattle.es5_trees.proofs.ChainLemmas.{chain_levels}
use Rattle.es5_trees.specs.Chains.{nothing, further, tail_text, chain_ending}
use Rattle.es5_machine.proofs.Residuals.{MarkThen, mark_then, IdentThen, ident_then, AssignThen, assign_then, ends_so, chooses, ChainThen, chain_then, ExprThen, expr_then, MoreThen, closes, goes_on, OptionalThen, optional_then, ItemsThen, no_items, some_items, ItemsMore, items_end, items_on, PropsThen, no_props, some_props, comma_props, PropsMore, props_end, props_on, NamesThen, names_then, FirstNames, no_names, some_names, MoreNames, names_end, names_on, ParamsThen, params_then, BodyThen, body_then, BlockThen, block_then, FunctionThen, nameless_then, named_then, StatementsThen, statements_then, ElementsThen, elements_then, EndThen, end_then, ExprEnd, expr_end, ExprMore, expr_ends, expr_on, DeclsEnd, decls_end, DeclsMore, decls_ends, decls_on, HeadDecls, head_decls, HeadMore, head_ends, head_on, FirstDecls, first_decls, decl_in, FirstMore, first_more, first_in, HeaderThen, header_expr, header_in, init_absent, init_header, init_var, HeadOfLeft, in_member, in_call, news_text, head_text, GoodHead, HeaderBy, AfterNames, FirstOf, NextOf, LaterOf, LoopBody, LastPart, TestPart, InPart, context, After, Region, LeftRest, EndedRest, UnaryRest, BindingRest, OpenRest, Rest, Means}

pub differ : false ≡ true → ⊥
differ e = cc

pub and_left : (a b : Bool) → a && b ≡ true → a ≡ true
and_left true b e = refl
and_left false b e = e

pub and_right : (a b : Bool) → a && b ≡ true → b ≡ true
and_right true b e = e
and_right false b e = absurd (differ e)

-- from AssignmentExpressions to Expressions

pub expr_of : (i : Bool) (p : Punct) (K : List Lexeme → Type 0) (w : List Lexeme) → AssignThen i (λ k v. MoreThen i p K v) w → ExprThen i p K w
expr_of i p K _ (assign_then a _ g (closes m rest k)) = expr_then (one a) m rest g k
expr_of i p K _ (assign_then a _ g (goes_on c e m rest h k)) = expr_then (more a c e) m rest (g, h) k

pub expr_end_of : (K : List Lexeme → Type 0) (w : List Lexeme) → AssignThen true (λ k v. ExprMore k K v) w → ExprEnd K w
expr_end_of K _ (assign_then a _ g (expr_ends _ (end_then t rest e k))) = expr_end (one a) t rest g e k
expr_end_of K _ (assign_then a _ g (expr_on n _ (expr_end x t rest h e k))) = expr_end (more a n x) t rest (g, h) e k

-- from flat chains to AssignmentExpressions

cond_from : (i : Bool) (K : Ending → List Lexeme → Type 0) (w : List Lexeme) → ChainThen i K w → AssignThen i K w
cond_from i K _ (chain_then u tail rest g t (ends_so _ k)) =
    let b = chain_levels i (chain_ending u tail) (unary_text u (tail_text tail rest)) rest (record { first = u; tail = tail; good_first = g; good_tail = t; ends = refl; spells = refl }) in
    subst (λ (v : List Lexeme). AssignThen i K v) (sym b.spells) (assign_then (value (plain b.tree)) rest b.good (subst (λ (j : Ending). K j rest) (sym b.ends) k))
cond_from i K _ (chain_then u tail _ g t (chooses q a c d rest ga gd k)) =
    let more : List Lexeme = mark Question q ∷ assign_text a (mark Colon c ∷ assign_text d rest) in
    let b = chain_levels i (chain_ending u tail) (unary_text u (tail_text tail more)) more (record { first = u; tail = tail; good_first = g; good_tail = t; ends = refl; spells = refl }) in
    subst (λ (v : List Lexeme). AssignThen i K v) (sym b.spells) (assign_then (value (choice b.tree q a c d)) rest (b.good, ga, gd) k)

header_from : (e : Ends) (fs : List Frame) (w : List Lexeme) → AssignThen (in_stands e (top_of fs)) (λ k v. EndedRest e fs k v) w → HeaderBy e (context fs) w
header_from ByFrame [] w a = tt
header_from ByFrame (Head Init ∷ fs) w a = header_expr w (expr_of false Semicolon (λ v. TestPart (context fs) v) w a)
header_from ByFrame (_ ∷ fs) w a = tt
header_from BySemicolon fs w a = tt
header_from ByDeclaration fs w a = tt

lift : (r : Role) (e : Ends) (fs : List Frame) (w : List Lexeme) → ChainThen (in_stands e (top_of fs)) (λ k v. EndedRest e fs k v) w → Region r e fs w
lift Plain e fs w c = c
lift Target e fs w c = cond_from (in_stands e (top_of fs)) (λ k v. EndedRest e fs k v) w c
lift Header e fs w c = header_from e fs w (cond_from (in_stands e (top_of fs)) (λ k v. EndedRest e fs k v) w c)

-- what was read of a LeftHandSideExpression, as one

new_of : List Bool → New → New
new_of [] x = x
new_of (n ∷ ns) x = new_of ns (new_new n x)

new_of_text : (ns : List Bool) (x : New) (w : List Lexeme) → new_text (new_of ns x) w ≡ news_text ns (new_text x w)
unfolding new_of
new_of_text [] x w = refl
new_of_text (n ∷ ns) x w = new_of_text ns (new_new n x) w

new_of_good : (ns : List Bool) (x : New) (w : List Lexeme) → GoodNew x w → GoodNew (new_of ns x) w
unfolding new_of
new_of_good [] x w g = g
new_of_good (n ∷ ns) x w g = new_of_good ns (new_new n x) w g

left_of : HeadOfLeft → Left
left_of (in_member ns m) = new_left (new_of ns (member m))
left_of (in_call c) = call_left c

left_of_text : (h : HeadOfLeft) (w : List Lexeme) → left_text (left_of h) w ≡ head_text h w
unfolding left_of
left_of_text (in_member ns m) w = new_of_text ns (member m) w
left_of_text (in_call c) w = refl

left_of_good : (h : HeadOfLeft) (w : List Lexeme) → GoodHead h w → GoodLeft (left_of h) w
unfolding left_of
left_of_good (in_member ns m) w g = new_of_good ns (member m) w g
left_of_good (in_call c) w g = g

-- an operand that nothing makes longer is a UnaryExpression

by_unary : (r : Role) (e : Ends) (fs : List Frame) (w : List Lexeme) → UnaryRest after_operand e fs w → LeftRest r e fs w
by_unary r e fs w k h g =
    lift r e fs (head_text h w) (subst (λ (v : List Lexeme). ChainThen (in_stands e (top_of fs)) (λ j u. EndedRest e fs j u) v) (left_of_text h w) (k (unmarked (left (left_of h))) refl (left_of_good h w g)))

-- after which its expression ends

by_end : (k : Ending) (e : Ends) (fs : List Frame) (w : List Lexeme) → EndedRest e fs k w → UnaryRest k e fs w
by_end k e fs w h u is g =
    chain_then u nothing w g tt (ends_so w (subst (λ (j : Ending). EndedRest e fs j w) (sym is) h))

-- a whole expression may end

pub left_ends : (r : Role) (e : Ends) (fs : List Frame) (w : List Lexeme) → EndedRest e fs after_operand w → LeftRest r e fs w
left_ends r e fs w h = by_unary r e fs w (by_end after_operand e fs w h)

pub unary_ends : (k : Ending) (e : Ends) (fs : List Frame) (w : List Lexeme) → EndedRest e fs k w → UnaryRest k e fs w
unary_ends k e fs w h = by_end k e fs w h

-- operands

paren_back : (r : Role) (e : Ends) (fs : List Frame) (n : Bool) (w : List Lexeme) (ns : List Bool) → ExprThen true RightParen (λ v. LeftRest r e fs v) w → Region r e fs (news_text ns (mark LeftParen n ∷ w))
paren_back r e fs n _ ns (expr_then x m rest g k) = k (in_member ns (primary (parens n x m))) g

array_back : (r : Role) (e : Ends) (fs : List Frame) (n : Bool) (w : List Lexeme) (ns : List Bool) → ItemsThen (λ v. LeftRest r e fs v) w → Region r e fs (news_text ns (mark LeftBracket n ∷ w))
array_back r e fs n _ ns (no_items elisions c rest k) = k (in_member ns (primary (empty_array n elisions c))) tt
array_back r e fs n _ ns (some_items is elisions c rest g k) = k (in_member ns (primary (array n is elisions c))) g

object_back : (r : Role) (e : Ends) (fs : List Frame) (n : Bool) (w : List Lexeme) (ns : List Bool) → PropsThen (λ v. LeftRest r e fs v) w → Region r e fs (news_text ns (mark LeftBrace n ∷ w))
object_back r e fs n _ ns (no_props c rest k) = k (in_member ns (primary (empty_object n c))) tt
object_back r e fs n _ ns (some_props ps c rest g k) = k (in_member ns (primary (object n ps c))) g
object_back r e fs n _ ns (comma_props ps m c rest g k) = k (in_member ns (primary (comma_object n ps m c))) g

function_back : (r : Role) (e : Ends) (fs : List Frame) (n : Bool) (w : List Lexeme) (ns : List Bool) → FunctionThen (λ v. LeftRest r e fs v) w → Region r e fs (news_text ns (word FunctionWord n ∷ w))
function_back r e fs n _ ns (nameless_then _ (params_then ps _ gp (body_then b rest gb k))) =
    k (in_member ns (function_member (nameless n ps b))) (gp, gb)
function_back r e fs n _ ns (named_then x _ is (params_then ps _ gp (body_then b rest gb k))) =
    k (in_member ns (function_member (named n x ps b))) (is, gp, gb)

opening_back : (r : Role) (e : Ends) (fs : List Frame) (t : Token) (n : Bool) (w : List Lexeme) → Means (steps.opening r e t) fs w → (ns : List Bool) → Region r e fs (news_text ns (lexeme t n ∷ w))
opening_back r e fs (AWord NewWord) n w m ns = m (n ∷ ns)
opening_back r e fs (AWord FunctionWord) n w m ns = function_back r e fs n w ns m
opening_back r e fs (APunct LeftParen) n w m ns = paren_back r e fs n w ns (expr_of true RightParen (λ v. LeftRest r e fs v) w m)
opening_back r e fs (APunct LeftBracket) n w m ns = array_back r e fs n w ns m
opening_back r e fs (APunct LeftBrace) n w m ns = object_back r e fs n w ns m
opening_back r e fs _ n w m ns = absurd m

callee_back : (r : Role) (e : Ends) (fs : List Frame) (t : Token) (n : Bool) (w : List Lexeme) → Means (steps.callee r e t) fs w → (ns : List Bool) → Region r e fs (news_text ns (lexeme t n ∷ w))
callee_back r e fs t n w m ns = by (is_atom t) refl m
  where
    by : (b : Bool) → is_atom t ≡ b → Means (if b then Go (AfterLeft r e) else steps.opening r e t) fs w → Region r e fs (news_text ns (lexeme t n ∷ w))
    by true is k = k (in_member ns (primary (atom (lexeme t n)))) is
    by false is k = opening_back r e fs t n w k ns

prefix_chain : (i : Bool) (K : Ending → List Lexeme → Type 0) (x : Lexeme) (w : List Lexeme) → is_prefix x.token ≡ true → ChainThen i K w → ChainThen i K (x ∷ w)
prefix_chain i K x _ is (chain_then u nothing rest g t c) = chain_then (prefix x u) nothing rest (is, g) t c
prefix_chain i K x _ is (chain_then u (further y v tail) rest g t c) = chain_then (prefix x u) (further y v tail) rest (is, g) t c

pub operand_back : (r : Role) (e : Ends) (fs : List Frame) (t : Token) (n : Bool) (w : List Lexeme) → Means (steps.operand r e t) fs w → Region r e fs (lexeme t n ∷ w)
operand_back r e fs t n w m = by (is_prefix t) refl m
  where
    by : (b : Bool) → is_prefix t ≡ b → Means (if b then Go (Operand Plain e) else steps.callee r e t) fs w → Region r e fs (lexeme t n ∷ w)
    by true is c = lift r e fs (lexeme t n ∷ w) (prefix_chain (in_stands e (top_of fs)) (λ k v. EndedRest e fs k v) (lexeme t n) w is c)
    by false is c = callee_back r e fs t n w c []

-- the end of an expression

comma_more : (i : Bool) (p : Punct) (K : List Lexeme → Type 0) (n : Bool) (w : List Lexeme) → ExprThen i p K w → MoreThen i p K (mark Comma n ∷ w)
comma_more i p K n _ (expr_then e m rest g k) = goes_on n e m rest g k

comma_items : (K : List Lexeme → Type 0) (n : Bool) (w : List Lexeme) → ItemsThen K w → ItemsMore K (mark Comma n ∷ w)
comma_items K n _ (no_items ns c rest k) = items_end (n ∷ ns) c rest k
comma_items K n _ (some_items is ns c rest g k) = items_on n is ns c rest g k

comma_back : (f : Frame) (fs : List Frame) (k : Ending) (n : Bool) (w : List Lexeme) → Means (steps.comma f) (f ∷ fs) w → (context (f ∷ fs)).frame k (mark Comma n ∷ w)
comma_back (Paren r e) fs k n w m = comma_more true RightParen (λ v. LeftRest r e fs v) n w (expr_of true RightParen (λ v. LeftRest r e fs v) w m)
comma_back (Index r e) fs k n w m = comma_more true RightBracket (λ v. LeftRest r e fs v) n w (expr_of true RightBracket (λ v. LeftRest r e fs v) w m)
comma_back (Array r e) fs k n w m = comma_items (λ v. LeftRest r e fs v) n w m
comma_back (Object r e) fs k n w m = props_on n w m
comma_back (Head First) fs k n w m = first_more (mark Comma n ∷ w) (head_on n w m)
comma_back (Head Next) fs k n w m = head_on n w m
comma_back (Head If) fs k n w m = comma_more true RightParen _ n w (expr_of true RightParen _ w m)
comma_back (Head Loop) fs k n w m = comma_more true RightParen _ n w (expr_of true RightParen _ w m)
comma_back (Head Switch) fs k n w m = comma_more true RightParen _ n w (expr_of true RightParen _ w m)
comma_back (Head DoWhile) fs k n w m = comma_more true RightParen _ n w (expr_of true RightParen _ w m)
comma_back (Head Init) fs k n w m = comma_more false Semicolon _ n w (expr_of false Semicolon _ w m)
comma_back (Head Test) fs k n w m = comma_more true Semicolon _ n w (expr_of true Semicolon _ w m)
comma_back (Clauses p) fs k n w m = comma_more true Colon _ n w (expr_of true Colon _ w m)
comma_back _ fs k n w m = absurd m

right_paren_back : (f : Frame) (fs : List Frame) (k : Ending) (n : Bool) (w : List Lexeme) → Means (steps.right_paren f) (f ∷ fs) w → (context (f ∷ fs)).frame k (mark RightParen n ∷ w)
right_paren_back (Paren r e) fs k n w m = closes n w m
right_paren_back (Head If) fs k n w m = closes n w m
right_paren_back (Head Loop) fs k n w m = closes n w m
right_paren_back (Head Switch) fs k n w m = closes n w m
right_paren_back (Head DoWhile) fs k n w m = closes n w m
right_paren_back _ fs k n w m = absurd m

right_bracket_back : (f : Frame) (fs : List Frame) (k : Ending) (n : Bool) (w : List Lexeme) → Means (steps.right_bracket f) (f ∷ fs) w → (context (f ∷ fs)).frame k (mark RightBracket n ∷ w)
right_bracket_back (Index r e) fs k n w m = closes n w m
right_bracket_back (Array r e) fs k n w m = items_end [] n w m
right_bracket_back _ fs k n w m = absurd m

right_brace_back : (f : Frame) (fs : List Frame) (k : Ending) (n : Bool) (w : List Lexeme) → Means (steps.right_brace f) (f ∷ fs) w → (context (f ∷ fs)).frame k (mark RightBrace n ∷ w)
right_brace_back (Object r e) fs k n w m = props_end n w m
right_brace_back _ fs k n w m = absurd m

semicolon_back : (f : Frame) (fs : List Frame) (k : Ending) (n : Bool) (w : List Lexeme) → Means (steps.semicolon f) (f ∷ fs) w → (context (f ∷ fs)).frame k (mark Semicolon n ∷ w)
semicolon_back (Head Init) fs k n w m = closes n w m
semicolon_back (Head First) fs k n w m = first_more (mark Semicolon n ∷ w) (head_ends n w m)
semicolon_back (Head Next) fs k n w m = head_ends n w m
semicolon_back (Head Test) fs k n w m = closes n w m
semicolon_back _ fs k n w m = absurd m

colon_back : (f : Frame) (fs : List Frame) (k : Ending) (n : Bool) (w : List Lexeme) → Means (steps.colon f) (f ∷ fs) w → (context (f ∷ fs)).frame k (mark Colon n ∷ w)
colon_back (Conditional e) fs k n w m = mark_then n w m
colon_back (Clauses p) fs k n w m = closes n w m
colon_back _ fs k n w m = absurd m

mark_back : (f : Frame) (fs : List Frame) (k : Ending) (p : Punct) (n : Bool) (w : List Lexeme) → Means (steps.close_mark f p) (f ∷ fs) w → (context (f ∷ fs)).frame k (mark p n ∷ w)
mark_back f fs k Comma n w m = comma_back f fs k n w m
mark_back f fs k RightParen n w m = right_paren_back f fs k n w m
mark_back f fs k RightBracket n w m = right_bracket_back f fs k n w m
mark_back f fs k RightBrace n w m = right_brace_back f fs k n w m
mark_back f fs k Semicolon n w m = semicolon_back f fs k n w m
mark_back f fs k Colon n w m = colon_back f fs k n w m
mark_back f fs k _ n w m = absurd m

word_back : (f : Frame) (fs : List Frame) (k : Ending) (x : Word) (n : Bool) (w : List Lexeme) → Means (steps.close_word f x) (f ∷ fs) w → (context (f ∷ fs)).frame k (word x n ∷ w)
word_back (Head First) fs k In n w m = first_in n w (expr_of true RightParen (λ v. LoopBody (context fs) v) w m)
word_back _ fs k _ n w m = absurd m

frame_back : (f : Frame) (fs : List Frame) (k : Ending) (t : Token) (n : Bool) (w : List Lexeme) → Means (steps.close_frame f t) (f ∷ fs) w → (context (f ∷ fs)).frame k (lexeme t n ∷ w)
frame_back f fs k (APunct p) n w m = mark_back f fs k p n w m
frame_back f fs k (AWord x) n w m = word_back f fs k x n w m
frame_back f fs k _ n w m = absurd m

semicolon_ends : (fs : List Frame) (k : Ending) (n : Bool) (w : List Lexeme) → After fs w → EndThen k (λ v. After fs v) (mark Semicolon n ∷ w)
semicolon_ends fs k n w a = end_then (semicolon n) w tt a

pub close_back : (e : Ends) (fs : List Frame) (k : Ending) (t : Token) (n : Bool) (w : List Lexeme) → Means (steps.close e (top_of fs) t) fs w → EndedRest e fs k (lexeme t n ∷ w)
close_back ByFrame [] k t n w m = absurd m
close_back ByFrame (f ∷ fs) k t n w m = frame_back f fs k t n w m
close_back BySemicolon fs k (APunct Comma) n w m = expr_on n w (expr_end_of (λ v. After fs v) w m)
close_back BySemicolon fs k (APunct Semicolon) n w m = expr_ends (mark Semicolon n ∷ w) (semicolon_ends fs k n w m)
close_back BySemicolon fs k _ n w m = absurd m
close_back ByDeclaration fs k (APunct Comma) n w m = decls_on n w m
close_back ByDeclaration fs k (APunct Semicolon) n w m = decls_ends (mark Semicolon n ∷ w) (semicolon_ends fs k n w m)
close_back ByDeclaration fs k _ n w m = absurd m

-- after a UnaryExpression

operator_back : (k : Ending) (e : Ends) (fs : List Frame) (x : Lexeme) (w : List Lexeme) → steps.is_operator e (top_of fs) x.token ≡ true → Region Plain e fs w → UnaryRest k e fs (x ∷ w)
operator_back k e fs x _ is (chain_then v tail rest gv gt c) u ends g =
    chain_then u (further x v tail) rest g ((leb-true 1 (level x.token) (and_left (is_binary x.token) (may_stand (in_stands e (top_of fs)) x.token) is), and_right (is_binary x.token) (may_stand (in_stands e (top_of fs)) x.token) is), gv, gt) c

choice_back : (k : Ending) (e : Ends) (fs : List Frame) (n : Bool) (w : List Lexeme) → AssignThen true (λ j v. MarkThen Colon (λ z. Region Target e fs z) v) w → UnaryRest k e fs (mark Question n ∷ w)
choice_back k e fs n _ (assign_then a _ ga (mark_then c _ (assign_then d rest gd h))) u ends g =
    chain_then u nothing _ g tt (chooses n a c d rest ga gd h)

question_back : (k : Ending) (e : Ends) (fs : List Frame) (t : Token) (n : Bool) (w : List Lexeme) → is_question t ≡ true → Rest inside (Conditional e ∷ fs) w → UnaryRest k e fs (lexeme t n ∷ w)
question_back k e fs (APunct Question) n w is m = choice_back k e fs n w m
question_back k e fs _ n w is m = absurd (differ is)

after_back : (P : Type 0) (k : Ending) (r : Role) (e : Ends) (fs : List Frame) (t : Token) (n : Bool) (w : List Lexeme) → Means (steps.after r e (top_of fs) t) fs w → (UnaryRest k e fs (lexeme t n ∷ w) → P) → (Means (steps.last r e (top_of fs) t) fs w → P) → P
after_back P k r e fs t n w m goes stops = by (steps.is_operator e (top_of fs) t) (is_question t) refl refl m
  where
    by : (a b : Bool) → steps.is_operator e (top_of fs) t ≡ a → is_question t ≡ b → Means (if a then Go (Operand Plain e) else if b then Push (Conditional e) inside else steps.last r e (top_of fs) t) fs w → P
    by true b is q c = goes (operator_back k e fs (lexeme t n) w is c)
    by false true is q c = goes (question_back k e fs t n w q c)
    by false false is q c = stops c

pub update_back : (e : Ends) (fs : List Frame) (t : Token) (n : Bool) (w : List Lexeme) → Means (steps.after Plain e (top_of fs) t) fs w → UnaryRest after_update e fs (lexeme t n ∷ w)
update_back e fs t n w m =
    after_back (UnaryRest after_update e fs (lexeme t n ∷ w)) after_update Plain e fs t n w m (λ k. k) (λ c. by_end after_update e fs (lexeme t n ∷ w) (close_back e fs after_update t n w c))

-- after a LeftHandSideExpression

in_header_back : (e : Ends) (fs : List Frame) (n : Bool) (w : List Lexeme) → Rest inside (Head Loop ∷ popped fs) w → LeftRest Header e fs (word In n ∷ w)
in_header_back ByFrame [] n w m h g = tt
in_header_back ByFrame (Head Init ∷ fs) n w m h g =
    subst (λ (v : List Lexeme). HeaderThen (λ u. TestPart (context fs) u) (λ u. InPart (context fs) u) v) (left_of_text h (word In n ∷ w)) (header_in (left_of h) n w (left_of_good h (word In n ∷ w) g) (expr_of true RightParen (λ u. LoopBody (context fs) u) w m))
in_header_back ByFrame (_ ∷ fs) n w m h g = tt
in_header_back BySemicolon fs n w m h g = tt
in_header_back ByDeclaration fs n w m h g = tt

last_back : (r : Role) (e : Ends) (fs : List Frame) (t : Token) (n : Bool) (w : List Lexeme) → Means (steps.last r e (top_of fs) t) fs w → LeftRest r e fs (lexeme t n ∷ w)
last_back Header e fs (AWord In) n w m = in_header_back e fs n w m
last_back r e fs t n w m = left_ends r e fs (lexeme t n ∷ w) (close_back e fs after_operand t n w m)

goes_back : (r : Role) (e : Ends) (fs : List Frame) (t : Token) (n : Bool) (w : List Lexeme) → Means (steps.after r e (top_of fs) t) fs w → LeftRest r e fs (lexeme t n ∷ w)
goes_back r e fs t n w m =
    after_back (LeftRest r e fs (lexeme t n ∷ w)) after_operand r e fs t n w m (by_unary r e fs (lexeme t n ∷ w)) (last_back r e fs t n w)

assign_back : (e : Ends) (fs : List Frame) (p : Punct) (n : Bool) (w : List Lexeme) → is_assign p ≡ true → Region Target e fs w → (h : HeadOfLeft) → GoodHead h (mark p n ∷ w) → AssignThen (in_stands e (top_of fs)) (λ k v. EndedRest e fs k v) (head_text h (mark p n ∷ w))
assign_back e fs p n _ is (assign_then a rest ga k) h g =
    subst (λ (v : List Lexeme). AssignThen (in_stands e (top_of fs)) (λ j u. EndedRest e fs j u) v) (left_of_text h (mark p n ∷ assign_text a rest)) (assign_then (assign (left_of h) p n a) rest (is, left_of_good h (mark p n ∷ assign_text a rest) g, ga) k)

assigned_back : (r : Role) (e : Ends) (fs : List Frame) (p : Punct) (n : Bool) (w : List Lexeme) → is_assign p ≡ true → Means (steps.assigned r e) fs w → LeftRest r e fs (mark p n ∷ w)
assigned_back Plain e fs p n w is m h g = absurd m
assigned_back Target e fs p n w is m h g = assign_back e fs p n w is m h g
assigned_back Header e fs p n w is m h g = header_from e fs (head_text h (mark p n ∷ w)) (assign_back e fs p n w is m h g)

updated_back : (r : Role) (e : Ends) (fs : List Frame) (p : Punct) (n : Bool) (w : List Lexeme) → is_update p ≡ true → Means (steps.updated e n) fs w → LeftRest r e fs (mark p n ∷ w)
updated_back r e fs p true w is m h g = absurd m
updated_back r e fs p false w is m h g =
    lift r e fs (head_text h (mark p false ∷ w)) (subst (λ (v : List Lexeme). ChainThen (in_stands e (top_of fs)) (λ j u. EndedRest e fs j u) v) (left_of_text h (mark p false ∷ w)) (m (unmarked (update (left_of h) p)) refl (is, left_of_good h (mark p false ∷ w) g)))

index_back : (r : Role) (e : Ends) (fs : List Frame) (n : Bool) (w : List Lexeme) → ExprThen true RightBracket (λ v. LeftRest r e fs v) w → LeftRest r e fs (mark LeftBracket n ∷ w)
index_back r e fs n _ (expr_then x m rest g k) (in_member ns b) gb = k (in_member ns (member_index b n x m)) (gb, g)
index_back r e fs n _ (expr_then x m rest g k) (in_call c) gc = k (in_call (call_index c n x m)) (gc, g)

arguments_back : (r : Role) (e : Ends) (fs : List Frame) (n : Bool) (w : List Lexeme) → OptionalThen true RightParen (λ v. LeftRest r e fs v) w → LeftRest r e fs (mark LeftParen n ∷ w)
arguments_back r e fs n _ (optional_then absent m rest g k) (in_member [] b) gb = k (in_call (call b (no_args n m))) (gb, tt)
arguments_back r e fs n _ (optional_then absent m rest g k) (in_member (l ∷ ns) b) gb = k (in_member ns (new_member l b (no_args n m))) (gb, tt)
arguments_back r e fs n _ (optional_then absent m rest g k) (in_call c) gc = k (in_call (call_call c (no_args n m))) (gc, tt)
arguments_back r e fs n _ (optional_then (present x) m rest g k) (in_member [] b) gb = k (in_call (call b (args n x m))) (gb, g)
arguments_back r e fs n _ (optional_then (present x) m rest g k) (in_member (l ∷ ns) b) gb = k (in_member ns (new_member l b (args n x m))) (gb, g)
arguments_back r e fs n _ (optional_then (present x) m rest g k) (in_call c) gc = k (in_call (call_call c (args n x m))) (gc, g)

suffix_back : (r : Role) (e : Ends) (fs : List Frame) (p : Punct) (n : Bool) (w : List Lexeme) → Means (steps.suffix r e (top_of fs) p) fs w → LeftRest r e fs (mark p n ∷ w)
suffix_back r e fs Dot n w m = λ h g. m h n g
suffix_back r e fs LeftBracket n w m = index_back r e fs n w (expr_of true RightBracket (λ v. LeftRest r e fs v) w m)
suffix_back r e fs LeftParen n w m = arguments_back r e fs n w m
suffix_back r e fs p n w m = goes_back r e fs (APunct p) n w m

left_mark_back : (r : Role) (e : Ends) (fs : List Frame) (p : Punct) (n : Bool) (w : List Lexeme) → Means (steps.left_mark r e (top_of fs) p n) fs w → LeftRest r e fs (mark p n ∷ w)
left_mark_back r e fs p n w m = by (is_update p) (is_assign p) refl refl m
  where
    by : (a b : Bool) → is_update p ≡ a → is_assign p ≡ b → Means (if a then steps.updated e n else if b then steps.assigned r e else steps.suffix r e (top_of fs) p) fs w → LeftRest r e fs (mark p n ∷ w)
    by true b is q k = updated_back r e fs p n w is k
    by false true is q k = assigned_back r e fs p n w q k
    by false false is q k = suffix_back r e fs p n w k

pub left_back : (r : Role) (e : Ends) (fs : List Frame) (t : Token) (n : Bool) (w : List Lexeme) → Means (steps.left r e (top_of fs) t n) fs w → LeftRest r e fs (lexeme t n ∷ w)
left_back r e fs (APunct p) n w m = left_mark_back r e fs p n w m
left_back r e fs t n w m = goes_back r e fs t n w m

pub callee_rest : (r : Role) (e : Ends) (fs : List Frame) (t : Token) (n : Bool) (w : List Lexeme) → Means (steps.callee r e t) fs w → Rest (Callee r e) fs (lexeme t n ∷ w)
callee_rest r e fs t n w m = callee_back r e fs t n w m

pub dot_back : (r : Role) (e : Ends) (fs : List Frame) (t : Token) (n : Bool) (w : List Lexeme) → Means (steps.dot r e t) fs w → Rest (AfterDot r e) fs (lexeme t n ∷ w)
dot_back r e fs t n w m h d g = by (is_name t) refl m h g
  where
    by : (b : Bool) → is_name t ≡ b → Means (if b then Go (AfterLeft r e) else Refuse) fs w → (h : HeadOfLeft) → GoodHead h (mark Dot d ∷ lexeme t n ∷ w) → Region r e fs (head_text h (mark Dot d ∷ lexeme t n ∷ w))
    by true is k (in_member ns b) good = k (in_member ns (member_dot b d (lexeme t n))) (good, is)
    by true is k (in_call c) good = k (in_call (call_dot c d (lexeme t n))) (good, is)
    by false is k _ good = absurd k

-- where an operand may be absent

present_of : (i : Bool) (p : Punct) (K : List Lexeme → Type 0) (w : List Lexeme) → ExprThen i p K w → OptionalThen i p K w
present_of i p K _ (expr_then e m rest g k) = optional_then (present e) m rest g k

elided : (K : List Lexeme → Type 0) (n : Bool) (w : List Lexeme) → ItemsThen K w → ItemsThen K (mark Comma n ∷ w)
elided K n _ (no_items ns c rest k) = no_items (n ∷ ns) c rest k
elided K n _ (some_items (one_item es a) ns c rest g k) = some_items (one_item (n ∷ es) a) ns c rest g k
elided K n _ (some_items (more_items es a d is) ns c rest g k) = some_items (more_items (n ∷ es) a d is) ns c rest g k

items_of : (K : List Lexeme → Type 0) (w : List Lexeme) → AssignThen true (λ k v. ItemsMore K v) w → ItemsThen K w
items_of K _ (assign_then a _ g (items_end ns c rest k)) = some_items (one_item [] a) ns c rest g k
items_of K _ (assign_then a _ g (items_on n is ns c rest h k)) = some_items (more_items [] a n is) ns c rest (g, h) k

lacking_in : (f : Frame) (fs : List Frame) (t : Token) (n : Bool) (w : List Lexeme) → Means (steps.lacking f t) (f ∷ fs) w → (context (f ∷ fs)).lacking (lexeme t n ∷ w)
lacking_in (Paren r e) fs (APunct RightParen) n w m = optional_then absent n w tt m
lacking_in (Paren r e) fs t n w m = present_of true RightParen (λ v. LeftRest r e fs v) (lexeme t n ∷ w) (expr_of true RightParen (λ v. LeftRest r e fs v) (lexeme t n ∷ w) (operand_back Target ByFrame (Paren r e ∷ fs) t n w m))
lacking_in (Array r e) fs (APunct Comma) n w m = elided (λ v. LeftRest r e fs v) n w m
lacking_in (Array r e) fs (APunct RightBracket) n w m = no_items [] n w m
lacking_in (Array r e) fs t n w m = items_of (λ v. LeftRest r e fs v) (lexeme t n ∷ w) (operand_back Target ByFrame (Array r e ∷ fs) t n w m)
lacking_in (Head Init) fs (APunct Semicolon) n w m = init_absent n w m
lacking_in (Head Init) fs (AWord Var) n w m = init_var n w m
lacking_in (Head Init) fs t n w m = init_header (lexeme t n ∷ w) (operand_back Header ByFrame (Head Init ∷ fs) t n w m)
lacking_in (Head Test) fs (APunct Semicolon) n w m = optional_then absent n w tt m
lacking_in (Head Test) fs t n w m = present_of true Semicolon (λ v. LastPart (context fs) v) (lexeme t n ∷ w) (expr_of true Semicolon (λ v. LastPart (context fs) v) (lexeme t n ∷ w) (operand_back Target ByFrame (Head Test ∷ fs) t n w m))
lacking_in (Head Loop) fs (APunct RightParen) n w m = optional_then absent n w tt m
lacking_in (Head Loop) fs t n w m = present_of true RightParen (λ v. LoopBody (context fs) v) (lexeme t n ∷ w) (expr_of true RightParen (λ v. LoopBody (context fs) v) (lexeme t n ∷ w) (operand_back Target ByFrame (Head Loop ∷ fs) t n w m))
lacking_in _ fs t n w m = tt

pub lacking_back : (fs : List Frame) (t : Token) (n : Bool) (w : List Lexeme) → Means (steps.may_lack (top_of fs) t) fs w → (context fs).lacking (lexeme t n ∷ w)
lacking_back [] t n w m = tt
lacking_back (f ∷ fs) t n w m = lacking_in f fs t n w m

-- properties

prop_of : (K : List Lexeme → Type 0) (p : Prop) (w : List Lexeme) → GoodProp p w → PropsMore K w → PropsThen K (prop_text p w)
prop_of K p _ g (props_end c rest k) = some_props (one_prop p) c rest g k
prop_of K p _ g (props_on n _ (no_props c rest k)) = comma_props (one_prop p) n c rest g k
prop_of K p _ g (props_on n _ (some_props ps c rest h k)) = some_props (more_props p n ps) c rest (g, h) k
prop_of K p _ g (props_on n _ (comma_props ps d c rest h k)) = comma_props (more_props p n ps) d c rest (g, h) k

property_back : (fs : List Frame) (t : Token) (n : Bool) (w : List Lexeme) → Means (steps.property t) fs w → (context fs).properties (lexeme t n ∷ w)
property_back fs Get n w m = m n
property_back fs Set n w m = m n
property_back fs t n w m = by (is_key t) refl m
  where
    by : (b : Bool) → is_key t ≡ b → Means (if b then Go AfterKey else Refuse) fs w → (context fs).properties (lexeme t n ∷ w)
    by true is k = k (lexeme t n) is
    by false is k = absurd k

pub properties_back : (fs : List Frame) (t : Token) (n : Bool) (w : List Lexeme) → Means (steps.properties (top_of fs) t) fs w → (context fs).properties (lexeme t n ∷ w)
properties_back [] t n w m = tt
properties_back (Object r e ∷ fs) (APunct RightBrace) n w m = no_props n w m
properties_back (Object r e ∷ fs) t n w m = property_back (Object r e ∷ fs) t n w m
properties_back (_ ∷ fs) t n w m = tt

pair_back : (K : List Lexeme → Type 0) (x : Lexeme) (n : Bool) (w : List Lexeme) → is_key x.token ≡ true → AssignThen true (λ k v. PropsMore K v) w → PropsThen K (x ∷ mark Colon n ∷ w)
pair_back K x n _ is (assign_then a rest g k) = prop_of K (pair x n a) rest (is, g) k

pub key_back : (fs : List Frame) (t : Token) (n : Bool) (w : List Lexeme) → Means (steps.after_key t) fs w → Rest AfterKey fs (lexeme t n ∷ w)
key_back [] t n w m x is = tt
key_back (Object r e ∷ fs) (APunct Colon) n w m x is = pair_back (λ v. LeftRest r e fs v) x n w is m
key_back (Object r e ∷ fs) _ n w m x is = absurd m
key_back (_ ∷ fs) t n w m x is = tt

getter_back : (K : List Lexeme → Type 0) (d : Bool) (x : Lexeme) (w : List Lexeme) → is_key x.token ≡ true → MarkThen LeftParen (λ u. MarkThen RightParen (λ v. BodyThen (λ z. PropsMore K z) v) u) w → PropsThen K (lexeme Get d ∷ x ∷ w)
getter_back K d x _ is (mark_then o _ (mark_then c _ (body_then b rest g k))) = prop_of K (getter d x o c b) rest (is, g) k

setter_back : (K : List Lexeme → Type 0) (d : Bool) (x : Lexeme) (w : List Lexeme) → is_key x.token ≡ true → MarkThen LeftParen (λ u. IdentThen (λ y. MarkThen RightParen (λ v. BodyThen (λ z. PropsMore K z) v) y) u) w → PropsThen K (lexeme Set d ∷ x ∷ w)
setter_back K d x _ is (mark_then o _ (ident_then y _ ident (mark_then c _ (body_then b rest g k)))) = prop_of K (setter d x o y c b) rest (is, ident, g) k

get_named : (fs : List Frame) (d : Bool) (x : Lexeme) (w : List Lexeme) → is_key x.token ≡ true → OpenRest (Parameters Getter) fs w → (context fs).properties (lexeme Get d ∷ x ∷ w)
get_named [] d x w is m = tt
get_named (Object r e ∷ fs) d x w is m = getter_back (λ v. LeftRest r e fs v) d x w is m
get_named (_ ∷ fs) d x w is m = tt

set_named : (fs : List Frame) (d : Bool) (x : Lexeme) (w : List Lexeme) → is_key x.token ≡ true → OpenRest (Parameters Setter) fs w → (context fs).properties (lexeme Set d ∷ x ∷ w)
set_named [] d x w is m = tt
set_named (Object r e ∷ fs) d x w is m = setter_back (λ v. LeftRest r e fs v) d x w is m
set_named (_ ∷ fs) d x w is m = tt

pub get_back : (fs : List Frame) (t : Token) (n : Bool) (w : List Lexeme) → Means (steps.accessor Getter t) fs w → Rest AfterGet fs (lexeme t n ∷ w)
get_back fs t n w m d = by (is_key t) refl m
  where
    by : (b : Bool) → is_key t ≡ b → Means (if b then Go (Open (Parameters Getter)) else steps.after_key t) fs w → (context fs).properties (lexeme Get d ∷ lexeme t n ∷ w)
    by true is k = get_named fs d (lexeme t n) w is k
    by false is k = key_back fs t n w k (lexeme Get d) refl

pub set_back : (fs : List Frame) (t : Token) (n : Bool) (w : List Lexeme) → Means (steps.accessor Setter t) fs w → Rest AfterSet fs (lexeme t n ∷ w)
set_back fs t n w m d = by (is_key t) refl m
  where
    by : (b : Bool) → is_key t ≡ b → Means (if b then Go (Open (Parameters Setter)) else steps.after_key t) fs w → (context fs).properties (lexeme Set d ∷ lexeme t n ∷ w)
    by true is k = set_named fs d (lexeme t n) w is k
    by false is k = key_back fs t n w k (lexeme Set d) refl

-- names in parentheses

body_from : (K : List Lexeme → Type 0) (w : List Lexeme) → MarkThen LeftBrace (λ u. ElementsThen (λ v. MarkThen RightBrace K v) u) w → BodyThen K w
body_from K _ (mark_then o _ (elements_then es _ g (mark_then c rest k))) = body_then (body o es c) rest g k

pub block_from : (K : List Lexeme → Type 0) (w : List Lexeme) → MarkThen LeftBrace (λ u. StatementsThen (λ v. MarkThen RightBrace K v) u) w → BlockThen K w
block_from K _ (mark_then o _ (statements_then ss _ g (mark_then c rest k))) = block_then (braces o ss c) rest g k

names_body : (o : Owner) (fs : List Frame) (w : List Lexeme) → OpenRest (steps.body_of o) fs w → AfterNames o (top_of fs) (context fs) w
names_body Handler fs w m = block_from _ w m
names_body Declaration fs w m = body_from _ w m
names_body (Expression r e) fs w m = body_from _ w m
names_body Getter fs w m = body_from _ w m
names_body Setter fs w m = body_from _ w m

name_more : (K : List Lexeme → Type 0) (x : Lexeme) (w : List Lexeme) → is_ident x.token ≡ true → MoreNames K w → NamesThen K (x ∷ w)
name_more K x _ is (names_end c rest k) = names_then (one_name x) c rest is k
name_more K x _ is (names_on n _ (names_then xs c rest g k)) = names_then (more_names x n xs) c rest (is, g) k

first_name : (o : Owner) (K : List Lexeme → Type 0) (x : Lexeme) (w : List Lexeme) → is_ident x.token ≡ true → steps.has_names o ≡ true → LaterOf o K w → FirstOf o K (x ∷ w)
first_name Declaration K x w is h m = some_names (x ∷ w) (name_more K x w is m)
first_name (Expression r e) K x w is h m = some_names (x ∷ w) (name_more K x w is m)
first_name Getter K x w is h m = absurd (differ h)
first_name Setter K x w is h m = ident_then x w is m
first_name Handler K x w is h m = ident_then x w is m

no_name : (o : Owner) (K : List Lexeme → Type 0) (n : Bool) (w : List Lexeme) → steps.may_be_empty o ≡ true → K w → FirstOf o K (mark RightParen n ∷ w)
no_name Declaration K n w h k = no_names n w k
no_name (Expression r e) K n w h k = no_names n w k
no_name Getter K n w h k = mark_then n w k
no_name Setter K n w h k = absurd (differ h)
no_name Handler K n w h k = absurd (differ h)

paren_first : (o : Owner) (fs : List Frame) (t : Token) (n : Bool) (w : List Lexeme) → is_right_paren t ≡ true → steps.may_be_empty o ≡ true → OpenRest (steps.body_of o) fs w → (context (Parameters o ∷ fs)).first (lexeme t n ∷ w)
paren_first o fs (APunct RightParen) n w is h m = no_name o (λ v. AfterNames o (top_of fs) (context fs) v) n w h (names_body o fs w m)
paren_first o fs _ n w is h m = absurd (differ is)

first_in_names : (o : Owner) (fs : List Frame) (t : Token) (n : Bool) (w : List Lexeme) → Means (steps.first_of o t) (Parameters o ∷ fs) w → (context (Parameters o ∷ fs)).first (lexeme t n ∷ w)
first_in_names o fs t n w m = by (is_ident t) (steps.has_names o) (is_right_paren t) (steps.may_be_empty o) refl refl refl refl m
  where
    by : (a b c d : Bool) → is_ident t ≡ a → steps.has_names o ≡ b → is_right_paren t ≡ c → steps.may_be_empty o ≡ d → Means (if a && b then Go AfterParameter else if c && d then Pop (Open (steps.body_of o)) else Refuse) (Parameters o ∷ fs) w → (context (Parameters o ∷ fs)).first (lexeme t n ∷ w)
    by true true c d i h p e k = first_name o (λ v. AfterNames o (top_of fs) (context fs) v) (lexeme t n) w i h k
    by true false true true i h p e k = paren_first o fs t n w p e k
    by false b true true i h p e k = paren_first o fs t n w p e k
    by true false true false i h p e k = absurd k
    by true false false d i h p e k = absurd k
    by false b true false i h p e k = absurd k
    by false b false d i h p e k = absurd k

pub first_back : (fs : List Frame) (t : Token) (n : Bool) (w : List Lexeme) → Means (steps.first_parameter (top_of fs) t) fs w → Rest FirstParameter fs (lexeme t n ∷ w)
first_back [] t n w m = tt
first_back (Parameters o ∷ fs) t n w m = first_in_names o fs t n w m
first_back (_ ∷ fs) t n w m = tt

next_name : (o : Owner) (K : List Lexeme → Type 0) (x : Lexeme) (w : List Lexeme) → is_ident x.token ≡ true → LaterOf o K w → NextOf o K (x ∷ w)
next_name Declaration K x w is m = name_more K x w is m
next_name (Expression r e) K x w is m = name_more K x w is m
next_name _ K x w is m = tt

next_over : (fs : List Frame) (x : Lexeme) (w : List Lexeme) → is_ident x.token ≡ true → Rest AfterParameter fs w → Rest NextParameter fs (x ∷ w)
next_over [] x w is m = tt
next_over (Parameters o ∷ fs) x w is m = next_name o (λ v. AfterNames o (top_of fs) (context fs) v) x w is m
next_over (_ ∷ fs) x w is m = tt

pub next_back : (fs : List Frame) (t : Token) (n : Bool) (w : List Lexeme) → Means (steps.next_parameter t) fs w → Rest NextParameter fs (lexeme t n ∷ w)
next_back fs t n w m = by (is_ident t) refl m
  where
    by : (b : Bool) → is_ident t ≡ b → Means (if b then Go AfterParameter else Refuse) fs w → Rest NextParameter fs (lexeme t n ∷ w)
    by true is k = next_over fs (lexeme t n) w is k
    by false is k = absurd k

no_more : (o : Owner) (K : List Lexeme → Type 0) (n : Bool) (w : List Lexeme) → K w → LaterOf o K (mark RightParen n ∷ w)
no_more Declaration K n w k = names_end n w k
no_more (Expression r e) K n w k = names_end n w k
no_more Getter K n w k = mark_then n w k
no_more Setter K n w k = mark_then n w k
no_more Handler K n w k = mark_then n w k

more_in : (o : Owner) (K : List Lexeme → Type 0) (n : Bool) (w : List Lexeme) → steps.has_many o ≡ true → NextOf o K w → LaterOf o K (mark Comma n ∷ w)
more_in Declaration K n w h k = names_on n w k
more_in (Expression r e) K n w h k = names_on n w k
more_in Getter K n w h k = absurd (differ h)
more_in Setter K n w h k = absurd (differ h)
more_in Handler K n w h k = absurd (differ h)

later_in_names : (o : Owner) (fs : List Frame) (t : Token) (n : Bool) (w : List Lexeme) → Means (steps.next_of o t) (Parameters o ∷ fs) w → (context (Parameters o ∷ fs)).later (lexeme t n ∷ w)
later_in_names o fs (APunct RightParen) n w m = no_more o (λ v. AfterNames o (top_of fs) (context fs) v) n w (names_body o fs w m)
later_in_names o fs (APunct Comma) n w m = by (steps.has_many o) refl m
  where
    by : (b : Bool) → steps.has_many o ≡ b → Means (if b then Go NextParameter else Refuse) (Parameters o ∷ fs) w → (context (Parameters o ∷ fs)).later (mark Comma n ∷ w)
    by true h k = more_in o (λ v. AfterNames o (top_of fs) (context fs) v) n w h k
    by false h k = absurd k
later_in_names o fs _ n w m = absurd m

pub later_back : (fs : List Frame) (t : Token) (n : Bool) (w : List Lexeme) → Means (steps.after_parameter (top_of fs) t) fs w → Rest AfterParameter fs (lexeme t n ∷ w)
later_back [] t n w m = tt
later_back (Parameters o ∷ fs) t n w m = later_in_names o fs t n w m
later_back (_ ∷ fs) t n w m = tt

params_of : (K : List Lexeme → Type 0) (w : List Lexeme) → MarkThen LeftParen (λ v. FirstNames K v) w → ParamsThen K w
params_of K _ (mark_then o _ (no_names c rest k)) = params_then (no_params o c) rest tt k
params_of K _ (mark_then o _ (some_names _ (names_then xs c rest g k))) = params_then (params o xs c) rest g k

pub declaration_name_back : (fs : List Frame) (t : Token) (n : Bool) (w : List Lexeme) → Means (steps.declaration_name t) fs w → Rest DeclarationName fs (lexeme t n ∷ w)
declaration_name_back fs t n w m = by (is_ident t) refl m
  where
    by : (b : Bool) → is_ident t ≡ b → Means (if b then Go (Open (Parameters Declaration)) else Refuse) fs w → Rest DeclarationName fs (lexeme t n ∷ w)
    by true is k = ident_then (lexeme t n) w is (params_of (λ v. AfterNames Declaration (top_of fs) (context fs) v) w k)
    by false is k = absurd k

paren_name : (r : Role) (e : Ends) (fs : List Frame) (t : Token) (n : Bool) (w : List Lexeme) → is_left_paren t ≡ true → Rest FirstParameter (Parameters (Expression r e) ∷ fs) w → Rest (FunctionName r e) fs (lexeme t n ∷ w)
paren_name r e fs (APunct LeftParen) n w is m = nameless_then (mark LeftParen n ∷ w) (params_of (λ v. BodyThen (λ z. LeftRest r e fs z) v) (mark LeftParen n ∷ w) (mark_then n w m))
paren_name r e fs _ n w is m = absurd (differ is)

pub function_name_back : (r : Role) (e : Ends) (fs : List Frame) (t : Token) (n : Bool) (w : List Lexeme) → Means (steps.function_name r e t) fs w → Rest (FunctionName r e) fs (lexeme t n ∷ w)
function_name_back r e fs t n w m = by (is_ident t) (is_left_paren t) refl refl m
  where
    by : (a b : Bool) → is_ident t ≡ a → is_left_paren t ≡ b → Means (if a then Go (Open (Parameters (Expression r e))) else if b then Push (Parameters (Expression r e)) FirstParameter else Refuse) fs w → Rest (FunctionName r e) fs (lexeme t n ∷ w)
    by true b is p k = named_then (lexeme t n) w is (params_of (λ v. BodyThen (λ z. LeftRest r e fs z) v) w k)
    by false true is p k = paren_name r e fs t n w p k
    by false false is p k = absurd k

-- variables

decls_of : (K : List Lexeme → Type 0) (d : Decl) (v : List Lexeme) → GoodDecl true d v → DeclsMore (decl_ending d) K v → DeclsEnd K (decl_text d v)
decls_of K d _ g (decls_ends _ (end_then t rest e k)) = decls_end (one_decl d) t rest g e k
decls_of K d _ g (decls_on n _ (decls_end ds t rest h e k)) = decls_end (more_decls d n ds) t rest (g, h) e k

head_decls_of : (L : List Lexeme → Type 0) (d : Decl) (v : List Lexeme) → GoodDecl false d v → HeadMore L v → HeadDecls L (decl_text d v)
head_decls_of L d _ g (head_ends m rest k) = head_decls (one_decl d) m rest g k
head_decls_of L d _ g (head_on n _ (head_decls ds m rest h k)) = head_decls (more_decls d n ds) m rest (g, h) k

first_decls_of : (L I : List Lexeme → Type 0) (d : Decl) (v : List Lexeme) → GoodDecl false d v → FirstMore L I v → FirstDecls L I (decl_text d v)
first_decls_of L I d _ g (first_more v h) = first_decls (decl_text d v) (head_decls_of L d v g h)
first_decls_of L I d _ g (first_in m rest k) = decl_in d m rest g k

decl_of : (e : Ends) (fs : List Frame) (d : Decl) (v : List Lexeme) → GoodDecl (in_stands e (top_of fs)) d v → EndedRest e fs (decl_ending d) v → BindingRest e fs (decl_text d v)
decl_of ByFrame [] d v g k = tt
decl_of ByFrame (Head First ∷ fs) d v g k = first_decls_of _ _ d v g k
decl_of ByFrame (Head Next ∷ fs) d v g k = head_decls_of _ d v g k
decl_of ByFrame (_ ∷ fs) d v g k = tt
decl_of BySemicolon fs d v g k = tt
decl_of ByDeclaration fs d v g k = decls_of _ d v g k

pub binding_back : (e : Ends) (fs : List Frame) (t : Token) (n : Bool) (w : List Lexeme) → Means (steps.binding e t) fs w → Rest (Binding e) fs (lexeme t n ∷ w)
binding_back e fs t n w m = by (is_ident t) refl m
  where
    by : (b : Bool) → is_ident t ≡ b → Means (if b then Go (Bound e) else Refuse) fs w → Rest (Binding e) fs (lexeme t n ∷ w)
    by true is k = k (lexeme t n) is
    by false is k = absurd k

equals_back : (e : Ends) (fs : List Frame) (x : Lexeme) (n : Bool) (w : List Lexeme) → is_ident x.token ≡ true → Region Target e fs w → BindingRest e fs (x ∷ mark Equals n ∷ w)
equals_back e fs x n _ is (assign_then a rest g k) = decl_of e fs (initialised x n a) rest (is, g) k

-- a declaration that is a name alone
pub bound_ends : (e : Ends) (fs : List Frame) (w : List Lexeme) → EndedRest e fs after_name w → Rest (Bound e) fs w
bound_ends e fs w h x is = decl_of e fs (bare x) w is h

pub bound_back : (e : Ends) (fs : List Frame) (t : Token) (n : Bool) (w : List Lexeme) → Means (steps.bound e (top_of fs) t) fs w → Rest (Bound e) fs (lexeme t n ∷ w)
bound_back e fs (APunct Equals) n w m x is = equals_back e fs x n w is m
bound_back e fs t n w m x is = bound_ends e fs (lexeme t n ∷ w) (close_back e fs after_name t n w m) x is
