-- What the machine takes: states at the tokens that go on, closing tokens, semicolons that are left out, and
-- tokens that nothing takes. A lemma says what is accepted before what is accepted after, and how deep
-- its tokens stand.
use Rattle.std.proofs.Common.{◌≡◌, ℕ, suc, ◌≤◌, Bool, true, false, not, ◌&&◌, ◌||◌, if◌then◌else◌, Option, Some, None, List, [], ◌∷◌, length, refl, sym, ap, subst, ◌∙◌}
use Rattle.es5_lexer.specs.declared.tokens.Word.TheVariants.{Function as FunctionWord, Var, If as IfWord, Else, Do as DoWord, While, With, For, In, Continue, Break, Return, Throw, Debugger, Switch as SwitchWord, Case, Default, Try as TryWord, Finally as FinallyWord, This}
use Rattle.es5_lexer.specs.declared.tokens.Punct.{Punct}
use Rattle.es5_lexer.specs.declared.tokens.Punct.TheVariants.{LeftBrace, RightBrace, LeftParen, RightParen, LeftBracket, RightBracket, Dot, Semicolon, Comma, Question, Colon, Assign as Equals, Plus, PlusPlus}
use Rattle.es5_lexer.specs.declared.tokens.Token.{Token}
use Rattle.es5_lexer.specs.declared.tokens.Token.TheVariants.{Ident, Get, Set, Word as AWord, Punct as APunct}
use Rattle.es5_lexer.specs.declared.tokens.Lexeme.{Lexeme}
use Rattle.es5_trees.specs.Words.{lexeme, mark, word, is_ident, is_atom, is_update, is_prefix, level, is_binary, is_assign, is_on_line, begins_other, may_begin_statement}
use Rattle.es5_trees.specs.Trees.{End, semicolon, omitted, Assign, value, assign, Cond, plain, choice, Binary, operand, operation, Unary, unmarked, prefix, left, update}
use Rattle.es5_trees.specs.Spelling.{end_text}
use Rattle.es5_trees.specs.Endings.{Ending, after_operand, after_update, after_name, after_word, unary_ending, binary_ending, assign_ending, cond_ending, may_omit, Ends as EndsWith}
use Rattle.es5_trees.specs.Good.{may_stand}
use Rattle.es5_machine.specs.Classes.{ending_of, is_question, is_else}
use Rattle.es5_machine.specs.declared.states.Role.{Role}
use Rattle.es5_machine.specs.declared.states.Role.TheVariants.{Plain, Target, Header}
use Rattle.es5_machine.specs.declared.states.Ends.{Ends}
use Rattle.es5_machine.specs.declared.states.Ends.TheVariants.{ByFrame, BySemicolon, ByDeclaration}
use Rattle.es5_machine.specs.declared.states.Part.TheVariants.{Loop, Init, First, Test}
use Rattle.es5_machine.specs.declared.states.Phase.{Phase}
use Rattle.es5_machine.specs.declared.states.Phase.TheVariants.{NoClause, InClause, Defaulted}
use Rattle.es5_machine.specs.declared.states.Frame.{Frame}
use Rattle.es5_machine.specs.declared.states.Frame.TheVariants.{Paren, Array, Conditional, Head, Braces, Block as BlockFrame, Clauses, Branch}
use Rattle.es5_machine.specs.declared.states.Control.{Control}
use Rattle.es5_machine.specs.declared.states.Control.TheVariants.{Between, Need, AfterCatch, AtEnd, AfterJump, AfterReturn, AfterThrow, Bound, Operand, Callee, AfterLeft, AfterName, AfterUpdate, MayLack, Dead}
use Rattle.es5_machine.specs.declared.states.Answer.{Answer}
use Rattle.es5_machine.specs.declared.states.Answer.TheVariants.{Refuse, Go, Push, Pop, Swap}
use Rattle.es5_machine.specs.declared.states.Ended.{Ended}
use Rattle.es5_machine.specs.declared.states.Ended.TheVariants.{ByOperand, ByUpdate, ByName, ByWord}
use Rattle.es5_machine.specs.Steps as steps
use Rattle.es5_machine.specs.Steps.{Config, at, top_of, popped, without_branches, settled, in_stands, inside, ended, omits, refuses, leaves}
use Rattle.std.proofs.lemmas.Bool.{le-leb}
use Rattle.es5_trees.specs.Depths.{end_depths}
use Rattle.es5_machine.proofs.ExpressionSoundness.{differ}
use Rattle.es5_machine.proofs.Free.{Move, moved, step, step_from, Accepted, Accepts, Taken}

-- truth values

excludes : (a b : Bool) → not a || not b ≡ true → a ≡ true → b ≡ false
excludes a true h is = absurd (differ (sym (ap (λ x. not x || false) is) ∙ h))
excludes a false h is = refl

implied : (a b : Bool) → not a || b ≡ true → a ≡ true → b ≡ true
implied a true h is = refl
implied a false h is = sym (ap (λ x. not x || false) is) ∙ h

-- one token more before both lists
pub takes : {A : Type 0} {d : ℕ} {hs ds : List ℕ} → A × (hs ≡ ds) → A × (d ∷ hs ≡ d ∷ ds)
takes {A} {d} h = (h.0, ap (λ ns. d ∷ ns) h.1)

-- a state at a token that it takes

pub stays : (c : Control) (top : Option Frame) (t : Token) (n : Bool) → refuses (steps.consume c top t n) ≡ false → steps.before c top t n ≡ c
stays c top t n h = by (omits (ended c) t n) (refuses (steps.consume c top t n)) h
  where
    by : (a b : Bool) → b ≡ false → (if a && b then Between else c) ≡ c
    by true true e = absurd (differ (sym e))
    by true false e = refl
    by false b e = refl

step_is : (c : Control) (fs : List Frame) (x : Lexeme) (a : Answer) → steps.consume c (top_of fs) x.token x.newline ≡ a → refuses a ≡ false → settled c fs x.token ≡ fs → step (at c fs) x ≡ moved a fs
step_is c fs x a is takes_it keeps =
    ap (λ d. step_from d fs x) (stays c (top_of fs) x.token x.newline (ap refuses is ∙ takes_it))
    ∙ ap (λ gs. moved (steps.consume c (top_of gs) x.token x.newline) gs) keeps
    ∙ ap (λ b. moved b fs) is

pub kept : (c : Control) (fs : List Frame) (t : Token) → leaves c t ≡ false → settled c fs t ≡ fs
kept c fs t h = ap (λ b. if b then without_branches fs else fs) h

pub on : {ds : List ℕ} (c : Control) (fs : List Frame) (x : Lexeme) (w : List Lexeme) (a : Answer) → steps.consume c (top_of fs) x.token x.newline ≡ a → refuses a ≡ false → leaves c x.token ≡ false → Taken (moved a fs) w ds → Accepts (at c fs) (x ∷ w) ds
on {ds} c fs x w a is takes_it leaves_none k =
    subst (λ (m : Move). Taken m w ds) (sym (step_is c fs x a is takes_it (kept c fs x.token leaves_none))) k

-- between statements, where no branch is on top
pub on_between : {ds : List ℕ} (fs : List Frame) (x : Lexeme) (w : List Lexeme) (a : Answer) → without_branches fs ≡ fs → steps.between (top_of fs) x.token ≡ a → refuses a ≡ false → Taken (moved a fs) w ds → Accepts (at Between fs) (x ∷ w) ds
on_between {ds} fs x w a none is takes_it k =
    subst (λ (m : Move). Taken m w ds) (sym (step_is Between fs x a is takes_it (by (not (is_else x.token))))) k
  where
    by : (b : Bool) → (if b then without_branches fs else fs) ≡ fs
    by true = none
    by false = refl

-- what is refused isn't accepted

pub dead_accepts : (fs : List Frame) (w : List Lexeme) → Accepted (at Dead fs) w → ⊥
dead_accepts fs [] h = differ h
dead_accepts fs (x ∷ w) h = dead_accepts fs w h

pub refused_is : (a : Answer) → refuses a ≡ true → a ≡ Refuse
refused_is Refuse h = refl
refused_is (Go c) h = absurd (differ h)
refused_is (Push f c) h = absurd (differ h)
refused_is (Pop c) h = absurd (differ h)
refused_is (Swap f c) h = absurd (differ h)

pub refused : (a : Answer) (fs : List Frame) (w : List Lexeme) → refuses a ≡ true → Accepted (moved a fs).config w → ⊥
refused a fs w h k = dead_accepts fs w (subst (λ b. Accepted (moved b fs).config w) (refused_is a h) k)

-- two states with no end of a statement that take a token alike

pub alike : {ds : List ℕ} (c d : Control) (fs : List Frame) (x : Lexeme) (w : List Lexeme) → ended c ≡ None → leaves c x.token ≡ false → leaves d x.token ≡ false → (refuses (steps.consume c (top_of fs) x.token x.newline) ≡ false → steps.consume d (top_of fs) x.token x.newline ≡ steps.consume c (top_of fs) x.token x.newline) → Accepts (at c fs) (x ∷ w) ds → Accepts (at d fs) (x ∷ w) ds
alike {ds} c d fs x w none lc ld same k = by (refuses (steps.consume c (top_of fs) x.token x.newline)) refl
  where
    plain : step (at c fs) x ≡ moved (steps.consume c (top_of fs) x.token x.newline) fs
    plain =
        ap (λ (o : Option Ended). step_from (if omits o x.token x.newline && refuses (steps.consume c (top_of fs) x.token x.newline) then Between else c) fs x) none
        ∙ ap (λ gs. moved (steps.consume c (top_of gs) x.token x.newline) gs) (kept c fs x.token lc)

    there : Taken (moved (steps.consume c (top_of fs) x.token x.newline) fs) w ds
    there = subst (λ (m : Move). Taken m w ds) plain k

    by : (b : Bool) → refuses (steps.consume c (top_of fs) x.token x.newline) ≡ b → Accepts (at d fs) (x ∷ w) ds
    by true r = absurd (refused (steps.consume c (top_of fs) x.token x.newline) fs w r there.0)
    by false r = on d fs x w (steps.consume c (top_of fs) x.token x.newline) (same r) r ld there

-- tokens after an operand

no_header_mark : (r : Role) (p : Punct) → steps.ends_header r (APunct p) ≡ false
no_header_mark Plain p = refl
no_header_mark Target p = refl
no_header_mark Header p = refl

last_mark : (r : Role) (e : Ends) (top : Option Frame) (p : Punct) → steps.last r e top (APunct p) ≡ steps.close e top (APunct p)
last_mark r e top p = ap (λ b. if b then Swap (Head Loop) inside else steps.close e top (APunct p)) (no_header_mark r p)

-- `)`, `]`, `}`, `:`, `,` and `;`
abbrev pub is_closing : Punct → Bool
is_closing RightParen = true
is_closing RightBracket = true
is_closing RightBrace = true
is_closing Colon = true
is_closing Comma = true
is_closing Semicolon = true
is_closing _ = false

closing_left : (r : Role) (e : Ends) (top : Option Frame) (p : Punct) (n : Bool) → is_closing p ≡ true → steps.left r e top (APunct p) n ≡ steps.close e top (APunct p)
closing_left r e top RightParen n h = last_mark r e top RightParen
closing_left r e top RightBracket n h = last_mark r e top RightBracket
closing_left r e top RightBrace n h = last_mark r e top RightBrace
closing_left r e top Colon n h = last_mark r e top Colon
closing_left r e top Comma n h = last_mark r e top Comma
closing_left r e top Semicolon n h = last_mark r e top Semicolon
closing_left r e top _ n h = absurd (differ h)

closing_update : (e : Ends) (top : Option Frame) (p : Punct) → is_closing p ≡ true → steps.after Plain e top (APunct p) ≡ steps.close e top (APunct p)
closing_update e top RightParen h = refl
closing_update e top RightBracket h = refl
closing_update e top RightBrace h = refl
closing_update e top Colon h = refl
closing_update e top Comma h = refl
closing_update e top Semicolon h = refl
closing_update e top _ h = absurd (differ h)

-- after an expression that ended so, the rest is accepted, and stands so deep
abbrev pub GoesBy : Ending → Ends → List Frame → List Lexeme → List ℕ → Type 0
GoesBy after_operand e fs w ds = (r : Role) → Accepts (at (AfterLeft r e) fs) w ds
GoesBy after_update e fs w ds = Accepts (at (AfterUpdate e) fs) w ds
GoesBy _ e fs w ds = Unit {0}

pub record Goes (k : Ending) (e : Ends) (fs : List Frame) (w : List Lexeme) (ds : List ℕ) : Type 0 where
  pub by : GoesBy k e fs w ds

pub by_close : {ds : List ℕ} (k : Ending) (e : Ends) (fs : List Frame) (p : Punct) (n : Bool) (w : List Lexeme) → is_closing p ≡ true → refuses (steps.close e (top_of fs) (APunct p)) ≡ false → Taken (moved (steps.close e (top_of fs) (APunct p)) fs) w ds → Goes k e fs (mark p n ∷ w) ds
by_close after_operand e fs p n w closing takes_it k = record {
  by = λ r. on (AfterLeft r e) fs (mark p n) w (steps.close e (top_of fs) (APunct p)) (closing_left r e (top_of fs) p n closing) takes_it refl k;
}
by_close after_update e fs p n w closing takes_it k = record {
  by = on (AfterUpdate e) fs (mark p n) w (steps.close e (top_of fs) (APunct p)) (closing_update e (top_of fs) p closing) takes_it refl k;
}
by_close after_name e fs p n w closing takes_it k = record { by = tt }
by_close after_word e fs p n w closing takes_it k = record { by = tt }

-- a comma goes on with an Expression
abbrev pub TakesComma : Ends → List Frame → Type 0
TakesComma e fs = steps.close e (top_of fs) (APunct Comma) ≡ Go (Operand Target e)

pub by_comma : {ds : List ℕ} (k : Ending) (e : Ends) (fs : List Frame) (n : Bool) (w : List Lexeme) → TakesComma e fs → Accepts (at (Operand Target e) fs) w ds → Goes k e fs (mark Comma n ∷ w) (length fs ∷ ds)
by_comma {ds} k e fs n w c h =
    by_close k e fs Comma n w refl (ap refuses c) (subst (λ a. Taken (moved a fs) w (length fs ∷ ds)) (sym c) (takes h))

-- a binary operator
binary_no_update : (p : Punct) → not (is_binary (APunct p)) || not (is_update p) ≡ true
binary_no_update PlusPlus = refl
binary_no_update _ = refl

binary_no_assign : (p : Punct) → not (is_binary (APunct p)) || not (is_assign p) ≡ true
binary_no_assign Equals = refl
binary_no_assign _ = refl

suffix_operator : (r : Role) (e : Ends) (top : Option Frame) (p : Punct) → is_binary (APunct p) ≡ true → steps.suffix r e top p ≡ steps.after r e top (APunct p)
suffix_operator r e top Dot h = absurd (differ h)
suffix_operator r e top LeftBracket h = absurd (differ h)
suffix_operator r e top LeftParen h = absurd (differ h)
suffix_operator r e top _ h = refl

binary_left : (r : Role) (e : Ends) (top : Option Frame) (t : Token) (n : Bool) → is_binary t ≡ true → steps.left r e top t n ≡ steps.after r e top t
binary_left r e top (APunct p) n h =
    ap (λ b. if b then steps.updated e n else if is_assign p then steps.assigned r e else steps.suffix r e top p) (excludes (is_binary (APunct p)) (is_update p) (binary_no_update p) h)
    ∙ ap (λ b. if b then steps.assigned r e else steps.suffix r e top p) (excludes (is_binary (APunct p)) (is_assign p) (binary_no_assign p) h)
    ∙ suffix_operator r e top p h
binary_left r e top _ n h = refl

pub both : (a b : Bool) → a ≡ true → b ≡ true → a && b ≡ true
both true b h k = k
both false b h k = h

operator_takes : (r : Role) (e : Ends) (top : Option Frame) (t : Token) → steps.is_operator e top t ≡ true → steps.after r e top t ≡ Go (Operand Plain e)
operator_takes r e top t h =
    ap (λ b. if b then Go (Operand Plain e) else if is_question t then Push (Conditional e) inside else steps.last r e top t) h

pub by_operator : {ds : List ℕ} (k : Ending) (e : Ends) (fs : List Frame) (i : Bool) (x : Lexeme) (w : List Lexeme) → in_stands e (top_of fs) ≡ i → 1 ≤ level x.token → may_stand i x.token ≡ true → Accepts (at (Operand Plain e) fs) w ds → Goes k e fs (x ∷ w) (length fs ∷ ds)
by_operator {ds} k e fs i x w is low may h = by k
  where
    binary : is_binary x.token ≡ true
    binary = le-leb 1 (level x.token) low

    operates : steps.is_operator e (top_of fs) x.token ≡ true
    operates = both (is_binary x.token) (may_stand (in_stands e (top_of fs)) x.token) binary (ap (λ b. may_stand b x.token) is ∙ may)

    by : (j : Ending) → Goes j e fs (x ∷ w) (length fs ∷ ds)
    by after_operand = record {
      by = λ r. on (AfterLeft r e) fs x w (Go (Operand Plain e)) (binary_left r e (top_of fs) x.token x.newline binary ∙ operator_takes r e (top_of fs) x.token operates) refl refl (takes h);
    }
    by after_update = record {
      by = on (AfterUpdate e) fs x w (Go (Operand Plain e)) (operator_takes Plain e (top_of fs) x.token operates) refl refl (takes h);
    }
    by after_name = record { by = tt }
    by after_word = record { by = tt }

-- `?`
pub by_question : {ds : List ℕ} (k : Ending) (e : Ends) (fs : List Frame) (n : Bool) (w : List Lexeme) → Accepts (at inside (Conditional e ∷ fs)) w ds → Goes k e fs (mark Question n ∷ w) (suc (length fs) ∷ ds)
by_question after_operand e fs n w h = record { by = λ r. on (AfterLeft r e) fs (mark Question n) w (Push (Conditional e) inside) refl refl refl (takes h) }
by_question after_update e fs n w h = record { by = on (AfterUpdate e) fs (mark Question n) w (Push (Conditional e) inside) refl refl refl (takes h) }
by_question after_name e fs n w h = record { by = tt }
by_question after_word e fs n w h = record { by = tt }

-- an operator of assignment, and `++` and `--`
assign_no_update : (p : Punct) → not (is_assign p) || not (is_update p) ≡ true
assign_no_update PlusPlus = refl
assign_no_update _ = refl

pub by_assign : {ds : List ℕ} (r : Role) (e : Ends) (fs : List Frame) (p : Punct) (n : Bool) (w : List Lexeme) → is_assign p ≡ true → steps.assigned r e ≡ Go (Operand Target e) → Accepts (at (Operand Target e) fs) w ds → Accepts (at (AfterLeft r e) fs) (mark p n ∷ w) (length fs ∷ ds)
by_assign r e fs p n w is may h =
    on (AfterLeft r e) fs (mark p n) w (Go (Operand Target e))
    (ap (λ b. if b then steps.updated e n else if is_assign p then steps.assigned r e else steps.suffix r e (top_of fs) p) (excludes (is_assign p) (is_update p) (assign_no_update p) is)
    ∙ ap (λ b. if b then steps.assigned r e else steps.suffix r e (top_of fs) p) is
    ∙ may)
    refl refl (takes h)

pub by_update : {ds : List ℕ} (r : Role) (e : Ends) (fs : List Frame) (p : Punct) (w : List Lexeme) → is_update p ≡ true → Accepts (at (AfterUpdate e) fs) w ds → Accepts (at (AfterLeft r e) fs) (mark p false ∷ w) (length fs ∷ ds)
by_update r e fs p w is h =
    on (AfterLeft r e) fs (mark p false) w (Go (AfterUpdate e))
    (ap (λ b. if b then steps.updated e false else if is_assign p then steps.assigned r e else steps.suffix r e (top_of fs) p) is)
    refl refl (takes h)

-- where an operand begins: anywhere, or after `new`
abbrev pub starts : Bool → Role → Ends → Control
starts true r e = Callee r e
starts false r e = Operand r e

pub begins : {ds : List ℕ} (b : Bool) (r : Role) (e : Ends) (fs : List Frame) (t : Token) (n : Bool) (w : List Lexeme) (a : Answer) → steps.operand r e t ≡ a → steps.callee r e t ≡ a → refuses a ≡ false → Taken (moved a fs) w ds → Accepts (at (starts b r e) fs) (lexeme t n ∷ w) ds
begins true r e fs t n w a o c takes_it k = on (Callee r e) fs (lexeme t n) w a c takes_it refl k
begins false r e fs t n w a o c takes_it k = on (Operand r e) fs (lexeme t n) w a o takes_it refl k

atom_no_prefix : (t : Token) → not (is_atom t) || not (is_prefix t) ≡ true
atom_no_prefix (AWord This) = refl
atom_no_prefix (APunct Plus) = refl
atom_no_prefix _ = refl

pub atom_begins : {ds : List ℕ} (b : Bool) (r : Role) (e : Ends) (fs : List Frame) (x : Lexeme) (w : List Lexeme) → is_atom x.token ≡ true → Accepts (at (AfterLeft r e) fs) w ds → Accepts (at (starts b r e) fs) (x ∷ w) (length fs ∷ ds)
atom_begins b r e fs x w is k =
    begins b r e fs x.token x.newline w (Go (AfterLeft r e))
    (ap (λ a. if a then Go (Operand Plain e) else steps.callee r e x.token) (excludes (is_atom x.token) (is_prefix x.token) (atom_no_prefix x.token) is) ∙ called)
    called refl (takes k)
  where
    called : steps.callee r e x.token ≡ Go (AfterLeft r e)
    called = ap (λ a. if a then Go (AfterLeft r e) else steps.opening r e x.token) is

pub prefix_begins : {ds : List ℕ} (r : Role) (e : Ends) (fs : List Frame) (x : Lexeme) (w : List Lexeme) → is_prefix x.token ≡ true → Accepts (at (Operand Plain e) fs) w ds → Accepts (at (Operand r e) fs) (x ∷ w) (length fs ∷ ds)
prefix_begins r e fs x w is k =
    on (Operand r e) fs x w (Go (Operand Plain e)) (ap (λ a. if a then Go (Operand Plain e) else steps.callee r e x.token) is) refl refl (takes k)

-- a token with a test before what the state does
pub tested : {ds : List ℕ} (c d : Control) (fs : List Frame) (x : Lexeme) (w : List Lexeme) (b : Bool) (other : Answer) → (if b then Go d else other) ≡ steps.consume c (top_of fs) x.token x.newline → b ≡ true → leaves c x.token ≡ false → Accepts (at d fs) w ds → Accepts (at c fs) (x ∷ w) (length fs ∷ ds)
tested c d fs x w b other same is leaves_none k =
    on c fs x w (Go d) (sym same ∙ ap (λ a. if a then Go d else other) is) refl leaves_none (takes k)

-- where an operand may be absent

lacks_alike : (f : Frame) (t : Token) → refuses (steps.operand (steps.first_role f) ByFrame t) ≡ false → steps.lacking f t ≡ steps.operand (steps.first_role f) ByFrame t
lacks_alike (Paren r e) (APunct RightParen) h = absurd (differ (sym h))
lacks_alike (Paren r e) _ h = refl
lacks_alike (Array r e) (APunct Comma) h = absurd (differ (sym h))
lacks_alike (Array r e) (APunct RightBracket) h = absurd (differ (sym h))
lacks_alike (Array r e) _ h = refl
lacks_alike (Head Init) (APunct Semicolon) h = absurd (differ (sym h))
lacks_alike (Head Init) (AWord Var) h = absurd (differ (sym h))
lacks_alike (Head Init) _ h = refl
lacks_alike (Head Test) (APunct Semicolon) h = absurd (differ (sym h))
lacks_alike (Head Test) _ h = refl
lacks_alike (Head Loop) (APunct RightParen) h = absurd (differ (sym h))
lacks_alike (Head Loop) _ h = refl
lacks_alike _ t h = refl

pub lacks : {ds : List ℕ} (f : Frame) (fs : List Frame) (w : List Lexeme) → Accepts (at (Operand (steps.first_role f) ByFrame) (f ∷ fs)) w ds → Accepts (at MayLack (f ∷ fs)) w ds
lacks f fs [] k = absurd (differ k.0)
lacks f fs (x ∷ w) k = alike (Operand (steps.first_role f) ByFrame) MayLack (f ∷ fs) x w refl refl refl (lacks_alike f x.token) k

-- statements

-- the frame on top holds statements, and no branch ends in it
abbrev pub is_list : List Frame → Bool
is_list [] = true
is_list (Braces o ∷ fs) = true
is_list (BlockFrame b ∷ fs) = true
is_list (Clauses InClause ∷ fs) = true
is_list (Clauses Defaulted ∷ fs) = true
is_list _ = false

pub list_whole : (fs : List Frame) → is_list fs ≡ true → without_branches fs ≡ fs
list_whole [] h = refl
list_whole (Branch ∷ fs) h = absurd (differ h)
list_whole (_ ∷ fs) h = refl

clause_alike : (p : Phase) (fs : List Frame) (t : Token) → is_list (Clauses p ∷ fs) ≡ true → refuses (steps.statement t) ≡ false → steps.in_clauses p t ≡ steps.statement t
clause_alike NoClause fs t l h = absurd (differ l)
clause_alike InClause fs (APunct RightBrace) l h = absurd (differ (sym h))
clause_alike InClause fs (AWord Case) l h = absurd (differ (sym h))
clause_alike InClause fs (AWord Default) l h = absurd (differ (sym h))
clause_alike InClause fs _ l h = refl
clause_alike Defaulted fs (APunct RightBrace) l h = absurd (differ (sym h))
clause_alike Defaulted fs (AWord Case) l h = absurd (differ (sym h))
clause_alike Defaulted fs (AWord Default) l h = absurd (differ (sym h))
clause_alike Defaulted fs _ l h = refl

element_alike : (t : Token) → refuses (steps.statement t) ≡ false → steps.element t ≡ steps.statement t
element_alike (AWord FunctionWord) h = absurd (differ (sym h))
element_alike _ h = refl

list_alike : (fs : List Frame) (t : Token) → is_list fs ≡ true → refuses (steps.statement t) ≡ false → steps.between (top_of fs) t ≡ steps.statement t
list_alike [] t l h = element_alike t h
list_alike (Braces o ∷ fs) (APunct RightBrace) l h = absurd (differ (sym h))
list_alike (Braces o ∷ fs) (AWord FunctionWord) l h = absurd (differ (sym h))
list_alike (Braces o ∷ fs) _ l h = refl
list_alike (BlockFrame b ∷ fs) (APunct RightBrace) l h = absurd (differ (sym h))
list_alike (BlockFrame b ∷ fs) _ l h = refl
list_alike (Clauses p ∷ fs) t l h = clause_alike p fs t l h
list_alike (_ ∷ fs) t l h = absurd (differ l)

pub need_between : {ds : List ℕ} (fs : List Frame) (w : List Lexeme) → is_list fs ≡ true → Accepts (at Need fs) w ds → Accepts (at Between fs) w ds
need_between fs [] l k = absurd (differ k.0)
need_between {ds} fs (x ∷ w) l k = by (refuses (steps.statement x.token)) refl
  where
    by : (b : Bool) → refuses (steps.statement x.token) ≡ b → Accepts (at Between fs) (x ∷ w) ds
    by true r = absurd (refused (steps.statement x.token) fs w r k.0)
    by false r = on_between fs x w (steps.statement x.token) (list_whole fs l) (list_alike fs x.token l r) r k

-- the first token is no `else`
abbrev pub no_else : List Lexeme → Bool
no_else [] = true
no_else (x ∷ w) = not (is_else x.token)

abbrev pub NoElse : Bool → List Lexeme → Type 0
NoElse true w = no_else w ≡ true
NoElse false w = Unit {0}

-- no list of statements goes on with `else`
else_refused : (fs : List Frame) → is_list fs ≡ true → refuses (steps.between (top_of fs) (AWord Else)) ≡ true
else_refused [] l = refl
else_refused (Braces o ∷ fs) l = refl
else_refused (BlockFrame b ∷ fs) l = refl
else_refused (Clauses NoClause ∷ fs) l = refl
else_refused (Clauses InClause ∷ fs) l = refl
else_refused (Clauses Defaulted ∷ fs) l = refl
else_refused (_ ∷ fs) l = absurd (differ l)

list_no_else : (fs : List Frame) (w : List Lexeme) → is_list fs ≡ true → Accepted (at Between fs) w → no_else w ≡ true
list_no_else fs [] l h = refl
list_no_else fs (x ∷ w) l h = by x.token h
  where
    by : (t : Token) → Accepted (at Between fs) (lexeme t x.newline ∷ w) → not (is_else t) ≡ true
    by (AWord Else) k = absurd (refused (steps.between (top_of fs) (AWord Else)) fs w (else_refused fs l) k)
    by _ k = refl

pub list_ends : {ds : List ℕ} (fs : List Frame) (o : Bool) (w : List Lexeme) → is_list fs ≡ true → Accepts (at Between fs) w ds → NoElse o w
list_ends fs true w l k = list_no_else fs w l k.0
list_ends fs false w l k = tt

-- the first branch of an `if` ends
pub branch_ends : {ds : List ℕ} (fs : List Frame) (w : List Lexeme) → no_else w ≡ true → Accepts (at Between fs) w ds → Accepts (at Between (Branch ∷ fs)) w ds
branch_ends fs [] h k = k
branch_ends {ds} fs (x ∷ w) h k = by (not (is_else x.token)) h k
  where
    by : (b : Bool) → b ≡ true → Taken (moved (steps.consume Between (top_of (if b then without_branches fs else fs)) x.token x.newline) (if b then without_branches fs else fs)) w ds → Taken (moved (steps.consume Between (top_of (if b then without_branches fs else Branch ∷ fs)) x.token x.newline) (if b then without_branches fs else Branch ∷ fs)) w ds
    by true e t = t
    by false e t = absurd (differ e)

-- tokens that nothing takes between statements

nothing_takes : (t : Token) (fs : List Frame) (n : Bool) (w : List Lexeme) → leaves Between t ≡ true → ((gs : List Frame) → refuses (steps.between (top_of gs) t) ≡ true) → Accepted (at Between fs) (lexeme t n ∷ w) → ⊥
nothing_takes t fs n w l h k =
    refused (steps.between (top_of (without_branches fs)) t) (without_branches fs) w (h (without_branches fs))
    (subst (λ (b : Bool). Accepted (moved (steps.consume Between (top_of (if b then without_branches fs else fs)) t n) (if b then without_branches fs else fs)).config w) l k)

colon_refused : (gs : List Frame) → refuses (steps.between (top_of gs) (APunct Colon)) ≡ true
colon_refused [] = refl
colon_refused (Clauses NoClause ∷ gs) = refl
colon_refused (Clauses InClause ∷ gs) = refl
colon_refused (Clauses Defaulted ∷ gs) = refl
colon_refused (_ ∷ gs) = refl

finally_refused : (gs : List Frame) → refuses (steps.between (top_of gs) (AWord FinallyWord)) ≡ true
finally_refused [] = refl
finally_refused (Clauses NoClause ∷ gs) = refl
finally_refused (Clauses InClause ∷ gs) = refl
finally_refused (Clauses Defaulted ∷ gs) = refl
finally_refused (_ ∷ gs) = refl

-- after a `catch` a statement has ended, too
pub catch_ends : {ds : List ℕ} (fs : List Frame) (w : List Lexeme) → Accepts (at Between fs) w ds → Accepts (at AfterCatch fs) w ds
catch_ends fs [] k = k
catch_ends {ds} fs (x ∷ w) k = by x.token k
  where
    by : (t : Token) → Accepts (at Between fs) (lexeme t x.newline ∷ w) ds → Accepts (at AfterCatch fs) (lexeme t x.newline ∷ w) ds
    by (AWord FinallyWord) h = absurd (nothing_takes (AWord FinallyWord) fs x.newline w refl finally_refused h.0)
    by (AWord Else) h = h
    by _ h = h

-- a semicolon that is left out

pub omit_goes : {ds : List ℕ} (c : Control) (k : Ended) (fs : List Frame) (w : List Lexeme) → ended c ≡ Some k → steps.may_end c ≡ true → ((x : Lexeme) → not (omits (Some k) x.token x.newline) || refuses (steps.consume c (top_of fs) x.token x.newline) ≡ true) → may_omit (ending_of k) w ≡ true → Accepts (at Between fs) w ds → Accepts (at c fs) w ds
omit_goes c k fs [] is may table h a = (ap (λ b. b && steps.is_empty (without_branches fs)) may ∙ a.0, a.1)
omit_goes {ds} c k fs (x ∷ w) is may table h a =
    subst (λ (d : Control). Taken (step_from d fs x) w ds) (sym moves) a
  where
    moves : steps.before c (top_of fs) x.token x.newline ≡ Between
    moves = ap (λ b. if b then Between else c) (both (omits (ended c) x.token x.newline) (refuses (steps.consume c (top_of fs) x.token x.newline)) (ap (λ o. omits o x.token x.newline) is ∙ h) (implied (omits (Some k) x.token x.newline) (refuses (steps.consume c (top_of fs) x.token x.newline)) (table x) h))

abbrev pub Excluded : Control → Ended → Option Frame → Token → Bool → Type 0
Excluded c k top t n = not (omits (Some k) t n) || refuses (steps.consume c top t n) ≡ true

left_semicolon : (r : Role) (top : Option Frame) (t : Token) (n : Bool) → Excluded (AfterLeft r BySemicolon) ByOperand top t n
left_semicolon Plain top (AWord In) true = refl
left_semicolon Plain top (APunct Comma) true = refl
left_semicolon Plain top _ true = refl
left_semicolon Plain top (AWord In) false = refl
left_semicolon Plain top (APunct Comma) false = refl
left_semicolon Plain top _ false = refl
left_semicolon Target top (AWord In) true = refl
left_semicolon Target top (APunct Comma) true = refl
left_semicolon Target top _ true = refl
left_semicolon Target top (AWord In) false = refl
left_semicolon Target top (APunct Comma) false = refl
left_semicolon Target top _ false = refl
left_semicolon Header top (AWord In) true = refl
left_semicolon Header top (APunct Comma) true = refl
left_semicolon Header top _ true = refl
left_semicolon Header top (AWord In) false = refl
left_semicolon Header top (APunct Comma) false = refl
left_semicolon Header top _ false = refl

left_declaration : (r : Role) (top : Option Frame) (t : Token) (n : Bool) → Excluded (AfterLeft r ByDeclaration) ByOperand top t n
left_declaration Plain top (AWord In) true = refl
left_declaration Plain top (APunct Comma) true = refl
left_declaration Plain top _ true = refl
left_declaration Plain top (AWord In) false = refl
left_declaration Plain top (APunct Comma) false = refl
left_declaration Plain top _ false = refl
left_declaration Target top (AWord In) true = refl
left_declaration Target top (APunct Comma) true = refl
left_declaration Target top _ true = refl
left_declaration Target top (AWord In) false = refl
left_declaration Target top (APunct Comma) false = refl
left_declaration Target top _ false = refl
left_declaration Header top (AWord In) true = refl
left_declaration Header top (APunct Comma) true = refl
left_declaration Header top _ true = refl
left_declaration Header top (AWord In) false = refl
left_declaration Header top (APunct Comma) false = refl
left_declaration Header top _ false = refl

update_semicolon : (top : Option Frame) (t : Token) (n : Bool) → Excluded (AfterUpdate BySemicolon) ByUpdate top t n
update_semicolon top (AWord In) true = refl
update_semicolon top (APunct Comma) true = refl
update_semicolon top _ true = refl
update_semicolon top (AWord In) false = refl
update_semicolon top (APunct Comma) false = refl
update_semicolon top _ false = refl

update_declaration : (top : Option Frame) (t : Token) (n : Bool) → Excluded (AfterUpdate ByDeclaration) ByUpdate top t n
update_declaration top (AWord In) true = refl
update_declaration top (APunct Comma) true = refl
update_declaration top _ true = refl
update_declaration top (AWord In) false = refl
update_declaration top (APunct Comma) false = refl
update_declaration top _ false = refl

bound_declaration : (top : Option Frame) (t : Token) (n : Bool) → Excluded (Bound ByDeclaration) ByName top t n
bound_declaration top (APunct Comma) true = refl
bound_declaration top _ true = refl
bound_declaration top (APunct Comma) false = refl
bound_declaration top _ false = refl

end_excluded : (top : Option Frame) (t : Token) (n : Bool) → Excluded AtEnd ByWord top t n
end_excluded top (APunct Comma) true = refl
end_excluded top _ true = refl
end_excluded top (APunct Comma) false = refl
end_excluded top _ false = refl

jump_excluded : (top : Option Frame) (t : Token) (n : Bool) → Excluded AfterJump ByWord top t n
jump_excluded top (APunct Comma) true = refl
jump_excluded top _ true = refl
jump_excluded top (APunct Comma) false = refl
jump_excluded top _ false = refl

return_excluded : (top : Option Frame) (t : Token) (n : Bool) → Excluded AfterReturn ByWord top t n
return_excluded top (APunct Comma) true = refl
return_excluded top _ true = refl
return_excluded top (APunct Comma) false = refl
return_excluded top _ false = refl

-- the end of an expression statement, of declarations, and of a word
pub end_goes : {ds : List ℕ} (k : Ending) (fs : List Frame) (t : End) (w : List Lexeme) → EndsWith k t w → Accepts (at Between fs) w ds → Goes k BySemicolon fs (end_text t w) (end_depths (length fs) t ds)
end_goes k fs (semicolon n) w h a = by_close k BySemicolon fs Semicolon n w refl refl (takes a)
end_goes after_operand fs omitted w h a = record { by = λ r. omit_goes (AfterLeft r BySemicolon) ByOperand fs w refl refl (λ x. left_semicolon r (top_of fs) x.token x.newline) h a }
end_goes after_update fs omitted w h a = record { by = omit_goes (AfterUpdate BySemicolon) ByUpdate fs w refl refl (λ x. update_semicolon (top_of fs) x.token x.newline) h a }
end_goes after_name fs omitted w h a = record { by = tt }
end_goes after_word fs omitted w h a = record { by = tt }

-- after a declaration that ended so
abbrev pub GoesDeclBy : Ending → Ends → List Frame → List Lexeme → List ℕ → Type 0
GoesDeclBy after_name e fs w ds = Accepts (at (Bound e) fs) w ds
GoesDeclBy k e fs w ds = Goes k e fs w ds

pub record GoesDecl (k : Ending) (e : Ends) (fs : List Frame) (w : List Lexeme) (ds : List ℕ) : Type 0 where
  pub by : GoesDeclBy k e fs w ds

abbrev is_name_ending : Ending → Bool
is_name_ending after_name = true
is_name_ending _ = false

unary_names : (u : Unary) → is_name_ending (unary_ending u) ≡ false
unary_names (unmarked (left l)) = refl
unary_names (unmarked (update l p)) = refl
unary_names (prefix x u) = unary_names u

binary_names : (b : Binary) → is_name_ending (binary_ending b) ≡ false
binary_names (operand u) = unary_names u
binary_names (operation a x b) = binary_names b

mutual
  assign_names : (a : Assign) → is_name_ending (assign_ending a) ≡ false
  assign_names (value c) = cond_names c
  assign_names (assign l p n a) = assign_names a

  cond_names : (c : Cond) → is_name_ending (cond_ending c) ≡ false
  cond_names (plain b) = binary_names b
  cond_names (choice b q a c d) = assign_names d

closing_bound : (e : Ends) (top : Option Frame) (p : Punct) → is_closing p ≡ true → steps.bound e top (APunct p) ≡ steps.close e top (APunct p)
closing_bound e top Equals h = absurd (differ h)
closing_bound e top _ h = refl

-- an expression ends in no name alone
pub assigned_goes : {ds : List ℕ} (a : Assign) (e : Ends) (fs : List Frame) (w : List Lexeme) → GoesDecl (assign_ending a) e fs w ds → Goes (assign_ending a) e fs w ds
assigned_goes {ds} a e fs w k = by (assign_ending a) (assign_names a) k
  where
    by : (j : Ending) → is_name_ending j ≡ false → GoesDecl j e fs w ds → Goes j e fs w ds
    by after_operand n h = h.by
    by after_update n h = h.by
    by after_name n h = absurd (differ (sym n))
    by after_word n h = h.by

pub declared_close : {ds : List ℕ} (k : Ending) (e : Ends) (fs : List Frame) (p : Punct) (n : Bool) (w : List Lexeme) → is_closing p ≡ true → refuses (steps.close e (top_of fs) (APunct p)) ≡ false → Taken (moved (steps.close e (top_of fs) (APunct p)) fs) w ds → GoesDecl k e fs (mark p n ∷ w) ds
declared_close after_operand e fs p n w closing takes_it k = record { by = by_close after_operand e fs p n w closing takes_it k }
declared_close after_update e fs p n w closing takes_it k = record { by = by_close after_update e fs p n w closing takes_it k }
declared_close after_name e fs p n w closing takes_it k = record {
  by = on (Bound e) fs (mark p n) w (steps.close e (top_of fs) (APunct p)) (closing_bound e (top_of fs) p closing) takes_it refl k;
}
declared_close after_word e fs p n w closing takes_it k = record { by = record { by = tt } }

pub declared_ends : {ds : List ℕ} (k : Ending) (fs : List Frame) (t : End) (w : List Lexeme) → EndsWith k t w → Accepts (at Between fs) w ds → GoesDecl k ByDeclaration fs (end_text t w) (end_depths (length fs) t ds)
declared_ends k fs (semicolon n) w h a = declared_close k ByDeclaration fs Semicolon n w refl refl (takes a)
declared_ends after_operand fs omitted w h a = record { by = record { by = λ r. omit_goes (AfterLeft r ByDeclaration) ByOperand fs w refl refl (λ x. left_declaration r (top_of fs) x.token x.newline) h a } }
declared_ends after_update fs omitted w h a = record { by = record { by = omit_goes (AfterUpdate ByDeclaration) ByUpdate fs w refl refl (λ x. update_declaration (top_of fs) x.token x.newline) h a } }
declared_ends after_name fs omitted w h a = record { by = omit_goes (Bound ByDeclaration) ByName fs w refl refl (λ x. bound_declaration (top_of fs) x.token x.newline) h a }
declared_ends after_word fs omitted w h a = record { by = record { by = tt } }

-- `in` after the one declaration of a header
pub declared_in : {ds : List ℕ} (k : Ending) (fs : List Frame) (n : Bool) (w : List Lexeme) → Accepts (at inside (Head Loop ∷ fs)) w ds → GoesDecl k ByFrame (Head First ∷ fs) (word In n ∷ w) (suc (length fs) ∷ ds)
declared_in after_operand fs n w k = record { by = record { by = in_left fs n w k } }
  where
    in_left : {ds : List ℕ} (fs : List Frame) (n : Bool) (w : List Lexeme) → Accepts (at inside (Head Loop ∷ fs)) w ds → (r : Role) → Accepts (at (AfterLeft r ByFrame) (Head First ∷ fs)) (word In n ∷ w) (suc (length fs) ∷ ds)
    in_left fs n w k Plain = on (AfterLeft Plain ByFrame) (Head First ∷ fs) (word In n) w (Swap (Head Loop) inside) refl refl refl (takes k)
    in_left fs n w k Target = on (AfterLeft Target ByFrame) (Head First ∷ fs) (word In n) w (Swap (Head Loop) inside) refl refl refl (takes k)
    in_left fs n w k Header = on (AfterLeft Header ByFrame) (Head First ∷ fs) (word In n) w (Swap (Head Loop) inside) refl refl refl (takes k)
declared_in after_update fs n w k = record { by = record { by = on (AfterUpdate ByFrame) (Head First ∷ fs) (word In n) w (Swap (Head Loop) inside) refl refl refl (takes k) } }
declared_in after_name fs n w k = record { by = on (Bound ByFrame) (Head First ∷ fs) (word In n) w (Swap (Head Loop) inside) refl refl refl (takes k) }
declared_in after_word fs n w k = record { by = record { by = tt } }

-- the end of a word
pub word_ends : {ds : List ℕ} (c : Control) (fs : List Frame) (t : End) (w : List Lexeme) → ended c ≡ Some ByWord → steps.may_end c ≡ true → leaves c (APunct Semicolon) ≡ false → ((n : Bool) → steps.consume c (top_of fs) (APunct Semicolon) n ≡ Go Between) → ((x : Lexeme) → Excluded c ByWord (top_of fs) x.token x.newline) → EndsWith after_word t w → Accepts (at Between fs) w ds → Accepts (at c fs) (end_text t w) (end_depths (length fs) t ds)
word_ends c fs (semicolon n) w is may leaves_none closes_it table h a = on c fs (mark Semicolon n) w (Go Between) (closes_it n) refl leaves_none (takes a)
word_ends c fs omitted w is may leaves_none closes_it table h a = omit_goes c ByWord fs w is may table h a

pub at_end_goes : {ds : List ℕ} (fs : List Frame) (t : End) (w : List Lexeme) → EndsWith after_word t w → Accepts (at Between fs) w ds → Accepts (at AtEnd fs) (end_text t w) (end_depths (length fs) t ds)
at_end_goes fs t w h a = word_ends AtEnd fs t w refl refl refl (λ n. refl) (λ x. end_excluded (top_of fs) x.token x.newline) h a

pub jump_end_goes : {ds : List ℕ} (fs : List Frame) (t : End) (w : List Lexeme) → EndsWith after_word t w → Accepts (at Between fs) w ds → Accepts (at AfterJump fs) (end_text t w) (end_depths (length fs) t ds)
jump_end_goes fs t w h a = word_ends AfterJump fs t w refl refl refl (λ n. refl) (λ x. jump_excluded (top_of fs) x.token x.newline) h a

pub return_end_goes : {ds : List ℕ} (fs : List Frame) (t : End) (w : List Lexeme) → EndsWith after_word t w → Accepts (at Between fs) w ds → Accepts (at AfterReturn fs) (end_text t w) (end_depths (length fs) t ds)
return_end_goes fs t w h a = word_ends AfterReturn fs t w refl refl refl (λ n. refl) (λ x. return_excluded (top_of fs) x.token x.newline) h a

-- an expression that begins a statement

-- after the identifier that begins it no colon comes, so it is no label
name_goes : {ds : List ℕ} (fs : List Frame) (w : List Lexeme) → Accepts (at (AfterLeft Target BySemicolon) fs) w ds → Accepts (at AfterName fs) w ds
name_goes fs [] k = k
name_goes {ds} fs (x ∷ w) k = by x.token x.newline k
  where
    no_colon : (n : Bool) → Accepted (at (AfterLeft Target BySemicolon) fs) (mark Colon n ∷ w) → ⊥
    no_colon true h = nothing_takes (APunct Colon) fs true w refl colon_refused h
    no_colon false h = dead_accepts fs w h

    by : (t : Token) (n : Bool) → Accepts (at (AfterLeft Target BySemicolon) fs) (lexeme t n ∷ w) ds → Accepts (at AfterName fs) (lexeme t n ∷ w) ds
    by (APunct Colon) n h = absurd (no_colon n h.0)
    by (AWord In) true h = h
    by (AWord In) false h = h
    by _ true h = h
    by _ false h = h

statement_alike : (t : Token) → begins_other t ≡ false → is_ident t ≡ false → refuses (steps.operand Target BySemicolon t) ≡ false → steps.statement t ≡ steps.operand Target BySemicolon t
statement_alike (APunct LeftBrace) b i h = absurd (differ (sym b))
statement_alike (APunct Semicolon) b i h = absurd (differ (sym h))
statement_alike (APunct _) b i h = refl
statement_alike (AWord FunctionWord) b i h = absurd (differ (sym b))
statement_alike (AWord Var) b i h = absurd (differ (sym h))
statement_alike (AWord IfWord) b i h = absurd (differ (sym h))
statement_alike (AWord While) b i h = absurd (differ (sym h))
statement_alike (AWord With) b i h = absurd (differ (sym h))
statement_alike (AWord For) b i h = absurd (differ (sym h))
statement_alike (AWord SwitchWord) b i h = absurd (differ (sym h))
statement_alike (AWord DoWord) b i h = absurd (differ (sym h))
statement_alike (AWord Continue) b i h = absurd (differ (sym h))
statement_alike (AWord Break) b i h = absurd (differ (sym h))
statement_alike (AWord Return) b i h = absurd (differ (sym h))
statement_alike (AWord Throw) b i h = absurd (differ (sym h))
statement_alike (AWord Debugger) b i h = absurd (differ (sym h))
statement_alike (AWord TryWord) b i h = absurd (differ (sym h))
statement_alike (AWord _) b i h = refl
statement_alike Ident b i h = absurd (differ (sym i))
statement_alike Get b i h = absurd (differ (sym i))
statement_alike Set b i h = absurd (differ (sym i))
statement_alike _ b i h = refl

not_true : (b : Bool) → not b ≡ true → b ≡ false
not_true true h = absurd (differ h)
not_true false h = refl

pub statement_begins : {ds : List ℕ} (fs : List Frame) (w : List Lexeme) → may_begin_statement w ≡ true → Accepts (at (Operand Target BySemicolon) fs) w ds → Accepts (at Need fs) w ds
statement_begins fs [] m k = absurd (differ k.0)
statement_begins {ds} fs (x ∷ w) m k = by x.token (not_true (begins_other x.token) m) k
  where
    other : (t : Token) → begins_other t ≡ false → is_ident t ≡ false → Accepts (at (Operand Target BySemicolon) fs) (lexeme t x.newline ∷ w) ds → Accepts (at Need fs) (lexeme t x.newline ∷ w) ds
    other t b i h = alike (Operand Target BySemicolon) Need fs (lexeme t x.newline) w refl refl refl (statement_alike t b i) h

    named : (t : Token) → steps.statement t ≡ Go AfterName → steps.operand Target BySemicolon t ≡ Go (AfterLeft Target BySemicolon) → Accepts (at (Operand Target BySemicolon) fs) (lexeme t x.newline ∷ w) ds → Accepts (at Need fs) (lexeme t x.newline ∷ w) ds
    named t s o h =
        let there : Taken (moved (Go (AfterLeft Target BySemicolon)) fs) w ds = subst (λ a. Taken (moved a fs) w ds) o h in
        on Need fs (lexeme t x.newline) w (Go AfterName) s refl refl (name_taken there)
      where
        name_taken : {es : List ℕ} → Taken (moved (Go (AfterLeft Target BySemicolon)) fs) w es → Taken (moved (Go AfterName) fs) w es
        name_taken t = let n = name_goes fs w (t.0, refl) in (n.0, ap (λ hs. length fs ∷ hs) n.1 ∙ t.1)

    by : (t : Token) → begins_other t ≡ false → Accepts (at (Operand Target BySemicolon) fs) (lexeme t x.newline ∷ w) ds → Accepts (at Need fs) (lexeme t x.newline ∷ w) ds
    by Ident b h = named Ident refl refl h
    by Get b h = named Get refl refl h
    by Set b h = named Set refl refl h
    by t b h = other t b refl h

-- an expression on the line of `return` or `throw`
return_alike : (t : Token) → refuses (steps.operand Target BySemicolon t) ≡ false → steps.after_return t false ≡ steps.operand Target BySemicolon t
return_alike (APunct Semicolon) h = absurd (differ (sym h))
return_alike _ h = refl

pub return_begins : {ds : List ℕ} (fs : List Frame) (w : List Lexeme) → is_on_line w ≡ true → Accepts (at (Operand Target BySemicolon) fs) w ds → Accepts (at AfterReturn fs) w ds
return_begins fs [] l k = absurd (differ k.0)
return_begins {ds} fs (x ∷ w) l k = by x.newline (not_true x.newline l) k
  where
    by : (n : Bool) → n ≡ false → Accepts (at (Operand Target BySemicolon) fs) (lexeme x.token n ∷ w) ds → Accepts (at AfterReturn fs) (lexeme x.token n ∷ w) ds
    by true e h = absurd (differ (sym e))
    by false e h = alike (Operand Target BySemicolon) AfterReturn fs (lexeme x.token false) w refl refl refl (return_alike x.token) h

pub throw_begins : {ds : List ℕ} (fs : List Frame) (w : List Lexeme) → is_on_line w ≡ true → Accepts (at (Operand Target BySemicolon) fs) w ds → Accepts (at AfterThrow fs) w ds
throw_begins fs [] l k = absurd (differ k.0)
throw_begins {ds} fs (x ∷ w) l k = by x.newline (not_true x.newline l) k
  where
    by : (n : Bool) → n ≡ false → Accepts (at (Operand Target BySemicolon) fs) (lexeme x.token n ∷ w) ds → Accepts (at AfterThrow fs) (lexeme x.token n ∷ w) ds
    by true e h = absurd (differ (sym e))
    by false e h = alike (Operand Target BySemicolon) AfterThrow fs (lexeme x.token false) w refl refl refl (λ r. refl) h
