-- How a slash is read: a division may come exactly where the goal is division, and a regular expression
-- nowhere there.
use Rattle.std.proofs.Common.{◌≡◌, Bool, true, false, ◌&&◌, ◌||◌, if◌then◌else◌, Option, Some, None, List, refl, sym, ap, ◌∙◌}
use Rattle.es5_lexer.specs.declared.tokens.Punct.TheVariants.{Slash, SlashAssign}
use Rattle.es5_lexer.specs.declared.tokens.Token.{Token}
use Rattle.es5_lexer.specs.declared.tokens.Token.TheVariants.{Punct as APunct, Pattern}
use Rattle.es5_lexer.specs.declared.tokens.Lexeme.{Lexeme}
use Rattle.es5_trees.specs.Words.{lexeme, mark}
use Rattle.es5_machine.specs.declared.states.Role.{Role}
use Rattle.es5_machine.specs.declared.states.Role.TheVariants.{Plain, Target, Header}
use Rattle.es5_machine.specs.declared.states.Ends.{Ends}
use Rattle.es5_machine.specs.declared.states.Ends.TheVariants.{ByFrame, BySemicolon, ByDeclaration}
use Rattle.es5_machine.specs.declared.states.Part.TheVariants.{Init}
use Rattle.es5_machine.specs.declared.states.Phase.TheVariants.{NoClause, InClause, Defaulted}
use Rattle.es5_machine.specs.declared.states.Frame.{Frame}
use Rattle.es5_machine.specs.declared.states.Frame.TheVariants.{Conditional, Head, Parameters, Clauses}
use Rattle.es5_machine.specs.declared.states.Control.{Control}
use Rattle.es5_machine.specs.declared.states.Control.TheVariants.{Between, AfterCatch, AfterReturn, AfterThrow, Open, Bound, Operand, AfterLeft, AfterName, AfterUpdate, AfterAccessor, MayLack, FirstParameter, AfterParameter, Dead}
use Rattle.es5_machine.specs.declared.states.Answer.{Answer}
use Rattle.es5_machine.specs.declared.states.Answer.TheVariants.{Go, Push}
use Rattle.es5_machine.specs.Steps as steps
use Rattle.es5_machine.specs.Steps.{Config, at, top_of, popped, without_branches, settled, in_stands, inside, ended, omits, refuses, leaves}
use Rattle.es5_lexer.specs.declared.tokens.Goal.{Goal}
use Rattle.es5_lexer.specs.declared.tokens.Goal.TheVariants.{Div, RegExp}
use Rattle.es5_lexer.specs.Suits.{is_div, suits}
use Rattle.es5_machine.proofs.ExpressionSoundness.{differ, and_left, and_right}
use Rattle.es5_machine.proofs.Moves.{stays, kept, refused_is}

abbrev pub is_dead_state : Control → Bool
is_dead_state Dead = true
is_dead_state _ = false

operand_lives : (e : Ends) → Operand Plain e ≡ Dead → ⊥
operand_lives e h = differ (ap is_dead_state h)

-- a division after a state that wants none, and a regular expression after one that wants a division

div_is_not : Div ≡ RegExp → ⊥
div_is_not e = differ (sym (ap is_div e))

slashes_refused : (c : Control) (top : Option Frame) (n : Bool) → steps.goal_of c ≡ RegExp → refuses (steps.consume c top (APunct Slash) n) && refuses (steps.consume c top (APunct SlashAssign) n) ≡ true
slashes_refused Between None n h = refl
slashes_refused Between (Some (Clauses NoClause)) n h = refl
slashes_refused Between (Some (Clauses InClause)) n h = refl
slashes_refused Between (Some (Clauses Defaulted)) n h = refl
slashes_refused Between (Some _) n h = refl
slashes_refused AfterCatch None n h = refl
slashes_refused AfterCatch (Some (Clauses NoClause)) n h = refl
slashes_refused AfterCatch (Some (Clauses InClause)) n h = refl
slashes_refused AfterCatch (Some (Clauses Defaulted)) n h = refl
slashes_refused AfterCatch (Some _) n h = refl
slashes_refused AfterReturn top true h = refl
slashes_refused AfterReturn top false h = refl
slashes_refused AfterThrow top true h = refl
slashes_refused AfterThrow top false h = refl
slashes_refused (Open (Head p)) top n h = refl
slashes_refused (Open _) top n h = refl
slashes_refused (Bound ByFrame) None n h = refl
slashes_refused (Bound ByFrame) (Some f) n h = refl
slashes_refused (Bound BySemicolon) top n h = refl
slashes_refused (Bound ByDeclaration) top n h = refl
slashes_refused (AfterLeft r e) top n h = absurd (div_is_not h)
slashes_refused AfterName top n h = absurd (div_is_not h)
slashes_refused (AfterUpdate e) top n h = absurd (div_is_not h)
slashes_refused AfterAccessor None n h = refl
slashes_refused AfterAccessor (Some f) n h = refl
slashes_refused MayLack None n h = refl
slashes_refused MayLack (Some (Head Init)) n h = refl
slashes_refused MayLack (Some (Head _)) n h = refl
slashes_refused MayLack (Some _) n h = refl
slashes_refused FirstParameter None n h = refl
slashes_refused FirstParameter (Some (Parameters o)) n h = refl
slashes_refused FirstParameter (Some _) n h = refl
slashes_refused AfterParameter None n h = refl
slashes_refused AfterParameter (Some (Parameters o)) n h = refl
slashes_refused AfterParameter (Some _) n h = refl
slashes_refused _ top n h = refl

pattern_left : (r : Role) (e : Ends) (top : Option Frame) → refuses (steps.after r e top Pattern) ≡ true
pattern_left Plain ByFrame None = refl
pattern_left Plain ByFrame (Some f) = refl
pattern_left Plain BySemicolon top = refl
pattern_left Plain ByDeclaration top = refl
pattern_left Target ByFrame None = refl
pattern_left Target ByFrame (Some f) = refl
pattern_left Target BySemicolon top = refl
pattern_left Target ByDeclaration top = refl
pattern_left Header ByFrame None = refl
pattern_left Header ByFrame (Some f) = refl
pattern_left Header BySemicolon top = refl
pattern_left Header ByDeclaration top = refl

pattern_refused : (c : Control) (top : Option Frame) (n : Bool) → steps.goal_of c ≡ Div → refuses (steps.consume c top Pattern n) ≡ true
pattern_refused (AfterLeft r e) top n h = pattern_left r e top
pattern_refused AfterName top n h = refl
pattern_refused (AfterUpdate e) top n h = pattern_left Plain e top
pattern_refused _ top n h = absurd (div_is_not (sym h))

pattern_held : (c : Control) (n : Bool) → steps.goal_of c ≡ Div → omits (ended c) Pattern n ≡ false
pattern_held (AfterLeft r ByFrame) n h = refl
pattern_held (AfterLeft r BySemicolon) true h = refl
pattern_held (AfterLeft r BySemicolon) false h = refl
pattern_held (AfterLeft r ByDeclaration) true h = refl
pattern_held (AfterLeft r ByDeclaration) false h = refl
pattern_held AfterName true h = refl
pattern_held AfterName false h = refl
pattern_held (AfterUpdate ByFrame) n h = refl
pattern_held (AfterUpdate BySemicolon) true h = refl
pattern_held (AfterUpdate BySemicolon) false h = refl
pattern_held (AfterUpdate ByDeclaration) true h = refl
pattern_held (AfterUpdate ByDeclaration) false h = refl
pattern_held _ n h = absurd (div_is_not (sym h))

refused_dies : (d : Control) (fs : List Frame) (x : Lexeme) → ((top : Option Frame) → refuses (steps.consume d top x.token x.newline) ≡ true) → (steps.step_from d fs x).control ≡ Dead
refused_dies d fs x h =
    ap (λ (a : Answer). (steps.moved a (settled d fs x.token)).control) (refused_is (steps.consume d (top_of (settled d fs x.token)) x.token x.newline) (h (top_of (settled d fs x.token))))

-- where the state wants no division, none may come
division_dies : (c : Control) (fs : List Frame) (x : Lexeme) → steps.goal_of c ≡ RegExp → ((d : Control) (top : Option Frame) → steps.goal_of d ≡ RegExp → refuses (steps.consume d top x.token x.newline) ≡ true) → (steps.step (at c fs) x).control ≡ Dead
division_dies c fs x g h = by (omits (ended c) x.token x.newline && refuses (steps.consume c (top_of fs) x.token x.newline))
  where
    by : (b : Bool) → (steps.step_from (if b then Between else c) fs x).control ≡ Dead
    by true = refused_dies Between fs x (λ top. h Between top refl)
    by false = refused_dies c fs x (λ top. h c top g)

pattern_dies : (c : Control) (fs : List Frame) (n : Bool) → steps.goal_of c ≡ Div → (steps.step (at c fs) (lexeme Pattern n)).control ≡ Dead
pattern_dies c fs n g =
    ap (λ (b : Bool). (steps.step_from (if b && refuses (steps.consume c (top_of fs) Pattern n) then Between else c) fs (lexeme Pattern n)).control) (pattern_held c n g)
    ∙ refused_dies c fs (lexeme Pattern n) (λ top. pattern_refused c top n g)

-- the goal suits each token after which the machine isn't dead
pub goal_suits : (c : Control) (fs : List Frame) (x : Lexeme) (g : Goal) → steps.goal_of c ≡ g → ((steps.step (at c fs) x).control ≡ Dead → ⊥) → suits x.token g ≡ true
goal_suits c fs x g is lives = by x.token x.newline g is lives
  where
    by : (t : Token) (n : Bool) (h : Goal) → steps.goal_of c ≡ h → ((steps.step (at c fs) (lexeme t n)).control ≡ Dead → ⊥) → suits t h ≡ true
    by (APunct Slash) n Div e k = refl
    by (APunct Slash) n RegExp e k = absurd (k (division_dies c fs (mark Slash n) e (λ d top r. and_left (refuses (steps.consume d top (APunct Slash) n)) (refuses (steps.consume d top (APunct SlashAssign) n)) (slashes_refused d top n r))))
    by (APunct SlashAssign) n Div e k = refl
    by (APunct SlashAssign) n RegExp e k = absurd (k (division_dies c fs (mark SlashAssign n) e (λ d top r. and_right (refuses (steps.consume d top (APunct Slash) n)) (refuses (steps.consume d top (APunct SlashAssign) n)) (slashes_refused d top n r))))
    by Pattern n Div e k = absurd (k (pattern_dies c fs n e))
    by Pattern n RegExp e k = refl
    by _ n h e k = refl

-- where the state wants a division, one may come

or_true : (b : Bool) → b || true ≡ true
or_true true = refl
or_true false = refl

slash_goes : (r : Role) (e : Ends) (top : Option Frame) → steps.after r e top (APunct Slash) ≡ Go (Operand Plain e)
slash_goes r e top =
    ap (λ (b : Bool). if b then Go (Operand Plain e) else if false then Push (Conditional e) inside else steps.last r e top (APunct Slash)) (or_true (in_stands e top))

went : (c : Control) (fs : List Frame) (n : Bool) (e : Ends) → steps.consume c (top_of fs) (APunct Slash) n ≡ Go (Operand Plain e) → leaves c (APunct Slash) ≡ false → (steps.step (at c fs) (mark Slash n)).control ≡ Operand Plain e
went c fs n e is stay =
    ap (λ (d : Control). (steps.step_from d fs (mark Slash n)).control) (stays c (top_of fs) (APunct Slash) n (ap refuses is))
    ∙ ap (λ (gs : List Frame). (steps.moved (steps.consume c (top_of gs) (APunct Slash) n) gs).control) (kept c fs (APunct Slash) stay)
    ∙ ap (λ (a : Answer). (steps.moved a fs).control) is

pub division_lives : (c : Control) (fs : List Frame) (n : Bool) → steps.goal_of c ≡ Div → (steps.step (at c fs) (mark Slash n)).control ≡ Dead → ⊥
division_lives (AfterLeft r e) fs n g d = operand_lives e (sym (went (AfterLeft r e) fs n e (slash_goes r e (top_of fs)) refl) ∙ d)
division_lives AfterName fs n g d = operand_lives BySemicolon (sym (went AfterName fs n BySemicolon (slash_goes Target BySemicolon (top_of fs)) refl) ∙ d)
division_lives (AfterUpdate e) fs n g d = operand_lives e (sym (went (AfterUpdate e) fs n e (slash_goes Plain e (top_of fs)) refl) ∙ d)
division_lives _ fs n g d = absurd (div_is_not (sym g))
