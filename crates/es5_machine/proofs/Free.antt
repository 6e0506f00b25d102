-- The same machine with no bound on its stack, and how deep each token stands that it reads. Where it
-- stays within the bound the machine does the same; where the machine isn't dead, it does stay within.
use Rattle.std.proofs.Common.{◌≡◌, ℕ, suc, ◌<◌, ◌≤◌, Bool, true, false, if◌then◌else◌, ◌⊎◌, inl, inr, List, [], ◌∷◌, length, refl, sym, ap, subst, ◌∙◌, arith}
use Rattle.std.proofs.lemmas.Bool.{cases_lt, lt-ltb, le-ltb}
use Rattle.es5_lexer.specs.declared.tokens.Token.{Token}
use Rattle.es5_lexer.specs.declared.tokens.Lexeme.{Lexeme}
use Rattle.es5_trees.specs.Depths.{greatest}
use Rattle.es5_machine.specs.declared.states.Frame.{Frame}
use Rattle.es5_machine.specs.declared.states.Frame.TheVariants.{Branch, Do}
use Rattle.es5_machine.specs.declared.states.Control.{Control}
use Rattle.es5_machine.specs.declared.states.Control.TheVariants.{Dead}
use Rattle.es5_machine.specs.declared.states.Answer.{Answer}
use Rattle.es5_machine.specs.declared.states.Answer.TheVariants.{Refuse, Go, Push, Pop, Swap}
use Rattle.es5_machine.specs.Steps as steps
use Rattle.es5_machine.specs.Steps.{Config, at, top_of, without_branches, settled, leaves, before, consume, accepts}

-- where the machine goes, and how many units are open at the token that it goes by
pub record Move : Type 0 where
  pub config : Config
  pub depth : ℕ

abbrev pub to : Control → List Frame → ℕ → Move
to c fs depth = record { config = at c fs; depth = depth }

-- at the token that ends a unit over these frames: `else` and the `while` of a `do` stand outside it
abbrev pub closing_depth : Frame → List Frame → ℕ
closing_depth Branch fs = length fs
closing_depth Do fs = length fs
closing_depth _ fs = suc (length fs)

abbrev pub moved : Answer → List Frame → Move
moved Refuse fs = to Dead fs (length fs)
moved (Go c) fs = to c fs (length fs)
moved (Push f c) fs = to c (f ∷ fs) (suc (length fs))
moved (Pop c) [] = to c [] 0
moved (Pop c) (f ∷ fs) = to c fs (closing_depth f fs)
moved (Swap f c) [] = to c (f ∷ []) 1
moved (Swap f c) (g ∷ fs) = to c (f ∷ fs) (suc (length fs))

abbrev pub step_from : Control → List Frame → Lexeme → Move
step_from c fs x =
    moved (consume c (top_of (settled c fs x.token)) x.token x.newline) (settled c fs x.token)

abbrev pub step : Config → Lexeme → Move
step v x = step_from (before v.control (top_of v.frames) x.token x.newline) v.frames x

abbrev pub run : Config → List Lexeme → Config
run v [] = v
run v (x ∷ w) = run (step v x).config w

-- how deep each token stands
abbrev pub heights : Config → List Lexeme → List ℕ
heights v [] = []
heights v (x ∷ w) = (step v x).depth ∷ heights (step v x).config w

-- from here the tokens end a script
abbrev pub Accepted : Config → List Lexeme → Type 0
Accepted v w = accepts (run v w) ≡ true

-- and stand so deep
abbrev pub Accepts : Config → List Lexeme → List ℕ → Type 0
Accepts v w ds = Accepted v w × (heights v w ≡ ds)

-- the same after a token, whose depth comes first
abbrev pub Taken : Move → List Lexeme → List ℕ → Type 0
Taken m w ds = Accepted m.config w × (m.depth ∷ heights m.config w ≡ ds)

-- a step of the machine beside one of the free machine
record Ties (tied : Config) (free : Move) : Type 0 where
  pub same : free.depth ≤ 1024 → tied ≡ free.config
  pub deep : 1024 < free.depth → tied.control ≡ Dead
  pub room : free.depth ≤ 1024 → length free.config.frames ≤ 1024

tied : (a : Answer) (fs : List Frame) → length fs ≤ 1024 → Ties (steps.moved a fs) (moved a fs)
tied Refuse fs h = record { same = λ _. refl; deep = λ _. refl; room = λ _. h }
tied (Go c) fs h = record { same = λ _. refl; deep = λ d. absurd (omega arith); room = λ _. h }
tied (Push f c) fs h = record {
  same = λ d. rw (lt-ltb (length fs) 1024 (omega arith)) refl;
  deep = λ d. rw (le-ltb (length fs) 1024 (omega arith)) refl;
  room = λ d. d;
}
tied (Pop c) [] h = record { same = λ _. refl; deep = λ d. absurd (omega arith); room = λ d. d }
tied (Pop c) (f ∷ fs) h = record { same = λ _. refl; deep = λ d. absurd (closes f d); room = λ _. omega arith }
  where
    closes : (g : Frame) → 1024 < closing_depth g fs → ⊥
    closes Branch d = omega arith
    closes _ d = omega arith
tied (Swap f c) [] h = record { same = λ _. refl; deep = λ d. absurd (omega arith); room = λ d. d }
tied (Swap f c) (g ∷ fs) h = record { same = λ _. refl; deep = λ d. absurd (omega arith); room = λ d. d }

branches_short : (fs : List Frame) → length (without_branches fs) ≤ length fs
branches_short [] = omega arith
branches_short (Branch ∷ fs) = let h = branches_short fs in omega arith
branches_short (_ ∷ fs) = omega arith

settled_short : (c : Control) (fs : List Frame) (t : Token) → length fs ≤ 1024 → length (settled c fs t) ≤ 1024
settled_short c fs t h = by (leaves c t)
  where
    by : (b : Bool) → length (if b then without_branches fs else fs) ≤ 1024
    by true = let short = branches_short fs in omega arith
    by false = h

tied_step : (v : Config) (x : Lexeme) → length v.frames ≤ 1024 → Ties (steps.step v x) (step v x)
tied_step v x h =
    let c = before v.control (top_of v.frames) x.token x.newline in
    tied (consume c (top_of (settled c v.frames x.token)) x.token x.newline) (settled c v.frames x.token) (settled_short c v.frames x.token h)

-- within the bound the machine does what the free one does
pub run_same : (w : List Lexeme) (v : Config) → length v.frames ≤ 1024 → greatest (heights v w) ≤ 1024 → steps.run v w ≡ run v w
run_same [] v h g = refl
run_same (x ∷ w) v h g =
    let t = tied_step v x h in
    let d : (step v x).depth ≤ 1024 = omega arith in
    ap (λ (u : Config). steps.run u w) (t.same d) ∙ run_same w (step v x).config (t.room d) (omega arith)

dead_step : (c : Control) (fs : List Frame) (x : Lexeme) → c ≡ Dead → (steps.step (at c fs) x).control ≡ Dead
dead_step c fs x e = subst (λ k. (steps.step (at k fs) x).control ≡ Dead) (sym e) refl

-- the dead stay dead
pub dead_stays : (w : List Lexeme) (v : Config) → v.control ≡ Dead → (steps.run v w).control ≡ Dead
dead_stays [] v e = e
dead_stays (x ∷ w) v e = dead_stays w (steps.step v x) (dead_step v.control v.frames x e)

-- where the machine isn't dead it has kept within the bound
pub run_room : (w : List Lexeme) (v : Config) → length v.frames ≤ 1024 → ((steps.run v w).control ≡ Dead → ⊥) → greatest (heights v w) ≤ 1024
run_room [] v h alive = omega arith
run_room (x ∷ w) v h alive =
    by (tied_step v x h) (cases_lt 1024 (step v x).depth)
    (λ room same. run_room w (step v x).config room (λ e. alive (ap (λ (u : Config). (steps.run u w).control) same ∙ e)))
  where
    by : Ties (steps.step v x) (step v x) → (1024 < (step v x).depth) ⊎ ((step v x).depth ≤ 1024) → (length (step v x).config.frames ≤ 1024 → steps.step v x ≡ (step v x).config → greatest (heights (step v x).config w) ≤ 1024) → greatest (heights v (x ∷ w)) ≤ 1024
    by t (inl d) more = absurd (alive (dead_stays w (steps.step v x) (t.deep d)))
    by t (inr d) more = let g = more (t.room d) (t.same d) in omega arith
