-- What the machine's answers say of the tokens that it has read.
use Rattle.std.proofs.Common.{◌≡◌, ℕ, ◌≤◌, Bool, true, List, [], ◌∷◌, ◌⊎◌, inl, inr, refl, sym, ap, subst, ◌∙◌, arith}
use Rattle.es5_lexer.specs.declared.tokens.Punct.TheVariants.{Slash}
use Rattle.es5_lexer.specs.declared.tokens.Token.TheVariants.{Punct as APunct}
use Rattle.es5_lexer.specs.declared.tokens.Lexeme.{Lexeme}
use Rattle.es5_trees.specs.Words.{mark}
use Rattle.es5_trees.specs.Trees.{Elements}
use Rattle.es5_trees.specs.Spelling.{elements_text}
use Rattle.es5_trees.specs.Good.{GoodElements}
use Rattle.es5_machine.specs.declared.states.Control.{Control}
use Rattle.es5_machine.specs.declared.states.Control.TheVariants.{Dead}
use Rattle.es5_machine.specs.Steps as steps
use Rattle.es5_machine.specs.Steps.{Config, at, top_of, popped, without_branches, settled, in_stands, inside, ended, omits, refuses, leaves}
use Rattle.std.proofs.Common.{◌++◌, ◌↔◌, append_assoc}
use Rattle.es5_lexer.specs.declared.tokens.Goal.{Goal}
use Rattle.es5_lexer.specs.declared.tokens.Goal.TheVariants.{Div, RegExp}
use Rattle.es5_lexer.specs.Suits.{suits, Suits}
use Rattle.es5_trees.specs.Depths.{greatest, elements_depths}
use Rattle.es5_trees.specs.Programs.{IsProgram, IsViable, firsts}
use Rattle.es5_machine.specs.Reading.{HasRead, IsDead}
use Rattle.es5_machine.proofs.ExpressionSoundness.{differ}
use Rattle.es5_machine.proofs.Free.{step, run, heights, Accepted, Accepts, run_same, run_room}
use Rattle.es5_machine.proofs.Soundness.{accepted_spelled}
use Rattle.es5_machine.proofs.Moves.{dead_accepts}
use Rattle.es5_machine.proofs.Completeness.{program_goes}
use Rattle.es5_machine.proofs.Fits.{Fits, run_fits}
use Rattle.es5_machine.proofs.Closing.{completion, completes}
use Rattle.es5_machine.proofs.Slashes.{is_dead_state, goal_suits, division_lives}

steps_append : (m w : List Lexeme) (v : Config) → steps.run v (m ++ w) ≡ steps.run (steps.run v m) w
steps_append [] w v = refl
steps_append (x ∷ m) w v = steps_append m w (steps.step v x)

free_append : (m w : List Lexeme) (v : Config) → run v (m ++ w) ≡ run (run v m) w
free_append [] w v = refl
free_append (x ∷ m) w v = free_append m w (step v x).config

first_heights : (m w : List Lexeme) (v : Config) → firsts m (heights v (m ++ w)) ≡ heights v m
first_heights [] w v = refl
first_heights (x ∷ m) w v = ap (λ ns. (step v x).depth ∷ ns) (first_heights m w (step v x).config)

lives : (v : Config) → steps.accepts v ≡ true → v.control ≡ Dead → ⊥
lives v h e = differ (subst (λ (c : Control). steps.accepts (at c v.frames) ≡ true) e h)

-- the tokens of a tree are accepted, and stand as deep as it has them
tree_goes : (w : List Lexeme) (es : Elements) → GoodElements es [] → w ≡ elements_text es [] → Accepts steps.begun w (elements_depths 0 es [])
tree_goes w es g s = subst (λ (u : List Lexeme). Accepts steps.begun u (elements_depths 0 es [])) (sym s) (program_goes es g)

-- what the machine accepts is a program, and each program is accepted

pub finishes : (m : List Lexeme) → steps.accepts (steps.run steps.begun m) ≡ true → IsProgram m
finishes m h =
    let room = run_room m steps.begun (omega arith) (lives (steps.run steps.begun m) h) in
    let s = accepted_spelled m (subst (λ (v : Config). steps.accepts v ≡ true) (run_same m steps.begun (omega arith) room) h) in
    record {
      program = s.program;
      good = s.good;
      shallow = subst (λ (ns : List ℕ). greatest ns ≤ 1024) (tree_goes m s.program s.good s.spells).1 room;
      spells = s.spells;
    }

pub program_finishes : (m : List Lexeme) → IsProgram m → steps.accepts (steps.run steps.begun m) ≡ true
program_finishes m p =
    let k = tree_goes m p.program p.good p.spells in
    let room : greatest (heights steps.begun m) ≤ 1024 = subst (λ (ns : List ℕ). greatest ns ≤ 1024) (sym k.1) p.shallow in
    subst (λ (v : Config). steps.accepts v ≡ true) (sym (run_same m steps.begun (omega arith) room)) k.0

-- the machine is dead exactly where its tokens aren't viable

begun_fits : Fits steps.begun
begun_fits = record { on = refl; stacked = tt }

pub alive_viable : (m : List Lexeme) → ((steps.run steps.begun m).control ≡ Dead → ⊥) → IsViable m
alive_viable m alive =
    let room = run_room m steps.begun (omega arith) alive in
    let same = run_same m steps.begun (omega arith) room in
    let v = run steps.begun m in
    let c = completion v in
    let a : Accepted steps.begun (m ++ c) = subst (λ (u : Config). steps.accepts u ≡ true) (sym (free_append m c steps.begun)) (completes v (λ e. alive (ap (λ (u : Config). u.control) same ∙ e)) (run_fits m steps.begun begun_fits)) in
    let s = accepted_spelled (m ++ c) a in
    record {
      others = c;
      program = s.program;
      good = s.good;
      spells = s.spells;
      shallow = subst (λ (ns : List ℕ). greatest ns ≤ 1024) (sym (first_heights m c steps.begun) ∙ ap (λ ns. firsts m ns) (tree_goes (m ++ c) s.program s.good s.spells).1) room;
    }

pub viable_alive : (m : List Lexeme) → IsViable m → (steps.run steps.begun m).control ≡ Dead → ⊥
viable_alive m p dead =
    let k = tree_goes (m ++ p.others) p.program p.good p.spells in
    let room : greatest (heights steps.begun m) ≤ 1024 = subst (λ (ns : List ℕ). greatest ns ≤ 1024) (ap (λ ns. firsts m ns) (sym k.1) ∙ first_heights m p.others steps.begun) p.shallow in
    let same = run_same m steps.begun (omega arith) room in
    let there : Accepted (run steps.begun m) p.others = subst (λ (u : Config). steps.accepts u ≡ true) (free_append m p.others steps.begun) k.0 in
    dead_accepts (run steps.begun m).frames p.others (subst (λ (d : Control). Accepted (at d (run steps.begun m).frames) p.others) (sym (ap (λ (u : Config). u.control) same) ∙ dead) there)

program_viable : (m w : List Lexeme) → IsProgram (m ++ w) → IsViable m
program_viable m w p = record {
  others = w;
  program = p.program;
  good = p.good;
  spells = p.spells;
  shallow = by m (elements_depths 0 p.program []) p.shallow;
}
  where
    by : (u : List Lexeme) (ns : List ℕ) → greatest ns ≤ 1024 → greatest (firsts u ns) ≤ 1024
    by [] ns h = omega arith
    by (x ∷ u) [] h = omega arith
    by (x ∷ u) (n ∷ ns) h = let k = by u ns (omega arith) in omega arith

dead_or_not : (c : Control) → (c ≡ Dead) ⊎ (c ≡ Dead → ⊥)
dead_or_not Dead = inl refl
dead_or_not _ = inr (λ e. differ (ap is_dead_state e))

-- of a machine that has read the tokens

has_read_more : (v : Config) (m : List Lexeme) (x : Lexeme) → HasRead v m → HasRead (steps.step v x) (m ++ (x ∷ []))
has_read_more v m x h = record { stands = ap (λ (u : Config). steps.step u x) h.stands ∙ sym (steps_append m (x ∷ []) steps.begun) }

pub has_read_then : (v u : Config) (m : List Lexeme) (x : Lexeme) → u ≡ steps.step v x → HasRead v m → HasRead u (m ++ (x ∷ []))
has_read_then v u m x e h = record { stands = e ∙ (has_read_more v m x h).stands }

dead_along : (v : Config) (m : List Lexeme) → HasRead v m → IsDead v → (steps.run steps.begun m).control ≡ Dead
dead_along v m h d = ap (λ (u : Config). u.control) (sym h.stands) ∙ d

pub dead_exact : (v : Config) (m : List Lexeme) → HasRead v m → IsDead v ↔ (IsViable m → ⊥)
dead_exact v m h = (λ d p. viable_alive m p (dead_along v m h d), λ none. by none (dead_or_not v.control))
  where
    by : (IsViable m → ⊥) → (v.control ≡ Dead) ⊎ (v.control ≡ Dead → ⊥) → IsDead v
    by none (inl d) = d
    by none (inr alive) = absurd (none (alive_viable m (λ d. alive (ap (λ (u : Config). u.control) h.stands ∙ d))))

pub dead_hopeless : (v : Config) (m w : List Lexeme) → HasRead v m → IsDead v → IsProgram (m ++ w) → ⊥
dead_hopeless v m w h d p = viable_alive m (program_viable m w p) (dead_along v m h d)

pub finish_exact : (v : Config) (m : List Lexeme) → HasRead v m → (steps.accepts v ≡ true) ↔ IsProgram m
finish_exact v m h =
    (λ a. finishes m (subst (λ (u : Config). steps.accepts u ≡ true) h.stands a), λ p. subst (λ (u : Config). steps.accepts u ≡ true) (sym h.stands) (program_finishes m p))

pub lives_exact : (v : Config) (m : List Lexeme) (x : Lexeme) → HasRead v m → (IsDead (steps.step v x) → ⊥) ↔ IsViable (m ++ (x ∷ []))
lives_exact v m x h = (
  λ alive. alive_viable (m ++ (x ∷ [])) (λ d. alive (ap (λ (u : Config). u.control) (has_read_more v m x h).stands ∙ d)),
  λ p d. viable_alive (m ++ (x ∷ [])) p (dead_along (steps.step v x) (m ++ (x ∷ [])) (has_read_more v m x h) d),
)

-- of a program the goal suits the next token
pub goal_exact : (v : Config) (m ts : List Lexeme) (g : Goal) → steps.goal_of v.control ≡ g → HasRead v m → IsProgram ts → Suits m g ts
goal_exact v m ts g is h p x others e =
    goal_suits v.control v.frames x g is ((lives_exact v m x h).1 (program_viable (m ++ (x ∷ [])) others (subst IsProgram (e ∙ sym (append_assoc m (x ∷ []) others)) p)))

-- and division is the goal exactly where one may come
pub division_exact : (v : Config) (m : List Lexeme) (n : Bool) (g : Goal) → steps.goal_of v.control ≡ g → HasRead v m → (g ≡ Div) ↔ IsViable (m ++ (mark Slash n ∷ []))
division_exact v m n g is h = (
  λ d. (lives_exact v m (mark Slash n) h).0 (division_lives v.control v.frames n (is ∙ d)),
  λ p. by g (goal_suits v.control v.frames (mark Slash n) g is ((lives_exact v m (mark Slash n) h).1 p)),
)
  where
    by : (k : Goal) → suits (APunct Slash) k ≡ true → k ≡ Div
    by Div s = refl
    by RegExp s = absurd (differ s)
