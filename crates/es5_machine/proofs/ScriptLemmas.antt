-- A script is lexed under the goals that the machine offers, whatever the goals under which it has its tokens.
use Rattle.std.proofs.Common.{◌≡◌, ℕ, List, [], ◌∷◌, ◌++◌, refl, sym, ap, subst, ◌∙◌, inl, append_assoc}
use Rattle.std.proofs.lemmas.List.{append-nil}
use Rattle.es5_lexer.specs.Texts.{Mark, mark, chars, Lexes}
use Rattle.es5_lexer.specs.Suits.{Suits}
use Rattle.es5_lexer.specs.Begins.{Begins}
use Rattle.es5_lexer.specs.Lexing.{HasRead as LexerHasRead}
use Rattle.es5_lexer.specs.declared.tokens.Goal.{Goal}
use Rattle.es5_lexer.specs.declared.tokens.Lexeme.{Lexeme}
use Rattle.es5_lexer.specs.declared.lexer.Lexer.{Lexer}
use Rattle.es5_lexer.proofs.EitherLemmas.{has_reading, reading_has}
use Rattle.es5_lexer.proofs.LexerLemmas.{stays}
use Rattle.es5_trees.specs.Programs.{IsProgram}
use Rattle.es5_machine.specs.Scripts.{IsScriptText}

-- marks that are read of a longer text: those of its first characters, and the others
pub record Cut (read : List Mark) (text more : List ℕ) : Type 0 where
  pub first : List Mark
  pub others : List Mark
  pub is : read ≡ first ++ others
  pub spells : chars first ≡ text
  pub spells_others : chars others ≡ more

pub cut : (text more : List ℕ) (read : List Mark) → chars read ≡ text ++ more → Cut read text more
cut [] more read is = record { first = []; others = read; is = refl; spells = refl; spells_others = is }
cut (c ∷ text) more [] is = absurd (cc is)
cut (c ∷ text) more (m ∷ read) is =
    let rest = cut text more read (cc) in
    record {
      first = m ∷ rest.first;
      others = rest.others;
      is = ap (λ l. m ∷ l) rest.is;
      spells = let e : m.character ≡ c = cc in rw (e, rest.spells) refl;
      spells_others = rest.spells_others;
    }

-- whatever the goals, a program that begins with this text has its tokens under these marks
abbrev pub Offered : (marks : List Mark) → (text : List ℕ) → Type 0
Offered marks text = (read w : List Mark) (end : Goal) (tokens : List Lexeme) → chars read ≡ text → Lexes (read ++ w) end tokens
    → IsProgram tokens → Lexes (marks ++ w) end tokens

-- of no character there are no marks
pub none-read : Offered [] []
none-read [] w end tokens is lexes program = lexes
none-read (m ∷ read) w end tokens is lexes program = absurd (cc is)

-- the same after one character more, by a goal that suits the next token of each program
pub offered-on : (marks : List Mark) (text : List ℕ) (given : List Lexeme) (goal : Goal) (c : ℕ)
    → ((other : Goal) (w : List Mark) (end : Goal) (tokens : List Lexeme) → Lexes (marks ++ (mark other c ∷ w)) end tokens
    → Suits given goal tokens → Lexes (marks ++ (mark goal c ∷ w)) end tokens)
    → ((tokens : List Lexeme) → IsProgram tokens → Suits given goal tokens)
    → Offered marks text → Offered (marks ++ (mark goal c ∷ [])) (text ++ (c ∷ []))
offered-on marks text given goal c asks suits offered read w end tokens spells lexes program =
    by (cut text (c ∷ []) read spells)
  where
    last : (others : List Mark) → chars others ≡ c ∷ [] → (other : Goal) × (others ≡ mark other c ∷ [])
    last [] is = absurd (cc is)
    last (m ∷ []) is = (m.reading, let e : m.character ≡ c = cc in rw (← e) refl)
    last (m ∷ n ∷ others) is = absurd (cc is)

    by : Cut read text (c ∷ []) → Lexes ((marks ++ (mark goal c ∷ [])) ++ w) end tokens
    by k =
        let (other, is) = last k.others k.spells_others in
        let whole : read ++ w ≡ k.first ++ (mark other c ∷ w) =
        ap (λ t. t ++ w) (k.is ∙ ap (λ t. k.first ++ t) is) ∙ append_assoc k.first (mark other c ∷ []) w in
        let here = offered k.first (mark other c ∷ w) end tokens k.spells (subst (λ (t : List Mark). Lexes t end tokens) whole lexes) program in
        subst (λ (t : List Mark). Lexes t end tokens) (sym (append_assoc marks (mark goal c ∷ []) w))
        (asks other w end tokens here (suits tokens program))

-- these characters, each under this goal
abbrev pub marks_of : Goal → List ℕ → List Mark
marks_of goal [] = []
marks_of goal (c ∷ run) = mark goal c ∷ marks_of goal run

pub chars-of : (goal : Goal) (run : List ℕ) → chars (marks_of goal run) ≡ run
chars-of goal [] = refl
chars-of goal (c ∷ run) = ap (λ t. c ∷ t) (chars-of goal run)

-- the same after a run of characters whose goals don't count
pub offered-run : (marks q : List Mark) (text run : List ℕ)
    → ((p w : List Mark) (end : Goal) (tokens : List Lexeme) → chars p ≡ run → Lexes (marks ++ (p ++ w)) end tokens
    → Lexes (marks ++ (q ++ w)) end tokens)
    → Offered marks text → Offered (marks ++ q) (text ++ run)
offered-run marks q text run asks offered read w end tokens spells lexes program =
    let k = cut text run read spells in
    let whole : read ++ w ≡ k.first ++ (k.others ++ w) = ap (λ t. t ++ w) k.is ∙ append_assoc k.first k.others w in
    let here = offered k.first (k.others ++ w) end tokens k.spells (subst (λ (t : List Mark). Lexes t end tokens) whole lexes) program in
    subst (λ (t : List Mark). Lexes t end tokens) (sym (append_assoc marks q w)) (asks k.others w end tokens k.spells_others here)

-- a script that begins with the text has its tokens under these marks and further ones
pub record Goes (marks : List Mark) : Type 0 where
  pub others : List Mark
  pub end : Goal
  pub tokens : List Lexeme
  pub lexes : Lexes (marks ++ others) end tokens
  pub program : IsProgram tokens

pub goes : (marks : List Mark) (text more : List ℕ) → Offered marks text → IsScriptText (text ++ more) → Goes marks
goes marks text more offered script =
    let r = has_reading (text ++ more) script.tokens script.lexes in
    let k = cut text more r.read r.spells in
    record {
      others = k.others;
      end = r.end;
      tokens = script.tokens;
      lexes = offered k.first k.others r.end script.tokens k.spells (subst (λ (t : List Mark). Lexes t r.end script.tokens) k.is r.lexes) script.program;
      program = script.program;
    }

-- the lexer is dead: no script begins so
pub lexer-hopeless : (marks : List Mark) (text more : List ℕ) → Offered marks text → (Begins marks → ⊥)
    → IsScriptText (text ++ more) → ⊥
lexer-hopeless marks text more offered dead script =
    let g = goes marks text more offered script in
    dead (inl (record { back = g.others; end = g.end; tokens = g.tokens; lexes = g.lexes }))

-- the machine is
pub machine-hopeless : (lexer : Lexer) (marks : List Mark) (given : List Lexeme) (text more : List ℕ) → LexerHasRead lexer marks given
    → Offered marks text → ((w : List Lexeme) → IsProgram (given ++ w) → ⊥) → IsScriptText (text ++ more) → ⊥
machine-hopeless lexer marks given text more reads offered dead script =
    let g = goes marks text more offered script in
    let (others, is) = stays lexer marks given reads g.others g.end g.tokens g.lexes in
    dead others (subst (λ (t : List Lexeme). IsProgram t) is g.program)

-- a script has its tokens under these marks and the goal of the end
pub ended : (marks : List Mark) (text : List ℕ) (given : List Lexeme) (goal : Goal) → Offered marks text
    → ((other : Goal) (tokens : List Lexeme) → Lexes marks other tokens → Suits given goal tokens → Lexes marks goal tokens)
    → ((tokens : List Lexeme) → IsProgram tokens → Suits given goal tokens)
    → (script : IsScriptText text) → Lexes marks goal script.tokens
ended marks text given goal offered asks suits script =
    let r = has_reading text script.tokens script.lexes in
    let whole : Lexes (marks ++ []) r.end script.tokens =
    offered r.read [] r.end script.tokens r.spells (subst (λ (t : List Mark). Lexes t r.end script.tokens) (sym (append-nil r.read)) r.lexes) script.program in
    asks r.end script.tokens (subst (λ (t : List Mark). Lexes t r.end script.tokens) (append-nil marks) whole) (suits script.tokens script.program)

-- tokens that the text has under some goals
pub read-text : (marks : List Mark) (text : List ℕ) (goal : Goal) (tokens : List Lexeme) → chars marks ≡ text → Lexes marks goal tokens
    → IsProgram tokens → IsScriptText text
read-text marks text goal tokens spells lexes program = record {
  tokens = tokens;
  lexes = reading_has text tokens (record { read = marks; end = goal; spells = spells; lexes = lexes });
  program = program;
}
