-- What a reader of scripts has read of a text.
use Rattle.std.specs.Prelude.{◌≡◌, ℕ, true, false, List, ◌++◌}
use Rattle.es5_lexer.specs.Texts.{Mark, chars, Lexes}
use Rattle.es5_lexer.specs.Lexing.{HasRead as LexerHasRead}
use Rattle.es5_lexer.specs.declared.tokens.Goal.{Goal}
use Rattle.es5_lexer.specs.declared.tokens.Lexeme.{Lexeme}
use Rattle.es5_lexer.specs.Suits.{Suits}
use Rattle.es5_trees.specs.Programs.{IsProgram}
use Rattle.es5_machine.specs.Reading.{HasRead as MachineHasRead}
use Rattle.es5_machine.specs.Scripts.{IsScriptText}
use Rattle.es5_machine.specs.declared.scripts.ScriptReader.{ScriptReader}

-- the machine has read these tokens, and its goal suits the next token of each program
pub record Offers (reader : ScriptReader) (given : List Lexeme) : Type 0 where
  pub machine : MachineHasRead reader.machine given
  pub suits : (tokens : List Lexeme) → IsProgram tokens → Suits given reader.goal tokens

-- The lexer has read the text under the goals that the machine offered, and the machine the tokens that it gave. Under
-- whatever goals a program that begins so has its tokens, it has them also under those offered.
pub record Reads (reader : ScriptReader) (text : List ℕ) : Type 0 where
  pub marks : List Mark
  pub given : List Lexeme
  pub lexer : LexerHasRead reader.lexer marks given
  pub offers : Offers reader given
  pub spells : chars marks ≡ text
  pub offered : (read w : List Mark) (end : Goal) (tokens : List Lexeme) → chars read ≡ text → Lexes (read ++ w) end tokens
      → IsProgram tokens → Lexes (marks ++ w) end tokens

-- it has read the text, or no script begins so
pub record ReaderHasRead (reader : ScriptReader) (text : List ℕ) : Type 0 where
  pub alive : reader.dead ≡ false → Reads reader text
  pub hopeless : reader.dead ≡ true → (more : List ℕ) → IsScriptText (text ++ more) → ⊥
