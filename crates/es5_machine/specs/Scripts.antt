-- Which texts are scripts (ECMA-262 5.1, section 14).
use Rattle.std.specs.Prelude.{ℕ, List}
use Rattle.text_stream.specs.Decoding.{characters_of}
use Rattle.es5_lexer.specs.Texts.{LexesEither}
use Rattle.es5_lexer.specs.declared.tokens.Lexeme.{Lexeme}
use Rattle.es5_trees.specs.Programs.{IsProgram}

-- the characters have tokens, each slash read in either way, which are a program that nests at most 1,024 deep
pub record IsScriptText (text : List ℕ) : Type 0 where
  pub tokens : List Lexeme
  pub lexes : LexesEither text tokens
  pub program : IsProgram tokens

-- the characters of the bytes are
abbrev pub IsScript : (bytes : List ℕ) → Type 0
IsScript bytes = IsScriptText (characters_of bytes)
