-- What a test of scripts has read of some bytes.
use Rattle.std.specs.Prelude.{◌≡◌, ℕ, Bool, false, List, [], ◌++◌}
use Rattle.text_stream.specs.Decoder.{HasRead as DecoderHasRead}
use Rattle.es5_machine.specs.ScriptReading.{ReaderHasRead}
use Rattle.es5_machine.specs.declared.script_tests.ScriptTest.{ScriptTest}

-- it has seen that nothing can make a script of what it has read
abbrev pub is_dead : ScriptTest → Bool
is_dead test = test.reader.dead

-- the decoder has read the bytes, and the reader their characters
pub record Reads (test : ScriptTest) (bytes : List ℕ) : Type 0 where
  pub text : List ℕ
  pub decoder : DecoderHasRead test.decoder bytes text
  pub reader : ReaderHasRead test.reader text

-- it has read the first of the bytes, and all of them unless it is dead
pub record HasRead (test : ScriptTest) (bytes : List ℕ) : Type 0 where
  pub first : List ℕ
  pub others : List ℕ
  pub is : bytes ≡ first ++ others
  pub reads : Reads test first
  pub all : test.reader.dead ≡ false → others ≡ []
