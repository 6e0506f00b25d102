-- JSON tests: what one knows of the bytes that were read.
use Rattle.std.specs.Prelude.{◌≡◌, ℕ, Bool, true, false, List, ◌++◌}
use Rattle.text_stream.specs.Decoding.{characters_of}
use Rattle.text_stream.specs.Decoder.{HasRead as DecoderHasRead}
use Rattle.json_recogniser.specs.declared.json_test.JsonTest.{JsonTest}
use Rattle.json_recogniser.specs.Residuals.{is_json, is_dead_state}
use Rattle.json_recogniser.specs.Machines.{comes}

-- the bytes are no JSON text, whatever follows
abbrev pub IsNever : List ℕ → Type 0
IsNever bytes = (more : List ℕ) → is_json (characters_of (bytes ++ more)) ≡ false

-- the test has seen that
abbrev pub is_dead : JsonTest → Bool
is_dead test = is_dead_state test.machine.state

-- the decoder has read the bytes, and the machine the characters that it gave
pub record Reads (test : JsonTest) (bytes : List ℕ) : Type 0 where
  pub given : List ℕ
  pub decoder : DecoderHasRead test.decoder bytes given
  pub machine : (text : List ℕ) → comes test.machine text ≡ is_json (given ++ text)

-- the test was fed the bytes: a dead one knows that they are no JSON text, whatever follows, and reads no further
pub record HasRead (test : JsonTest) (bytes : List ℕ) : Type 0 where
  pub dead : is_dead test ≡ true → IsNever bytes
  pub alive : is_dead test ≡ false → Reads test bytes
