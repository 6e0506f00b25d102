-- What the rules ask of a body that is read as text, as truth values: each is decided.
use Rattle.std.specs.Prelude.{ℕ, Bool, true, false, List}
use Rattle.std.proofs.Common.{inl, inr}
use Rattle.text_stream.specs.Decoding.{characters_of}
use Rattle.es5_lexer.proofs.DecidedLemmas.{Decision}
use Rattle.es5_machine.specs.Scripts.{IsScriptText}
use Rattle.es5_machine.proofs.Decided.{decided_text}
use Rattle.json_recogniser.specs.Residuals as json

-- the truth of what is decided
abbrev pub truth_of : (A : Type 0) → Decision A → Bool
truth_of A (inl holds) = true
truth_of A (inr never) = false

-- it is a script (ECMA-262 5.1, section 14): the truth of `IsScript`
unfoldable pub is_script : List ℕ → Bool
is_script body = truth_of (IsScriptText (characters_of body)) (decided_text (characters_of body))

-- it is a JSON text (RFC 8259): the truth of `IsJson` of its characters
unfoldable pub is_json : List ℕ → Bool
is_json body = json.is_json (characters_of body)
