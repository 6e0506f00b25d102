-- JSON is read of a text in UTF-8, and of no other.
use Rattle.std.proofs.Common.{◌≡◌, ℕ, Bool, true, false, List, None, refl}
use Rattle.std.specs.Str.{IsUtf8, is_utf8}
use Rattle.std.proofs.lemmas.Str.{IsUtf8-from_is_utf8, is_utf8-from_IsUtf8}
use Rattle.serde_json.specs.Read.{read}
use Rattle.har_recording.specs.Log.{json_of}

pub json_in_utf8 : (text : List ℕ) → IsUtf8 text → json_of text ≡ read text
json_in_utf8 text is = rw (is_utf8-from_IsUtf8 text is) refl

pub no_json : (text : List ℕ) → (IsUtf8 text → ⊥) → json_of text ≡ None
no_json text other = go (is_utf8 text) refl
  where
    go : (b : Bool) → is_utf8 text ≡ b → json_of text ≡ None
    go true e = absurd (other (IsUtf8-from_is_utf8 text e))
    go false e = rw e refl
