-- What a character that is written by an escape says of the four digits.
use Rattle.std.proofs.Common.{◌≡◌, ℕ, Bool, true, false, ◌&&◌, ◌||◌, not, nat_lt, if◌then◌else◌, Some, None, refl}
use Rattle.es5_lexer.specs.Characters.{is_hex, code_of, escaped, is_escape_of}

-- the tests one by one
gives : (set : ℕ → Bool) (hex low high : Bool) (m n : ℕ) → (if hex then (if low then Some m else if high then None else Some m) else None) ≡ Some n → set n ≡ (hex && ((low || not high) && set m))
gives set true true high m n e = cc
gives set true false true m n e = absurd cc
gives set true false false m n e = cc
gives set false low high m n e = absurd cc

fails : (set : ℕ → Bool) (hex low high : Bool) (m : ℕ) → (if hex then (if low then Some m else if high then None else Some m) else None) ≡ None → false ≡ (hex && ((low || not high) && set m))
fails set true true high m e = absurd cc
fails set true false true m e = refl
fails set true false false m e = absurd cc
fails set false low high m e = refl

pub escaped-some : (set : ℕ → Bool) (a b c d n : ℕ) → escaped a b c d ≡ Some n → set n ≡ is_escape_of set a b c d
escaped-some set a b c d n e =
    gives set ((is_hex a && is_hex b) && (is_hex c && is_hex d)) (nat_lt (code_of a b c d) 0xD800) (nat_lt (code_of a b c d) 0xE000) (code_of a b c d) n e

pub escaped-none : (set : ℕ → Bool) (a b c d : ℕ) → escaped a b c d ≡ None → false ≡ is_escape_of set a b c d
escaped-none set a b c d e =
    fails set ((is_hex a && is_hex b) && (is_hex c && is_hex d)) (nat_lt (code_of a b c d) 0xD800) (nat_lt (code_of a b c d) 0xE000) (code_of a b c d) e
