-- Bytes under a mask, place by place.
use Rattle.std.proofs.Common.{◌≡◌, ℕ, zero, suc, ◌<◌, ◌≤◌, Bool, true, false, ◌&&◌, ◌==◌, List, [], ◌∷◌, length, slice_index, bit_and, refl, arith}
use Rattle.std.proofs.lemmas.Bool.{and_parts, and_from, false_from_ne_true}
use Rattle.std.proofs.lemmas.Bool.Decides.{Decides-eqb}
use Rattle.orb_bytes.specs.Rows.{begins_masked, BeginsByPlace}

-- each place agrees where the text begins with the bytes
pub to_places : (bytes mask text : List ℕ) → begins_masked bytes mask text ≡ true → BeginsByPlace bytes mask text
to_places [] mask text is = record { long = omega arith; each = λ k below. absurd (omega arith) }
to_places (b ∷ bytes) [] text is = absurd (cc)
to_places (b ∷ bytes) (m ∷ mask) [] is = absurd (cc)
to_places (b ∷ bytes) (m ∷ mask) (t ∷ text) is =
    let parts = and_parts (bit_and t m == b) (begins_masked bytes mask text) is in
    let more = to_places bytes mask text parts.1 in
    record { long = omega (arith, more.long); each = each more.each ((Decides-eqb (bit_and t m) b).0 parts.0) } where
      each : ((k : ℕ) → k < length bytes → bit_and (slice_index text k) (slice_index mask k) ≡ slice_index bytes k)
          → bit_and t m ≡ b → (k : ℕ) → k < length (b ∷ bytes)
          → bit_and (slice_index (t ∷ text) k) (slice_index (m ∷ mask) k) ≡ slice_index (b ∷ bytes) k
      each more first zero below = first
      each more first (suc k) below = more k (omega arith)

-- and the other way round
pub from_places : (bytes mask text : List ℕ) → length bytes ≤ length mask → BeginsByPlace bytes mask text → begins_masked bytes mask text ≡ true
from_places [] mask text same is = refl
from_places (b ∷ bytes) [] text same is = absurd (omega arith)
from_places (b ∷ bytes) (m ∷ mask) [] same is = absurd (omega (arith, is.long))
from_places (b ∷ bytes) (m ∷ mask) (t ∷ text) same is =
    and_from (bit_and t m == b) (begins_masked bytes mask text) ((Decides-eqb (bit_and t m) b).1 (is.each 0 (omega arith)))
    (from_places bytes mask text (omega arith) (record { long = omega (arith, is.long); each = λ k below. is.each (suc k) (omega arith) }))

-- a text or a mask with fewer bytes doesn't begin with them
pub begins_masked-short : (bytes mask text : List ℕ) → length text < length bytes → begins_masked bytes mask text ≡ false
begins_masked-short bytes mask text short =
    false_from_ne_true (begins_masked bytes mask text)
    (λ is. let long = (to_places bytes mask text is).long in absurd (omega arith))

pub begins_masked-bare : (bytes mask text : List ℕ) → length mask < length bytes → begins_masked bytes mask text ≡ false
begins_masked-bare [] mask text short = absurd (omega arith)
begins_masked-bare (b ∷ bytes) [] text short = refl
begins_masked-bare (b ∷ bytes) (m ∷ mask) [] short = refl
begins_masked-bare (b ∷ bytes) (m ∷ mask) (t ∷ text) short =
    rw (begins_masked-bare bytes mask text (omega arith)) (never (bit_and t m == b)) where
      never : (v : Bool) → (v && false) ≡ false
      never true = refl
      never false = refl

-- a place that differs settles it
pub begins_masked-differs : (bytes mask text : List ℕ) (place : ℕ) → place < length bytes
    → ¬ (bit_and (slice_index text place) (slice_index mask place) ≡ slice_index bytes place)
    → begins_masked bytes mask text ≡ false
begins_masked-differs bytes mask text place below differs =
    false_from_ne_true (begins_masked bytes mask text) (λ is. differs ((to_places bytes mask text is).each place below))
