-- Patterns, offset by offset.
use Rattle.std.proofs.Common.{◌≡◌, ℕ, Bool, true, List, length, arith}
use Rattle.orb_bytes.proofs.MaskedLemmas.{to_places, from_places}
use Rattle.signatures.specs.Patterns.{MatchesByPlace, is_match, sniffed_part}

pub by_place : (bytes mask : List ℕ) (skip : Bool) (window : List ℕ) → length mask ≡ length bytes
    → (is_match bytes mask skip window ≡ true → MatchesByPlace bytes mask skip window)
    × (MatchesByPlace bytes mask skip window → is_match bytes mask skip window ≡ true)
by_place bytes mask skip window same = (
  λ is. let offsets = to_places bytes mask (sniffed_part skip window) is in record { long = offsets.long; each = offsets.each },
  λ is. from_places bytes mask (sniffed_part skip window) (omega arith) (record { long = is.long; each = is.each }),
)
