-- Patterns of bytes under a mask, and where a text stands in a window (WHATWG MIME Sniffing 6).
use Rattle.std.specs.Prelude.{◌≡◌, ℕ, zero, suc, ◌<◌, ◌≤◌, Bool, false, ◌||◌, nat_eq, List, length, drop, slice_index, bit_and, if◌then◌else◌}
use Rattle.std.specs.List.{starts_with}
use Rattle.orb_bytes.specs.Bytes.{is_whitespace_byte}
use Rattle.orb_bytes.specs.Trim.{without_leading}
use Rattle.orb_bytes.specs.Rows.{begins_masked}

-- the window from where a pattern is looked for: after its leading whitespace bytes, where those
-- are ignored
abbrev pub sniffed_part : Bool → List ℕ → List ℕ
sniffed_part skip window = if skip then without_leading is_whitespace_byte window else window

-- the window matches the pattern (WHATWG MIME Sniffing 6, the pattern matching algorithm)
abbrev pub is_match : List ℕ → List ℕ → Bool → List ℕ → Bool
is_match bytes mask skip window = begins_masked bytes mask (sniffed_part skip window)

-- the same, said of each offset of the pattern: the sniffed part has a byte there, and that byte under
-- the mask is the pattern's
pub record MatchesByPlace (bytes mask : List ℕ) (skip : Bool) (window : List ℕ) : Type 0 where
  pub long : length bytes ≤ length (sniffed_part skip window)
  pub each : (k : ℕ) → k < length bytes
      → bit_and (slice_index (sniffed_part skip window) k) (slice_index mask k) ≡ slice_index bytes k

-- the text stands in the window at the offset
abbrev pub stands_at : List ℕ → ℕ → List ℕ → Bool
stands_at text offset window = starts_with nat_eq (drop offset window) text

-- the test passes at some offset below the end
unfoldable pub some_below : ℕ → (ℕ → Bool) → Bool
some_below zero test = false
some_below (suc n) test = test n || some_below n test
