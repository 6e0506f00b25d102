-- Rows of bytes under masks, and which of them a text begins with (WHATWG MIME Sniffing 6, the pattern matching algorithm
-- where no leading bytes are ignored).
use Rattle.std.specs.Prelude.{◌≡◌, ℕ, zero, suc, ◌<◌, ◌≤◌, Bool, true, false, ◌&&◌, ◌==◌, not, nat_le, nat_lt, ◌+◌, List, [], ◌∷◌, length, slice_index, bit_and, Option, position}
use Rattle.std.specs.List.{list_all}
use Rattle.orb_bytes.specs.declared.rows.Row.{Row}

-- the text begins with the bytes under the mask: it has a byte at each of their places, and that byte
-- under the mask is theirs
abbrev pub begins_masked : List ℕ → List ℕ → List ℕ → Bool
begins_masked [] mask text = true
begins_masked (b ∷ bytes) [] text = false
begins_masked (b ∷ bytes) (m ∷ mask) [] = false
begins_masked (b ∷ bytes) (m ∷ mask) (t ∷ text) = bit_and t m == b && begins_masked bytes mask text

-- the same, said of each place
pub record BeginsByPlace (bytes mask text : List ℕ) : Type 0 where
  pub long : length bytes ≤ length text
  pub each : (k : ℕ) → k < length bytes
      → bit_and (slice_index text k) (slice_index mask k) ≡ slice_index bytes k

-- there are more of the bytes than of the text, and so far the text agrees with them under the mask
abbrev pub goes_on_masked : List ℕ → List ℕ → List ℕ → Bool
goes_on_masked [] mask text = false
goes_on_masked (b ∷ bytes) [] text = false
goes_on_masked (b ∷ bytes) (m ∷ mask) [] = true
goes_on_masked (b ∷ bytes) (m ∷ mask) (t ∷ text) = bit_and t m == b && goes_on_masked bytes mask text

-- the text begins with the row
abbrev pub is_matched : List ℕ → Row → Bool
is_matched text row = begins_masked row.bytes.now row.mask.now text

-- the text is as long as the row besides
abbrev pub is_just_matched : List ℕ → Row → Bool
is_just_matched text row = length row.bytes.now == length text && is_matched text row

-- the row is longer than the text, and may be matched by a text that begins with this one
abbrev pub is_open : List ℕ → Row → Bool
is_open text row = goes_on_masked row.bytes.now row.mask.now text

-- the least index of a row with which the text begins
abbrev pub first_matched : List Row → List ℕ → Option ℕ
first_matched rows text = position (is_matched text) rows

-- a row has 1 to 64 bytes, and a mask as long
abbrev pub is_row : Row → Bool
is_row row = length row.mask.now == length row.bytes.now
    && (nat_le 1 (length row.bytes.now) && nat_le (length row.bytes.now) 64)

-- rows for a walk: at most 32
abbrev pub are_rows : List Row → Bool
are_rows rows = nat_le (length rows) 32 && list_all is_row rows

-- there is a row at the index, and it passes the test
abbrev pub is_at : (Row → Bool) → List Row → ℕ → Bool
is_at test [] i = false
is_at test (row ∷ rows) zero = test row
is_at test (row ∷ rows) (suc i) = is_at test rows i

-- the row has a byte at the place
abbrev pub has_place : ℕ → Row → Bool
has_place place row = nat_lt place (length row.bytes.now) && nat_lt place (length row.mask.now)

-- the byte fits the row at the place
abbrev pub fits_at : ℕ → ℕ → Row → Bool
fits_at place b row = bit_and b (slice_index row.mask.now place) == slice_index row.bytes.now place

-- it fits there, and the row ends after the place
abbrev pub ends_with : ℕ → ℕ → Row → Bool
ends_with place b row = fits_at place b row && place + 1 == length row.bytes.now

-- it fits there, and the row goes on after the place
abbrev pub goes_on_with : ℕ → ℕ → Row → Bool
goes_on_with place b row = fits_at place b row && not (place + 1 == length row.bytes.now)
