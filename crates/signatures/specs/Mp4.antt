-- The signature of MP4 (WHATWG MIME Sniffing 6.2.1): a box of type `ftyp` with a brand `mp4`.
use Rattle.std.specs.Prelude.{◌≡◌, ℕ, ◌<◌, ◌≤◌, ◌%◌, ◌⊎◌, Bool, ◌&&◌, ◌||◌, ◌==◌, nat_le, List, length, take, codes, IsTrue}
use Rattle.std.specs.Int.{w32, from_be_bytes}
use Rattle.signatures.specs.Patterns.{stands_at, some_below}

-- the size of the box: the window's first four bytes as a big-endian number
abbrev pub box_size : List ℕ → ℕ
box_size window = from_be_bytes w32 (take 4 window)

-- where the box has a brand: the major brand at 8, and the compatible ones from 16 on, four bytes
-- each. Between them stands the minor version.
abbrev pub IsBrandOffset : ℕ → ℕ → Type 0
IsBrandOffset size offset = (offset ≡ 8) ⊎ ((16 ≤ offset) × (offset % 4 ≡ 0) × (offset < size))

-- the window matches the signature
pub record IsMp4 (window : List ℕ) : Type 0 where
  pub long : 12 ≤ length window
  pub aligned : box_size window % 4 ≡ 0
  pub inside : box_size window ≤ length window
  pub box : IsTrue (stands_at (codes "ftyp") 4 window)
  pub offset : ℕ
  pub brand : IsBrandOffset (box_size window) offset
  pub mp4 : IsTrue (stands_at (codes "mp4") offset window)

-- a compatible brand may stand at the offset, and it is `mp4`
abbrev pub is_compatible_mp4 : List ℕ → ℕ → Bool
is_compatible_mp4 window offset =
    (nat_le 16 offset && offset % 4 == 0) && stands_at (codes "mp4") offset window

-- a compatible brand of a box of that size is `mp4`
abbrev pub has_compatible_mp4 : ℕ → List ℕ → Bool
has_compatible_mp4 size window = some_below size (is_compatible_mp4 window)

-- `IsMp4` as a test
unfoldable pub is_mp4_window : List ℕ → Bool
is_mp4_window window =
    nat_le 12 (length window)
    && (box_size window % 4 == 0
    && (nat_le (box_size window) (length window)
    && (stands_at (codes "ftyp") 4 window
    && (stands_at (codes "mp4") 8 window || has_compatible_mp4 (box_size window) window))))
