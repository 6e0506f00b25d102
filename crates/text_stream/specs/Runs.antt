-- Runs of bytes at the beginning of a piece.
use Rattle.std.specs.Prelude.{ℕ, Bool, false, List, slice_index_or}

-- the byte is in the table
abbrev pub is_in : List Bool → ℕ → Bool
is_in table b = slice_index_or table b false
