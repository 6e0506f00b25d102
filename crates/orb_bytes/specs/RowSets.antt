-- Sets of rows by their indices: a bit of a number each.
use Rattle.std.specs.Prelude.{◌≡◌, ℕ, ◌<◌, Bool, true, false, ◌==◌, List}
use Rattle.std.specs.Int.{bit_at}
use Rattle.orb_bytes.specs.declared.rows.Row.{Row}
use Rattle.orb_bytes.specs.declared.row_sets.RowSet.{RowSet}
use Rattle.orb_bytes.specs.Rows.{is_at, has_place}

-- the set has the index
abbrev pub has : RowSet → ℕ → Bool
has set i = bit_at set.bits i == 1

-- the set has no index
abbrev pub IsEmpty : RowSet → Type 0
IsEmpty set = (i : ℕ) → has set i ≡ false

-- the set has an index
abbrev pub HasSome : RowSet → Type 0
HasSome set = (i : ℕ) × (has set i ≡ true)

-- the index is the least that the set has
pub record IsFirst (set : RowSet) (index : ℕ) : Type 0 where
  pub within : index < 32
  pub there : has set index ≡ true
  pub before : (i : ℕ) → i < index → has set i ≡ false

-- each row of the set has a byte at the place
abbrev pub HavePlace : List Row → RowSet → ℕ → Type 0
HavePlace rows set place = (i : ℕ) → has set i ≡ true → is_at (has_place place) rows i ≡ true
