-- The entries of a table in the order of their ids, and the place of an id among them.
use Rattle.std.specs.Prelude.{◌≡◌, ℕ, ◌<◌, ◌≤◌, List, length, T, slice_index_or}
use Rattle.std.specs.Ordering.{nat_cmp}
use Rattle.std.specs.FinMap as map
use Rattle.media_state.specs.declared.states.MediaState.{MediaState}

abbrev pub Entries : Type 0
Entries = List (ℕ × MediaState)

-- each id is lower than those after it
abbrev pub AreInOrder : Entries → Type 0
AreInOrder entries = T (map.is_sorted nat_cmp entries)

-- the ids before the place are lower
abbrev pub AreLowerBefore : Entries → (id place : ℕ) → Type 0
AreLowerBefore entries id place =
    (k : ℕ) (d : ℕ × MediaState) → k < place → (slice_index_or entries k d).0 < id

-- the ids from the place on are higher
abbrev pub AreHigherFrom : Entries → (id place : ℕ) → Type 0
AreHigherFrom entries id place =
    (k : ℕ) (d : ℕ × MediaState) → place ≤ k → k < length entries → id < (slice_index_or entries k d).0

-- the id's entry stands at the place
pub record StandsAt (entries : Entries) (id place : ℕ) : Type 0 where
  pub within : place < length entries
  pub lower : AreLowerBefore entries id place
  pub here : (d : ℕ × MediaState) → (slice_index_or entries place d).0 ≡ id

-- no entry is the id's, and one would stand at the place
pub record HasGapAt (entries : Entries) (id place : ℕ) : Type 0 where
  pub within : place ≤ length entries
  pub lower : AreLowerBefore entries id place
  pub higher : AreHigherFrom entries id place
