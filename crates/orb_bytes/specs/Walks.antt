-- Walks over rows: what one knows of the text that was fed.
use Rattle.std.specs.Prelude.{◌≡◌, ℕ, true, List, length}
use Rattle.std.specs.List.{list_any}
use Rattle.orb_bytes.specs.declared.rows.Row.{Row}
use Rattle.orb_bytes.specs.declared.walks.Walk.{Walk}
use Rattle.orb_bytes.specs.Rows.{is_at, is_open, is_matched, is_just_matched}
use Rattle.orb_bytes.specs.RowSets.{has}

-- the walk over these rows was fed the text
pub record HasRead (walk : Walk) (rows : List Row) (text : List ℕ) : Type 0 where
  pub over : walk.rows.now ≡ rows
  pub open_rows : (i : ℕ) → has walk.open_rows i ≡ is_at (is_open text) rows i
  pub whole_rows : (i : ℕ) → has walk.whole_rows i ≡ is_at (is_matched text) rows i
  pub just : walk.is_just_whole ≡ list_any (is_just_matched text) rows
  pub place : (i : ℕ) → has walk.open_rows i ≡ true → walk.place ≡ length text
