use Rattle.std.proofs.Common.{◌≡◌, ℕ, true, not, ◌&&◌}
use Rattle.orb_bytes.specs.Rows.{is_at, ends_with, goes_on_with}
use Rattle.orb_bytes.specs.RowSets.{has}
use Rattle.orb_bytes.proofs.walks.fitting_rows.Given as goal

abbrev pub invariant-rows : goal.invariant-rows
invariant-rows l = record {
  left : (i : ℕ) → has l.left i ≡ true → has l.fn.open_rows i ≡ true;
  going_on : (i : ℕ) → has l.going_on i ≡ (has l.fn.open_rows i && (not (has l.left i) && is_at (goes_on_with l.place l.b) l.rows i));
  ending : (i : ℕ) → has l.ending i ≡ (has l.fn.open_rows i && (not (has l.left i) && is_at (ends_with l.place l.b) l.rows i));
}

abbrev pub decreases-rows : goal.decreases-rows
decreases-rows l = l.left.bits
