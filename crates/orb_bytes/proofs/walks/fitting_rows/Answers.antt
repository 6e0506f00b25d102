use Rattle.std.proofs.Common.{[], not, ◌==◌, sym, ◌∙◌, arith}
use Rattle.std.proofs.lemmas.Bool.{and_parts}
use Rattle.orb_bytes.specs.declared.rows.Row.{Row}
use Rattle.orb_bytes.specs.Rows.{is_at, ends_with, goes_on_with}
use Rattle.orb_bytes.specs.RowSets.{has}
use Rattle.orb_bytes.proofs.WalkLemmas.{Adds, looked_at, place_within, not_added, added, tells_ends, tells_goes_on, tells_neither}
use Rattle.orb_bytes.proofs.walks.fitting_rows.Goals as goal
use Rattle.orb_bytes.proofs.walks.fitting_rows.Goals.{then-b-row+then-row-place, then-b-row+else-row-place, else-b-row}

-- what an index outside of the rows reads as
abbrev none : Row
none = record { bytes = record { ref_ptr = (0, 0); now = [] }; mask = record { ref_ptr = (0, 0); now = [] } }

pub bounds-rows-index : goal.bounds-rows-index
bounds-rows-index c =
    let k = c.in-Some.index in
    (place_within c.args.rows.now c.args.place k none (c.requires k (c.rows.invariant.left k c.in-Some.ensures.there))).0

pub bounds-row-place : goal.bounds-row-place
bounds-row-place c =
    let k = c.in-Some.index in
    (place_within c.args.rows.now c.args.place k none (c.requires k (c.rows.invariant.left k c.in-Some.ensures.there))).1.1

pub bounds-row-place-in-Some : goal.bounds-row-place-in-Some
bounds-row-place-in-Some c =
    let k = c.in-Some.index in
    (place_within c.args.rows.now c.args.place k none (c.requires k (c.rows.invariant.left k c.in-Some.ensures.there))).1.0

pub overflow_add-place : goal.overflow_add-place
overflow_add-place c =
    let k = c.in-Some.index in
    let within = place_within c.args.rows.now c.args.place k none (c.requires k (c.rows.invariant.left k c.in-Some.ensures.there)) in
    omega (arith, within.1.0)

-- what the byte says of the row at the index
abbrev Added : goal.After-remove → Type 0
Added c =
    Adds c.rows.going_on c.if-b-row.going_on c.in-Some.index (is_at (goes_on_with c.args.place c.args.b) c.args.rows.now c.in-Some.index)
    × Adds c.rows.ending c.if-b-row.ending c.in-Some.index (is_at (ends_with c.args.place c.args.b) c.args.rows.now c.in-Some.index)

added_row : (c : goal.After-remove) → Added c
added_row c =
    let rows = c.args.rows.now in
    let place = c.args.place in
    let k = c.in-Some.index in
    let within = (place_within rows place k none (c.requires k (c.rows.invariant.left k c.in-Some.ensures.there))).0 in
    elim c.if-b-row.branch [
      | then-b-row+then-row-place w ↦
          let tells = tells_ends rows place c.args.b k none within w.if-b-row.true (sym w.if-row-place.true) in
          (not_added c.rows.going_on c.if-b-row.going_on k _ tells.1 w.going_on-is, added c.rows.ending c.if-b-row.ending _ k _ tells.0 w.ending-is w.insert.ensures)
      | then-b-row+else-row-place w ↦
          let tells = tells_goes_on rows place c.args.b k none within w.if-b-row.true (λ is. w.if-row-place.false (sym is)) in
          (added c.rows.going_on c.if-b-row.going_on _ k _ tells.1 w.going_on-is w.insert-else-row-place.ensures, not_added c.rows.ending c.if-b-row.ending k _ tells.0 w.ending-is)
      | else-b-row w ↦
          let tells = tells_neither rows place c.args.b k none within w.if-b-row.false in
          (not_added c.rows.going_on c.if-b-row.going_on k _ tells.1 w.going_on-is, not_added c.rows.ending c.if-b-row.ending k _ tells.0 w.ending-is)
    ]

pub rows-preserved : goal.rows-preserved
rows-preserved c = record {
  left = λ i is. c.rows.invariant.left i (and_parts (not (i == c.in-Some.index)) (has c.rows.left i) (sym (c.remove.ensures.others i) ∙ is)).1;
  going_on =
      looked_at c.args.open_rows c.rows.left c.remove.new.self c.rows.going_on c.if-b-row.going_on
      (is_at (goes_on_with c.args.place c.args.b) c.args.rows.now) c.in-Some.index c.in-Some.ensures.there c.rows.invariant.left
      c.remove.ensures.others c.rows.invariant.going_on (added_row c).0;
  ending =
      looked_at c.args.open_rows c.rows.left c.remove.new.self c.rows.ending c.if-b-row.ending
      (is_at (ends_with c.args.place c.args.b) c.args.rows.now) c.in-Some.index c.in-Some.ensures.there c.rows.invariant.left
      c.remove.ensures.others c.rows.invariant.ending (added_row c).1;
}
