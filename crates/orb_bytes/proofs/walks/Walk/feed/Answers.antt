use Rattle.std.proofs.Common.{◌++◌, ◌∷◌, [], sym, ◌∙◌, arith}
use Rattle.std.proofs.lemmas.Bool.{and_parts}
use Rattle.orb_bytes.specs.Rows.{is_at, goes_on_with, is_just_matched}
use Rattle.orb_bytes.specs.RowSets.{has}
use Rattle.orb_bytes.proofs.RowLemmas.{place_below, next_place}
use Rattle.orb_bytes.proofs.WalkLemmas.{rows_good, more_open, more_just, more_whole, more_place, some_row, closed_open, closed_whole, closed_just}
use Rattle.orb_bytes.proofs.walks.Walk.feed.Goals as goal

pub returns-then-is_empty : goal.returns-then-is_empty
returns-then-is_empty c = λ rows text h. record {
  over = h.over;
  open_rows = closed_open c.args.self.now rows text c.args.b h c.if-is_empty.ensures;
  whole_rows = closed_whole c.args.self.now rows text c.args.b h c.if-is_empty.ensures;
  just = closed_just c.args.self.now rows text c.args.b h c.if-is_empty.ensures;
  place = λ i is. absurd (cc (c.if-is_empty.ensures i));
}

pub overflow_add-self : goal.overflow_add-self
overflow_add-self c =
    let some = c.if-is_empty.ensures in
    let below = place_below c.args.self.now.place c.args.self.now.rows.now some.0 (rows_good c.args.self.now.rows.now c.args.self.now.good).1
    (c.args.self.now.in_rows some.0 some.1) in
    omega arith

pub invariant_of-self-2 : goal.invariant_of-self-2
invariant_of-self-2 c = record {
  good = c.args.self.now.good;
  in_rows = λ i is.
      let old = c.args.self.now in
      let parts = and_parts (has old.open_rows i) (is_at (goes_on_with old.place c.args.b) old.rows.now i) (sym (c.fitting_rows-fitting.ensures.going_on i) ∙ is) in
      next_place old.rows.now old.place c.args.b (rows_good old.rows.now old.good).1 i (old.in_rows i parts.0) parts.1;
}

pub returns : goal.returns
returns c = λ rows text h.
    let fitting = c.fitting_rows-fitting.result in
    let is = c.fitting_rows-fitting.ensures in
    record {
      over = h.over;
      open_rows = more_open c.args.self.now rows text c.args.b fitting.going_on h is.going_on;
      whole_rows = more_whole c.args.self.now rows text c.args.b fitting.ending c.with.result h is.ending c.with.ensures;
      just = some_row (is_just_matched (text ++ c.args.b ∷ [])) rows fitting.ending c.is_empty-2.result c.is_empty-2.ensures
          (more_just c.args.self.now rows text c.args.b fitting.ending h is.ending);
      place = more_place c.args.self.now rows text c.args.b fitting.going_on h is.going_on;
    }
