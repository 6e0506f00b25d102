use Rattle.std.proofs.Common.{refl, sym, ◌∙◌}
use Rattle.std.proofs.lemmas.Bool.{ltb-true}
use Rattle.orb_bytes.proofs.RowLemmas.{open_first, none_first, none_just, first_place}
use Rattle.orb_bytes.proofs.RowSetLemmas.{zero-none}
use Rattle.orb_bytes.proofs.WalkLemmas.{rows_good}
use Rattle.orb_bytes.proofs.walks.Walk.new.Goals as goal

pub invariant_of-result-2 : goal.invariant_of-result-2
invariant_of-result-2 c = record {
  good = c.requires;
  in_rows = λ i is.
      first_place c.args.rows.now (rows_good c.args.rows.now c.requires).1 i
      (ltb-true i _ (sym (c.first_of.ensures i) ∙ is));
}

pub returns : goal.returns
returns c =
    let good = (rows_good c.args.rows.now c.requires).1 in
    record {
      over = refl;
      open_rows = λ i. c.first_of.ensures i ∙ sym (open_first c.args.rows.now good i);
      whole_rows = λ i. zero-none 0 refl i ∙ sym (none_first c.args.rows.now good i);
      just = sym (none_just c.args.rows.now good);
      place = λ i is. refl;
    }
