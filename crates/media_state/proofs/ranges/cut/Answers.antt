use Rattle.std.proofs.Common.{sym, ◌∙◌}
use Rattle.media_state.proofs.CutLemmas.{found_before, found_after, all_before, none_after}
use Rattle.media_state.proofs.ranges.cut.Goals as goal

pub returns-in-Some-clause-before : goal.returns-in-Some-clause-before
returns-in-Some-clause-before c =
    found_before c.args.stop c.args.text.now c.in-Some.place (sym c.place_of.ensures ∙ c.in-Some.is)

pub returns-in-Some-clause-after : goal.returns-in-Some-clause-after
returns-in-Some-clause-after c =
    found_after c.args.stop c.args.text.now c.in-Some.place (sym c.place_of.ensures ∙ c.in-Some.is)

pub returns-in-None-clause-before : goal.returns-in-None-clause-before
returns-in-None-clause-before c =
    all_before c.args.stop c.args.text.now (sym c.place_of.ensures ∙ c.in-None.is)

pub returns-in-None-clause-after : goal.returns-in-None-clause-after
returns-in-None-clause-after c =
    none_after c.args.stop c.args.text.now (sym c.place_of.ensures ∙ c.in-None.is)
