use Rattle.std.proofs.Common.{refl, sym, ◌∙◌}
use Rattle.header_values.proofs.PartLemmas.{walk-start, walk-more, walk-cut, walk-end}
use Rattle.header_values.proofs.split.split_part.Goals as goal

pub loop-i-init : goal.loop-i-init
loop-i-init c = walk-start c.args.text.now

pub returns-then-cuts : goal.returns-then-cuts
returns-then-cuts c =
    walk-cut c.args.text.now c.loop-i.i _ c.loop-i.state c.loop-i-test.true refl (sym c.cuts.ensures ∙ c.if-cuts.true) c.loop-i.invariant

pub loop-i-preserved : goal.loop-i-preserved
loop-i-preserved c =
    rw c.after-state.ensures (walk-more c.args.text.now c.loop-i.i _ c.loop-i.state c.loop-i-test.true refl (sym c.cuts.ensures ∙ c.if-cuts.false) c.loop-i.invariant)

pub returns : goal.returns
returns c = walk-end c.args.text.now c.loop-i.i c.loop-i.state c.loop-i-test.false c.loop-i.invariant
