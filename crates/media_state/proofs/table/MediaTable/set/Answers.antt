use Rattle.std.proofs.Common.{◌≡◌, true, false, sym, ◌∙◌}
use Rattle.media_state.proofs.TableLemmas.{is_new, written, written_order}
use Rattle.media_state.proofs.table.MediaTable.set.Goals as goal

pub invariant_of-self : goal.invariant_of-self
invariant_of-self c = (
  c.self.invariant.0,
  c.self.invariant.1,
  written_order _ c.self.invariant.2 _ c.self.view_is c.args.id _ c.args.state (rw c.deref.ensures.value at c.in-Ok.ensures.found),
)

pub unreachable-requires : goal.unreachable-requires
unreachable-requires c =
    let new = is_new _ c.self.invariant.2 _ c.self.view_is c.args.id _ (rw c.deref.ensures.value at c.in-Err.ensures.gap) in
    let lie : true ≡ false = sym c.requires ∙ new in
    absurd (cc)

pub returns : goal.returns
returns c =
    written _ c.self.invariant.2 _ c.self.view_is c.args.id _ c.args.state (rw c.deref.ensures.value at c.in-Ok.ensures.found)
