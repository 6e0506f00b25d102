use Rattle.media_state.proofs.TableLemmas.{get_kept, get_new}
use Rattle.media_state.proofs.table.MediaTable.look.Goals as goal

pub returns-in-Ok : goal.returns-in-Ok
returns-in-Ok c =
    rw c.index.ensures
    (get_kept _ c.self.invariant.2 _ c.self.view_is c.args.id _ _ (rw c.deref.ensures.value at c.in-Ok.ensures.found))

pub returns-in-Err : goal.returns-in-Err
returns-in-Err c =
    get_new _ c.self.invariant.2 _ c.self.view_is c.args.id _ (rw c.deref.ensures.value at c.in-Err.ensures.gap)
