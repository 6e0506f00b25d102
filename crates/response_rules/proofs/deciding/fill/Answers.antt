use Rattle.std.proofs.Common.{◌++◌, ap, ◌∙◌}
use Rattle.response_rules.proofs.ReadLemmas.{filled, take_least}
use Rattle.response_rules.proofs.deciding.fill.Goals as goal

pub returns-clause-window : goal.returns-clause-window
returns-clause-window c =
    c.in-Ok.ensures.ok
    ∙ (ap (λ l. c.args.window.now.items ++ l) (c.split_at.ensures.front ∙ take_least _ _ c.args.piece.now c.min.ensures)
    ∙ filled c.args.window.now.items c.args.piece.now _ _ c.remaining_capacity-room.ensures)
