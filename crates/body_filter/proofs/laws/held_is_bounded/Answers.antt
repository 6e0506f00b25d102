use Rattle.body_filter.proofs.FilterLemmas.{held-dropping}
use Rattle.body_filter.proofs.HeldLemmas.{held-window, held-limit}
use Rattle.body_filter.proofs.laws.held_is_bounded.Goals as goal

pub returns : goal.returns
returns c = record { window = held-window; limit = held-limit; hopeless = held-dropping }
