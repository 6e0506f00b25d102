use Rattle.std.proofs.Common.{[]}
use Rattle.orb_io.proofs.GivesLemmas.{Delivers-on_ok}
use Rattle.body_filter.proofs.tests.begin.Goals as goal

pub returns-clause-can : goal.returns-clause-can
returns-clause-can c =
    Delivers-on_ok _ _ c.begin.result _ _ _ _ (c.begin.ensures.calls.tells c.requires.h c.requires.reads)
    (λ reads. record { x = _; m = []; reads = reads })
