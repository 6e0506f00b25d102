use Rattle.live_proxy.proofs.TargetLemmas.{target_of, no_target}
use Rattle.live_proxy.proofs.targets.with_port.Goals as goal

pub returns-in-Some : goal.returns-in-Some
returns-in-Some c = λ text spelled plain.
    target_of text c.args.uri c.in-Some.port spelled plain (rw c.in-Some.is at c.port_of.ensures)

pub returns-in-None : goal.returns-in-None
returns-in-None c = λ text spelled plain t is.
    no_target text c.args.uri spelled (rw c.in-None.is at c.port_of.ensures) t is
