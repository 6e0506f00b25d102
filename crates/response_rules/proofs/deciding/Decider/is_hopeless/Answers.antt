use Rattle.std.proofs.Common.{refl, sym, ◌∙◌}
use Rattle.response_rules.specs.Settled.{is_blocked, is_hopeless}
use Rattle.response_rules.proofs.HopelessLemmas.{hopeless-blocks}
use Rattle.response_rules.proofs.deciding.Decider.is_hopeless.Goals as goal

pub returns-clause-exact : goal.returns-clause-exact
unfolding is_hopeless is_blocked
returns-clause-exact c = λ h m r.
    rw (c.is_blocked.ensures, c.in_text.ensures h m r, c.is_dead.ensures.value, r.stands.settled, r.counted.over) refl

pub returns-clause-never : goal.returns-clause-never
returns-clause-never c = λ h m more r is.
    hopeless-blocks c.args.self.now h m more r (sym (returns-clause-exact c h m r) ∙ is)
