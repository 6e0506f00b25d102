use Rattle.std.proofs.Common.{◌∙◌, sym}
use Rattle.es5_machine.proofs.Verdicts.{dead_exact, dead_hopeless}
use Rattle.es5_machine.proofs.machine.Machine.is_dead.Goals as goal

pub returns-clause-exact : goal.returns-clause-exact
returns-clause-exact c m h =
    let e = dead_exact c.args.self.now m h in
    (λ t. e.0 (sym c.control.ensures ∙ c.is_dead.ensures.0 t), λ none. c.is_dead.ensures.1 (c.control.ensures ∙ e.1 none))

pub returns-clause-hopeless : goal.returns-clause-hopeless
returns-clause-hopeless c t m w h p =
    dead_hopeless c.args.self.now m w h (sym c.control.ensures ∙ c.is_dead.ensures.0 t) p
