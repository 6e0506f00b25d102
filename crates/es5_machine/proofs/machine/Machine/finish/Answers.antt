use Rattle.std.proofs.Common.{◌∙◌, sym}
use Rattle.es5_machine.proofs.Verdicts.{finish_exact}
use Rattle.es5_machine.proofs.machine.Machine.finish.Goals as goal

pub returns : goal.returns
returns c m h =
    let e = finish_exact c.args.self.now m h in
    (λ t. e.0 (sym c.accepts.ensures ∙ t), λ p. c.accepts.ensures ∙ e.1 p)
