use Rattle.std.proofs.Common.{◌∙◌, sym, ap}
use Rattle.es5_machine.specs.Steps.{goal_of}
use Rattle.es5_machine.proofs.Verdicts.{goal_exact, division_exact}
use Rattle.es5_machine.proofs.machine.Machine.goal.Goals as goal

pub returns-clause-suits : goal.returns-clause-suits
returns-clause-suits c m tokens h p =
    goal_exact c.args.self.now m tokens c.goal_of.result (ap goal_of (sym c.control.ensures) ∙ sym c.goal_of.ensures) h p

pub returns-clause-division : goal.returns-clause-division
returns-clause-division c m newline h =
    division_exact c.args.self.now m newline c.goal_of.result (ap goal_of (sym c.control.ensures) ∙ sym c.goal_of.ensures) h
