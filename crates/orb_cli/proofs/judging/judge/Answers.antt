use Rattle.std.proofs.Common.{[]}
use Rattle.orb_io.proofs.GivesLemmas.{Gives-weaker}
use Rattle.orb_engine.specs.Runs.{settings_of}
use Rattle.orb_cli.proofs.AnswerLemmas.{Ran-run}
use Rattle.orb_cli.proofs.judging.judge.Goals as goal

pub returns-in-Ok-clause-ran : goal.returns-in-Ok-clause-ran
returns-in-Ok-clause-ran g c =
    Gives-weaker _ _ [] _ _ (λ wrote ran.
    Ran-run c.run.result c.run.new.self (settings_of c.in-Ok.engine) c.args.settings
    (g.I.Source.left c.args.input.now) (g.I.Source.left c.run.new.input) c.from.result wrote
    c.in-Ok.ensures.settings c.from.ensures ran)
    c.run.ensures.ran
