use Rattle.std.proofs.Common.{[]}
use Rattle.orb_io.proofs.GivesLemmas.{Gives-weaker}
use Rattle.orb_cli.proofs.TypeLemmas.{Ran-typed}
use Rattle.orb_cli.proofs.type_word.tell_type.Goals as goal

pub returns-in-Ok-clause-ran : goal.returns-in-Ok-clause-ran
returns-in-Ok-clause-ran g c =
    Gives-weaker _ _ [] _ _ (λ wrote ran.
    Ran-typed c.run.result (g.I.Source.left c.args.input.now) (g.I.Source.left c.run.new.input) c.from.result wrote
    c.from.ensures ran)
    c.run.ensures.ran
