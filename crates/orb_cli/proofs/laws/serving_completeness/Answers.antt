use Rattle.orb_cli.proofs.ServingLemmas.{all_served}
use Rattle.orb_cli.proofs.laws.serving_completeness.Goals as goal

pub returns : goal.returns
returns c = all_served
