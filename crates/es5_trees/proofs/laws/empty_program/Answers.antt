use Rattle.es5_trees.proofs.Examples.{nothing}
use Rattle.es5_trees.proofs.laws.empty_program.Goals as goal

pub returns : goal.returns
returns c = nothing
