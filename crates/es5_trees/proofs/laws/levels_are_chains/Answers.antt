use Rattle.es5_trees.proofs.ChainLemmas.{levels_chain, chain_levels}
use Rattle.es5_trees.proofs.laws.levels_are_chains.Goals as goal

pub returns : goal.returns
returns c with_in ending tokens rest = (levels_chain with_in ending tokens rest, chain_levels with_in ending tokens rest)
