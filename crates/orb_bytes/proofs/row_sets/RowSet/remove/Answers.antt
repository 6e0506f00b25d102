use Rattle.orb_bytes.proofs.RowSetLemmas.{clear-eqb, cleared_is_less}
use Rattle.orb_bytes.proofs.row_sets.RowSet.remove.Goals as goal

pub returns-clause-others : goal.returns-clause-others
returns-clause-others c = clear-eqb c.args.self.now.bits c.args.index c.args.self.now.fits c.requires

pub returns-clause-less : goal.returns-clause-less
returns-clause-less c = cleared_is_less c.args.self.now.bits c.args.index c.args.self.now.fits c.requires
