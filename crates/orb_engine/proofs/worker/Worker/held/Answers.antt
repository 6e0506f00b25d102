use Rattle.orb_engine.proofs.WorkLemmas.{feeds-most, feeds-none}
use Rattle.orb_engine.proofs.worker.Worker.held.Goals as goal

pub returns-in-Filters-clause-feeds : goal.returns-in-Filters-clause-feeds
returns-in-Filters-clause-feeds c = λ s x m p works. feeds-most s c.args.self.now _ x m p c.in-Filters.is works

pub returns-in-Explains-clause-feeds : goal.returns-in-Explains-clause-feeds
returns-in-Explains-clause-feeds c = λ s x m p works. feeds-none s c.args.self.now _ x m p c.in-Explains.is works
